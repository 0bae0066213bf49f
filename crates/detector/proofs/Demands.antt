-- The user's demands, of every record and every buffer: a call refuses exactly under the table's conditions, and the bytes of a reply say
-- answers that meet demands 2 and 3, the third of each owner's vectors. The theorem to read is `demands`.
use Prim.Native.Nat.{ℕ, zero, suc, ◌+◌, ◌≤◌, ◌<◌}
use mathlib.Core.Path.{◌≡◌, refl, sym, ◌∙◌, ap, ap₂}
use mathlib.Core.Bool.{Bool, true, false, cond}
use mathlib.Core.Logic.{◌↔◌, ◌⊎◌, inl, inr}
use mathlib.Core.List.{List, [], ◌∷◌}
use native.Mathlib.Omega.{arith}
use borrow.Author.Tests.{ltb-true, ltb-false}
use lib.Dec.{ltb}
use lib.ListN.{length, get_or, take, drop}
use lib.IntN.{ℤ, pos, negsuc, neg_ℤ}
use Rattle.model.specs.Metric.{Row}
use Rattle.model.specs.Block.{Block, vector_of, Answer, InRange}
use Rattle.model.specs.Demand.{Demand2, ResultsFrom}
use Rattle.owners.specs.Owners.{of_owner, alone, shared_answers, SharedDemand3}
use Rattle.owners.proofs.Demand.{shared_demand3}
use Rattle.owners.proofs.Isolation.{rank, own_at, own_inside}
use Rattle.block.specs.Reading.{layout_of, read_record, read_whole, Read}
use Rattle.block.specs.Contents.{block_of}
use Rattle.block.specs.Conditions.{Whole}
use Rattle.block.specs.declared.Layout.{Layout}
use Rattle.refusals.specs.declared.Refusal.{Refusal}
use Rattle.refusals.specs.declared.Refusal.TheVariants.{Opening, Ends, Malformed, Streams, Width, Vectors, Clip, Share, Diagonal, Entry, Received, Prior, Trailing, Buffer, Crowded, Weak, Owner}
use Rattle.std.specs.Prelude.{Ok, Err}
use Rattle.refusals.proofs.Fillings.{not_both}
use Rattle.block.proofs.Conditions.{turned_back, whole_read, read_whole_lem, whole_in_range}
use Rattle.replies.specs.Reply.{reply_of, reply_room}
use Rattle.refusals.specs.Filling.{Filling, refused, filled, returned, buffer_after}
use Rattle.refusals.specs.Table.{refusal_number}
use Rattle.detector.specs.Outcome.{by_room, by_reading, outcome}
use Rattle.detector.specs.Demand.{Condition, Accepted, no_answer, nth_answer, EachComplete, Met}
use Rattle.detector.proofs.Outcomes.{room_short}
use Rattle.replies.proofs.Replies.{reply_room_lem}
use Rattle.replies.proofs.ReadBack.{read_back_lem}

module _ (room : ℕ) (b : Block) where
  -- A block's refusal is the buffer's, which is too short
  room_refused : (r : Refusal) → by_room room b ≡ refused r → (r ≡ Buffer) × (room < reply_room b)
  unfolding by_room
  room_refused r e = go (ltb room (reply_room b)) refl e
    where
      go : (t : Bool) → ltb room (reply_room b) ≡ t → cond t (refused Buffer) (filled (reply_of b)) ≡ refused r
          → (r ≡ Buffer) × (room < reply_room b)
      go true f g = (cc, ltb-true room (reply_room b) f)
      go false f g = absurd (not_both g refl)

  -- A block's reply is its own, and there is the room that is asked for
  pub room_filled : (reply : List ℕ) → by_room room b ≡ filled reply → (reply ≡ reply_of b) × (reply_room b ≤ room)
  unfolding by_room
  room_filled reply e = go (ltb room (reply_room b)) refl e
    where
      go : (t : Bool) → ltb room (reply_room b) ≡ t → cond t (refused Buffer) (filled (reply_of b)) ≡ filled reply
          → (reply ≡ reply_of b) × (reply_room b ≤ room)
      go true f g = absurd (not_both refl g)
      go false f g = (cc, ltb-false room (reply_room b) f)

module _ (bytes : List ℕ) (room : ℕ) where
  -- A record that is turned back is refused
  turned_outcome : (r : Refusal) → (read_whole bytes).read ≡ Err r → outcome bytes room ≡ refused r
  unfolding outcome
  turned_outcome r e = ap (by_reading room (layout_of bytes) (read_whole bytes).numbers) e

  -- Of a whole record the buffer decides
  pub whole_outcome : (w : Whole bytes (length bytes)) → outcome bytes room ≡ by_room room (block_of w.layout w.numbers)
  unfolding outcome read_whole
  whole_outcome w =
      let is = read_whole_lem bytes w in
      ap (by_reading room (layout_of bytes) (read_record bytes).numbers) is.0
      ∙ ap₂ (λ (layout : Layout) (numbers : List ℤ). by_room room (block_of layout numbers)) is.2 is.1

  -- Every record is one or the other
  one_of_two : ((r : Refusal) × ((read_whole bytes).read ≡ Err r)) ⊎ Whole bytes (length bytes)
  one_of_two = go (read_whole bytes).read refl
    where
      go : (r : Read) → (read_whole bytes).read ≡ r → ((r : Refusal) × ((read_whole bytes).read ≡ Err r)) ⊎ Whole bytes (length bytes)
      go (Ok at) e = inr (whole_read bytes at e).0
      go (Err r) e = inl (r, e)

-- Demand 1: a call refuses, by a refusal's number, exactly where the table's condition for it holds
pub demand1 : (bytes : List ℕ) (room : ℕ) (r : Refusal) → (outcome bytes room ≡ refused r) ↔ Condition bytes room r
demand1 bytes room r = (λ e. holds e (one_of_two bytes room), refuses)
  where
    holds : outcome bytes room ≡ refused r → ((s : Refusal) × ((read_whole bytes).read ≡ Err s)) ⊎ Whole bytes (length bytes)
        → Condition bytes room r
    holds e (inl t) =
        let f = turned_outcome bytes room t.0 t.1 in
        let same : t.0 ≡ r = cc in
        inl ((turned_back bytes r).0 (t.1 ∙ ap Err same))
    holds e (inr w) =
        let t = room_refused room (block_of w.layout w.numbers) r (sym (whole_outcome bytes room w) ∙ e) in
        inr (t.0, record { whole = w; short = t.1 })

    refuses : Condition bytes room r → outcome bytes room ≡ refused r
    refuses (inl t) = turned_outcome bytes room r ((turned_back bytes r).1 t)
    refuses (inr t) =
        let w = t.1.whole in
        whole_outcome bytes room w ∙ room_short room (block_of w.layout w.numbers) t.1.short ∙ ap refused (sym t.0)

-- It replies exactly where no condition holds
pub demand1_accepted : (bytes : List ℕ) (room : ℕ)
    → ((reply : List ℕ) × (outcome bytes room ≡ filled reply)) ↔ ((r : Refusal) → Condition bytes room r → ⊥)
demand1_accepted bytes room = (λ t r c. not_both ((demand1 bytes room r).1 c) t.1, λ none. go (outcome bytes room) refl none)
  where
    go : (o : Filling ℕ) → outcome bytes room ≡ o → ((r : Refusal) → Condition bytes room r → ⊥)
        → (reply : List ℕ) × (outcome bytes room ≡ filled reply)
    go (refused r) e none = absurd (none r ((demand1 bytes room r).0 e))
    go (filled reply) e none = (reply, e)

-- Demand 2 of vector k, if its answer is complete
results_exact : (b : Block) (spent : ℕ) (vs : List (List Row)) (found : List Answer) → ResultsFrom b spent vs found → (k : ℕ)
    → k < length vs → (nth_answer found k).stopped ≡ false → Demand2 (vector_of b (get_or vs k [])) (nth_answer found k).result
results_exact b spent [] found r k h e = absurd (omega arith)
results_exact b spent (rows ∷ later) [] r k h e = absurd r
results_exact b spent (rows ∷ later) (a ∷ rest) r zero h e = r.0.1.exact e
results_exact b spent (rows ∷ later) (a ∷ rest) r (suc k) h e =
    results_exact b (spent + a.count) later rest r.1 k (omega arith) e

-- Demand 2, of each vector that is marked complete, follows from demand 3 of its owner's list, in which it stands at its rank
pub demand2 : (b : Block) (found : List Answer) → InRange b → SharedDemand3 b found → EachComplete b found
demand2 b found ranged d = record { many = d.many; exact = exact }
  where
    exact : (k : ℕ) → k < length b.vectors → (nth_answer found k).stopped ≡ false
        → Demand2 (vector_of b (get_or b.vectors k [])) (nth_answer found k).result
    exact k h e =
        let os = b.owners in
        let o = get_or os k 0 in
        let answer_is = own_at o os found k no_answer (ranged.owned ∙ sym d.many) (omega (arith, d.many)) refl in
        let rows_are = own_at o os b.vectors k [] ranged.owned h refl in
        let inside = own_inside o os b.vectors k ranged.owned h refl in
        let complete = ap (λ (a : Answer). a.stopped) answer_is ∙ e in
        rw (answer_is, rows_are) at
        (results_exact (alone b o) 0 (of_owner o os b.vectors) (of_owner o os found) (d.each o).each (rank o os k) inside complete)

-- Demand 3: a reply, which there is room for, says the answers to a whole record's block in range, and these meet demand 3, owner by owner
pub demand3 : (bytes : List ℕ) (room : ℕ) (reply : List ℕ) → outcome bytes room ≡ filled reply
    → Accepted bytes reply × (length reply ≤ room)
demand3 bytes room reply e = go (one_of_two bytes room)
  where
    go : ((r : Refusal) × ((read_whole bytes).read ≡ Err r)) ⊎ Whole bytes (length bytes) → Accepted bytes reply × (length reply ≤ room)
    go (inl t) = absurd (not_both (turned_outcome bytes room t.0 t.1) e)
    go (inr w) =
        let b = block_of w.layout w.numbers in
        let ranged = whole_in_range bytes (length bytes) w in
        let filled_by = room_filled room b reply (sym (whole_outcome bytes room w) ∙ e) in
        let meets = shared_demand3 b ranged in (
          record {
            whole = w;
            ranged = ranged;
            found = shared_answers b;
            reads = rw filled_by.0 (read_back_lem b ranged);
            demand3 = meets;
            demand2 = demand2 b (shared_answers b) ranged meets;
          },
          omega (arith, ap length filled_by.0, reply_room_lem b ranged, filled_by.1),
        )

-- The refusals in the order of their numbers
refusals : List Refusal
refusals =
    Opening ∷ Ends ∷ Malformed ∷ Streams ∷ Width ∷ Vectors ∷ Clip ∷ Share ∷ Diagonal ∷ Entry ∷ Received ∷ Prior ∷ Trailing ∷ Buffer ∷ Crowded
    ∷ Weak ∷ Owner ∷ []

-- The refusal that a returned number tells, if it does
abbrev told_by : ℤ → List Refusal
told_by (pos n) = []
told_by (negsuc n) = take 1 (drop n refusals)

told : (r : Refusal) → told_by (neg_ℤ (pos (refusal_number r))) ≡ r ∷ []
unfolding refusals
told Opening = refl
told Ends = refl
told Malformed = refl
told Streams = refl
told Width = refl
told Vectors = refl
told Clip = refl
told Share = refl
told Diagonal = refl
told Entry = refl
told Received = refl
told Prior = refl
told Trailing = refl
told Buffer = refl
told Crowded = refl
told Weak = refl
told Owner = refl

-- Different refusals have different numbers, so that the returned number tells which it is
pub number_tells : (r s : Refusal) → neg_ℤ (pos (refusal_number r)) ≡ neg_ℤ (pos (refusal_number s)) → r ≡ s
number_tells r s e = let same = sym (told r) ∙ ap told_by e ∙ told s in cc

-- The returned number is minus a row's number exactly where the row's condition holds
pub demand1_number : (bytes : List ℕ) (room : ℕ) (r : Refusal)
    → (returned (outcome bytes room) ≡ neg_ℤ (pos (refusal_number r))) ↔ Condition bytes room r
demand1_number bytes room r = (λ e. (demand1 bytes room r).0 (go (outcome bytes room) e), λ c. ap returned ((demand1 bytes room r).1 c))
  where
    go : (o : Filling ℕ) → returned o ≡ neg_ℤ (pos (refusal_number r)) → o ≡ refused r
    go (refused s) e = ap refused (number_tells s r e)
    go (filled reply) e = absurd (omega (arith, ap length (ap told_by e ∙ told r)))

-- ONE THEOREM: whatever the record and the buffer, what the contract of the call promises of the returned number and of the
-- buffer afterwards meets the user's demands
pub demands : (bytes buffer : List ℕ) (number : ℤ) (after : List ℕ) → number ≡ returned (outcome bytes (length buffer))
    → after ≡ buffer_after (outcome bytes (length buffer)) buffer → Met bytes buffer number after
demands bytes buffer number after n a = go (outcome bytes (length buffer)) refl n a
  where
    go : (o : Filling ℕ) → outcome bytes (length buffer) ≡ o → number ≡ returned o → after ≡ buffer_after o buffer → Met bytes buffer number after
    go (refused r) e n a =
        inl (record {
          refusal = r;
          number_is = n;
          tells = λ s f. number_tells s r (sym f ∙ n);
          condition = (demand1 bytes (length buffer) r).0 e;
          alone = λ s c. let other = (demand1 bytes (length buffer) s).1 c in cc;
          untouched = a;
        })
    go (filled reply) e n a =
        let met = demand3 bytes (length buffer) reply e in
        inr (record {
          none = λ r c. not_both ((demand1 bytes (length buffer) r).1 c) e;
          reply = reply;
          number_is = n;
          fits = met.1;
          stands = a;
          accepted = met.0;
        })
