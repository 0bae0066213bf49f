-- What the bytes of an accepted record and its reply say of one owner's vectors: they are answered as a list of their own, whatever the other
-- vectors hold; and with one owner for all as document 01 has it.
use Prim.Native.Nat.{ℕ, ◌<◌}
use mathlib.Core.Path.{◌≡◌, refl, sym, ◌∙◌, ap, subst}
use mathlib.Core.Logic.{◌↔◌}
use mathlib.Core.List.{List, [], ◌∷◌, ◌++◌}
use native.Mathlib.Omega.{arith}
use lib.ListN.{length, get_or}
use lib.IntN.{ℤ, pos, nat_abs}
use Rattle.model.specs.Block.{Block, Answer, answers, Every, InRange}
use Rattle.model.specs.Demand.{Demand3}
use Rattle.model.proofs.Lists.{every-up_from}
use Rattle.model.proofs.Bounds.{shaped}
use Rattle.model.proofs.Demand.{demand3 as answers-meet}
use Rattle.owners.specs.Owners.{of_owner, alone, shared_answers, AgreeFor as BlocksAgree}
use Rattle.owners.proofs.Owners.{own_answers}
use Rattle.owners.proofs.Demand.{shared_unique, one_owner}
use Rattle.owners.proofs.Isolation.{isolated_at}
use Rattle.block.specs.Reading.{own_count, weak_place, share_place, header_size, count_at, layout_of, read_whole}
use Rattle.block.specs.Contents.{rows_of, owner_at, vector_numbers, block_of}
use Rattle.block.specs.declared.Layout.{Layout}
use Rattle.block.proofs.Conditions.{read_whole_lem}
use Rattle.block.proofs.Places.{vectors_count, owner_told, owner_at_lem, vector_at_lem}
use Rattle.refusals.specs.Filling.{filled}
use Rattle.replies.specs.Reply.{reply_opening, answers_numbers, written, reply_of}
use Rattle.replies.specs.ReadBack.{Said, read_back}
use Rattle.detector.specs.Outcome.{outcome}
use Rattle.detector.specs.Demand.{Accepted, AgreeFor, no_answer, nth_answer}
use Rattle.detector.proofs.Demands.{room_filled, whole_outcome, demand3}

-- The block that an accepted record says
abbrev pub block_said : List ℕ → Block
block_said bytes = block_of (layout_of bytes) (read_whole bytes).numbers

-- Where the layout has no owners, all vectors have owner 1
owner_one : (x : Layout) (zs : List ℤ) → own_count x ≡ 0 → Every (λ (p : ℕ). p ≡ 1) (block_of x zs).owners
unfolding block_of
owner_one x zs none =
    every-up_from (λ (p : ℕ). p ≡ 1) (owner_at x zs) 0 (count_at 2 zs)
    (λ k h. owner_told x zs k (λ (n : ℕ). n ≡ 1) (λ e. refl) (λ some. absurd (omega (arith, none))))

module _ {bytes reply : List ℕ} (a : Accepted bytes reply) where
  block_said_lem : block_of a.whole.layout a.whole.numbers ≡ block_said bytes
  unfolding read_whole
  block_said_lem = let is = read_whole_lem bytes a.whole in λ j. block_of (sym is.2 j) (sym is.1 j)

  -- It has an owner for each vector
  owned : length (block_said bytes).owners ≡ length (block_said bytes).vectors
  owned = (subst InRange block_said_lem a.ranged).owned

  -- The answers that the reply says are the block's
  answers_said : (read_back reply).answers ≡ shared_answers (block_said bytes)
  answers_said =
      ap (λ (s : Said). s.answers) a.reads
      ∙ shared_unique _ a.found a.ranged a.demand3
      ∙ ap shared_answers block_said_lem

  -- The central law: an owner's answers, in record order, are those of the block that holds its vectors alone
  pub owner_alone : (o : ℕ) → of_owner o (block_said bytes).owners (read_back reply).answers ≡ answers (alone (block_said bytes) o)
  owner_alone o = ap (of_owner o (block_said bytes).owners) answers_said ∙ own_answers (block_said bytes) o

  -- One owner for all, as an older record has it: demand 3 is that of the whole list of vectors
  pub one_list : own_count (layout_of bytes) ≡ 0 → Demand3 (block_said bytes) (read_back reply).answers
  one_list none =
      let b = block_said bytes in
      let ranged = subst InRange block_said_lem a.ranged in
      subst (Demand3 b) (sym (answers_said ∙ one_owner b 1 (owner_one (layout_of bytes) (read_whole bytes).numbers none) ranged.owned))
      (answers-meet b (shaped b ranged))

-- and the reply's bytes are document 01's: written from the answers of that one list
pub older_reply : (bytes : List ℕ) (room : ℕ) (reply : List ℕ) → outcome bytes room ≡ filled reply → own_count (layout_of bytes) ≡ 0
    → let b = block_said bytes in reply ≡ reply_opening ++ written (b.streams ∷ b.width ∷ length b.vectors ∷ answers_numbers (answers b))
unfolding reply_of
older_reply bytes room reply e none =
    let b = block_said bytes in
    let a = (demand3 bytes room reply e).0 in
    (room_filled room _ reply (sym (whole_outcome bytes room a.whole) ∙ e)).0
    ∙ ap reply_of (block_said_lem a)
    ∙ ap (λ (found : List Answer). reply_opening ++ written (b.streams ∷ b.width ∷ length b.vectors ∷ answers_numbers found))
    (one_owner b 1 (owner_one (layout_of bytes) (read_whole bytes).numbers none) (owned a))

-- Records that agree for an owner are blocks that do
module _ (o : ℕ) (zs ws : List ℤ) where
  abbrev Alike : Layout → Layout → Type 0
  Alike x y =
      ((k : ℕ) → k < count_at 2 zs → (owner_at x zs k ≡ o) ↔ (owner_at y ws k ≡ o))
      → ((k : ℕ) → k < count_at 2 zs → owner_at x zs k ≡ o → vector_numbers x zs k ≡ vector_numbers y ws k) → BlocksAgree o (block_of x zs) (block_of y ws)

  alike : (x : Layout) → ((i : ℕ) → i < header_size x → get_or zs i (pos 0) ≡ get_or ws i (pos 0)) → Alike x x
  unfolding block_of
  alike x header positions contents =
      let count : (i : ℕ) → i < header_size x → count_at i zs ≡ count_at i ws = λ i h. ap nat_abs (header i h) in
      let few : (k : ℕ) → k < length (block_of x zs).vectors → k < count_at 2 zs = λ k h. omega (arith, vectors_count x zs) in
      let same : (k : ℕ) → k < count_at 2 zs → k < count_at 2 ws = λ k h. omega (arith, count 2 (omega arith)) in
      record {
        streams = count 0 (omega arith);
        width = count 1 (omega arith);
        clip = count 3 (omega arith);
        weak = count (weak_place x) (omega arith);
        share = count (share_place x) (omega arith);
        vectors = vectors_count x zs ∙ count 2 (omega arith) ∙ sym (vectors_count x ws);
        positions = λ k h.
            let l = few k h in
            let here = owner_at_lem x zs k l in
            let there = owner_at_lem x ws k (same k l) in
            (λ e. there ∙ (positions k l).0 (sym here ∙ e), λ e. here ∙ (positions k l).1 (sym there ∙ e));
        contents = λ k h e.
            let l = few k h in
            let rows = contents k l (sym (owner_at_lem x zs k l) ∙ e) in
            vector_at_lem x zs k [] l
            ∙ (λ j. rows_of (count 0 (omega arith) j) (count 1 (omega arith) j) (rows j)) ∙ sym (vector_at_lem x ws k [] (same k l));
      }

blocks_agree : (o : ℕ) (bytes others : List ℕ) → AgreeFor o bytes others → BlocksAgree o (block_said bytes) (block_said others)
blocks_agree o bytes others g =
    subst (Alike o (read_whole bytes).numbers (read_whole others).numbers (layout_of bytes)) g.opening
    (alike o (read_whole bytes).numbers (read_whole others).numbers (layout_of bytes) g.header) g.positions g.contents

-- Isolation: "that owner's answers and counts agree, however the others differ", vector by vector, as the two replies' bytes say them
pub isolation : (o : ℕ) (bytes others reply reply' : List ℕ) → Accepted bytes reply → Accepted others reply' → AgreeFor o bytes others → (k : ℕ)
    → k < count_at 2 (read_whole bytes).numbers → owner_at (layout_of bytes) (read_whole bytes).numbers k ≡ o
    → nth_answer (read_back reply).answers k ≡ nth_answer (read_back reply').answers k
isolation o bytes others reply reply' a a' g k h e =
    ap (λ (found : List Answer). nth_answer found k) (answers_said a)
    ∙ isolated_at o (block_said bytes) (block_said others) (owned a) (owned a') (blocks_agree o bytes others g) k no_answer
    (omega (arith, vectors_count (layout_of bytes) (read_whole bytes).numbers)) (owner_at_lem (layout_of bytes) (read_whole bytes).numbers k h ∙ e)
    ∙ ap (λ (found : List Answer). nth_answer found k) (sym (answers_said a'))
