-- The lines of a block's vectors, one after the other: each can be written, and all of them are the listing's.
use Rattle.std.proofs.Common.{ℕ, suc, ◌+◌, ◌*◌, ◌^◌, ◌<◌, ◌≤◌, ◌≡◌, refl, sym, ◌∙◌, ap, subst, List, [], ◌∷◌, ◌++◌, ℤ, length, length-append, add-one, arith}
use native.Mathlib.Nat.{suc-mul}
use Rattle.model.specs.Metric.{Row, all_priors}
use Rattle.model.specs.Block.{Block, Answer, vector_of, total_count, Every, RowsInRange, VectorInRange, InRange, most_bits, most_vectors, winning_distance}
use Rattle.model.proofs.Bounds.{total_small}
use Rattle.model.proofs.Parts.{distance_small}
use Rattle.owners.specs.Owners.{shared_answers}
use Rattle.owners.proofs.Owners.{answers_many}
use Rattle.owners.proofs.Demand.{shared_demand3}
use Rattle.block.specs.declared.Layout.{Layout}
use Rattle.block.specs.Reading.{share_place, count_at}
use Rattle.block.specs.Contents.{block_of}
use Rattle.block.proofs.Places.{vectors_count}
use Rattle.wire.specs.Writer.{Writes}
use Rattle.wire.proofs.Runs.{writes_none, writes_then}
use Rattle.replies.proofs.Replies.{OfVector, of_vectors, soft_count, bits_are}
use Rattle.detector.specs.Handed.{handed_from, all_handed, Ready, Taken}
use Rattle.lines.specs.Text.{line_end, total_word, field, head_line, lines_from, total_line, block_text, most_line}
use Rattle.wire.specs.declared.buffer.Writer.{Writer}
use Rattle.listing.specs.Steps.{CanList, Lists, VectorsListed}
use Rattle.listing.specs.declared.Listed.{Listed}

-- A vector in range has as many priors as its label bits
priors_many : (q : ℕ) (rows : List Row) → RowsInRange q rows → length (all_priors rows) ≡ length rows * q
unfolding all_priors
priors_many q [] h = omega arith
priors_many q (r ∷ rows) h = omega (arith, h.0.bits, priors_many q rows h.1, length-append r.priors (all_priors rows), suc-mul (length rows) q)

module _ (b : Block) (ranged : InRange b) where
  soft_few : (a : Answer) → OfVector b a → length a.result.soft ≤ most_bits
  soft_few a o =
      subst (λ (x : Answer). length x.result.soft ≤ most_bits) o.is
      (omega (arith, soft_count (vector_of b o.rows) b.weak o.allowed, bits_are b o.vector, ranged.label))

  -- A vector's line is written where there is room for any
  can_list : (s : Listed) (k : ℕ) (rows : List Row) (a : Answer) → k < most_vectors → VectorInRange b.streams b.width rows → OfVector b a
      → s.total + a.count < 2 ^ 32 → s.text.now.at + most_line ≤ length s.text.now.buffer.now
      → CanList s (record { place = k; answer = a; distance = winning_distance (vector_of b rows) a; priors = all_priors rows })
  can_list s k rows a inside v o sum room = record {
    inside = inside;
    few = omega (arith, priors_many b.width rows v.ranged, ap (λ (m : ℕ). m * b.width) v.streams, ranged.label);
    values_few = soft_few a o;
    digits = distance_small b ranged rows v.ranged (omega (arith, v.streams)) _;
    sum = sum;
    buffer = room;
  }

  -- So they can all be written, one after the other
  ready : (k : ℕ) (vs : List (List Row)) (found : List Answer) → Every (VectorInRange b.streams b.width) vs → Every (OfVector b) found
      → k + length vs ≤ most_vectors → (s : Listed) → s.total + total_count found < 2 ^ 32
      → s.text.now.at + length vs * most_line ≤ length s.text.now.buffer.now → Ready CanList Lists s (handed_from b k vs found)
  unfolding handed_from Ready total_count
  ready k [] found vectors answers few s sum room = tt
  ready k (rows ∷ later) [] vectors answers few s sum room = tt
  ready k (rows ∷ later) (a ∷ found) vectors answers few s sum room = (
    can_list s k rows a (omega arith) vectors.0 answers.0 (omega arith) (omega arith),
    λ t h. ready (suc k) later found vectors.1 answers.1 (omega arith) t (omega (arith, h.total_is)) (omega (arith, h.room, h.line.size)),
  )

  pub all_ready : (s : Listed) → s.total ≡ 0 → s.text.now.at + most_vectors * most_line ≤ length s.text.now.buffer.now → Ready CanList Lists s (all_handed b)
  all_ready s none room =
      ready 0 b.vectors (shared_answers b) ranged.each (of_vectors b ranged) (omega (arith, ranged.vectors)) s
      (omega (arith, (shared_demand3 b ranged).sum, total_small b ranged)) (omega (arith, ranged.vectors))

-- Lines of vectors with these answers were written, and their nodes counted
pub record Written (b : Block) (number : ℕ) (vs : List (List Row)) (found : List Answer) (s u : Listed) : Type 0 where
  pub same_text : u.text.ghost_name ≡ s.text.ghost_name
  pub lines : Writes s.text.now (lines_from b number vs found) u.text.now
  pub room : u.text.now.at ≤ s.text.now.at + length vs * most_line
  pub total_is : u.total ≡ s.total + total_count found

taken : (b : Block) (k : ℕ) (vs : List (List Row)) (found : List Answer) → length found ≡ length vs → (s u : Listed)
    → Taken Lists s (handed_from b k vs found) u → Written b (suc k) vs found s u
unfolding handed_from Taken lines_from total_count
taken b k [] [] e s u h = subst (Written b (suc k) [] [] s) (sym h) (record { same_text = refl; lines = writes_none; room = omega arith; total_is = omega arith })
taken b k [] (a ∷ found) e s u h = absurd (omega arith)
taken b k (rows ∷ later) [] e s u h = absurd (omega arith)
taken b k (rows ∷ later) (a ∷ found) e s u h =
    let l = h.1.0 in
    let w = taken b (suc k) later found (omega arith) h.0 u h.1.1 in
    record {
      same_text = w.same_text ∙ l.same_text;
      lines = writes_then (rw add-one at l.line) w.lines;
      room = omega (arith, l.room, w.room);
      total_is = omega (arith, l.total_is, w.total_is);
    }

pub all_taken : (b : Block) → InRange b → (s u : Listed) → Taken Lists s (all_handed b) u → Written b 1 b.vectors (shared_answers b) s u
all_taken b ranged s u h = taken b 0 b.vectors (shared_answers b) (answers_many b ranged.owned) s u h

pub all_listed : (b : Block) → InRange b → {s u : Listed} {after : Writer} → s.total ≡ 0 → Written b 1 b.vectors (shared_answers b) s u → after ≡ u.text.now
    → VectorsListed b s.text.now after u.total
all_listed b ranged {s} {u} none w e =
    subst (λ (t : Writer). VectorsListed b s.text.now t u.total) (sym e)
    (record { lines = w.lines; room = omega (arith, w.room, ranged.vectors); total_is = omega (arith, w.total_is) })

-- The parts of a block's listing, of what was counted
pub block_parts : (o : Layout) (list : List ℤ) {m q n clip share total : ℕ} → m ≡ count_at 0 list → q ≡ count_at 1 list → n ≡ count_at 2 list
    → clip ≡ count_at 3 list → share ≡ count_at (share_place o) list → total ≡ total_count (shared_answers (block_of o list))
    → let b = block_of o list in
    head_line m q n clip share ++ lines_from b 1 b.vectors (shared_answers b) ++ (field total_word total ++ line_end) ≡ block_text b
unfolding block_text total_line block_of
block_parts o list em eq en ec es et = rw (em, eq, en ∙ sym (vectors_count o list), ec, es, et)
