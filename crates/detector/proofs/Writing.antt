-- A reply's answers written one after the other: each has room, and all of them are what the reply says.
use Rattle.std.proofs.Common.{ℕ, zero, suc, ◌+◌, ◌*◌, ◌<◌, ◌≤◌, ◌≡◌, sym, ap, subst, List, [], ◌∷◌, ◌++◌, map, ℤ, pos, length, get_or, arith}
use native.Mathlib.Nat.{suc-mul, mul_assoc}
use Rattle.model.specs.Metric.{Row}
use Rattle.model.specs.Block.{Block, vector_of, Answer, Every, InRange}
use Rattle.owners.specs.Owners.{shared_answers}
use Rattle.owners.proofs.Owners.{answers_many}
use Rattle.wire.specs.Folding.{folded}
use Rattle.wire.specs.Writer.{Writes}
use Rattle.wire.specs.declared.buffer.Writer.{Writer}
use Rattle.wire.proofs.Runs.{writes_none, writes_then, writes_same}
use Rattle.block.specs.Contents.{block_of}
use Rattle.replies.specs.Reply.{reply_opening, answer_numbers, answers_numbers, written, reply_of}
use Rattle.replies.proofs.Replies.{Short, OfVector, of_vectors, soft_count, bits_are, count_short, label_short, soft_short, answer_room, written_append}
use Rattle.detector.specs.Steps.{Heads, CanWrite}
use Rattle.detector.specs.declared.Header.{Header}
use Rattle.detector.proofs.Held.{streams_are, width_are, vectors_are}
use Rattle.detector.specs.Handed.{Handed, handed_from, all_handed, Ready, Taken}

-- What every member of a mapped list has, by its place
every_at : (f : ℤ → ℕ) (zs : List ℤ) (i : ℕ) → Every Short (map f zs) → i < length zs → Short (f (get_or zs i (pos 0)))
every_at f [] i h k = absurd (omega arith)
every_at f (z ∷ zs) zero h k = h.0
every_at f (z ∷ zs) (suc i) h k = every_at f zs i h.1 (omega arith)

-- How a reply takes what is handed on
abbrev pub can : Writer → Handed → Type 0
can w x = CanWrite w x.answer

abbrev pub puts : Writer → Handed → Writer → Type 0
puts w x v = Writes w (written (answer_numbers x.answer)) v

module _ (b : Block) (ranged : InRange b) where
  -- The bytes of an answer at most
  abbrev each : ℕ
  each = 9 + 4 * b.streams * b.width

  -- An answer is written where there is room for any
  can_write : (w : Writer) (a : Answer) → OfVector b a → w.at + each ≤ length w.buffer.now → CanWrite w a
  can_write w a v room = subst (CanWrite w) v.is (record {
    counts = count_short ranged v.vector v.allowed;
    labels = label_short ranged v.vector v.allowed;
    softs = λ i h. every_at folded _ i (soft_short ranged v.vector v.allowed) h;
    buffer = omega (arith, soft_count (vector_of b v.rows) b.weak v.allowed, bits_are b v.vector, mul_assoc 4 b.streams b.width);
  })

  answer_most : (a : Answer) → OfVector b a → length (written (answer_numbers a)) ≤ each
  answer_most a v = subst (λ (x : Answer). length (written (answer_numbers x)) ≤ each) v.is (answer_room ranged v.vector v.allowed)

  -- So they can all be written, one after the other
  ready : (k : ℕ) (vs : List (List Row)) (found : List Answer) → Every (OfVector b) found → (w : Writer)
      → w.at + length found * each ≤ length w.buffer.now → Ready can puts w (handed_from b k vs found)
  unfolding handed_from Ready
  ready k [] found every w room = tt
  ready k (rows ∷ later) [] every w room = tt
  ready k (rows ∷ later) (a ∷ found) every w room = (
    can_write w a every.0 (omega (arith, suc-mul (length found) each)),
    λ t h. ready (suc k) later found every.1 t (omega (arith, h.size, h.wrote.ends, answer_most a every.0, suc-mul (length found) each)),
  )

  pub all_ready : (w : Writer) → w.at + length b.vectors * each ≤ length w.buffer.now → Ready can puts w (all_handed b)
  all_ready w room =
      ready 0 b.vectors (shared_answers b) (of_vectors b ranged) w (omega (arith, ap (λ (n : ℕ). n * each) (answers_many b ranged.owned)))

-- Answers that were taken one after the other are written
taken : (b : Block) (k : ℕ) (vs : List (List Row)) (found : List Answer) → length found ≡ length vs → (w u : Writer)
    → Taken puts w (handed_from b k vs found) u → Writes w (written (answers_numbers found)) u
unfolding handed_from Taken answers_numbers written
taken b k [] [] e w u h = subst (λ (x : Writer). Writes w [] x) (sym h) writes_none
taken b k [] (a ∷ found) e w u h = absurd (omega arith)
taken b k (rows ∷ later) [] e w u h = absurd (omega arith)
taken b k (rows ∷ later) (a ∷ found) e w u h =
    writes_same (sym (written_append (answer_numbers a) (answers_numbers found)))
    (writes_then h.1.0 (taken b (suc k) later found (omega arith) h.0 u h.1.1))

pub all_taken : (b : Block) → InRange b → (w u : Writer) → Taken puts w (all_handed b) u → Writes w (written (answers_numbers (shared_answers b))) u
all_taken b ranged w u h = taken b 0 b.vectors (shared_answers b) (answers_many b ranged.owned) w u h

module _ {h : Header} {list : List ℤ} (headed : Heads h list) where
  -- A reply is its head and the answers of all vectors
  pub reply_is : reply_of (block_of h.layout list)
      ≡ reply_opening ++ written (h.streams ∷ h.width ∷ h.vectors ∷ []) ++ written (answers_numbers (shared_answers (block_of h.layout list)))
  unfolding reply_of
  reply_is =
      let b = block_of h.layout list in
      let joined = written_append (b.streams ∷ b.width ∷ length b.vectors ∷ []) (answers_numbers (shared_answers b)) in
      rw (streams_are headed, width_are headed, vectors_are headed) (ap (λ (l : List ℕ). reply_opening ++ l) joined)
