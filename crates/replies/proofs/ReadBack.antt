-- A reply read back says the block's M, Q and N and its answers, to the reply's end.
use Prim.Native.Nat.{ℕ, ◌+◌, ◌*◌}
use mathlib.Core.Path.{◌≡◌, refl, sym, ◌∙◌, ap, ap₂}
use mathlib.Core.Bool.{Bool, true, false}
use mathlib.Core.List.{List, [], ◌∷◌, ◌++◌, map, append_assoc, append-nil}
use native.Mathlib.Nat.{suc-mul}
use native.Mathlib.Omega.{arith}
use lib.Dec.{eqb}
use lib.IntN.{ℤ}
use lib.ListN.{length, drop, length-append, length-map}
use lib.Seq.{drop-drop, drop-append_seam, take_at, drop_at}
use Rattle.model.specs.Block.{Block, vector_of, Answer, Every, InRange}
use Rattle.owners.specs.Owners.{shared_answers}
use Rattle.owners.proofs.Owners.{answers_many}
use Rattle.wire.specs.Writing.{bytes_of}
use Rattle.wire.specs.Folding.{folded, unfolded}
use Rattle.wire.proofs.RoundTrip.{unfolded_folded, read_at}
use Rattle.replies.specs.Reply.{reply_opening, mark_of, answer_numbers, answers_numbers, reply_numbers, written, reply_of}
use Rattle.replies.specs.ReadBack.{Plain, plain_at, answer_from, answers_in, read_sizes, read_back, saying}
use Rattle.replies.proofs.Replies.{Short, written_append, soft_count, bits_are, OfVector, of_vectors, reply_short}

-- Numbers that are written at a place are read there
plain_read : (ns : List ℕ) → Every Short ns → (l : List ℕ) (at : ℕ) (rest : List ℕ) → drop at l ≡ written ns ++ rest
    → plain_at (length ns) l at ≡ record { numbers = ns; after = at + length (written ns) }
unfolding plain_at written
plain_read [] h l at rest e = let same : at + 0 ≡ at = omega arith in rw same
plain_read (n ∷ ns) h l at rest e =
    let more = written ns in
    let splits : drop at l ≡ bytes_of n ++ (more ++ rest) = e ∙ append_assoc (bytes_of n) more rest in
    let next = at + length (bytes_of n) in
    let further : drop next l ≡ more ++ rest =
    sym (drop-drop (length (bytes_of n)) at l) ∙ ap (drop (length (bytes_of n))) splits ∙ drop-append_seam (bytes_of n) (more ++ rest) in
    rw (read_at l at (more ++ rest) n h.0 splits, plain_read ns h.1 l next rest further)
    (ap (λ (end : ℕ). record { numbers = n ∷ ns; after = end }) (omega (arith, length-append (bytes_of n) more)))

-- The answer that the numbers of an answer say is that answer
unfold_all : (zs : List ℤ) → map unfolded (map folded zs) ≡ zs
unfold_all [] = refl
unfold_all (z ∷ zs) = ap₂ ◌∷◌ (unfolded_folded z) (unfold_all zs)

mark_told : (stopped : Bool) → eqb (mark_of stopped) 1 ≡ stopped
mark_told true = refl
mark_told false = refl

pub answer_told : (a : Answer) → answer_from (answer_numbers a) ≡ a
unfolding answer_from
answer_told a = λ j. record {
  stopped = mark_told a.stopped j;
  count = a.count;
  result = record { label = a.result.label; soft = unfold_all a.result.soft j };
}

-- Answers of so many bits each
module _ (bits : ℕ) where
  abbrev Bits : Answer → Type 0
  Bits a = length a.result.soft ≡ bits

  answer_size : (a : Answer) → Bits a → length (answer_numbers a) ≡ 3 + bits
  answer_size a h = omega (arith, length-map a.result.soft folded)

  answers_told : (found : List Answer) → Every Bits found → answers_in bits (length found) (answers_numbers found) ≡ found
  unfolding answers_in answers_numbers
  answers_told [] h = refl
  answers_told (a ∷ rest) h =
      let size = answer_size a h.0 in
      rw (take_at (answer_numbers a) (answers_numbers rest) (3 + bits) size, drop_at (answer_numbers a) (answers_numbers rest) (3 + bits) size)
      (ap₂ ◌∷◌ (answer_told a) (answers_told rest h.1))

  answers_size : (found : List Answer) → Every Bits found → length (answers_numbers found) ≡ length found * (3 + bits)
  unfolding answers_numbers
  answers_size [] h = omega arith
  answers_size (a ∷ rest) h =
      omega (
        arith,
        length-append (answer_numbers a) (answers_numbers rest),
        answer_size a h.0,
        answers_size rest h.1,
        suc-mul (length rest) (3 + bits),
      )

module _ (b : Block) where
  -- The answers of vectors in range have a soft value for each bit
  answers_bits : (found : List Answer) → Every (OfVector b) found → Every (Bits (b.streams * b.width)) found
  answers_bits [] h = tt
  answers_bits (a ∷ rest) h =
      let v = h.0 in
      (ap (λ (x : Answer). length x.result.soft) (sym v.is) ∙ soft_count (vector_of b v.rows) b.weak v.allowed ∙ bits_are b v.vector, answers_bits rest h.1)

  -- What the reply of a block in range says
  pub read_back_lem : InRange b → read_back (reply_of b) ≡ saying b (shared_answers b) (length (reply_of b))
  unfolding read_back reply_of
  read_back_lem ranged =
      let found = shared_answers b in
      let bits = b.streams * b.width in
      let each = answers_bits found (of_vectors b ranged) in
      let many = answers_many b ranged.owned in
      let short = reply_short b ranged in
      let sizes = b.streams ∷ b.width ∷ length b.vectors ∷ [] in
      let whole = written (reply_numbers b) in
      let begins : drop 4 (reply_opening ++ whole) ≡ whole = drop-append_seam reply_opening whole in
      let first = plain_read sizes (short.0, (short.1.0, (short.1.1.0, tt))) (reply_of b) 4 (written (answers_numbers found))
      (begins ∙ written_append sizes (answers_numbers found)) in
      let count : length (reply_numbers b) ≡ 3 + length b.vectors * (3 + bits) =
      omega (arith, answers_size bits found each, ap (λ (n : ℕ). n * (3 + bits)) many) in
      let all : plain_at (3 + length b.vectors * (3 + bits)) (reply_of b) 4
      ≡ record { numbers = reply_numbers b; after = length (reply_of b) } =
      ap (λ (n : ℕ). plain_at n (reply_of b) 4) (sym count)
      ∙ plain_read (reply_numbers b) short (reply_of b) 4 [] (begins ∙ sym (append-nil whole))
      ∙ ap (λ (n : ℕ). record { numbers = reply_numbers b; after = n }) (sym (length-append reply_opening whole)) in
      ap (λ (p : Plain). read_sizes (reply_of b) p.numbers) first
      ∙ ap (λ (p : Plain). saying b (answers_in bits (length b.vectors) (drop 3 p.numbers)) p.after) all
      ∙ ap (λ (l : List Answer). saying b l (length (reply_of b)))
      (ap (λ (n : ℕ). answers_in bits n (answers_numbers found)) (sym many) ∙ answers_told bits found each)
