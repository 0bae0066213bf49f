-- The checks of a list, one number after the other: how each turn goes on, and each way that they end.
use Prim.Native.Nat.{ℕ, ◌+◌, ◌*◌, ◌≤◌, ◌<◌}
use mathlib.Core.Path.{◌≡◌, refl, ◌∙◌, ap}
use mathlib.Core.Bool.{true, false}
use mathlib.Core.List.{List, [], ◌∷◌, ◌++◌}
use native.Mathlib.Numerals.{add-one}
use native.Mathlib.Omega.{arith}
use borrow.Author.Count.{below_more}
use lib.ListN.{length, get_or, drop, length-append, drop_of_length-le}
use lib.Seq.{drop-cons}
use lib.IntN.{ℤ, pos}
use Rattle.wire.specs.Writing.{bytes_of}
use Rattle.wire.proofs.Writing.{bytes_of-most}
use Rattle.refusals.specs.Table.{allowed, refusal_of}
use Rattle.block.specs.Reading.{opening}
use Rattle.block.specs.Conditions.{called_for}
use Rattle.block.specs.declared.Layout.{Layout}
use Rattle.refusals.specs.declared.Kind.TheVariants.{StreamCount}
use Rattle.std.specs.Prelude.{Ok, Err}
use Rattle.refusals.specs.declared.Refusal.TheVariants.{Ends, Trailing}
use Rattle.block.proofs.Openings.{four}
use Rattle.records.specs.Writing.{Verdict, fine, turned, checked, plain_of, bytes_for, record_of}
use Rattle.records.specs.Steps.{kind_at, FirstAllowed, as_read}

-- The numbers from the i-th on, against the kinds from the i-th on
abbrev pub checked_from : Layout → List ℤ → ℕ → Verdict
checked_from o numbers i = checked (drop i (called_for o numbers)) (drop i numbers)

abbrev pub bytes_from : Layout → List ℤ → ℕ → List ℕ
bytes_from o numbers i = bytes_for (drop i (called_for o numbers)) (drop i numbers)

module _ (o : Layout) (numbers : List ℤ) (i : ℕ) where
  -- A number that is called for, and is there
  module _ (called : i < length (called_for o numbers)) (inside : i < length numbers) where
    here : drop i (called_for o numbers) ≡ kind_at o numbers i ∷ drop (i + 1) (called_for o numbers)
    here = rw (add-one, drop-cons (called_for o numbers) i StreamCount called)

    number : drop i numbers ≡ get_or numbers i (pos 0) ∷ drop (i + 1) numbers
    number = rw (add-one, drop-cons numbers i (pos 0) inside)

    pub bytes_more : bytes_from o numbers i ≡ bytes_of (plain_of (kind_at o numbers i) (get_or numbers i (pos 0))) ++ bytes_from o numbers (i + 1)
    unfolding bytes_for
    bytes_more = rw (here, number)

    pub checked_more : allowed (kind_at o numbers i) (get_or numbers i (pos 0)) ≡ true → checked_from o numbers i ≡ checked_from o numbers (i + 1)
    unfolding checked
    checked_more e = rw (here, number, e)

    pub checked_turned : allowed (kind_at o numbers i) (get_or numbers i (pos 0)) ≡ false
        → checked_from o numbers i ≡ turned (refusal_of (kind_at o numbers i) (get_or numbers i (pos 0)))
    unfolding checked
    checked_turned e = rw (here, number, e)

  -- Nothing is left of the list, or of what it calls for, or of both
  pub checked_short : i < length (called_for o numbers) → length numbers ≤ i → checked_from o numbers i ≡ turned Ends
  unfolding checked
  checked_short called h =
      rw (drop-cons (called_for o numbers) i StreamCount called, drop_of_length-le numbers {i = i} h)

  pub checked_long : length (called_for o numbers) ≤ i → i < length numbers → checked_from o numbers i ≡ turned Trailing
  unfolding checked
  checked_long h inside = rw (drop_of_length-le (called_for o numbers) {i = i} h, drop-cons numbers i (pos 0) inside)

  pub checked_fine : length (called_for o numbers) ≤ i → length numbers ≤ i → checked_from o numbers i ≡ fine
  unfolding checked
  checked_fine h l = rw (drop_of_length-le (called_for o numbers) {i = i} h, drop_of_length-le numbers {i = i} l)

  pub bytes_none : length (called_for o numbers) ≤ i → bytes_from o numbers i ≡ []
  unfolding bytes_for
  bytes_none h = rw (drop_of_length-le (called_for o numbers) {i = i} h)

-- The length of a record
pub record_length : (o : Layout) (numbers : List ℤ) → length (record_of o numbers) ≡ 4 + length (bytes_from o numbers 0)
unfolding record_of
record_length o numbers = omega (arith, length-append (opening o) (bytes_from o numbers 0), four o)

-- After the first i numbers, all in their ranges: what is left decides, and the bytes of those before it are counted
pub record Checking (o : Layout) (numbers : List ℤ) (i size : ℕ) : Type 0 where
  pub inside : i ≤ length numbers
  pub before : FirstAllowed o numbers i
  pub left : checked (called_for o numbers) numbers ≡ checked_from o numbers i
  pub counted : length (record_of o numbers) ≡ size + length (bytes_from o numbers i)
  pub small : size ≤ 4 + 4 * i

pub checking_start : (o : Layout) (numbers : List ℤ) → Checking o numbers 0 4
checking_start o numbers =
    record { inside = omega arith; before = λ j h. absurd (omega arith); left = refl; counted = record_length o numbers; small = omega arith }

-- What the check gives at each of its ends
module _ (o : Layout) (numbers : List ℤ) (i size : ℕ) (c : Checking o numbers i size) where
  pub ends_short : i < length (called_for o numbers) → length numbers ≤ i
      → Err Ends ≡ as_read (length (record_of o numbers)) (checked (called_for o numbers) numbers)
  ends_short h l = rw (c.left, checked_short o numbers i h l)

  pub ends_turned : i < length (called_for o numbers) → i < length numbers → allowed (kind_at o numbers i) (get_or numbers i (pos 0)) ≡ false
      → Err (refusal_of (kind_at o numbers i) (get_or numbers i (pos 0)))
      ≡ as_read (length (record_of o numbers)) (checked (called_for o numbers) numbers)
  ends_turned h l e = rw (c.left, checked_turned o numbers i h l e)

  pub ends_long : length (called_for o numbers) ≤ i → i < length numbers
      → Err Trailing ≡ as_read (length (record_of o numbers)) (checked (called_for o numbers) numbers)
  ends_long h l = rw (c.left, checked_long o numbers i h l)

  pub ends_fine : length (called_for o numbers) ≤ i → length numbers ≤ i
      → Ok size ≡ as_read (length (record_of o numbers)) (checked (called_for o numbers) numbers)
  ends_fine h l =
      let e : length (record_of o numbers) ≡ size = omega (arith, c.counted, ap length (bytes_none o numbers i h)) in
      rw (c.left, checked_fine o numbers i h l, e)

  -- and one turn
  pub checking_more : i < length (called_for o numbers) → i < length numbers → allowed (kind_at o numbers i) (get_or numbers i (pos 0)) ≡ true
      → (more : ℕ) → more ≡ length (bytes_of (plain_of (kind_at o numbers i) (get_or numbers i (pos 0)))) → Checking o numbers (i + 1) (size + more)
  checking_more h l e more is =
      let bytes = bytes_of (plain_of (kind_at o numbers i) (get_or numbers i (pos 0))) in
      record {
        inside = omega arith;
        before = below_more (λ j. allowed (kind_at o numbers j) (get_or numbers j (pos 0)) ≡ true) i c.before e;
        left = c.left ∙ checked_more o numbers i h l e;
        counted =
            omega (arith, c.counted, ap length (bytes_more o numbers i h l), length-append bytes (bytes_from o numbers (i + 1)));
        small = omega (arith, c.small, bytes_of-most (plain_of (kind_at o numbers i) (get_or numbers i (pos 0))));
      }
