-- A list that passed its check is written number by number.
use Prim.Native.Nat.{ℕ, ◌+◌, ◌≤◌, ◌<◌}
use mathlib.Core.Path.{◌≡◌, refl, ◌∙◌, ap}
use mathlib.Core.Bool.{Bool, true, false, cond}
use mathlib.Core.List.{List, [], ◌∷◌}
use native.Mathlib.Omega.{arith}
use lib.ListN.{length, get_or, length-append}
use lib.IntN.{ℤ, pos}
use Rattle.wire.specs.Writing.{bytes_of}
use Rattle.wire.specs.declared.buffer.Writer.{Writer}
use Rattle.wire.proofs.Runs.{Left}
use Rattle.refusals.specs.Table.{allowed, refusal_of}
use Rattle.block.specs.Reading.{Read}
use Rattle.block.specs.Conditions.{called_for}
use Rattle.block.specs.declared.Layout.{Layout}
use Rattle.refusals.specs.declared.Kind.{Kind}
use Rattle.refusals.specs.Filling.{refused, filled}
use Rattle.std.specs.Prelude.{Ok, Err}
use Rattle.refusals.specs.declared.Refusal.{Refusal}
use Rattle.refusals.specs.declared.Refusal.TheVariants.{Buffer}
use Rattle.refusals.proofs.Fillings.{fitted_short, fitted_enough}
use Rattle.block.proofs.Parts.{AllAllowed}
use Rattle.records.specs.Writing.{Verdict, fine, turned, checked, plain_of, record_of, writing_in}
use Rattle.records.specs.Steps.{kind_at, as_read}
use Rattle.records.proofs.Checking.{bytes_from, bytes_more}

-- A verdict is one or the other
pub not_turned : {r : _} → turned r ≡ fine → ⊥
not_turned e = let z : ◌≡◌ {A = ℕ} 0 1 = cc in omega arith

-- A list that passed: each number is in its range, and there are as many as are called for
pub fine_allowed : (ks : List Kind) (zs : List ℤ) → checked ks zs ≡ fine → AllAllowed ks zs
unfolding checked
fine_allowed [] [] e = tt
fine_allowed [] (z ∷ zs) e = absurd (not_turned e)
fine_allowed (k ∷ ks) [] e = absurd (not_turned e)
fine_allowed (k ∷ ks) (z ∷ zs) e = go (allowed k z) refl e (fine_allowed ks zs)
  where
    go : (b : Bool) → allowed k z ≡ b → cond b (checked ks zs) (turned (refusal_of k z)) ≡ fine → (checked ks zs ≡ fine → AllAllowed ks zs)
        → AllAllowed (k ∷ ks) (z ∷ zs)
    go true a f ih = (a, ih f)
    go false a f ih = absurd (not_turned f)

-- and the other way
pub allowed_fine : (ks : List Kind) (zs : List ℤ) → AllAllowed ks zs → checked ks zs ≡ fine
unfolding checked
allowed_fine [] [] a = refl
allowed_fine [] (z ∷ zs) a = absurd a
allowed_fine (k ∷ ks) [] a = absurd a
allowed_fine (k ∷ ks) (z ∷ zs) a = rw a.0 (allowed_fine ks zs a.1)

-- The next of the numbers that are left has room
pub number_room : (o : Layout) (numbers : List ℤ) (i : ℕ) → i < length (called_for o numbers) → i < length numbers → {w v : Writer}
    → Left w (bytes_from o numbers 0) v (bytes_from o numbers i) → w.at + length (bytes_from o numbers 0) ≤ length w.buffer.now
    → v.at + length (bytes_of (plain_of (kind_at o numbers i) (get_or numbers i (pos 0)))) ≤ length v.buffer.now
number_room o numbers i called inside left room =
    let bytes = bytes_of (plain_of (kind_at o numbers i) (get_or numbers i (pos 0))) in
    omega (
      arith,
      left.ends,
      left.size,
      ap length (bytes_more o numbers i called inside),
      length-append bytes (bytes_from o numbers (i + 1)),
    )

-- A list that passed, with its record's length
pub record Fine (o : Layout) (numbers : List ℤ) (size : ℕ) : Type 0 where
  pub fine_is : checked (called_for o numbers) numbers ≡ fine
  pub size_is : size ≡ length (record_of o numbers)

-- What the check's answer says of a list
module _ (o : Layout) (numbers : List ℤ) where
  abbrev answer : Read
  answer = as_read (length (record_of o numbers)) (checked (called_for o numbers) numbers)

  pub check_fine : (size : ℕ) → answer ≡ Ok size → Fine o numbers size
  check_fine size e = go (checked (called_for o numbers) numbers) refl e
    where
      go : (v : Verdict) → checked (called_for o numbers) numbers ≡ v → as_read (length (record_of o numbers)) v ≡ Ok size → Fine o numbers size
      go fine f g = record { fine_is = f; size_is = cc }
      go (turned r) f g = let z : ◌≡◌ {A = ℕ} 0 1 = cc in absurd (omega arith)

  check_turned : (r : Refusal) → answer ≡ Err r → checked (called_for o numbers) numbers ≡ turned r
  check_turned r e = go (checked (called_for o numbers) numbers) refl e
    where
      go : (v : Verdict) → checked (called_for o numbers) numbers ≡ v → as_read (length (record_of o numbers)) v ≡ Err r
          → checked (called_for o numbers) numbers ≡ turned r
      go fine f g = let z : ◌≡◌ {A = ℕ} 0 1 = cc in absurd (omega arith)
      go (turned s) f g = let same : s ≡ r = cc in f ∙ ap turned same

  -- and what writing it comes to
  module _ (room : ℕ) where
    pub write_short : (size : ℕ) → Fine o numbers size → room < size → writing_in o numbers room ≡ refused Buffer
    unfolding writing_in
    write_short size p h = rw p.fine_is (fitted_short room (record_of o numbers) (omega (arith, p.size_is)))

    pub write_enough : (size : ℕ) → Fine o numbers size → size ≤ room → writing_in o numbers room ≡ filled (record_of o numbers)
    unfolding writing_in
    write_enough size p h = rw p.fine_is (fitted_enough room (record_of o numbers) (omega (arith, p.size_is)))

    pub write_refused : (r : Refusal) → answer ≡ Err r → writing_in o numbers room ≡ refused r
    unfolding writing_in
    write_refused r e = rw (check_turned r e)
