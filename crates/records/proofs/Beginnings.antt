-- For which number a list is refused, and what becomes of its beginnings: each that has the number is refused as the whole list is, and each
-- that ends before it passes all its checks, up to 2 at its end or none. So the number can be found by calls on beginnings.
use Prim.Native.Nat.{ℕ, zero, suc, ◌≤◌, ◌<◌}
use mathlib.Core.Path.{◌≡◌, refl, sym, ◌∙◌, ap, ap₂}
use mathlib.Core.Bool.{Bool, true, false, cond}
use mathlib.Core.Logic.{◌⊎◌, inl, inr, ⊎_elim}
use mathlib.Core.List.{List, [], ◌∷◌}
use native.Mathlib.Numerals.{add-one}
use native.Mathlib.Omega.{arith}
use borrow.Author.Tests.{ltb-true, ltb-false}
use lib.Dec.{ltb}
use lib.ListN.{length, get_or, take}
use lib.Seq.{length-take-le, get_or-take}
use lib.IntN.{ℤ, pos}
use Rattle.refusals.specs.Table.{allowed, refusal_of}
use Rattle.block.specs.Reading.{stages}
use Rattle.block.specs.Conditions.{called_for}
use Rattle.refusals.specs.declared.Kind.{Kind}
use Rattle.refusals.specs.declared.Kind.TheVariants.{StreamCount}
use Rattle.block.specs.declared.Layout.{Layout}
use Rattle.refusals.specs.declared.Refusal.{Refusal}
use Rattle.refusals.specs.declared.Refusal.TheVariants.{Ends, Trailing}
use Rattle.block.proofs.Stages.{SameAt, beginning_calls}
use Rattle.records.specs.Writing.{fine, turned, checked}
use Rattle.records.specs.Steps.{kind_at, FirstAllowed}
use Rattle.records.proofs.Checking.{checked_from, checked_more, checked_turned, checked_short, checked_long, checked_fine}

-- The number at i is called for and out of its range
abbrev pub OutOfRangeAt : Layout → List ℤ → ℕ → Refusal → Type 0
OutOfRangeAt o numbers i r =
    (i < length (called_for o numbers)) × (allowed (kind_at o numbers i) (get_or numbers i (pos 0)) ≡ false)
    × (r ≡ refusal_of (kind_at o numbers i) (get_or numbers i (pos 0)))

-- or is one too many
abbrev pub TooManyAt : Layout → List ℤ → ℕ → Refusal → Type 0
TooManyAt o numbers i r = (i ≡ length (called_for o numbers)) × (r ≡ Trailing)

-- and those before it are in their ranges
pub record RefusedFor (o : Layout) (numbers : List ℤ) (i : ℕ) (r : Refusal) : Type 0 where
  pub inside : i < length numbers
  pub before : FirstAllowed o numbers i
  pub why : OutOfRangeAt o numbers i r ⊎ TooManyAt o numbers i r

-- Where the first i numbers are in their ranges, the others decide
until : (o : Layout) (l : List ℤ) (i : ℕ) → FirstAllowed o l i → i ≤ length l → i ≤ length (called_for o l)
    → checked (called_for o l) l ≡ checked_from o l i
until o l zero first h c = refl
until o l (suc i) first h c =
    until o l i (λ j k. first j (omega arith)) (omega arith) (omega arith) ∙ checked_more o l i (omega arith) (omega arith) (first i (omega arith))
    ∙ ap (checked_from o l) (add-one i)

-- The first k numbers of a list
module _ (o : Layout) (numbers : List ℤ) (k : ℕ) (most : k ≤ length numbers) where
  abbrev begin : List ℤ
  begin = take k numbers

  many : length begin ≡ k
  many = length-take-le k numbers most

  number_same : (j : ℕ) → j < k → get_or begin j (pos 0) ≡ get_or numbers j (pos 0)
  number_same j h = get_or-take k numbers j (pos 0) h

  -- They call for the same numbers, up to the one behind the last
  same : (j : ℕ) → j ≤ k → SameAt (called_for o begin) (called_for o numbers) StreamCount j
  same j h = beginning_calls (stages o) 0 k numbers StreamCount j most (omega arith)

  -- so where as many numbers as the list calls for are not more than k, they call for no more
  none_more : length (called_for o numbers) ≤ k → length (called_for o begin) ≤ length (called_for o numbers)
  none_more h = go (ltb (length (called_for o numbers)) (length (called_for o begin))) refl
    where
      go : (b : Bool) → ltb (length (called_for o numbers)) (length (called_for o begin)) ≡ b
          → length (called_for o begin) ≤ length (called_for o numbers)
      go true e =
          let less = (same (length (called_for o numbers)) h).less (ltb-true (length (called_for o numbers)) (length (called_for o begin)) e) in
          absurd (omega arith)
      go false e = ltb-false (length (called_for o numbers)) (length (called_for o begin)) e

  -- and none less
  none_less : (i : ℕ) → i ≤ k → i ≤ length (called_for o numbers) → i ≤ length (called_for o begin)
  none_less zero h c = omega arith
  none_less (suc i) h c = omega (arith, (same i (omega arith)).more (omega arith))

  -- Where the first i numbers are in their ranges, the others decide of them too
  begin_until : (i : ℕ) → FirstAllowed o numbers i → i ≤ k → i ≤ length (called_for o numbers) → checked (called_for o begin) begin ≡ checked_from o begin i
  begin_until i first h c =
      until o begin i (λ j l. ap₂ allowed (same j (omega arith)).kind (number_same j (omega arith)) ∙ first j l) (omega (arith, many))
      (none_less i h c)

-- A list that is refused for number i
module _ (o : Layout) (numbers : List ℤ) (i : ℕ) (r : Refusal) (f : RefusedFor o numbers i r) where
  -- So is each beginning that has it
  pub beginning_same : (k : ℕ) → i < k → k ≤ length numbers → checked (called_for o (take k numbers)) (take k numbers) ≡ turned r
  beginning_same k h most = ⊎_elim ranged trailing f.why
    where
      size : length (take k numbers) ≡ k
      size = many o numbers k most

      at : SameAt (called_for o (take k numbers)) (called_for o numbers) StreamCount i
      at = same o numbers k most i (omega arith)

      number_is : get_or (take k numbers) i (pos 0) ≡ get_or numbers i (pos 0)
      number_is = number_same o numbers k most i h

      ranged : OutOfRangeAt o numbers i r → checked (called_for o (take k numbers)) (take k numbers) ≡ turned r
      ranged w =
          begin_until o numbers k most i f.before (omega arith) (omega (arith, w.0))
          ∙ checked_turned o (take k numbers) i (at.more w.0) (omega (arith, size)) (ap₂ allowed at.kind number_is ∙ w.1)
          ∙ ap turned (ap₂ refusal_of at.kind number_is ∙ sym w.2)

      trailing : TooManyAt o numbers i r → checked (called_for o (take k numbers)) (take k numbers) ≡ turned r
      trailing w =
          let few = none_more o numbers k most (omega (arith, w.0)) in
          begin_until o numbers k most i f.before (omega arith) (omega (arith, w.0))
          ∙ checked_long o (take k numbers) i (omega (arith, w.0)) (omega (arith, size)) ∙ ap turned (sym w.1)

  -- and each that ends before it passes all its checks: it is cut short, or whole
  pub beginning_passes : (k : ℕ) → k ≤ i
      → (checked (called_for o (take k numbers)) (take k numbers) ≡ turned Ends) ⊎ (checked (called_for o (take k numbers)) (take k numbers) ≡ fine)
  beginning_passes k h = go (ltb k (length (called_for o numbers))) refl f.why
    where
      most : k ≤ length numbers
      most = omega (arith, f.inside)

      size : length (take k numbers) ≡ k
      size = many o numbers k most

      passes : k ≤ length (called_for o numbers) → checked (called_for o (take k numbers)) (take k numbers) ≡ checked_from o (take k numbers) k
      passes c = begin_until o numbers k most k (λ j l. f.before j (omega arith)) (omega arith) c

      go : (t : Bool) → ltb k (length (called_for o numbers)) ≡ t → OutOfRangeAt o numbers i r ⊎ TooManyAt o numbers i r
          → (checked (called_for o (take k numbers)) (take k numbers) ≡ turned Ends)
          ⊎ (checked (called_for o (take k numbers)) (take k numbers) ≡ fine)
      go true e w =
          let c = ltb-true k (length (called_for o numbers)) e in
          let called = (same o numbers k most k (omega arith)).more c in
          inl (passes (omega arith) ∙ checked_short o (take k numbers) k called (omega (arith, size)))
      go false e (inl w) = absurd (omega (arith, w.0, ltb-false k (length (called_for o numbers)) e))
      go false e (inr w) =
          let c = ltb-false k (length (called_for o numbers)) e in
          let few = none_more o numbers k most (omega arith) in
          inr (passes (omega (arith, w.0)) ∙ checked_fine o (take k numbers) k (omega arith) (omega (arith, size)))

-- Why a check fails at a place
abbrev FailsAt : List Kind → List ℤ → Refusal → ℕ → Type 0
FailsAt ks zs r i =
    ((i ≡ length zs) × (r ≡ Ends))
    ⊎ ((i < length zs) × (i < length ks) × (allowed (get_or ks i StreamCount) (get_or zs i (pos 0)) ≡ false)
    × (r ≡ refusal_of (get_or ks i StreamCount) (get_or zs i (pos 0))))
    ⊎ ((i ≡ length ks) × (i < length zs) × (r ≡ Trailing))

-- and those before it pass
record Failing (ks : List Kind) (zs : List ℤ) (r : Refusal) : Type 0 where
  place : ℕ
  before : (j : ℕ) → j < place → allowed (get_or ks j StreamCount) (get_or zs j (pos 0)) ≡ true
  why : FailsAt ks zs r place

failing : (ks : List Kind) (zs : List ℤ) (r : Refusal) → checked ks zs ≡ turned r → Failing ks zs r
unfolding checked
failing [] [] r e = let z : ◌≡◌ {A = ℕ} 0 1 = cc in absurd (omega arith)
failing [] (z ∷ zs) r e = record { place = 0; before = λ j h. absurd (omega arith); why = inr (inr (refl, omega arith, cc)) }
failing (k ∷ ks) [] r e = record { place = 0; before = λ j h. absurd (omega arith); why = inl (refl, cc) }
failing (k ∷ ks) (z ∷ zs) r e = go (allowed k z) refl e (failing ks zs r)
  where
    earlier : allowed k z ≡ true → (n : ℕ) → ((j : ℕ) → j < n → allowed (get_or ks j StreamCount) (get_or zs j (pos 0)) ≡ true)
        → (j : ℕ) → j < suc n → allowed (get_or (k ∷ ks) j StreamCount) (get_or (z ∷ zs) j (pos 0)) ≡ true
    earlier a n b zero h = a
    earlier a n b (suc j) h = b j (omega arith)

    later : (n : ℕ) → FailsAt ks zs r n → FailsAt (k ∷ ks) (z ∷ zs) r (suc n)
    later n (inl w) = inl (ap suc w.0, w.1)
    later n (inr (inl w)) = inr (inl (omega (arith, w.0), omega (arith, w.1), w.2, w.3))
    later n (inr (inr w)) = inr (inr (ap suc w.0, omega (arith, w.1), w.2))

    go : (b : Bool) → allowed k z ≡ b → cond b (checked ks zs) (turned (refusal_of k z)) ≡ turned r → (checked ks zs ≡ turned r → Failing ks zs r)
        → Failing (k ∷ ks) (z ∷ zs) r
    go true a g ih = let f = ih g in record { place = suc f.place; before = earlier a f.place f.before; why = later f.place f.why }
    go false a g ih = record { place = 0; before = λ j h. absurd (omega arith); why = inr (inl (omega arith, omega arith, a, cc)) }

-- A list that is turned back ends early, or is refused for a number
pub refused_for : (o : Layout) (numbers : List ℤ) (r : Refusal) → checked (called_for o numbers) numbers ≡ turned r
    → (r ≡ Ends) ⊎ ((i : ℕ) × RefusedFor o numbers i r)
refused_for o numbers r e = go (failing (called_for o numbers) numbers r e)
  where
    go : Failing (called_for o numbers) numbers r → (r ≡ Ends) ⊎ ((i : ℕ) × RefusedFor o numbers i r)
    go f = by f.why
      where
        by : FailsAt (called_for o numbers) numbers r f.place → (r ≡ Ends) ⊎ ((i : ℕ) × RefusedFor o numbers i r)
        by (inl w) = inl w.1
        by (inr (inl w)) = inr (f.place, record { inside = w.0; before = f.before; why = inl (w.1, w.2, w.3) })
        by (inr (inr w)) = inr (f.place, record { inside = w.1; before = f.before; why = inr (w.0, w.2) })
