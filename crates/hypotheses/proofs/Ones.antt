-- The last bit of a number that is 1, by the zeros behind it; and what is left of a label when it is shifted past that bit.
use Prim.Native.Nat.{ℕ, zero, suc, ◌+◌, ◌-◌, ◌/◌, ◌%◌, ◌^◌, ◌≤◌, ◌<◌}
use mathlib.Core.Path.{◌≡◌, refl, sym, ◌∙◌, ap}
use mathlib.Core.Bool.{Bool, true, false}
use native.Mathlib.Nat.{div-one, div-eq_of_lt, zero-div, lt_of_lt_of_le, pow-succ', div-div-eq-div-mul}
use native.Mathlib.Omega.{arith}
use lib.Count.{under, count_trailing_zeros}
use lib.Pow.{shr_lt, shr-shr, pow_mono}
use lib.Dec.{leb, eqb}
use borrow.Author.Tests.{leb-true, leb-false}
use Rattle.metric.specs.Parts.{bit_of}

-- The last bit of a number that is 1 has t zeros behind it
pub record LastOne (x t : ℕ) : Type 0 where
  pub one : x / 2 ^ t % 2 ≡ 1
  pub zeros : (s : ℕ) → s < t → x / 2 ^ s % 2 ≡ 0

-- A bit of a number is one of its half
of_half : (x s r : ℕ) → x / 2 / 2 ^ s % 2 ≡ r → x / 2 ^ suc s % 2 ≡ r
of_half x s r h = ap (λ (y : ℕ). y % 2) (ap (λ (p : ℕ). x / p) (pow-succ' 2 s) ∙ sym (div-div-eq-div-mul x 2 (2 ^ s))) ∙ h

-- The last bit of a number is what 2 leaves of it
of_last : (x r : ℕ) → x % 2 ≡ r → x / 2 ^ 0 % 2 ≡ r
of_last x r h = ap (λ (y : ℕ). y % 2) (div-one x) ∙ h

-- The zeros that are counted stand behind the last one
pub last_one : (k x : ℕ) → 0 < x → x < 2 ^ k → LastOne x (count_trailing_zeros k x)
unfolding count_trailing_zeros
last_one zero x h l = let none : x < 1 = l in absurd (omega arith)
last_one (suc k) x h l = go (x % 2) refl (λ e. last_one k (x / 2) (omega arith) (omega (arith, pow-succ' 2 k)))
  where
    go : (r : ℕ) → x % 2 ≡ r → (x % 2 ≡ 0 → LastOne (x / 2) (count_trailing_zeros k (x / 2))) → LastOne x (under r (count_trailing_zeros k (x / 2)))
    go zero e half = record { one = of_half x _ 1 (half e).one; zeros = before }
      where
        before : (s : ℕ) → s < suc (count_trailing_zeros k (x / 2)) → x / 2 ^ s % 2 ≡ 0
        before zero i = of_last x 0 e
        before (suc s) i = of_half x s 0 ((half e).zeros s (omega arith))
    go (suc r) e half = record { one = of_last x 1 (omega arith); zeros = λ s i. absurd (omega arith) }

-- A number below 2 ^ i has its last one among its last i bits
pub last_below : {x t : ℕ} (i : ℕ) → LastOne x t → x < 2 ^ i → t < i
last_below {x} {t} i last small = go (leb i t) refl
  where
    go : (b : Bool) → leb i t ≡ b → t < i
    go false e = leb-false i t e
    go true e = absurd (omega (arith, last.one, div-eq_of_lt (lt_of_lt_of_le small (pow_mono (leb-true i t e)))))

-- All n bits are left before the first shift
pub unshifted : (n label : ℕ) → label ≡ label / 2 ^ (n - n)
unshifted n label = let e : n - n ≡ 0 = omega arith in rw e (sym (div-one label))

-- A label of n bits, shifted to its first i bits
module _ {n i left : ℕ} (label : ℕ) (h : i ≤ n) (shifted : left ≡ label / 2 ^ (n - i)) where
  -- has these
  bit_left : (j : ℕ) → j < i → bit_of n label j ≡ eqb (left / 2 ^ (i - suc j) % 2) 1
  unfolding bit_of
  bit_left j l =
      let e : n - suc j ≡ n - i + (i - suc j) = omega arith in
      rw (e, shifted) (ap (λ (x : ℕ). eqb (x % 2) 1) (sym (shr-shr label (n - i) (i - suc j))))

  -- and none that is 1, if it is 0
  pub none_left : left ≡ 0 → (j : ℕ) → j < i → bit_of n label j ≡ false
  none_left e j l = bit_left j l ∙ ap (λ (x : ℕ). eqb (x % 2) 1) (ap (λ (x : ℕ). x / 2 ^ (i - suc j)) e ∙ zero-div (2 ^ (i - suc j)))

  -- It is as small as so many bits are
  pub left_small : label < 2 ^ n → left < 2 ^ i
  left_small l = let e : n ≡ i + (n - i) = omega arith in rw shifted (shr_lt i (n - i) (rw e at l))

  module _ {t : ℕ} (last : LastOne left t) (room : t < i) where
    -- Its last one
    pub last_is : bit_of n label (i - 1 - t) ≡ true
    last_is = let e : i - suc (i - 1 - t) ≡ t = omega arith in bit_left (i - 1 - t) (omega arith) ∙ rw (e, last.one)

    -- has zeros behind it
    pub between : (j : ℕ) → i - 1 - t < j → j < i → bit_of n label j ≡ false
    between j k l = bit_left j l ∙ ap (λ (x : ℕ). eqb x 1) (last.zeros (i - suc j) (omega arith))

    -- and, shifted past it, the label has the bits before it
    pub left_before : left / 2 ^ t / 2 ≡ label / 2 ^ (n - (i - 1 - t))
    left_before =
        let e : n - (i - 1 - t) ≡ n - i + (t + 1) = omega arith in
        rw (e, shifted) (shr-shr (label / 2 ^ (n - i)) t 1 ∙ shr-shr label (n - i) (t + 1))
