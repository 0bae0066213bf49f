-- An axis bit by bit. What remains is folded at 0 and turned round from the middle once for each bit, and comes no further away from any label.
-- A label with a bit opposite to own's is as far as the nearest of all, or at least as far as the first one beyond that bit's fold.
use Prim.Native.Nat.{ℕ, suc, ◌+◌, ◌-◌, ◌*◌, ◌/◌, ◌%◌, ◌^◌, ◌≤◌, ◌<◌}
use mathlib.Core.Path.{◌≡◌, refl, sym, ◌∙◌, subst}
use mathlib.Core.Bool.{Bool, true, false, cond, not, beq}
use mathlib.Core.List.{List}
use native.Mathlib.Nat.{le_refl, le_trans, mul-le-mul}
use native.Mathlib.Omega.{arith}
use lib.Bits.{bit_and, bit_xor, and_mask, xor_lt}
use lib.Dec.{T, eqb}
use lib.IntN.{ℤ, pos, nat_abs, ◌-ℤ◌, ◌*ℤ◌}
use lib.ListN.{get_or}
use lib.Signed.{lt_z}
use Rattle.model.specs.Constellation.{bits_of, amplitude}
use Rattle.model.proofs.Numbers.{length-bits_of}
use Rattle.metric.specs.Parts.{bit_of, axis_distance}
use Rattle.metric.proofs.Folds.{fold_nearer, beyond_fold}
use Rattle.axes.proofs.Bridge.{distance_near}
use Rattle.metric.proofs.Opposite.{xor_opposite}
use Rattle.bounding.specs.Axes.{BitAsked}
use Rattle.bounding.proofs.Runs.{NoneOver}

-- Once the folds have left k bits of w, x is no further away from a label's last k bits than `left` is from the label
abbrev pub NoFurther : ℤ → ℕ → ℕ → ℤ → ℕ → Type 0
NoFurther left diagonal w x k =
    (g : ℕ) → nat_abs (x -ℤ pos diagonal *ℤ amplitude (bits_of k g)) ≤ nat_abs (left -ℤ pos diagonal *ℤ amplitude (bits_of w g))

-- No label that differs from own in bit j is below that bit's limit
abbrev pub BitHeld : List ℕ → ℕ → ℕ → (ℕ → ℕ) → ℕ → ℕ → ℕ → Type 0
BitHeld entries from w part other own j =
    (g : ℕ) → bit_of w (bit_xor g own) j ≡ true → get_or entries (from + 2 ^ (w - suc j)) 0 ≤ other + part g

-- The bit that has k bits after it, as it is read
pub bit_read : (w own k : ℕ) → k < w → eqb (bit_and (own / 2 ^ k) 1) 1 ≡ bit_of w own (w - suc k)
unfolding bit_of
bit_read w own k h =
    let e : w - suc (w - suc k) ≡ k = omega arith in
    rw (e, and_mask (own / 2 ^ k) 1) refl

-- Before the first fold
pub none_folded : (left : ℤ) (diagonal w : ℕ) → NoFurther left diagonal w left (w - 0)
none_folded left diagonal w g = let e : w - 0 ≡ w = omega arith in rw e (le_refl _)

-- A fold keeps that
pub fold_turn : (left : ℤ) (diagonal w k : ℕ) (x : ℤ) → NoFurther left diagonal w x (suc k)
    → NoFurther left diagonal w (pos (diagonal * 2 ^ k) -ℤ pos (nat_abs x)) k
unfolding bits_of
fold_turn left diagonal w k x h g =
    le_trans
    (subst
    (λ (n : ℕ).
    nat_abs (pos (diagonal * 2 ^ n) -ℤ pos (nat_abs x) -ℤ pos diagonal *ℤ amplitude (bits_of k g))
    ≤ nat_abs (x -ℤ pos diagonal *ℤ amplitude (bits_of (suc k) g)))
    (length-bits_of k g) (fold_nearer diagonal x (eqb (g / 2 ^ k % 2) 1) (bits_of k g))) (h g)

-- Where own's bit is not on the side of x, a bit that is opposite to it is
other_side : (side own bit : Bool) → beq side own ≡ false → not (beq bit own) ≡ true → side ≡ bit
other_side true false true e h = refl
other_side false true false e h = refl
other_side true true bit e h = absurd (subst T e tt)
other_side false false bit e h = absurd (subst T e tt)
other_side true false false e h = absurd (subst T (sym h) tt)
other_side false true true e h = absurd (subst T (sym h) tt)

module _ {left : ℤ} {diagonal w other low : ℕ} {entries : List ℕ} {from own : ℕ}
    (asked : BitAsked left diagonal w other low entries from own) where
  -- No label is below `low`
  low_le : (g : ℕ) → low ≤ other + axis_distance left (pos diagonal) w g
  low_le g = omega (arith, asked.nearest, distance_near left (pos diagonal) w g)

  -- A limit that is not above what the nearest label with the opposite bit comes to is above no label with that bit
  pub bit_turn : (i : ℕ) (x : ℤ) → NoFurther left diagonal w x (suc (w - suc i)) → (place reached : ℕ) → place ≡ from + 2 ^ (w - suc i)
      → reached ≡ cond (beq (lt_z x (pos 0)) (bit_of w own i)) low (other + (nat_abs x + diagonal) * (nat_abs x + diagonal))
      → get_or entries place 0 ≤ reached → BitHeld entries from w (axis_distance left (pos diagonal) w) other own i
  unfolding bits_of bit_of
  bit_turn i x near place reached here is h g opposite = go (beq (lt_z x (pos 0)) (bit_of w own i)) refl (rw (here, is) at h)
    where
      limit : ℕ
      limit = get_or entries (from + 2 ^ (w - suc i)) 0

      far : (side : Bool) → lt_z x (pos 0) ≡ side → side ≡ bit_of w g i
          → (nat_abs x + diagonal) * (nat_abs x + diagonal) ≤ axis_distance left (pos diagonal) w g
      far side e d =
          let k = le_trans (beyond_fold diagonal x (bit_of w g i) (bits_of (w - suc i) g) (e ∙ d)) (near g) in
          mul-le-mul k k

      go : (same : Bool) → beq (lt_z x (pos 0)) (bit_of w own i) ≡ same
          → limit ≤ cond same low (other + (nat_abs x + diagonal) * (nat_abs x + diagonal))
          → limit ≤ other + axis_distance left (pos diagonal) w g
      go true e l = omega (arith, low_le g)
      go false e l =
          omega (
            arith,
            far (lt_z x (pos 0)) refl
                (other_side (lt_z x (pos 0)) (bit_of w own i) (bit_of w g i) e (sym (xor_opposite w g own i) ∙ opposite)),
          )

  -- Where no bit's limit is above a label that differs in it, nor that of no bit above `low`, no label is below its entry
  pub bits_over : get_or entries from 0 ≤ low
      → ((j : ℕ) → j < w → BitHeld entries from w (axis_distance left (pos diagonal) w) other own j)
      → NoneOver entries from (2 ^ w) (axis_distance left (pos diagonal) w) other own
  bits_over none held g h =
      asked.by_bits (bit_xor g own) _ (xor_lt w g own h asked.label) (omega (arith, low_le g)) (λ j k e. held j k g e)
