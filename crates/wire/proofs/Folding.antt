-- Folding: document 01's sentence as an equation of whole numbers, the size of a folded number, and what it is on either side of a sign
-- test. By cases of the sign.
use Prim.Native.Nat.{ℕ, suc, ◌+◌, ◌*◌, ◌<◌}
use mathlib.Core.Path.{◌≡◌, refl, subst, ap}
use mathlib.Core.Bool.{true, false, cond}
use native.Mathlib.Nat.{not-suc-le-zero}
use native.Mathlib.Omega.{arith}
use borrow.Author.Tests.{ltb-true, le-ltb}
use lib.Dec.{T, leb-zero}
use lib.IntN.{ℤ, pos, negsuc, nat_abs, ◌-ℤ◌, ◌*ℤ◌}
use lib.Signed.{lt_z, le_z, mag}
use Rattle.integers.proofs.Fits.{complement}
use Rattle.wire.specs.Folding.{folded}

-- "n as 2n if n is at least 0, else -2n - 1"
pub folded_is : (n : ℤ) → pos (folded n) ≡ cond (le_z (pos 0) n) (pos 2 *ℤ n) (negsuc 1 *ℤ n -ℤ pos 1)
unfolding folded
folded_is (pos n) = rw (leb-zero n)
folded_is (negsuc n) = rw (le-ltb (2 * suc n) 1 (omega arith)) (ap pos (omega arith))

-- A folded number has one bit more than the number
pub folded_below : (z : ℤ) {b : ℕ} → mag z < b → folded z < 2 * b
unfolding folded
folded_below (pos n) h = omega arith
folded_below (negsuc n) h = omega arith

-- Where z < 0, z folds to 2(-1 - z) + 1
pub folded_negative : (z : ℤ) → lt_z z (pos 0) ≡ true → 2 * nat_abs (negsuc 0 -ℤ z) + 1 ≡ folded z
unfolding folded
folded_negative (pos n) t = absurd (not-suc-le-zero (ltb-true n 0 t))
folded_negative (negsuc n) t = rw (complement (negsuc n) refl)

-- Where not z < 0, to 2z
pub folded_other : (z : ℤ) → lt_z z (pos 0) ≡ false → 2 * nat_abs z ≡ folded z
unfolding folded
folded_other (pos n) t = refl
folded_other (negsuc n) t = absurd (subst T t tt)
