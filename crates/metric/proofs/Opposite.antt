-- Two labels by the bits in which they differ: bit i of their exclusive or.
use Prim.Native.Nat.{ℕ, zero, suc, ◌-◌, ◌/◌, ◌%◌, ◌^◌, ◌<◌}
use mathlib.Core.Path.{◌≡◌, refl, ◌∙◌, ap}
use mathlib.Core.Bool.{not, beq}
use native.Mathlib.Nat.{mod-lt}
use native.Mathlib.Omega.{arith}
use lib.Bits.{bit_xor, xor_shr, xor_mod}
use lib.Dec.{eqb}
use lib.Pow.{pow_pos}
use Rattle.metric.specs.Parts.{bit_of}

-- Of two digits
digits_opposite : (x y : ℕ) → x < 2 → y < 2 → eqb (bit_xor x y) 1 ≡ not (beq (eqb x 1) (eqb y 1))
digits_opposite zero zero h k = refl
digits_opposite zero (suc zero) h k = refl
digits_opposite (suc zero) zero h k = refl
digits_opposite (suc zero) (suc zero) h k = refl
digits_opposite (suc (suc x)) y h k = absurd (omega arith)
digits_opposite zero (suc (suc y)) h k = absurd (omega arith)
digits_opposite (suc zero) (suc (suc y)) h k = absurd (omega arith)

-- A bit of an exclusive or says that two bits are opposite.
pub xor_opposite : (n a b i : ℕ) → bit_of n (bit_xor a b) i ≡ not (beq (bit_of n a i) (bit_of n b i))
unfolding bit_of
xor_opposite n a b i =
    let e = n - suc i in
    ap (λ (y : ℕ). eqb y 1) (ap (λ (y : ℕ). y % 2) (xor_shr a b e) ∙ xor_mod (a / 2 ^ e) (b / 2 ^ e) 1)
    ∙ digits_opposite (a / 2 ^ e % 2) (b / 2 ^ e % 2) (mod-lt (a / 2 ^ e) (pow_pos 1)) (mod-lt (b / 2 ^ e) (pow_pos 1))
