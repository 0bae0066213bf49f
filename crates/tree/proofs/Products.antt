-- Numbers below 2 ^ 31 in magnitude: neither a product of two wraps, nor a sum or difference of two products.
use Prim.Native.Nat.{◌+◌, ◌-◌, ◌*◌, ◌^◌, ◌≤◌, ◌<◌}
use mathlib.Core.Path.{◌≡◌, ◌∙◌}
use native.Mathlib.Omega.{arith}
use lib.IntN.{ℤ, nat_abs, ◌*ℤ◌}
use mir.Facts.{to_z-of_z}
use mir.Syntax.{w64}
use mir.Val.{SFits, to_z, of_z}
use Rattle.integers.proofs.Fits.{sfits_abs}
use Rattle.integers.proofs.Magnitudes.{nat_abs-mul_le}

-- A number as the machine reads it back
abbrev read : ℤ → ℤ
read z = to_z w64 (of_z w64 z)

module _ (a b : ℤ) (small_a : nat_abs a < 2 ^ 31) (small_b : nat_abs b < 2 ^ 31) where
  few : nat_abs (a *ℤ b) ≤ (2 ^ 31 - 1) * (2 ^ 31 - 1)
  few = nat_abs-mul_le a b {m = 2 ^ 31 - 1} {n = 2 ^ 31 - 1} (omega arith) (omega arith)

  pub product_fits : SFits w64 (read a *ℤ read b)
  product_fits =
      let f : SFits w64 a = sfits_abs a (omega arith) in
      let g : SFits w64 b = sfits_abs b (omega arith) in
      simp to_z-of_z (sfits_abs (a *ℤ b) (omega (arith, few)))

  product_is : read (read a *ℤ read b) ≡ a *ℤ b
  product_is =
      let f : SFits w64 a = sfits_abs a (omega arith) in
      let g : SFits w64 b = sfits_abs b (omega arith) in
      to_z-of_z product_fits ∙ simp to_z-of_z

-- `join` is a sum or a difference
module _ (join : ℤ → ℤ → ℤ) (most : (u v : ℤ) → nat_abs (join u v) ≤ nat_abs u + nat_abs v)
    (a x b y : ℤ) (small_a : nat_abs a < 2 ^ 31) (small_x : nat_abs x < 2 ^ 31) (small_b : nat_abs b < 2 ^ 31) (small_y : nat_abs y < 2 ^ 31) where
  pub joined_fits : SFits w64 (join (read (read a *ℤ read x)) (read (read b *ℤ read y)))
  joined_fits =
      rw (product_is a x small_a small_x, product_is b y small_b small_y)
      (sfits_abs _ (omega (arith, most (a *ℤ x) (b *ℤ y), few a x small_a small_x, few b y small_b small_y)))

  pub joined_is : read (join (read (read a *ℤ read x)) (read (read b *ℤ read y))) ≡ join (a *ℤ x) (b *ℤ y)
  joined_is = to_z-of_z joined_fits ∙ rw (product_is a x small_a small_x, product_is b y small_b small_y)
