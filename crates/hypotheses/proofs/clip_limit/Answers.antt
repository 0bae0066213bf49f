-- Far and prior are small, so their sum and difference fit.
use native.Mathlib.Omega.{arith}
use Prim.Native.Nat.{ℕ, ◌<◌, ◌^◌}
use lib.IntN.{ℤ, pos, nat_abs, ◌+ℤ◌, ◌-ℤ◌}
use mir.Syntax.{w64}
use mir.Val.{SFits}
use mir.Facts.{to_z-of_z, to_z_pos}
use Rattle.integers.proofs.Fits.{sfits_abs}
use Rattle.integers.proofs.Magnitudes.{nat_abs-sub, nat_abs-add}
use Rattle.search_spec.specs.Program.{reach_of}
use Rattle.hypotheses.proofs.clip_limit.Goals as goal

difference : (far : ℕ) (p : ℤ) → far < 2 ^ 44 → nat_abs p < 2 ^ 31 → SFits w64 (pos far -ℤ p)
difference far p h k = sfits_abs _ (omega (arith, nat_abs-sub (pos far) p))

total : (far : ℕ) (p : ℤ) → far < 2 ^ 44 → nat_abs p < 2 ^ 31 → SFits w64 (pos far +ℤ p)
total far p h k = sfits_abs _ (omega (arith, nat_abs-add (pos far) p))

pub returns-then-bit : goal.returns-then-bit
unfolding reach_of
returns-then-bit c =
    let f = c.ranges.prior in let h : c.args.far < 2 ^ 63 = omega arith in
    let g = difference c.args.far c.args.prior c.requires.0 c.requires.1 in
    simp (to_z_pos, to_z-of_z, c.if-bit.true)

pub returns-else-bit : goal.returns-else-bit
unfolding reach_of
returns-else-bit c =
    let f = c.ranges.prior in let h : c.args.far < 2 ^ 63 = omega arith in
    let g = total c.args.far c.args.prior c.requires.0 c.requires.1 in
    simp (to_z_pos, to_z-of_z, c.if-bit.false)
