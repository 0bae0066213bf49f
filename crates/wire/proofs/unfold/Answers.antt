-- `wire::unfold` meets its contract: half of a number below 2 ^ 32 is below 2 ^ 31, so it and -1 less it fit.
use Prim.Native.Nat.{◌<◌, ◌/◌, ◌^◌}
use native.Mathlib.Omega.{arith}
use borrow.Author.Tests.{eq-eqb, ne_eqb}
use lib.IntN.{negsuc}
use mir.Syntax.{w32}
use mir.Val.{SFits}
use mir.Facts.{to_z-of_z, to_z_pos}
use Rattle.integers.proofs.Fits.{complement_pos}
use Rattle.wire.specs.Folding.{unfolded}
use Rattle.wire.proofs.unfold.Lts as lts
use Rattle.wire.proofs.unfold.Reads as reads
use Rattle.wire.proofs.unfold.Goals as goal

half : (c : lts.Start reads.Pre reads.Post) → c.args.n / 2 < 2 ^ 31
half c = omega arith

odd_fits : (c : lts.Start reads.Pre reads.Post) → SFits w32 (negsuc (c.args.n / 2))
odd_fits c = record { sfits = half c }

pub returns-then-n-eq0 : goal.returns-then-n-eq0
unfolding unfolded
returns-then-n-eq0 c = let h = half c.before in simp (to_z_pos, eq-eqb _ _ c.if-n-eq0.true)

pub returns-else-n-eq0 : goal.returns-else-n-eq0
unfolding unfolded
returns-else-n-eq0 c = let h = half c.before in let g = odd_fits c.before in simp (to_z_pos, complement_pos, to_z-of_z, ne_eqb _ _ c.if-n-eq0.false)
