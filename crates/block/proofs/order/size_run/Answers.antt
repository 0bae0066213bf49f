-- Each arm is an entry of the list.
use mathlib.Core.Path.{◌≡◌, ap}
use native.Mathlib.Omega.{arith}
use lib.IntN.{ℤ}
use mir.Facts.{to_z-of_z}
use Rattle.block.specs.Reading.{run, runs_of}
use Rattle.refusals.specs.declared.Kind.TheVariants.{SymbolWidth}
use Rattle.block.proofs.order.size_run.Goals as goal

pub returns-in-0 : goal.returns-in-0
unfolding runs_of
returns-in-0 c =
    let e : c.args.i ≡ 0 = omega arith in
    rw e (ap (λ (z : ℤ). run (SymbolWidth z) 1) (to_z-of_z c.ranges.m))

pub returns-in-1 : goal.returns-in-1
unfolding runs_of
returns-in-1 c = let e : c.args.i ≡ 1 = omega arith in rw e

pub returns-in_default : goal.returns-in_default
unfolding runs_of
returns-in_default c = let e : c.args.i ≡ 2 = omega arith in rw e
