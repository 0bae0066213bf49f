-- Each arm is an entry of the list.
use mathlib.Core.Path.{◌≡◌, ap}
use native.Mathlib.Omega.{arith}
use lib.IntN.{ℤ}
use mir.Facts.{to_z-of_z}
use Rattle.block.specs.Reading.{run, runs_of}
use Rattle.refusals.specs.declared.Kind.TheVariants.{WeakLevel, NodeShare}
use Rattle.block.proofs.order.limit_run.Goals as goal

pub returns-in-0 : goal.returns-in-0
unfolding runs_of
returns-in-0 c =
    let e : c.args.i ≡ 0 = omega arith in
    rw e (ap (λ (z : ℤ). run (WeakLevel z) c.args.n) (to_z-of_z c.ranges.c))

pub returns-in_default : goal.returns-in_default
unfolding runs_of
returns-in_default c =
    let e : c.args.i ≡ 1 = omega arith in
    rw e (ap (λ (z : ℤ). run (NodeShare z) 1) (to_z-of_z c.ranges.m))
