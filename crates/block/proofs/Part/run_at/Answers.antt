-- In each arm the part is known, and what is called there gives its run.
use mathlib.Core.Path.{◌≡◌}
use Prim.Native.Nat.{◌<◌}
use native.Mathlib.Omega.{arith}
use Rattle.block.specs.Reading.{runs_of}
use Rattle.block.proofs.Runs.{vector_runs_lem}
use Rattle.block.proofs.Part.run_at.Goals as goal

pub size_run-requires : goal.size_run-requires
unfolding runs_of
size_run-requires c = rw c.in-Sizes.is at c.requires.1

pub limit_run-requires : goal.limit_run-requires
unfolding runs_of
limit_run-requires c = rw c.in-Limits.is at c.requires.1

pub owned_run-requires : goal.owned_run-requires
owned_run-requires c =
    let small = rw c.in-Vector.is at c.requires.0 in
    (small, omega (arith, rw (c.in-Vector.is, vector_runs_lem) at c.requires.1))

pub returns-in-First : goal.returns-in-First
unfolding runs_of
returns-in-First c =
    let h : c.args.i < 1 = rw c.in-First.is at c.requires.1 in
    let e : c.args.i ≡ 0 = omega arith in
    rw (c.in-First.is, e)
