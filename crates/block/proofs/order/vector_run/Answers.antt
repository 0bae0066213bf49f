-- Each exit is a place of the list of runs; m, q and the label's bits are small, so nothing wraps.
use mathlib.Core.Path.{sym}
use native.Mathlib.Omega.{arith}
use Rattle.block.proofs.Runs.{run_diagonal, run_right, run_received, run_prior}
use Rattle.block.proofs.order.vector_run.Goals as goal

pub returns-then-i-eq0 : goal.returns-then-i-eq0
returns-then-i-eq0 c =
    sym (run_diagonal _ _ _ c.if-i-m.true c.if-i-eq0.true)

pub returns-then-i-m : goal.returns-then-i-m
returns-then-i-m c =
    sym (run_right _ _ _ c.if-i-m.true c.if-i-eq0.false)

pub returns-then-i-m-2 : goal.returns-then-i-m-2
returns-then-i-m-2 c =
    sym (run_received _ _ _ c.if-i-m-2.true)

pub returns : goal.returns
returns c =
    let a = c.args in sym (run_prior a.m a.q a.i (omega arith))
