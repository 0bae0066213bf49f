-- The first run is the owner's, every other one the vector's.
use mathlib.Core.Path.{sym, ◌∙◌}
use Rattle.block.proofs.Runs.{run_owner, run_later}
use Rattle.block.proofs.order.owned_run.Goals as goal

pub returns-then-i-eq0 : goal.returns-then-i-eq0
returns-then-i-eq0 c =
    sym (run_owner _ _ _ _ c.if-i-eq0.true)

pub returns : goal.returns
returns c =
    c.vector_run.ensures ∙ sym (run_later _ _ _ _ c.if-i-eq0.false)
