-- The invariant: what the first j streams give is there.
use mathlib.Core.Path.{◌≡◌}
use Rattle.limits.specs.Reach.{reaches_in}
use Rattle.limits.proofs.fill.Given as goal

abbrev pub invariant-loop-j : goal.invariant-loop-j
invariant-loop-j l = l.limits ≡ reaches_in l.q l.fn.limits l.j
