-- After i turns the first i bits are noted.
use mathlib.Core.Path.{◌≡◌}
use Rattle.search_spec.specs.Program.{limits_of}
use Rattle.hypotheses.specs.Limits.{NotedTo}
use Rattle.hypotheses.proofs.note.Given as goal

abbrev pub invariant-loop-i : goal.invariant-loop-i
invariant-loop-i l = NotedTo l.n l.leaf.bits l.leaf.partial l.i l.initial.minima l.minima × (limits_of l.minima ≡ limits_of l.initial.minima)
