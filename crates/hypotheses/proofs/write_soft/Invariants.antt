-- After i turns the first i soft values are written.
use mathlib.Core.Path.{◌≡◌}
use Rattle.metric.specs.Parts.{filled}
use Rattle.search_spec.specs.Program.{taken_in, value_of}
use Rattle.hypotheses.specs.Limits.{vector_for}
use Rattle.hypotheses.proofs.write_soft.Given as goal

abbrev pub invariant-loop-i : goal.invariant-loop-i
invariant-loop-i l =
    l.soft ≡ filled (value_of (vector_for l.task l.numbers) l.empty (taken_in 0 0 l.minima)) l.i l.initial.soft
