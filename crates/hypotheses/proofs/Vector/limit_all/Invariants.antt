-- After i turns the first i limits are filled in, behind minima that stay.
use Prim.Native.Nat.{◌*◌}
use mathlib.Core.Path.{◌≡◌}
use mathlib.Core.List.{◌++◌}
use lib.ListN.{take}
use Rattle.model.specs.Block.{most_bits}
use Rattle.metric.specs.Parts.{filled}
use Rattle.search_spec.specs.Program.{taken_in, limits_of}
use Rattle.hypotheses.specs.Limits.{vector_for, limit_at}
use Rattle.hypotheses.proofs.Vector.limit_all.Given as goal

abbrev pub invariant-loop-i : goal.invariant-loop-i
invariant-loop-i l =
    l.minima
    ≡ take (2 * most_bits) l.initial.minima ++ filled (limit_at (vector_for l.self.task l.self.numbers.now) (taken_in l.best.bits l.best.partial l.initial.minima)) l.i (limits_of l.initial.minima)
