-- The invariant: the costs of the first 2^b labels are there.
use mathlib.Core.Path.{◌≡◌}
use Prim.Native.Nat.{◌^◌}
use lib.ListN.{length}
use Rattle.metric.specs.Parts.{filled}
use Rattle.axes.specs.Tables.{label_cost}
use Rattle.axes.proofs.table.fill_label_costs.Given as goal

abbrev pub invariant-loop-b : goal.invariant-loop-b
invariant-loop-b l = l.costs ≡ filled (label_cost l.priors (length l.priors)) (2 ^ l.b) l.fn.costs
