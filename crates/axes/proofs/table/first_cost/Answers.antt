-- The sum of what a 0 costs at each bit.
use mathlib.Core.Bool.{false}
use mathlib.Core.Path.{◌≡◌, sym, ◌∙◌}
use Rattle.std.proofs.Common.{rules}
use Rattle.std.specs.List.{sum_by}
use Rattle.model.specs.Metric.{bit_cost}
use Rattle.axes.proofs.Costs.{cost_zeros}
use Rattle.axes.proofs.table.first_cost.Goals as goal

pub returns : goal.returns
returns c =
    let e : c.sum.result ≡ sum_by (λ p. bit_cost p false) c.args.priors.now = search rules in
    e ∙ sym (cost_zeros c.args.priors.now)
