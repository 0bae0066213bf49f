-- The products, then the costs.
use Prim.Native.Nat.{◌+◌, ◌^◌}
use mathlib.Core.Path.{◌≡◌, ap, ap₂, ◌∙◌}
use mathlib.Core.List.{◌++◌}
use native.Mathlib.Omega.{arith}
use lib.Pow.{pow_mono}
use mir.Facts.{to_z-of_z}
use Rattle.metric.specs.Parts.{span, filled}
use Rattle.axes.specs.Tables.{entries_in}
use Rattle.axes.proofs.Lent.{both_filled}
use Rattle.axes.proofs.table.fill_entries.Goals as goal

pub returns : goal.returns
unfolding entries_in
returns c =
    let d = c.ranges.diagonal in
    let lent = c.split_at_mut-products.ensures in
    let e : 0 + span ≡ span = omega arith in
    let products = simp to_z-of_z at c.fill_products.ensures ∙ ap (filled _ _) lent.front in
    let costs = rw c.requires.1.bits at c.fill_costs.ensures ∙ ap (filled _ _) lent.back in
    rw e
    (ap₂ ◌++◌ products costs
    ∙ both_filled span _ _ (2 ^ c.args.axis.bits) _ c.args.entries.now (omega arith) (pow_mono c.requires.0.bits))
