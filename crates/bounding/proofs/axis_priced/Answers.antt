-- The two places are within the axis's entries, and the bits of what stands there say whether it is 0.
use Rattle.std.proofs.Common.{refl, ◌+◌, ◌-◌, ◌*◌, ◌%◌, ◌^◌, not, pos, get_or, ap, sym, ◌∙◌, arith, rules, eq-eqb, ne_eqb, w32, SFits}
use Rattle.bounding.specs.Axes.{axis_priced, has_cost}
use Rattle.bounding.proofs.Runs.{labels_few}
use Rattle.bounding.proofs.Costs.{cost_read, first_met, second_left}
use Rattle.bounding.proofs.axis_priced.Goals as goal

pub returns-then-entries-ne0 : goal.returns-then-entries-ne0
unfolding axis_priced
returns-then-entries-ne0 c =
    let f : SFits w32 (get_or c.args.entries.now 16 (pos 0)) = search rules in
    let e = cost_read c.args.entries.now 0 0 16 refl f in
    e ∙ first_met _ (has_cost c.args.entries.now 0 (2 ^ c.args.w - 1)) (sym e ∙ ap not (ne_eqb _ 0 c.if-entries-ne0.true))

pub returns-else-entries-ne0 : goal.returns-else-entries-ne0
unfolding axis_priced
returns-else-entries-ne0 c =
    let f : SFits w32 (get_or c.args.entries.now 16 (pos 0)) = search rules in
    cost_read c.args.entries.now 0 (2 ^ c.args.w - 1) (16 + (1 * 2 ^ c.args.w % 2 ^ 64 - 1)) (omega (arith, labels_few c.args.w c.requires)) (search rules)
    ∙ second_left _ _ (sym (cost_read c.args.entries.now 0 0 16 refl f) ∙ ap not (eq-eqb _ 0 c.if-entries-ne0.false))

pub bounds-entries-w : goal.bounds-entries-w
bounds-entries-w c = omega (arith, labels_few c.args.w c.requires)
