-- The answer is put together from the two tests.
use Rattle.std.proofs.Common.{◌≡◌, ◌-◌, true, false, refl, ◌&&◌}
use borrow.Author.Tests.{eq-eqb, ne_eqb}
use Rattle.std.proofs.Common.{eqb}
use Rattle.bounding.specs.Axes.{priced_by}
use Rattle.bounding.proofs.Parts.{parts_asked}
use Rattle.expansion.proofs.Kids.{entries_are, opens_at, opens_asked}
use Rattle.expansion.proofs.Vector.may_pass.Goals as goal
use Rattle.expansion.proofs.Vector.may_pass.Goals.{then-row-ne0-via-then-row-ne0, then-row-ne0-via-else-row-ne0+then-not-priced}

pub some_child_may_pass-requires : goal.some_child_may_pass-requires
some_child_may_pass-requires c =
    opens_asked c.args.self.asked c.requires c.args.kept.label (entries_are c.args.limits.now _) c.own_symbol-own.ensures.0

pub some_child_may_pass_by_parts-requires : goal.some_child_may_pass_by_parts-requires
some_child_may_pass_by_parts-requires c =
    let v = c.args.self in
    parts_asked (opens_asked v.asked c.requires c.args.kept.label (entries_are c.args.limits.now _) c.own_symbol-own.ensures.0) v.tabled

-- The distances shut it
pub returns-then-not-some_child_may_pass : goal.returns-then-not-some_child_may_pass
returns-then-not-some_child_may_pass c =
    opens_at _ _ _ _ _ _ _ _ _ _ c.base_of-base.ensures (entries_are c.args.limits.now _) c.own_symbol-own.ensures.0
    c.if-not-some_child_may_pass.ensures refl refl

-- The parts are not asked, or there are no prior costs
pub returns-then-row-ne0 : goal.returns-then-row-ne0
returns-then-row-ne0 c =
    let unasked =
    elim c.then-row-ne0.branch as (λ _. false ≡ (eqb (c.args.node.level - 1) 0 && priced_by c.args.self.task.width c.args.self.tables.now (c.args.node.level - 1))) [
      | then-row-ne0-via-then-row-ne0 w ↦ rw (ne_eqb _ _ w.if-row-ne0.true)
      | then-row-ne0-via-else-row-ne0+then-not-priced w ↦ rw (eq-eqb _ _ w.if-row-ne0.false) w.if-not-priced.ensures
    ] in
    opens_at _ _ _ _ _ _ _ _ _ _ c.base_of-base.ensures (entries_are c.args.limits.now _) c.own_symbol-own.ensures.0
    c.if-not-some_child_may_pass.ensures unasked refl

pub returns : goal.returns
returns c =
    let v = c.args.self in
    let row = c.args.node.level - 1 in
    let asks : true ≡ (eqb row 0 && priced_by v.task.width v.tables.now row) = rw (eq-eqb _ _ c.if-row-ne0.false) c.if-not-priced.ensures in
    opens_at _ _ _ _ _ _ _ _ _ _ c.base_of-base.ensures (entries_are c.args.limits.now _) c.own_symbol-own.ensures.0
    c.if-not-some_child_may_pass.ensures asks c.some_child_may_pass_by_parts.ensures
