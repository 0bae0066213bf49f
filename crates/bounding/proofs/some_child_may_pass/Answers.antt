-- Both axes by folds, with the row's diagonal entry.
use Rattle.std.proofs.Common.{nat_abs, ap, ◌∙◌, rules, w64, SFits, to_z-of_z}
use Rattle.metric.proofs.Rows.{diagonal_within}
use Rattle.axes.specs.Tables.Axis.{real}
use Rattle.axes.proofs.Tables.{axis_few}
use Rattle.bounding.proofs.Answers.{opens_by}
use Rattle.bounding.proofs.some_child_may_pass.Goals as goal

pub invariant_of-re : goal.invariant_of-re
invariant_of-re c =
    let re : SFits w64 c.args.left.re = search rules in
    let entry : SFits w64 c.element-diagonal.result = search rules in
    record {
      remains = simp to_z-of_z c.requires.low_re;
      entry = simp to_z-of_z (rw c.element-diagonal.ensures (diagonal_within c.requires.vector c.args.row c.requires.inside));
      few = axis_few c.args.task.width real c.requires.vector.bits;
    }

pub returns : goal.returns
returns c =
    let a = c.args in
    let re : SFits w64 a.left.re = search rules in
    let im : SFits w64 a.left.im = search rules in
    let entry : SFits w64 c.element-diagonal.result = search rules in
    simp to_z-of_z at c.some_child_below.ensures
    ∙ opens_by a.task.streams a.task.width a.row a.left.re a.left.im a.partial a.base a.numbers.now a.entries.now a.own (nat_abs c.element-diagonal.result)
    c.requires.vector.bits (ap nat_abs c.element-diagonal.ensures)
