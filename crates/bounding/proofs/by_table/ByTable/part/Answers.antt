-- The part by the axis's two entries.
use Rattle.std.proofs.Common.{◌+◌, pos, get_or, arith, rules, w32, w64, SFits, to_z-of_z, zero-add}
use Rattle.axes.specs.Tables.{table_part}
use Rattle.bounding.proofs.Runs.{labels_few}
use Rattle.bounding.proofs.by_table.ByTable.part.Goals as goal

pub bounds-self-g : goal.bounds-self-g
bounds-self-g c = omega (arith, labels_few c.args.self.width c.args.self.asked.axis.bits)

pub bounds-self-g-2 : goal.bounds-self-g-2
bounds-self-g-2 c = omega (arith, labels_few c.args.self.width c.args.self.asked.axis.bits)

pub axis_part-requires : goal.axis_part-requires
axis_part-requires c =
    let a = c.args.self in
    let left : SFits w64 a.left = search rules in
    let product : SFits w32 (get_or a.entries.now c.args.g (pos 0)) = search rules in
    let cost : SFits w32 (get_or a.entries.now (16 + c.args.g) (pos 0)) = search rules in
    simp to_z-of_z (a.asked.axis.remains, simp zero-add at (a.asked.axis.product c.args.g c.requires), simp zero-add at (a.asked.axis.cost c.args.g c.requires))

pub returns : goal.returns
unfolding table_part
returns c =
    let a = c.args.self in
    let left : SFits w64 a.left = search rules in
    let product : SFits w32 (get_or a.entries.now c.args.g (pos 0)) = search rules in
    let cost : SFits w32 (get_or a.entries.now (16 + c.args.g) (pos 0)) = search rules in
    simp zero-add (simp to_z-of_z at c.axis_part.ensures)
