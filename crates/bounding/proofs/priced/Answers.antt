-- One axis, then the other, each with its own entries.
use Rattle.std.proofs.Common.{List, ℤ, ap, ◌+◌, ◌*◌, sym, ◌∙◌, arith}
use Rattle.axes.specs.Tables.{axis_place, axis_bits}
use Rattle.axes.specs.Tables.Axis.{real, imaginary}
use Rattle.axes.proofs.Tables.{axis_few}
use Rattle.bounding.specs.Axes.{axis_priced, priced_by}
use Rattle.bounding.proofs.Costs.{first_met, second_left, priced_cut}
use Rattle.bounding.proofs.Cuts.{entries_are}
use Rattle.bounding.proofs.priced.Goals as goal

pub returns-then-axis_priced : goal.returns-then-axis_priced
unfolding priced_by
returns-then-axis_priced c =
    let a = c.args in
    let is = entries_are a.tables.now (axis_place a.row real) c.as_chunks.result.0.now (2 * a.row) c.as_chunks.ensures.front (omega arith) (omega arith) in
    let e = c.axis_priced.ensures ∙ ap (λ (l : List ℤ). axis_priced l 0 (axis_bits a.q real)) is ∙ priced_cut a.tables.now (axis_place a.row real) (axis_bits a.q real) (axis_few a.q real c.requires.0) in
    e ∙ first_met _ (axis_priced a.tables.now (axis_place a.row imaginary) (axis_bits a.q imaginary)) (sym e ∙ c.if-axis_priced.true)

pub returns-else-axis_priced : goal.returns-else-axis_priced
unfolding priced_by
returns-else-axis_priced c =
    let a = c.args in
    let first = entries_are a.tables.now (axis_place a.row real) c.as_chunks.result.0.now (2 * a.row) c.as_chunks.ensures.front (omega arith) (omega arith) in
    let second = entries_are a.tables.now (axis_place a.row imaginary) c.as_chunks.result.0.now (2 * a.row + 1) c.as_chunks.ensures.front (omega arith) (omega arith) in
    let none = c.axis_priced.ensures ∙ ap (λ (l : List ℤ). axis_priced l 0 (axis_bits a.q real)) first ∙ priced_cut a.tables.now (axis_place a.row real) (axis_bits a.q real) (axis_few a.q real c.requires.0) in
    c.axis_priced-else-axis_priced.ensures
    ∙ ap (λ (l : List ℤ). axis_priced l 0 (axis_bits a.q imaginary)) second
    ∙ priced_cut a.tables.now (axis_place a.row imaginary) (axis_bits a.q imaginary) (axis_few a.q imaginary c.requires.0)
    ∙ second_left _ _ (sym none ∙ c.if-axis_priced.false)
