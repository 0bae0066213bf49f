-- The children are measured, and the column with the smallest imaginary part gives the smallest of each row, and is kept for each row.
use Prim.Native.Nat.{◌*◌}
use mathlib.Core.Path.{◌≡◌, ◌∙◌}
use native.Mathlib.Omega.{arith}
use Rattle.metric.specs.Keys.{cost_room}
use Rattle.metric.specs.Parts.{span}
use lib.ListN.{drop}
use Rattle.search_spec.specs.Arrays.{least_first}
use Rattle.enumeration.specs.Rows.{column_count}
use Rattle.enumeration.proofs.Filling.{keys_in_lem}
use Rattle.enumeration.proofs.Least.{least_part}
use Rattle.enumeration.proofs.fill.Goals as goal

pub returns : goal.returns
returns c =
    let a = c.args in
    let g = c.of-grid.result in
    let e = c.of-grid.ensures in
    let column : c.least_first-column.result ≡ least_first (drop span a.axes.now) (column_count a.q) = c.least_first-column.ensures.0 ∙ least_part a.axes.now span g.columns e.4 (omega arith) ∙ rw e.2 in
    keys_in_lem a.q g.children g.rows (a.partial * cost_room) a.axes.now a.keys.now c.fill_children.new.keys c.fill_least.new.least
    c.least_first-column.result e.0 e.1 (omega arith) column c.fill_children.ensures.0 c.fill_least.ensures
