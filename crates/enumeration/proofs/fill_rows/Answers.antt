-- The rows' smallest keys are written, and behind them the column of each.
use Prim.Native.Nat.{ℕ, ◌+◌, ◌-◌, ◌*◌, ◌≤◌}
use mathlib.Core.Path.{◌≡◌, ap, ◌∙◌}
use mathlib.Core.List.{List, map, ◌++◌}
use native.Mathlib.Omega.{arith}
use borrow.Rule.Slice.PartMut.{mid_of, put_mid}
use lib.ListN.{length, get_or, take, drop, replicate, length-take, length-drop, length-replicate, get_or-replicate}
use lib.Seq.{get_or-take}
use Rattle.std.proofs.Common.{rules}
use Rattle.metric.specs.Parts.{filled_from}
use Rattle.metric.proofs.Filled.{from_part, from_length}
use Rattle.metric.proofs.Grid.{sums_written}
use Rattle.enumeration.specs.Rows.{column_metric, same_column}
use Rattle.enumeration.proofs.fill_rows.Goals as goal

-- The sums of the rows' parts, the first ones of the real labels, are their smallest keys,
least_written : (base rows n : ℕ) (axes least : List ℕ) → n ≡ rows → rows ≤ length axes → rows ≤ length least
    → map (λ part. base + part) (mid_of 0 n axes) ++ drop rows least ≡ filled_from 0 (column_metric base axes) rows least
unfolding column_metric
least_written base rows n axes least all known room =
    rw all
    (sums_written base 0 rows _ (take rows axes) least (omega arith) (simp length-take (omega arith))
    (λ a h. ap (λ (x : ℕ). base + x) (get_or-take rows axes a 0 h)))

-- and the same column is that of each
columns_written : (column rows : ℕ) (least columns : List ℕ) → 2 * rows ≤ length least
    → columns ≡ replicate (length (take (2 * rows - rows) (drop rows least))) column
    → put_mid rows (2 * rows - rows) least columns ≡ filled_from rows (same_column column) rows least
unfolding same_column
columns_written column rows least columns room e =
    let behind : 2 * rows - rows ≡ rows = omega arith in
    let size : length (take (2 * rows - rows) (drop rows least)) ≡ rows = simp (length-take, length-drop) (omega arith) in
    let all = e ∙ ap (λ (k : ℕ). replicate k column) size in
    rw behind
    (from_part rows _ rows least columns 0 (omega arith) (ap length all ∙ length-replicate rows column)
    (λ a h. ap (λ (l : List ℕ). get_or l a 0) all ∙ get_or-replicate rows a column 0 h))

pub returns : goal.returns
returns c =
    let a = c.args in
    let n = a.rows in
    let mid = c.fill_sums.new.keys ++ drop n a.least.now in
    let first =
    ap (λ (l : List ℕ). l ++ drop n a.least.now) c.fill_sums.ensures
    ∙ least_written a.base n _ a.axes.now a.least.now (omega arith) (omega arith) (omega arith) in
    let room : 2 * n ≤ length mid = omega (arith, ap length first ∙ from_length 0 (column_metric a.base a.axes.now) n a.least.now) in
    columns_written a.column n mid c.fill.new.self room (c.fill.ensures.after (search rules)) ∙ ap (filled_from n (same_column a.column) n) first
