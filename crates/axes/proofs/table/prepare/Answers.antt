-- The invariant: the table is that with the rows so far.
use Prim.Native.Nat.{ℕ, ◌*◌, ◌<◌}
use mathlib.Core.Path.{◌≡◌, refl, ap, ◌∙◌}
use native.Mathlib.Omega.{arith}
use lib.IntN.{ℤ}
use lib.ListN.{length}
use mir.Facts.{to_z-of_z}
use mir.Syntax.{w64}
use mir.Val.{SFits}
use Rattle.std.proofs.Common.{rules}
use Rattle.std.proofs.lemmas.List.{length-take, length-drop}
use Rattle.model.specs.Block.{most_streams}
use Rattle.axes.specs.Tables.{table_size, rows_in}
use Rattle.axes.specs.Tables.Axis.{real, imaginary}
use Rattle.axes.proofs.Tables.{real_amplitudes, imaginary_amplitudes, priors_lent, entries_asked, rows_tabled, rows_more}
use Rattle.axes.proofs.table.prepare.Goals as goal

pub loop-row-init : goal.loop-row-init
unfolding rows_in
loop-row-init c = refl

pub fill_entries-requires : goal.fill_entries-requires
fill_entries-requires c =
    let row = c.loop-row.row in
    let h = c.loop-row-test.true in
    let d : SFits w64 c.element-diagonal.result = search rules in (
      real_amplitudes c.requires.1 c.requires.0.bits _ (ap (λ (n : ℕ). 2 * n) c.labels.ensures.value),
      entries_asked c.requires.0 row h real _ _ (priors_lent c.requires.0 row h real _ (omega arith)) (to_z-of_z d ∙ c.element-diagonal.ensures),
      omega (arith, length-take {A = ℤ}, length-drop {A = ℤ}),
    )

pub fill_entries-requires-in-loop-row : goal.fill_entries-requires-in-loop-row
fill_entries-requires-in-loop-row c =
    let row = c.loop-row.row in
    let h = c.loop-row-test.true in
    let d : SFits w64 c.element-diagonal.result = search rules in (
      imaginary_amplitudes c.requires.1 c.requires.0.bits,
      entries_asked c.requires.0 row h imaginary _ _ (priors_lent c.requires.0 row h imaginary _ (omega arith)) (to_z-of_z d ∙ c.element-diagonal.ensures),
      omega (arith, length-take {A = ℤ}, length-drop {A = ℤ}),
    )

pub loop-row-preserved : goal.loop-row-preserved
loop-row-preserved c =
    let a = c.args in
    let row = c.loop-row.row in
    let h = c.loop-row-test.true in
    let asked = c.requires.0 in
    let inside : row < most_streams = omega (arith, asked.streams) in
    let d : SFits w64 c.element-diagonal.result = search rules in
    let size : length c.loop-row.tables ≡ table_size =
    ap length c.loop-row.invariant
    ∙ (rows_tabled a.task.streams a.task.width a.numbers.now a.tables.now asked.bits c.told-tables row (omega arith)).size in
    rows_more a.task.streams a.task.width a.numbers.now a.tables.now c.loop-row.tables row asked.bits inside size _ _
    (omega arith) (omega arith) _ _ _ c.fill_entries.new.entries c.fill_entries-in-loop-row.new.entries c.loop-row.invariant
    (to_z-of_z d ∙ c.element-diagonal.ensures) (priors_lent asked row h real _ (omega arith)) (priors_lent asked row h imaginary _ (omega arith))
    c.fill_entries.ensures c.fill_entries-in-loop-row.ensures
