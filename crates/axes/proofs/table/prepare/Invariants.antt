-- The invariant: the table is that with the rows so far.
use mathlib.Core.Path.{◌≡◌}
use Rattle.axes.specs.Tables.{rows_in}
use Rattle.axes.proofs.table.prepare.Given as goal

abbrev pub invariant-loop-row : goal.invariant-loop-row
invariant-loop-row l = l.tables ≡ rows_in l.m l.q l.numbers l.row l.initial.tables
