-- By the sign.
use Rattle.std.proofs.Common.{sym, ap, ◌≡◌, ◌∙◌, arith, w32, to_z, of_z, to_z-of_z}
use lib.IntN.{nat_abs}
use Rattle.wire.proofs.Runs.{writes_same}
use Rattle.lines.specs.Text.{field, blank, minus}
use Rattle.lines.proofs.Pieces.{value_negative, value_other}
use Rattle.lines.proofs.write_value.Goals as goal

pub returns-then-value-lt0 : goal.returns-then-value-lt0
returns-then-value-lt0 c =
    let w = c.write_field.ensures in
    let e : to_z w32 (of_z w32 c.args.value) ≡ c.args.value = to_z-of_z {w = w32} c.ranges.value in
    let size : c.unsigned_abs-size.result ≡ nat_abs c.args.value = rw e at c.unsigned_abs-size.ensures.value in
    (omega (arith, w.0), writes_same (ap (field minus) size ∙ sym (value_negative c.args.value (rw e at c.if-value-lt0.true))) w.1)

pub returns-else-value-lt0 : goal.returns-else-value-lt0
returns-else-value-lt0 c =
    let w = c.write_field-else-value-lt0.ensures in
    let e : to_z w32 (of_z w32 c.args.value) ≡ c.args.value = to_z-of_z {w = w32} c.ranges.value in
    let size : c.unsigned_abs-size.result ≡ nat_abs c.args.value = rw e at c.unsigned_abs-size.ensures.value in
    (omega (arith, w.0), writes_same (ap (field blank) size ∙ sym (value_other c.args.value (rw e at c.if-value-lt0.false))) w.1)
