-- Four pieces, one after the other.
use Rattle.std.proofs.Common.{arith}
use Rattle.wire.proofs.Runs.{writes_then}
use Rattle.lines.proofs.write_counts.Goals as goal

pub returns : goal.returns
returns c =
    let number = c.write_natural.ensures in
    let state = c.write_state.ensures in
    let label = c.write_field.ensures in
    let bits = c.write_field-2.ensures in (
      omega (arith, number.0, state.0, label.0, bits.0),
      writes_then (writes_then (writes_then number.1 state.1) label.1) bits.1,
    )
