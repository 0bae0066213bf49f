-- Three fields.
use Rattle.std.proofs.Common.{arith}
use Rattle.wire.proofs.Runs.{writes_then}
use Rattle.lines.proofs.write_sizes.Goals as goal

pub returns : goal.returns
returns c =
    let m = c.write_field.ensures in
    let q = c.write_field-2.ensures in
    let n = c.write_field-3.ensures in
    (omega (arith, m.0, q.0, n.0), writes_then (writes_then m.1 q.1) n.1)
