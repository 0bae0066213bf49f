-- Three pieces, one after the other.
use Rattle.std.proofs.Common.{arith}
use Rattle.wire.proofs.Runs.{writes_then}
use Rattle.lines.proofs.write_values.Goals as goal

pub returns : goal.returns
returns c =
    let soft = c.write_soft.ensures in
    let distance = c.write_distance.ensures in
    let end = c.byte.ensures in
    (omega (arith, soft.0, distance.0, end.wrote.ends), writes_then (writes_then soft.1 distance.1) end)
