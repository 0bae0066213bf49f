use Rattle.std.proofs.Common.{arith}
use Rattle.wire.proofs.Runs.{writes_then}
use Rattle.lines.proofs.write_last.Goals as goal

pub returns : goal.returns
returns c =
    let field = c.write_field.ensures in
    (omega (arith, field.0, c.byte.ensures.wrote.ends), writes_then field.1 c.byte.ensures)
