use Rattle.std.proofs.Common.{arith}
use Rattle.lines.proofs.Pieces.{writes_field}
use Rattle.lines.proofs.write_field.Goals as goal

pub returns : goal.returns
returns c =
    let n = c.write_natural.ensures in
    (omega (arith, n.0, c.bytes.ensures.wrote.ends), writes_field c.args.word.now c.args.n c.bytes.ensures n.1)
