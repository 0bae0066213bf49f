-- A number below 2 to the 39 has at most twelve digits.
use Rattle.std.proofs.Common.{arith}
use Rattle.lines.specs.Text.{blank}
use Rattle.lines.proofs.Decimals.{decimal_most}
use Rattle.lines.proofs.Pieces.{writes_field}
use Rattle.lines.proofs.write_distance.Goals as goal

pub write_digits-requires : goal.write_digits-requires
write_digits-requires c =
    let b = c.byte.ensures in
    omega (arith, decimal_most 11 c.args.distance (omega (arith, c.requires.0)), c.requires.1, b.wrote.ends, b.size)

pub returns : goal.returns
returns c =
    let w = c.write_digits.ensures in
    let few = decimal_most 11 c.args.distance (omega (arith, c.requires.0)) in
    (omega (arith, few, c.byte.ensures.wrote.ends, w.wrote.ends), writes_field blank c.args.distance c.byte.ensures w)
