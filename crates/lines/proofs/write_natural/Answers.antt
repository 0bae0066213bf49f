-- A number below 2 to the 32 has at most ten digits.
use Rattle.std.proofs.Common.{arith}
use Rattle.lines.proofs.Decimals.{decimal_most}
use Rattle.lines.proofs.write_natural.Goals as goal

pub write_digits-requires : goal.write_digits-requires
write_digits-requires c = rw c.from.ensures (omega (arith, decimal_most 9 c.args.n (omega arith)))

pub returns : goal.returns
returns c =
    let w = rw c.from.ensures at c.write_digits.ensures in (omega (arith, w.wrote.ends, decimal_most 9 c.args.n (omega arith)), w)
