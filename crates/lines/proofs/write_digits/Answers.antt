-- The digits that io makes are the number's.
use Rattle.std.proofs.Common.{◌∙◌, ap, arith, length}
use Rattle.wire.proofs.Runs.{writes_same}
use Rattle.lines.proofs.Decimals.{decimal_is}
use Rattle.lines.proofs.write_digits.Goals as goal

pub bytes-requires : goal.bytes-requires
bytes-requires c =
    let k = c.decimal-k.ensures in omega (arith, ap length (k.digits ∙ decimal_is c.args.n c.decimal-k.result k.len))

pub returns : goal.returns
returns c =
    let k = c.decimal-k.ensures in writes_same (k.digits ∙ decimal_is c.args.n c.decimal-k.result k.len) c.bytes.ensures
