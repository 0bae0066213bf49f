-- The opening, and three numbers of one group each.
use Rattle.std.proofs.Common.{arith}
use Rattle.wire.proofs.Runs.{writes_then}
use Rattle.replies.proofs.Steps.{writes_number, writes_numbers_none, one_byte}
use Rattle.replies.proofs.write_head.Goals as goal

pub returns : goal.returns
returns c =
    let a = c.args in (
      omega (arith, one_byte, c.opening.ensures.wrote.ends, c.number.ensures.wrote.ends, c.number-2.ensures.wrote.ends, c.number-3.ensures.wrote.ends),
      writes_then c.opening.ensures
          (writes_number a.m _ c.number.ensures (writes_number a.q _ c.number-2.ensures (writes_number a.n _ c.number-3.ensures writes_numbers_none))),
    )
