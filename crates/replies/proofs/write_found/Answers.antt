-- The mark takes one byte, and the two numbers after it at most four each.
use Rattle.std.proofs.Common.{◌∙◌, arith}
use Rattle.replies.proofs.Replies.{mark_small}
use Rattle.replies.proofs.Steps.{writes_number, writes_numbers_none, one_byte, four_bytes, mark_is}
use Rattle.replies.proofs.write_found.Goals as goal

pub returns : goal.returns
returns c =
    let a = c.args in
    let e = c.from.ensures ∙ mark_is a.stopped in
    let mark = rw e at c.number.ensures in (
      omega (
        arith,
        mark_small a.stopped,
        one_byte,
        four_bytes,
        mark.wrote.ends,
        c.number-2.ensures.wrote.ends,
        c.number-3.ensures.wrote.ends,
      ),
      writes_number _ _ mark (writes_number a.count _ c.number-2.ensures (writes_number a.label _ c.number-3.ensures writes_numbers_none)),
    )
