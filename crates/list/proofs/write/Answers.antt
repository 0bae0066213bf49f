-- The bytes of one write more follow those taken before.
use Rattle.std.proofs.Common.{arith}
use Rattle.list.proofs.Writing.{took_more}
use Rattle.list.proofs.write.Goals as goal

pub loop-taken-preserved : goal.loop-taken-preserved
loop-taken-preserved g c = (
  grind arith,
  took_more _ _ _ c.args.text.now _ _ c.loop-taken.invariant.0 c.loop-taken.invariant.1 c.in_ok-more.ensures.bytes,
)
