-- Of all soft values those from the i-th on are left to write.
use Rattle.wire.proofs.Runs.{Left}
use Rattle.replies.specs.Reply.{written}
use Rattle.replies.proofs.Steps.{soft_from}
use Rattle.replies.proofs.write_soft.Given as goal

abbrev pub invariant-loop-value : goal.invariant-loop-value
invariant-loop-value l = Left l.initial.reply (written (soft_from l.soft 0)) l.reply (written (soft_from l.soft l.value-index))
