use Rattle.std.proofs.Common.{refl, length-set}
use Rattle.wire.proofs.Runs.{wrote_byte}
use Rattle.wire.proofs.buffer.Writer.byte.Goals as goal

pub returns : goal.returns
returns c = record { same_buffer = refl; size = length-set _ _ _; wrote = wrote_byte _ _ _ }
