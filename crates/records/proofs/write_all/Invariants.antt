-- Behind the opening the numbers from the i-th on are left to write.
use Rattle.wire.proofs.Runs.{Left}
use Rattle.records.proofs.Checking.{bytes_from}
use Rattle.records.proofs.write_all.Given as goal

abbrev pub invariant-loop-i : goal.invariant-loop-i
invariant-loop-i l = Left l.initial.writer (bytes_from l.fn.layout l.numbers 0) l.writer (bytes_from l.fn.layout l.numbers l.i)
