-- The invariant: the numbers before the i-th are in their ranges and their bytes counted, and those from it on decide.
use Rattle.records.proofs.Checking.{Checking}
use Rattle.records.proofs.NumberList.check.Given as goal

abbrev pub invariant-loop-i : goal.invariant-loop-i
invariant-loop-i l = Checking l.self.layout l.self.numbers.now l.i l.size
