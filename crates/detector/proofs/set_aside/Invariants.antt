-- D - M is still to be set aside for each vector from the k-th on.
use Rattle.detector.proofs.Shares.{Filling}
use Rattle.detector.proofs.set_aside.Given as goal

abbrev pub invariant-loop-k : goal.invariant-loop-k
invariant-loop-k l = Filling l.h.layout l.numbers l.k l.spare
