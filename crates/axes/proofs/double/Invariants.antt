-- The invariant: the first g entries are doubled.
use Rattle.axes.specs.Doubled.{DoubledTo}
use Rattle.axes.proofs.double.Given as goal

abbrev pub invariant-loop-g : goal.invariant-loop-g
invariant-loop-g g l = DoubledTo (goal.F-post g l.more) l.initial.entries l.entries l.n l.g
