-- The loop fills in one point after the other, from the amplitudes of the two halves of its label.
use Rattle.constellation.specs.Points.{FilledTo}
use Rattle.constellation.proofs.fill_by_axes.Given as goal

abbrev pub invariant-loop-s : goal.invariant-loop-s
invariant-loop-s l = FilledTo l.q l.s l.initial.points l.points
