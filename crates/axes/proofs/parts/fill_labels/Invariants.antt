-- The invariant: the first g places are filled.
use mathlib.Core.Path.{◌≡◌}
use Rattle.metric.specs.Parts.{filled}
use Rattle.axes.specs.Tables.{key_part}
use Rattle.axes.proofs.parts.fill_labels.Given as goal

abbrev pub invariant-loop-g : goal.invariant-loop-g
invariant-loop-g l = l.parts ≡ filled (key_part l.tables l.at l.left) l.g l.initial.parts
