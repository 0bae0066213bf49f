-- The invariant: the children of the first a real labels have their whole shared metric, and the other places are as before the pass.
use mathlib.Core.Path.{◌≡◌}
use Prim.Native.Nat.{◌*◌}
use Rattle.metric.specs.Parts.{measured_to}
use Rattle.metric.proofs.children.Pass.fill_rows.Given as goal

abbrev pub invariant-loop-a : goal.invariant-loop-a
invariant-loop-a l = l.keys ≡ measured_to l.self.q l.self.shared l.self.axes.now (l.a * l.n) l.initial.keys
