-- Of the opposed bits those from i on are seen; what is left of `opposed` are its bits before i.
use mathlib.Core.Path.{◌≡◌}
use Prim.Native.Nat.{◌≤◌, ◌-◌, ◌/◌, ◌^◌}
use Rattle.hypotheses.proofs.Narrowed.{NarrowedFrom}
use Rattle.hypotheses.proofs.narrow.Given as goal

abbrev pub invariant-loop-rest : goal.invariant-loop-rest
invariant-loop-rest l =
    (l.i ≤ l.n) × (l.rest ≡ l.opposed / 2 ^ (l.n - l.i)) × NarrowedFrom l.n l.leaf.bits l.opposed l.leaf.partial l.i l.initial.minima l.minima

abbrev pub decreases-loop-rest : goal.decreases-loop-rest
decreases-loop-rest l = l.i
