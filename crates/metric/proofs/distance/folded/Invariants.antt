-- The invariant: folding the distance k times more gives the nearest one. It stays in its range, for the middles are in it too.
use mathlib.Core.Path.{◌≡◌}
use Prim.Native.Nat.{◌<◌}
use lib.IntN.{nat_abs}
use Rattle.metric.specs.Parts.{remainder_bound, nearest_of}
use Rattle.metric.proofs.distance.folded.Given as goal

abbrev pub invariant-loop-k : goal.invariant-loop-k
invariant-loop-k l = (l.distance < remainder_bound) × (nearest_of l.diagonal l.k l.distance ≡ nearest_of l.diagonal l.w (nat_abs l.e))
