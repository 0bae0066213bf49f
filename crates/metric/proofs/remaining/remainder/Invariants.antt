-- The invariant: what is left so far, less the entries from t on times their points, is what remains in the end; and each turn adds at
-- most the largest term to the magnitude of a part.
use mathlib.Core.Path.{◌≡◌}
use Prim.Native.Nat.{◌+◌, ◌*◌, ◌≤◌}
use lib.IntN.{nat_abs}
use Rattle.model.specs.Constellation.{◌⊖◌}
use Rattle.model.specs.Block.{most_received}
use Rattle.constellation.specs.Points.{complex_of}
use Rattle.metric.proofs.Remainders.{remains, rest_of, most_term}
use Rattle.metric.proofs.remaining.remainder.Given as goal

abbrev pub invariant-loop-t : goal.invariant-loop-t
invariant-loop-t l =
    (nat_abs l.left.re ≤ most_received + l.t * most_term)
    × (nat_abs l.left.im ≤ most_received + l.t * most_term)
    × (remains l.m l.q l.numbers l.level l.node ≡ complex_of l.left.re l.left.im ⊖ rest_of l.m l.q l.numbers l.level l.node l.t)
