-- The invariant: `least` is the place of the smallest of the first k keys, and `key` is that key.
use mathlib.Core.Path.{◌≡◌}
use Prim.Native.Nat.{◌<◌}
use lib.ListN.{get_or}
use Rattle.search_spec.specs.Arrays.{least_first}
use Rattle.enumeration.proofs.least_of.Given as goal

abbrev pub invariant-loop-k : goal.invariant-loop-k
invariant-loop-k l = (l.least < l.k) × (l.least ≡ least_first l.keys l.k) × (l.key ≡ get_or l.keys l.least 0)
