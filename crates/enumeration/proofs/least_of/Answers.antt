-- The invariant: `least` is the place of the smallest of the first k keys, and `key` is that key.
use native.Mathlib.Omega.{arith}
use Rattle.search_spec.specs.Arrays.{smaller_at, least_first}
use Rattle.search_spec.proofs.Arrays.{least_take, least_keep}
use Rattle.enumeration.proofs.least_of.Goals as goal

pub loop-k-init : goal.loop-k-init
unfolding least_first smaller_at
loop-k-init c = grind arith

pub loop-k-preserved : goal.loop-k-preserved
loop-k-preserved c = grind (arith, least_take, least_keep)
