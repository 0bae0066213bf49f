-- The invariant: the widest of the streams so far.
use mathlib.Core.Path.{◌≡◌}
use mathlib.Core.Bool.{true}
use Prim.Native.Nat.{◌-◌}
use Rattle.search_spec.specs.Reach.{widest_of}
use Rattle.limits.specs.Reach.{stream_reach, symbol_of}
use Rattle.limits.proofs.chosen.Given as goal

abbrev pub invariant-loop-j : goal.invariant-loop-j
invariant-loop-j l = l.widest ≡ widest_of (λ _. true) (λ j. stream_reach l.q l.limits j (symbol_of l.m l.q l.bits j)) l.level (l.j - l.level)
