-- The invariant: the entries of the last b bits are there.
use mathlib.Core.Path.{◌≡◌}
use Prim.Native.Nat.{◌^◌}
use Rattle.metric.specs.Parts.{filled}
use Rattle.limits.proofs.Axes.{last_reach}
use Rattle.limits.proofs.fill_entry_limits.Given as goal

abbrev pub invariant-loop-b : goal.invariant-loop-b
invariant-loop-b l = l.entries ≡ filled (last_reach l.own l.b) (2 ^ l.b) l.fn.entries
