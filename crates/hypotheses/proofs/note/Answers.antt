-- After i turns the first i bits are noted.
use mathlib.Core.Path.{refl}
use native.Mathlib.Omega.{arith}
use Rattle.hypotheses.proofs.Leaves.{none_noted, one_noted, limits_kept}
use Rattle.hypotheses.proofs.note.Goals as goal

pub loop-i-init : goal.loop-i-init
loop-i-init c = (none_noted _ _ _ _, refl)

pub loop-i-preserved : goal.loop-i-preserved
loop-i-preserved c = (
  one_noted _ _ _ _ (omega arith) c.loop-i.invariant.0 c.bit_at-bit.ensures c.minimum_place.ensures.0 c.lower.ensures,
  limits_kept c.args.minima.now c.loop-i.minima _ _ c.loop-i.invariant.1 c.minimum_place.ensures.1 c.lower.ensures,
)
