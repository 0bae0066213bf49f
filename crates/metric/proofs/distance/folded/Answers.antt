-- The invariant: folding the distance k times more gives the nearest one. It stays in its range, for the middles are in it too.
use mathlib.Core.Path.{◌≡◌, ◌∙◌, ap}
use Prim.Native.Nat.{◌-◌, ◌*◌, ◌≤◌, ◌^◌}
use native.Mathlib.Nat.{mul-le-mul}
use native.Mathlib.Omega.{arith}
use lib.Pow.{pow_mono, shl_exact}
use mir.Facts.{to_z-of_z}
use Rattle.model.specs.Block.{most_entry}
use Rattle.metric.specs.Parts.{axis_width, span, apart, nearest_of}
use Rattle.metric.proofs.Folds.{fold_more, fold_none}
use Rattle.metric.proofs.distance.folded.Goals as goal

pub loop-k-preserved : goal.loop-k-preserved
loop-k-preserved c =
    let a = c.args in
    let k = c.loop-k.k - 1 in
    let middle : a.diagonal * 2 ^ k ≤ most_entry * span = mul-le-mul c.requires.1 (pow_mono {j = axis_width} (omega arith)) in
    let next : c.abs_diff-distance.result ≡ apart c.loop-k.distance (a.diagonal * 2 ^ k) =
    c.abs_diff-distance.ensures ∙ ap (apart c.loop-k.distance) (shl_exact 11 k 64 (omega arith) (omega arith)) in
    (omega arith, ap (nearest_of a.diagonal k) next ∙ fold_more a.diagonal c.loop-k.k c.loop-k.distance (omega arith) ∙ c.loop-k.invariant.1)

pub returns : goal.returns
returns c =
    let f = c.ranges.e in
    (omega (arith, fold_none c.args.diagonal c.loop-k.k c.loop-k.distance (omega arith), simp to_z-of_z at c.loop-k.invariant.1), c.loop-k.invariant.0)
