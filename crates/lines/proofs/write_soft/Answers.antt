-- The i-th value is written.
use Rattle.std.proofs.Common.{◌≡◌, ap, get_or, length, pos, arith, rules, SFits, w32, to_z-of_z}
use Rattle.wire.proofs.Runs.{left_more, left_none, writes_same}
use Rattle.lines.specs.Text.{value_text}
use Rattle.lines.proofs.Pieces.{soft_more, soft_none}
use Rattle.lines.proofs.write_soft.Goals as goal

pub loop-value-preserved : goal.loop-value-preserved
loop-value-preserved c =
    let soft = c.args.soft.now in
    let i = c.loop-value.value-index in
    let f : SFits w32 (get_or soft i (pos 0)) = search rules in
    let w = c.write_value.ensures in
    record {
      near = omega (arith, w.0, c.loop-value.invariant.near);
      left =
          left_more c.loop-value.invariant.left (soft_more soft i c.loop-value-test.true)
          (writes_same (ap value_text (to_z-of_z {w = w32} f)) w.1);
    }

pub returns : goal.returns
returns c =
    let e : c.loop-value.value-index ≡ length c.args.soft.now = omega arith in
    let i = c.loop-value.invariant in
    (omega (arith, e), left_none i.left (soft_none c.args.soft.now c.loop-value.value-index e))
