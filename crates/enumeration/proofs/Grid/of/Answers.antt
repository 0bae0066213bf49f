-- Shifts are powers of 2, and an axis has at most a span of labels.
use Prim.Native.Nat.{◌-◌, ◌/◌, ◌≤◌}
use native.Mathlib.Omega.{arith}
use lib.Pow.{pow_pos, pow_mono}
use Rattle.metric.specs.Parts.{axis_width}
use Rattle.metric.proofs.Shifts.{one_shifted}
use Rattle.enumeration.proofs.Grid.of.Goals as goal

pub returns : goal.returns
returns c =
    let q = c.args.q in
    let rows : q - q / 2 ≤ axis_width = omega arith in
    let columns : q / 2 ≤ axis_width = omega arith in
    rw (one_shifted q (omega arith), one_shifted (q - q / 2) (omega arith), one_shifted (q / 2) (omega arith))
    (omega arith, omega arith, omega arith, pow_pos (q - q / 2), pow_pos (q / 2), pow_mono rows, pow_mono columns)
