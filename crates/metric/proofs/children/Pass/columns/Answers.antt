-- 1 shifted by half the width, which is at most 4.
use native.Mathlib.Omega.{arith}
use lib.Pow.{pow_mono}
use Rattle.metric.specs.Parts.{axis_width}
use Rattle.metric.proofs.Shifts.{one_shifted}
use Rattle.metric.proofs.children.Pass.columns.Goals as goal
use Prim.Native.Nat.{◌/◌, ◌≤◌}

pub returns : goal.returns
returns c =
    let h : c.args.self.now.q / 2 ≤ axis_width = omega arith in
    (one_shifted (c.args.self.now.q / 2) (omega arith), omega (arith, one_shifted (c.args.self.now.q / 2) (omega arith), pow_mono h))
