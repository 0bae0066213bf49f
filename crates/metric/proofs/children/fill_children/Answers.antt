-- 64-QAM, 16-QAM or any other constellation: the same pass, over all children.
use Prim.Native.Nat.{◌^◌}
use native.Mathlib.Omega.{arith}
use Rattle.std.proofs.Common.{rules}
use Rattle.metric.proofs.Parted.{pass_parted}
use Rattle.metric.proofs.children.fill_children.Goals as goal

pub returns : goal.returns
returns c =
    let a = c.args in
    (search rules, pass_parted a.q a.shared a.axes.now a.keys.now (2 ^ a.q) (omega arith) c.requires.3 _ (search rules))
