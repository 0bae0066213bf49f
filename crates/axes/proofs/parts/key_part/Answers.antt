-- A part is below 2^41 by far, so times 2^23 it fits 64 bits, with the cost behind it.
use mathlib.Core.Path.{◌≡◌}
use Prim.Native.Nat.{◌+◌, ◌*◌, ◌≤◌, ◌^◌}
use native.Mathlib.Omega.{arith}
use native.Mathlib.Nat.{mul-le-mul}
use lib.IntN.{nat_abs, ◌-ℤ◌}
use lib.Signed.{nat_abs-le}
use mir.Syntax.{w32}
use mir.Val.{to_z, of_z}
use mir.Facts.{to_z-of_z}
use Rattle.integers.proofs.Magnitudes.{nat_abs-sub}
use Rattle.metric.specs.Parts.{remainder_bound}
use Rattle.axes.proofs.parts.key_part.Goals as goal

-- The part, and the cost as it is read
small : (c : goal.After-axis_part) → (c.axis_part.result ≤ 2 ^ 40 + 2 ^ 31) × (nat_abs (to_z w32 (of_z w32 c.args.cost)) ≤ 2 ^ 31)
small c =
    let a = c.args in
    let l = c.ranges.left in
    let p = c.ranges.product in
    let k = c.ranges.cost in
    let z = nat_abs (a.left -ℤ a.product) in
    let residual : z ≤ 2 * remainder_bound = omega (arith, nat_abs-sub a.left a.product) in
    let part : c.axis_part.result ≡ z * z + nat_abs a.cost = simp to_z-of_z at c.axis_part.ensures in
    let cost : nat_abs a.cost ≤ 2 ^ 31 = nat_abs-le a.cost k.sfits in
    (omega (arith, mul-le-mul residual residual), rw (to_z-of_z k) cost)

pub overflow_mul-result : goal.overflow_mul-result
overflow_mul-result c =
    omega (arith, small c)

pub overflow_add-result : goal.overflow_add-result
overflow_add-result c =
    omega (arith, small c)
