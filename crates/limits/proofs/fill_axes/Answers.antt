-- The entries stand already, or the two axes are filled, one after the other.
use Prim.Native.Nat.{◌+◌, ◌-◌, ◌*◌, ◌/◌}
use mathlib.Core.Path.{◌≡◌, refl}
use native.Mathlib.Omega.{arith}
use Rattle.limits.proofs.Streams.{axes_stand, real_lent, imaginary_lent, axes_are}
use Rattle.limits.proofs.fill_axes.Goals as goal

pub returns-then-changed-eq0 : goal.returns-then-changed-eq0
returns-then-changed-eq0 c =
    let asked = c.requires in
    axes_stand c.args.q c.args.j c.args.limits.now asked.bits asked.label asked.inside asked.size (asked.stands c.if-changed-eq0.true)

pub returns : goal.returns
returns c =
    let q = c.args.q in
    let j = c.args.j in
    let old = c.args.limits.now in
    let asked = c.requires in
    let lent = c.split_at_mut-own.ensures in
    let halves = c.split_at.ensures in
    let n : (j + 1) * q - j * q ≡ q = omega arith in
    let re = real_lent q j old asked.bits asked.label asked.inside asked.size _ _ (q - q / 2) lent.front n refl in
    let im = imaginary_lent q j old asked.bits asked.label asked.inside asked.size _ _ (q - q / 2) lent.front n refl in
    axes_are q j old asked.bits asked.label asked.inside asked.size _ _ c.fill_axis_limits.new.entries c.fill_axis_limits-2.new.entries _ _
    lent.front lent.back (omega arith) (omega arith) re im
    (rw halves.front at c.fill_axis_limits.ensures) (rw halves.back at c.fill_axis_limits-2.ensures)
