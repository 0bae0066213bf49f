-- One axis, then the other.
use Prim.Native.Nat.{◌^◌}
use mathlib.Core.Path.{ap, ap₂, ◌∙◌}
use mathlib.Core.List.{◌++◌}
use native.Mathlib.Omega.{arith}
use lib.Pow.{pow_mono}
use mir.Syntax.{w64}
use mir.Val.{SFits}
use mir.Facts.{to_z-of_z}
use Rattle.integers.proofs.Fits.{sfits_abs}
use Rattle.metric.specs.Parts.{span, filled}
use Rattle.axes.specs.Tables.{axis_bits, parts_in}
use Rattle.axes.specs.Tables.Axis.{real, imaginary}
use Rattle.axes.proofs.Tables.{axis_few}
use Rattle.axes.proofs.Lent.{both_filled}
use Rattle.axes.proofs.Bridge.{axis_asked}
use Rattle.axes.proofs.parts.fill_parts.Goals as goal

pub fill_axis-requires : goal.fill_axis-requires
fill_axis-requires c =
    let a = c.args in
    let f : SFits w64 a.left.re = sfits_abs _ (omega (arith, c.requires.3)) in
    (simp to_z-of_z (axis_asked c.requires.0 a.row c.requires.2 c.requires.1 real a.left.re c.requires.3), omega arith)

pub fill_axis-requires-2 : goal.fill_axis-requires-2
fill_axis-requires-2 c =
    let a = c.args in
    let f : SFits w64 a.left.im = sfits_abs _ (omega (arith, c.requires.4)) in
    (simp to_z-of_z (axis_asked c.requires.0 a.row c.requires.2 c.requires.1 imaginary a.left.im c.requires.4), omega arith)

pub returns : goal.returns
unfolding parts_in
returns c =
    let a = c.args in
    let f : SFits w64 a.left.re = sfits_abs _ (omega (arith, c.requires.3)) in
    let g : SFits w64 a.left.im = sfits_abs _ (omega (arith, c.requires.4)) in
    let lent = c.split_at_mut-real.ensures in
    let re = simp to_z-of_z at c.fill_axis.ensures ∙ ap (filled _ _) lent.front in
    let im = simp to_z-of_z at c.fill_axis-2.ensures ∙ ap (filled _ _) lent.back in
    ap₂ ◌++◌ re im
    ∙ both_filled span _ _ (2 ^ axis_bits a.task.width real) _ a.axes.now (omega arith)
    (pow_mono (axis_few a.task.width real c.requires.0.bits))
