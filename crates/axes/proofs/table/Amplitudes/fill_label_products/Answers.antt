-- The invariant: the first g products are filled in. The diagonal entry is its bits inside the loop.
use mathlib.Core.Path.{◌≡◌, refl, ap, ◌∙◌}
use native.Mathlib.Omega.{arith}
use lib.IntN.{nat_abs, ◌*ℤ◌}
use mir.Syntax.{w32, w64}
use mir.Val.{SFits, to_z, of_z}
use mir.Facts.{to_z-of_z}
use Rattle.std.proofs.Common.{rules}
use Rattle.model.specs.Constellation.{bits_of, amplitude}
use Rattle.metric.specs.Parts.{filled}
use Rattle.metric.proofs.Filled.{filled_more}
use Rattle.axes.specs.Tables.{label_product}
use Rattle.axes.proofs.Tables.{amplitude_few}
use Rattle.axes.proofs.table.Amplitudes.fill_label_products.Goals as goal

pub loop-g-init : goal.loop-g-init
unfolding filled
loop-g-init c = refl

-- The amplitude of the label of a turn
value : (c : goal.After-amplitude-amplitude) → c.amplitude-amplitude.result ≡ amplitude (bits_of c.args.self.bits c.loop-g.g)
value c = c.amplitude-amplitude.ensures ∙ c.requires.0.each c.loop-g.g (omega arith)

pub axis_product-requires : goal.axis_product-requires
axis_product-requires c =
    let d : SFits w64 c.args.diagonal = search rules in
    let a : SFits w64 c.amplitude-amplitude.result = search rules in
    simp to_z-of_z
    (c.requires.1, omega (arith, ap nat_abs (value c), amplitude_few c.args.self.bits c.loop-g.g c.requires.0.bits))

pub loop-g-preserved : goal.loop-g-preserved
unfolding label_product
loop-g-preserved c =
    let s = c.args.self in
    let d = to_z w64 (of_z w64 c.args.diagonal) in
    let a : SFits w64 c.amplitude-amplitude.result = search rules in
    let p : SFits w32 c.axis_product.result = search rules in
    let product : c.axis_product.result ≡ label_product d s.bits c.loop-g.g =
    c.axis_product.ensures ∙ ap (λ z. d *ℤ z) (to_z-of_z a ∙ value c.before) in
    rw (to_z-of_z p, product, c.loop-g.invariant) (filled_more (label_product d s.bits) c.loop-g.g c.args.products.now)
