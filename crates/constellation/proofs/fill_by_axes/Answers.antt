-- The loop fills in one point after the other, from the amplitudes of the two halves of its label.
use mathlib.Core.Path.{◌≡◌, sym, ap, ap₂, ◌∙◌}
use Prim.Native.Nat.{ℕ, ◌-◌, ◌*◌, ◌/◌, ◌%◌, ◌^◌, ◌≤◌}
use native.Mathlib.Omega.{arith}
use lib.Pow.{shl_exact, pow_mono}
use mir.Syntax.{w8}
use mir.Facts.{to_z-of_z}
use mir.Val.{SFits}
use Rattle.std.proofs.Common.{rules}
use Rattle.model.specs.Constellation.{amplitude, bits_of}
use Rattle.model.proofs.Numbers.{first_half}
use Rattle.constellation.specs.Points.{complex_of}
use Rattle.constellation.proofs.Tables.{point_halves, none_filled, filled_more}
use Rattle.constellation.proofs.fill_by_axes.Goals as goal

-- As many symbols as labels of q bits
symbols : (q : ℕ) → q ≤ 6 → 1 * 2 ^ q % 2 ^ 64 ≡ 2 ^ q
symbols q h = omega (arith, shl_exact {a = 1} 1 q 64 (omega arith) (omega arith))

pub amplitude-requires : goal.amplitude-requires
amplitude-requires c =
    let q = c.args.q in
    (omega arith, rw c.real_label.ensures (first_half q c.loop-s.s (omega (arith, symbols q c.requires))))

pub loop-s-init : goal.loop-s-init
loop-s-init c = none_filled c.args.q _

pub loop-s-preserved : goal.loop-s-preserved
loop-s-preserved c =
    let q = c.args.q in
    let s = c.loop-s.s in
    let f : SFits w8 c.amplitude.result = search rules in
    let g : SFits w8 c.amplitude-in-loop-s.result = search rules in
    filled_more c.loop-s.invariant (omega (arith, symbols q c.requires, pow_mono c.requires)) _ _
    (ap₂ complex_of
    (to_z-of_z f ∙ c.amplitude.ensures ∙ ap (λ (g : ℕ). amplitude (bits_of (q - q / 2) g)) c.real_label.ensures)
    (to_z-of_z g ∙ c.amplitude-in-loop-s.ensures ∙ ap (λ (g : ℕ). amplitude (bits_of (q / 2) g)) c.imaginary_label.ensures)
    ∙ sym (point_halves q s))
