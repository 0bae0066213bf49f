-- The entries of the symbol's two halves.
use Rattle.model.proofs.Numbers.{first_half}
use mathlib.Core.Path.{◌≡◌, ◌∙◌, ap}
use Prim.Native.Nat.{ℕ, ◌+◌, ◌-◌, ◌/◌, ◌%◌, ◌^◌, ◌≤◌, max}
use native.Mathlib.Omega.{arith}
use native.Mathlib.Nat.{mod-lt}
use lib.ListN.{get_or}
use lib.Bits.{bit_and, and_mask}
use lib.Pow.{pow_pos, pow_mono}
use Rattle.metric.specs.Parts.{axis_width}
use Rattle.axes.specs.Tables.Axis.{real, imaginary}
use Rattle.limits.specs.Reach.{entry_place, stream_reach}
use Rattle.limits.proofs.stream_reach.Goals as goal

-- The two halves are labels of an axis
pub bounds-limits-at : goal.bounds-limits-at
bounds-limits-at c =
    let q = c.args.q in
    let h : q - q / 2 ≤ axis_width = omega arith in
    omega (arith, first_half q c.args.symbol c.requires.2, pow_mono h)

mask : (symbol h n : ℕ) → n ≡ 2 ^ h → bit_and symbol (n - 1) ≡ symbol % 2 ^ h
mask symbol h n e = rw e (and_mask symbol h)

pub bounds-limits-at-2 : goal.bounds-limits-at-2
bounds-limits-at-2 c =
    let q = c.args.q in
    let h : q / 2 ≤ axis_width = omega arith in
    omega (arith, mask c.args.symbol (q / 2) c.labels.result c.labels.ensures.value, mod-lt c.args.symbol (pow_pos (q / 2)), pow_mono h)

pub returns : goal.returns
unfolding stream_reach
returns c =
    let a = c.args in
    let re = get_or a.limits.now (entry_place a.j real + a.symbol / 2 ^ (a.q / 2)) 0 in
    c.max.ensures
    ∙ ap (λ (n : ℕ). max re (get_or a.limits.now (entry_place a.j imaginary + n) 0)) (mask a.symbol (a.q / 2) c.labels.result c.labels.ensures.value)
