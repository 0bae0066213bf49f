-- A symbol by its two labels: the real one its upper half, the imaginary one its lower.
use Prim.Native.Nat.{ℕ, ◌+◌, ◌-◌, ◌*◌, ◌/◌, ◌%◌, ◌^◌, ◌≤◌, ◌<◌, max}
use mathlib.Core.Path.{◌≡◌}
use mathlib.Core.List.{List}
use native.Mathlib.Nat.{mod-lt, zero-add}
use native.Mathlib.Omega.{arith}
use lib.Bits.{bit_xor, bit_and, and_mask, xor_lt, xor_shr, xor_mod}
use lib.ListN.{get_or}
use lib.Pow.{pow_pos}
use Rattle.model.specs.Block.{most_width}
use Rattle.metric.specs.Parts.{axis_width, span, child_metric}
use Rattle.axes.specs.Tables.{Axis, axis_bits}
use Rattle.axes.proofs.Tables.{axis_few}
use Rattle.model.proofs.Numbers.{first_half}
use Rattle.bounding.specs.Cut.{symbol_reach, Beyond}
use Rattle.bounding.specs.Axes.{WidestLast}
use Rattle.bounding.proofs.Runs.{NoneOver, labels_few}

pub imaginary_lt : (q s : ℕ) → s % 2 ^ (q / 2) < 2 ^ (q / 2)
imaginary_lt q s = mod-lt s (pow_pos (q / 2))

-- The number of an axis's labels, of a row's two
pub labels : (q : ℕ) (x : Axis) → q ≤ most_width
    → (1 * 2 ^ axis_bits q x % 2 ^ 64 ≡ 2 ^ axis_bits q x) × (1 ≤ 2 ^ axis_bits q x) × (2 ^ axis_bits q x ≤ span)
labels q x h = labels_few (axis_bits q x) (axis_few q x h)

-- The low bits of a symbol are its imaginary label
pub masked : (w own : ℕ) → w ≤ axis_width → bit_and own (1 * 2 ^ w % 2 ^ 64 - 1) ≡ own % 2 ^ w
masked w own h = rw (labels_few w h).0 (and_mask own w)

-- With the parts of either axis, by a rule
module _ (q : ℕ) (re im : ℕ → ℕ) (row column : ℕ) where
  -- Where none of them is below its entry, no symbol is open by its own bits
  pub none_over : (entries : List ℕ) (own : ℕ)
      → NoneOver entries 0 (2 ^ (q - q / 2)) re column (own / 2 ^ (q / 2))
      → NoneOver entries span (2 ^ (q / 2)) im row (own % 2 ^ (q / 2))
      → (s : ℕ) → s < 2 ^ q → symbol_reach q entries (bit_xor s own) ≤ max (column + re (s / 2 ^ (q / 2))) (row + im (s % 2 ^ (q / 2)))
  unfolding symbol_reach
  none_over entries own over-re over-im s h =
      let a = s / 2 ^ (q / 2) in
      let r : get_or entries (bit_xor a (own / 2 ^ (q / 2))) 0 ≤ column + re a = simp zero-add at (over-re a (first_half q s h)) in
      let i = over-im (s % 2 ^ (q / 2)) (imaginary_lt q s) in
      rw (xor_shr s own (q / 2), xor_mod s own (q / 2)) (omega arith)

  -- Where none of them is below `row` and `column`, no child is below the sum of both, nor below a label's part with that of the other axis
  pub child_ge : (partial : ℕ) → ((a : ℕ) → a < 2 ^ (q - q / 2) → row ≤ re a) → ((b : ℕ) → b < 2 ^ (q / 2) → column ≤ im b)
      → (s : ℕ) → s < 2 ^ q
      → (partial + (row + column) ≤ child_metric q partial re im s)
      × (max (partial + column + re (s / 2 ^ (q / 2))) (partial + row + im (s % 2 ^ (q / 2))) ≤ child_metric q partial re im s)
  unfolding child_metric
  child_ge partial low_re low_im s h =
      let r = low_re (s / 2 ^ (q / 2)) (first_half q s h) in
      let i = low_im (s % 2 ^ (q / 2)) (imaginary_lt q s) in
      (omega arith, omega arith)

-- Where the widest entry of an axis of w bits is not above `low`, and no part with `other` is below that, none is below its entry
pub none_wider : (entries : List ℕ) (from w : ℕ) (part : ℕ → ℕ) (other low last label : ℕ) → WidestLast entries from w
    → ((g : ℕ) → g < 2 ^ w → low ≤ other + part g) → label < 2 ^ w → last ≡ from + (2 ^ w - 1) → get_or entries last 0 ≤ low
    → NoneOver entries from (2 ^ w) part other label
none_wider entries from w part other low last label widest least below here shut g h =
    omega (arith, rw here at shut, widest (bit_xor g label) (xor_lt w g label h below), least g h)

-- Where no part is below `row` and `column`, their sum is not below `base`, and no part with that of the other axis is below its entry,
-- every child would be cut
pub parts_beyond : (q partial : ℕ) (re im : ℕ → ℕ) (row column base : ℕ) (entries : List ℕ) (own : ℕ)
    → ((a : ℕ) → a < 2 ^ (q - q / 2) → row ≤ re a) → ((b : ℕ) → b < 2 ^ (q / 2) → column ≤ im b)
    → base ≤ partial + (row + column)
    → NoneOver entries 0 (2 ^ (q - q / 2)) re (partial + column) (own / 2 ^ (q / 2))
    → NoneOver entries span (2 ^ (q / 2)) im (partial + row) (own % 2 ^ (q / 2))
    → (s : ℕ) → s < 2 ^ q → Beyond q base entries own (child_metric q partial re im s) s
parts_beyond q partial re im row column base entries own low_re low_im low over-re over-im s h =
    let least = child_ge q re im row column partial low_re low_im s h in
    record {
      above_base = omega (arith, least.0);
      above_own = omega (arith, least.1, none_over q re im (partial + row) (partial + column) entries own over-re over-im s h);
    }

-- A child of a higher partial metric would be cut too
pub beyond_more : (q base : ℕ) (entries : List ℕ) (own d e s : ℕ) → Beyond q base entries own d s → d ≤ e → Beyond q base entries own e s
beyond_more q base entries own d e s cut h = record { above_base = omega (arith, cut.above_base); above_own = omega (arith, cut.above_own) }
