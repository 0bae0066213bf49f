-- What is known of the children by the distances alone: no label's squared distance is below the square of the nearest on its axis, and no
-- child's partial metric is below what the squared distances of its two labels come to.
use Prim.Native.Nat.{ℕ, zero, suc, ◌+◌, ◌-◌, ◌*◌, ◌/◌, ◌%◌, ◌^◌, ◌≤◌, ◌<◌}
use mathlib.Core.Path.{◌≡◌}
use mathlib.Core.List.{List}
use native.Mathlib.Nat.{mul-le-mul}
use native.Mathlib.Omega.{arith}
use lib.IntN.{ℤ, pos, nat_abs}
use lib.ListN.{get_or}
use lib.Pow.{pow_mono}
use Rattle.model.specs.Constellation.{bits_of}
use Rattle.model.specs.Block.{most_entry}
use Rattle.constellation.specs.Points.{complex_of}
use Rattle.metric.specs.Parts.{remainder_bound, axis_width, span, axis_distance, nearest_of}
use Rattle.metric.specs.Rows.{row_start, row_at, remainder_of, child_of}
use Rattle.axes.specs.Tables.{Axis, axis_bits}
use Rattle.axes.specs.Tables.Axis.{real, imaginary}
use Rattle.axes.proofs.Bridge.{distance_near, child_distances}
use Rattle.metric.proofs.Rows.{diagonal_within}
use Rattle.axes.proofs.Tables.{axis_few}
use Rattle.bounding.specs.Cut.{OpensAsked, Beyond}
use Rattle.bounding.specs.Axes.{WidestLast, ByBits, BitAsked}
use Rattle.bounding.proofs.Runs.{NoneOver}
use Rattle.bounding.proofs.Halves.{none_wider, parts_beyond, beyond_more}

-- A distance's square
pub square_small : (n : ℕ) → n < remainder_bound → n * n < 2 ^ 60
square_small n h = let k : n ≤ remainder_bound - 1 = omega arith in omega (arith, mul-le-mul k k)

-- The nearest distance stays in its range
pub near_small : (diagonal w d : ℕ) → diagonal ≤ most_entry → w ≤ axis_width → d < remainder_bound → nearest_of diagonal w d < remainder_bound
unfolding nearest_of
near_small diagonal zero d h k l = l
near_small diagonal (suc w) d h k l =
    let few : w ≤ axis_width = omega arith in
    near_small diagonal w _ h few (omega (arith, mul-le-mul h (pow_mono {j = axis_width} few)))

-- Where an axis's entries begin among a stream's
abbrev pub entries_from : Axis → ℕ
entries_from real = 0
entries_from imaginary = span

entries_from_lem : (x : Axis) → entries_from x ≤ span
entries_from_lem real = omega arith
entries_from_lem imaginary = omega arith

module _ {m q row : ℕ} {re im : ℤ} {partial : ℕ} {numbers : List ℤ} {entries : List ℕ} {own : ℕ}
    (asked : OpensAsked m q row re im partial numbers entries own)
    (diagonal : ℕ) (stands : diagonal ≡ nat_abs (get_or numbers (row_start m row) (pos 0))) where
  -- No entry of an axis is wider than its last, nor than its bits
  widest_last : (x : Axis) → WidestLast entries (entries_from x) (axis_bits q x)
  widest_last real = asked.widest.real
  widest_last imaginary = asked.widest.imaginary

  by_bits : (x : Axis) → ByBits entries (entries_from x) (axis_bits q x)
  by_bits real = asked.widest.real_bits
  by_bits imaginary = asked.widest.imaginary_bits

  -- An axis with what remains on it, and its nearest distance. `other` is added to a squared distance, and `low` is not above the least
  module _ (x : Axis) (left : ℤ) (other near low label : ℕ) (is : near ≡ nearest_of diagonal (axis_bits q x) (nat_abs left))
      (least : low ≤ other + near * near) (below : label < 2 ^ axis_bits q x) where
    -- What holding the limits of its bits against the distances asks
    pub bit_asked : (from : ℕ) → nat_abs left < remainder_bound → other < 2 ^ 62 → from ≡ entries_from x
        → BitAsked left diagonal (axis_bits q x) other low entries from label
    bit_asked from remains added begins = rw begins (record {
      bits = axis_few q x asked.vector.bits;
      remains = remains;
      entry = omega (arith, stands, diagonal_within asked.vector row asked.inside);
      added = added;
      nearest = rw is at least;
      place = entries_from_lem x;
      stream = asked.stream;
      by_bits = by_bits x;
      label = below;
    })

    -- Where the widest entry is not above `low`, no squared distance with `other` is below its entry
    pub none_wide : (last : ℕ) → last ≡ entries_from x + (2 ^ axis_bits q x - 1) → get_or entries last 0 ≤ low
        → NoneOver entries (entries_from x) (2 ^ axis_bits q x) (axis_distance left (pos diagonal) (axis_bits q x)) other label
    none_wide last here shut =
        none_wider entries (entries_from x) (axis_bits q x) (axis_distance left (pos diagonal) (axis_bits q x)) other low last label
        (widest_last x) (λ g h. omega (arith, rw is at least, distance_near left (pos diagonal) (axis_bits q x) g)) below here shut

  -- Where the nearest distances of both axes are not below `base`, and no squared distance with that of the other axis is below its entry,
  -- every child would be cut
  pub all_beyond : (near_re near_im base : ℕ) → near_re ≡ nearest_of diagonal (q - q / 2) (nat_abs re)
      → near_im ≡ nearest_of diagonal (q / 2) (nat_abs im)
      → base ≤ partial + near_re * near_re + near_im * near_im
      → NoneOver entries 0 (2 ^ (q - q / 2)) (axis_distance re (pos diagonal) (q - q / 2)) (partial + near_im * near_im) (own / 2 ^ (q / 2))
      → NoneOver entries span (2 ^ (q / 2)) (axis_distance im (pos diagonal) (q / 2)) (partial + near_re * near_re) (own % 2 ^ (q / 2))
      → (node : ℕ) → complex_of re im ≡ remainder_of q (row_at m q numbers row) (bits_of ((m - suc row) * q) node)
      → (s : ℕ) → s < 2 ^ q → Beyond q base entries own (child_of m q numbers row node partial s) s
  all_beyond near_re near_im base is-re is-im low over-re over-im node is s h =
      beyond_more q base entries own _ _ s
      (parts_beyond q partial (axis_distance re (pos diagonal) (q - q / 2)) (axis_distance im (pos diagonal) (q / 2)) (near_re * near_re)
      (near_im * near_im) base entries own
      (λ a _. rw is-re (distance_near re (pos diagonal) (q - q / 2) a))
      (λ b _. rw is-im (distance_near im (pos diagonal) (q / 2) b)) (omega arith) over-re over-im s h)
      (rw stands (child_distances asked.vector row asked.inside node (complex_of re im) is partial s))
