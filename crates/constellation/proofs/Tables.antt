-- The constant tables: each computes to the points, or the amplitudes, of the Gray rule, which says each entry; a point by the two halves of its
-- label; and that neighbours on an axis differ in one bit.
use Prim.Native.Nat.{ℕ, ◌+◌, ◌-◌, ◌*◌, ◌/◌, ◌%◌, ◌^◌, ◌≤◌, ◌<◌}
use mathlib.Core.Path.{◌≡◌, refl, sym, ◌∙◌, ap, ap₂, subst}
use mathlib.Core.Logic.{◌≢◌, ⊎_elim}
use mathlib.Core.List.{List, [], map}
use native.Mathlib.Nat.{eq-or-lt_of_le, not-suc-le-zero, mul_assoc, mul_comm, mul-div_cancel, mod-eq_of_lt, mul-lt-mul_of_pos_right}
use native.Mathlib.Omega.{arith}
use lib.IntN.{ℤ, pos, ◌+ℤ◌}
use lib.ListN.{length, get_or, get_or-eq_default, set, length-set, take, drop}
use lib.Pow.{pow-add, pow_mono, pow_pos}
use lib.Seq.{get_or-take, get_or-drop, get_or-set_same, get_or-set_other}
use Rattle.model.specs.Constellation.{Complex, amplitude, bits_of, point, differences}
use Rattle.model.specs.Soft.{up_from}
use Rattle.model.specs.Block.{most_width}
use Rattle.model.proofs.Gray.{gray_neighbours}
use Rattle.model.proofs.Lists.{get_or-places}
use Rattle.model.proofs.Numbers.{length-bits_of, take_bits, drop_bits, low_bits}
use Rattle.constellation.specs.Points.{complex_of, places, Axes, point_in, Points, FilledTo, Filled}

-- The amplitudes of an axis of w bits, by rising label
unfoldable pub axis : ℕ → List ℤ
axis w = map (λ g. amplitude (bits_of w g)) (up_from 0 (2 ^ w))

-- The test of a whole table of axes: the places of w bits are the amplitudes of that axis
pub record AxesRight (table : List ℤ) : Type 0 where
  pub axes : map (λ w. take (2 ^ w) (drop (2 ^ w) table)) (up_from 0 4) ≡ map axis (up_from 0 4)

-- A table that passes it has each amplitude
pub table_axes : {table : List ℤ} → AxesRight table → Axes table
unfolding axis
table_axes {table} right = record {
  each = λ w g h k.
      sym (get_or-take (2 ^ w) (drop (2 ^ w) table) g (pos 0) k ∙ get_or-drop (2 ^ w) table g (pos 0))
      ∙ ap (λ (l : List ℤ). get_or l g (pos 0)) (part w h) ∙ get_or-places (λ i. amplitude (bits_of w i)) (pos 0) (2 ^ w) g k;
}
  where
    part : (w : ℕ) → w ≤ 3 → take (2 ^ w) (drop (2 ^ w) table) ≡ axis w
    part w h =
        sym (get_or-places (λ n. take (2 ^ n) (drop (2 ^ n) table)) [] 4 w (omega arith))
        ∙ ap (λ (l : List (List ℤ)). get_or l w []) right.axes ∙ get_or-places axis [] 4 w (omega arith)

-- A symbol's point, by the two halves of its label
pub point_halves : (q s : ℕ) → point (bits_of q s) ≡ complex_of (amplitude (bits_of (q - q / 2) (s / 2 ^ (q / 2)))) (amplitude (bits_of (q / 2) (s % 2 ^ (q / 2))))
unfolding point
point_halves q s =
    ap (λ (n : ℕ). complex_of (amplitude (take (n - n / 2) (bits_of q s))) (amplitude (drop (n - n / 2) (bits_of q s)))) (length-bits_of q s)
    ∙ ap₂ complex_of
    (ap amplitude (ap (λ (n : ℕ). take (q - q / 2) (bits_of n s)) whole ∙ take_bits (q - q / 2) (q / 2) s))
    (ap amplitude (ap (λ (n : ℕ). drop (q - q / 2) (bits_of n s)) whole ∙ drop_bits (q - q / 2) (q / 2) s ∙ sym (low_bits (q / 2) s)))
  where
    whole : q ≡ q - q / 2 + q / 2
    whole = omega arith

-- The test of a whole table: its numbers are the points of all symbols of q bits, by rising label
pub record Right (q : ℕ) (table : List ℤ) : Type 0 where
  pub points : map (point_in table) (up_from 0 (2 ^ q)) ≡ map (λ s. point (bits_of q s)) (up_from 0 (2 ^ q))

-- A table that passes it has each point, so what is said of points below holds of it
pub table_points : {q : ℕ} {table : List ℤ} → Right q table → Points q table
table_points {q} {table} right = record {
  each = λ s h.
      sym (get_or-places (point_in table) origin (2 ^ q) s h)
      ∙ ap (λ (l : List Complex). get_or l s origin) right.points ∙ get_or-places (λ i. point (bits_of q i)) origin (2 ^ q) s h;
}
  where
    origin : Complex
    origin = complex_of (pos 0) (pos 0)

-- The whole of an array is such a table of the widest symbols
pub table_filled : (old table : List ℤ) → Right most_width table → length old ≡ places → length table ≡ places → Filled most_width old table
table_filled old table right whole all = record {
  size = all ∙ sym whole;
  each = (table_points right).each;
  kept = λ i h. get_or-eq_default table (pos 0) (omega arith) ∙ sym (get_or-eq_default old (pos 0) (omega arith));
}

-- Nothing is filled in yet
pub none_filled : (q : ℕ) (old : List ℤ) → FilledTo q 0 old old
none_filled q old = record { size = refl; each = λ s h. absurd (not-suc-le-zero h); kept = λ i h. refl }

-- One point more is
pub filled_more : {q s : ℕ} {old now : List ℤ} → FilledTo q s old now → 2 * s + 1 < length now → (re im : ℤ)
    → complex_of re im ≡ point (bits_of q s) → FilledTo q (s + 1) old (set (set now (2 * s) re) (2 * s + 1) im)
filled_more {q} {s} {old} {now} f room re im e = record {
  size = length-set (set now (2 * s) re) (2 * s + 1) im ∙ length-set now (2 * s) re ∙ f.size;
  each = λ t h. ⊎_elim (λ (same : t ≡ s). rw same (ap₂ complex_of first second ∙ e)) (earlier t) (eq-or-lt_of_le (omega arith));
  kept = λ i h. other i (omega arith) (omega arith) ∙ f.kept i (omega arith);
}
  where
    new : List ℤ
    new = set (set now (2 * s) re) (2 * s + 1) im

    other : (i : ℕ) → i ≢ 2 * s → i ≢ 2 * s + 1 → get_or new i (pos 0) ≡ get_or now i (pos 0)
    other i h k = get_or-set_other (set now (2 * s) re) (2 * s + 1) i im (pos 0) k ∙ get_or-set_other now (2 * s) i re (pos 0) h

    first : get_or new (2 * s) (pos 0) ≡ re
    first =
        get_or-set_other (set now (2 * s) re) (2 * s + 1) (2 * s) im (pos 0) (omega arith)
        ∙ get_or-set_same now (2 * s) re (pos 0) (omega arith)

    second : get_or new (2 * s + 1) (pos 0) ≡ im
    second = get_or-set_same (set now (2 * s) re) (2 * s + 1) im (pos 0) (omega (arith, length-set now (2 * s) re))

    earlier : (t : ℕ) → t < s → point_in new t ≡ point (bits_of q t)
    earlier t h =
        ap₂ complex_of (other (2 * t) (omega arith) (omega arith)) (other (2 * t + 1) (omega arith) (omega arith)) ∙ f.each t h

-- What is filled in are the points
pub points_of : {q : ℕ} {old new : List ℤ} → Filled q old new → Points q new
points_of f = record { each = f.each }

module _ {q : ℕ} {points : List ℤ} (p : Points q points) where
  -- The amplitudes of the real axis stand at the symbols whose lower bits are 0
  pub real_axis : (g : ℕ) → g < 2 ^ (q - q / 2) → get_or points (g * (2 * 2 ^ (q / 2))) (pos 0) ≡ amplitude (bits_of (q - q / 2) g)
  real_axis g h =
      ap (λ (n : ℕ). get_or points n (pos 0)) place
      ∙ ap (λ (z : Complex). z.re) (p.each (g * 2 ^ (q / 2)) inside ∙ point_halves q (g * 2 ^ (q / 2)))
      ∙ ap (λ (n : ℕ). amplitude (bits_of (q - q / 2) n)) (mul-div_cancel g (pow_pos (q / 2)))
    where
      place : g * (2 * 2 ^ (q / 2)) ≡ 2 * (g * 2 ^ (q / 2))
      place = omega (arith, mul_assoc g 2 (2 ^ (q / 2)), mul_comm g 2, mul_assoc 2 g (2 ^ (q / 2)))

      whole : q - q / 2 + q / 2 ≡ q
      whole = omega arith

      inside : g * 2 ^ (q / 2) < 2 ^ q
      inside = subst (λ (n : ℕ). g * 2 ^ (q / 2) < n) (sym (pow-add 2 (q - q / 2) (q / 2)) ∙ ap (λ (n : ℕ). 2 ^ n) whole)
          (mul-lt-mul_of_pos_right h (pow_pos (q / 2)))

  -- Those of the imaginary axis stand at the first symbols
  pub imaginary_axis : (g : ℕ) → g < 2 ^ (q / 2) → get_or points (1 + g * 2) (pos 0) ≡ amplitude (bits_of (q / 2) g)
  imaginary_axis g h =
      ap (λ (n : ℕ). get_or points n (pos 0)) place ∙ ap (λ (z : Complex). z.im) (p.each g inside ∙ point_halves q g)
      ∙ ap (λ (n : ℕ). amplitude (bits_of (q / 2) n)) (mod-eq_of_lt h)
    where
      place : 1 + g * 2 ≡ 2 * g + 1
      place = omega arith

      half : q / 2 ≤ q
      half = omega arith

      inside : g < 2 ^ q
      inside = omega (arith, pow_mono half)

  -- Axis labels whose amplitudes are neighbours, 2 apart, differ in just one bit: the Gray rule's law for any width, and so for the table of
  -- 256 points
  module _ (a b : ℕ) where
    pub real_neighbours : a < 2 ^ (q - q / 2) → b < 2 ^ (q - q / 2)
        → get_or points (b * (2 * 2 ^ (q / 2))) (pos 0) ≡ get_or points (a * (2 * 2 ^ (q / 2))) (pos 0) +ℤ pos 2
        → differences (bits_of (q - q / 2) a) (bits_of (q - q / 2) b) ≡ 1
    real_neighbours h k e =
        gray_neighbours (bits_of (q - q / 2) a) (bits_of (q - q / 2) b) (length-bits_of (q - q / 2) a ∙ sym (length-bits_of (q - q / 2) b))
        (sym (real_axis b k) ∙ e ∙ ap (λ (z : ℤ). z +ℤ pos 2) (real_axis a h))

    pub imaginary_neighbours : a < 2 ^ (q / 2) → b < 2 ^ (q / 2)
        → get_or points (1 + b * 2) (pos 0) ≡ get_or points (1 + a * 2) (pos 0) +ℤ pos 2 → differences (bits_of (q / 2) a) (bits_of (q / 2) b) ≡ 1
    imaginary_neighbours h k e =
        gray_neighbours (bits_of (q / 2) a) (bits_of (q / 2) b) (length-bits_of (q / 2) a ∙ sym (length-bits_of (q / 2) b))
        (sym (imaginary_axis b k) ∙ e ∙ ap (λ (z : ℤ). z +ℤ pos 2) (imaginary_axis a h))
