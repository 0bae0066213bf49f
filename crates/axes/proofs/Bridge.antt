-- The parts of both axes at a node, filled in by the table: a label's place holds what it adds to a key, and the two of a symbol give its child's.
use Prim.Native.Nat.{ℕ, suc, ◌+◌, ◌-◌, ◌*◌, ◌/◌, ◌%◌, ◌^◌, ◌≤◌, ◌<◌}
use mathlib.Core.Path.{◌≡◌, sym, ◌∙◌, ap, ap₂, subst}
use mathlib.Core.List.{List, []}
use native.Mathlib.Nat.{le_refl, le_of_lt, zero-add, mod-lt, mul-le-mul}
use native.Mathlib.Omega.{arith}
use lib.ListN.{length, get_or}
use lib.Pow.{pow_mono, pow_pos}
use lib.IntN.{ℤ, pos, nat_abs, ◌-ℤ◌, ◌*ℤ◌}
use Rattle.integers.proofs.Magnitudes.{nat_abs-sub, nat_abs-mul_le}
use Rattle.model.specs.Constellation.{Complex, bits_of, amplitude}
use Rattle.model.specs.Block.{Every, Within, most_width, most_entry, most_prior}
use Rattle.model.proofs.Numbers.{first_half, length-bits_of}
use Rattle.model.proofs.Bounds.{prior_cost_bound}
use Rattle.metric.specs.Keys.{keyed}
use Rattle.metric.specs.Parts.{remainder_bound, axis_width, span, part, axis_distance, axis_cost, axis_part, real_in, imaginary_in, child_metric, filled_from, AllSmall}
use Rattle.metric.specs.Parts.{nearest_of}
use Rattle.metric.specs.Rows.{row_start, row_at, child_of, symbol_cost_in, VectorAsked, Measured}
use Rattle.axes.specs.Tables.{Axis, axis_place, axis_bits, axis_prior, label_product, label_cost, Tabled, table_part, key_part, parts_in, AxisAsked}
use Rattle.axes.specs.Tables.Axis.{real, imaginary}
use Rattle.metric.proofs.Filled.{from_length, from_before, from_at, from_all}
use Rattle.metric.proofs.Increments.{part_length, priors_split, costs_by, increment_by}
use Rattle.metric.proofs.Rows.{diagonal_within}
use Rattle.axes.proofs.Tables.{amplitude_few, axis_few, place_room, axis_priors}
use Rattle.metric.proofs.Remainders.{remains}
use Rattle.metric.proofs.Folds.{nearest_le}

-- The parts of the labels of an axis of a row
abbrev part_of : ℕ → ℕ → List ℤ → ℕ → Axis → ℤ → ℕ → ℕ
part_of m q numbers level x left =
    axis_part left (get_or numbers (row_start m level) (pos 0)) (part numbers (axis_prior m q level x) (axis_bits q x)) (axis_bits q x)

-- Their prior costs
abbrev cost_of : ℕ → ℕ → List ℤ → ℕ → Axis → ℕ → ℕ
cost_of m q numbers level x = axis_cost (part numbers (axis_prior m q level x) (axis_bits q x)) (axis_bits q x)

-- Where an axis's parts begin in the array of both axes, and the array with them filled in by the table
abbrev axis_to : Axis → ℕ
axis_to real = 0
axis_to imaginary = span

abbrev axis_in : ℕ → List ℤ → ℕ → Axis → ℤ → List ℕ → List ℕ
axis_in q tables level x left = filled_from (axis_to x) (key_part tables (axis_place level x) left) (2 ^ axis_bits q x)

-- An axis label's part is small
axis_small : (left diagonal : ℤ) (priors : List ℤ) (w g : ℕ) → nat_abs left < remainder_bound → nat_abs diagonal ≤ most_entry → w ≤ axis_width
    → Every (Within most_prior) priors → axis_part left diagonal priors w g < 2 ^ 39
unfolding axis_part
axis_small left diagonal priors w g h k few all =
    omega (arith, mul-le-mul size size, prior_cost_bound priors (bits_of w g) all, length-bits_of w g)
  where
    size : nat_abs (left -ℤ diagonal *ℤ amplitude (bits_of w g)) ≤ remainder_bound + 2 ^ 15
    size =
        omega (
          arith,
          nat_abs-sub left (diagonal *ℤ amplitude (bits_of w g)),
          nat_abs-mul_le diagonal (amplitude (bits_of w g)) k (le_of_lt (amplitude_few w g few)),
        )

-- No squared distance is below the square of the nearest, and so no part
pub distance_near : (left diagonal : ℤ) (w g : ℕ)
    → let n = nearest_of (nat_abs diagonal) w (nat_abs left) in
    n * n ≤ axis_distance left diagonal w g
distance_near left diagonal w g =
    let h = subst (λ (n : ℕ). nearest_of (nat_abs diagonal) n (nat_abs left) ≤ nat_abs (left -ℤ diagonal *ℤ amplitude (bits_of w g)))
    (length-bits_of w g) (nearest_le left diagonal (bits_of w g)) in
    mul-le-mul h h

-- The two halves of a symbol's label are labels of the two axes
to_room : (q : ℕ) (x : Axis) → q ≤ most_width → axis_to x + 2 ^ axis_bits q x ≤ 2 * span
to_room q real h = omega (arith, pow_mono (axis_few q real h))
to_room q imaginary h = omega (arith, pow_mono (axis_few q imaginary h))

module _ {m q : ℕ} {numbers : List ℤ} (asked : VectorAsked m q numbers) (level : ℕ) (inside : level < m) where
  -- Two labels' prior costs have room in a key
  cost_few : (x : Axis) (g : ℕ) → cost_of m q numbers level x g < 2 ^ 22
  cost_few x g =
      omega (
        arith,
        prior_cost_bound (part numbers (axis_prior m q level x) (axis_bits q x)) (bits_of (axis_bits q x) g) (axis_priors asked level inside x),
        ap (λ (n : ℕ). n * most_prior) (length-bits_of (axis_bits q x) g),
        mul-le-mul (axis_few q x asked.bits) (le_refl most_prior),
      )

  module _ {tables : List ℤ} (tabled : Tabled m q numbers tables) (x : Axis) (left : ℤ) (low : nat_abs left < remainder_bound) where
    few : axis_bits q x ≤ axis_width
    few = axis_few q x asked.bits

    product_few : (g : ℕ) → g < 2 ^ axis_bits q x → nat_abs (get_or tables (axis_place level x + g) (pos 0)) < remainder_bound
    unfolding label_product
    product_few g h =
        omega (
          arith,
          ap nat_abs ((tabled.axes level inside x).product g h),
          nat_abs-mul_le (get_or numbers (row_start m level) (pos 0)) (amplitude (bits_of (axis_bits q x) g)) (diagonal_within asked level inside)
              (le_of_lt (amplitude_few (axis_bits q x) g few)),
        )

    -- What measuring an axis by the table asks
    pub axis_asked : AxisAsked tables (axis_place level x) left (axis_bits q x)
    unfolding label_cost
    axis_asked = record {
      bits = few;
      room = place_room level x (omega (arith, asked.streams));
      remains = low;
      product = product_few;
      cost = λ g h. let e = (tabled.axes level inside x).cost g h in e ∙ ap (λ (z : ℤ). pos (nat_abs z)) (sym e);
    }

    -- An axis label's part by the table
    part_by : (g : ℕ) → g < 2 ^ axis_bits q x → table_part tables (axis_place level x) left g ≡ part_of m q numbers level x left g
    unfolding table_part axis_part label_product label_cost
    part_by g h =
        ap₂ (λ (p c : ℤ). nat_abs (left -ℤ p) * nat_abs (left -ℤ p) + nat_abs c)
        ((tabled.axes level inside x).product g h) ((tabled.axes level inside x).cost g h)

    part_low : (g : ℕ) → g < 2 ^ axis_bits q x → table_part tables (axis_place level x) left g < 2 ^ 39
    part_low g h =
        rw (part_by g h)
        (axis_small left _ _ (axis_bits q x) g low (diagonal_within asked level inside) few (axis_priors asked level inside x))

    pub part_small : (g : ℕ) → g < 2 ^ axis_bits q x → table_part tables (axis_place level x) left g < 2 ^ 62
    part_small g h = omega (arith, part_low g h)

    -- What it adds to a key
    key_by : (g : ℕ) → g < 2 ^ axis_bits q x
        → key_part tables (axis_place level x) left g ≡ keyed (part_of m q numbers level x left g) (cost_of m q numbers level x g)
    unfolding key_part label_cost
    key_by g h = ap₂ keyed (part_by g h) (ap nat_abs ((tabled.axes level inside x).cost g h))

    key_small : (g : ℕ) → g < 2 ^ axis_bits q x → key_part tables (axis_place level x) left g < 2 ^ 62
    key_small g h = omega (arith, key_by g h, part_by g h, part_low g h, cost_few x g)

    -- What filling an axis in makes of the array: its entries are small, and the axis's places hold what its labels add
    module _ (axes : List ℕ) (size : length axes ≡ 2 * span) where
      in_small : AllSmall axes → AllSmall (axis_in q tables level x left axes)
      in_small small =
          from_all (λ (n : ℕ). n < 2 ^ 62) (axis_to x) _ (2 ^ axis_bits q x) axes 0 (omega (arith, to_room q x asked.bits))
          key_small small

      in_at : (g : ℕ) → g < 2 ^ axis_bits q x
          → get_or (axis_in q tables level x left axes) (axis_to x + g) 0 ≡ keyed (part_of m q numbers level x left g) (cost_of m q numbers level x g)
      in_at g h = from_at (axis_to x) _ (2 ^ axis_bits q x) axes g 0 h (omega (arith, to_room q x asked.bits)) ∙ key_by g h

  -- The prior costs of a symbol's two labels make its own
  costs_are : (s : ℕ) → symbol_cost_in m q numbers level s ≡ cost_of m q numbers level real (s / 2 ^ (q / 2)) + cost_of m q numbers level imaginary (s % 2 ^ (q / 2))
  unfolding row_at
  costs_are s =
      costs_by q (row_at m q numbers level) s [] _ _ (priors_split numbers (axis_prior m q level real) q) (part_length numbers (axis_prior m q level real) _)

  module _ (node : ℕ) (left : Complex) (is : left ≡ remains m q numbers level node) where
    abbrev real_part : ℕ → ℕ
    real_part = part_of m q numbers level real left.re

    abbrev imaginary_part : ℕ → ℕ
    imaginary_part = part_of m q numbers level imaginary left.im

    -- A child's partial metric by the parts of its two axis labels
    child_by : (d s : ℕ) → child_metric q d real_part imaginary_part s ≡ child_of m q numbers level node d s
    unfolding child_metric child_of row_at
    child_by d s =
        ap (λ (x : ℕ). d + x)
        (ap₂ (λ (z : Complex) (d : ℤ). axis_part z.re d re w (s / 2 ^ (q / 2)) + axis_part z.im d im (q / 2) (s % 2 ^ (q / 2)))
        is (asked.plain level inside)
        ∙ sym (increment_by q (row_at m q numbers level) s (bits_of ((m - suc level) * q) node) re im (priors_split numbers (axis_prior m q level real) q)
        (part_length numbers (axis_prior m q level real) w)))
      where
        w : ℕ
        w = q - q / 2

        re : List ℤ
        re = part numbers (axis_prior m q level real) w

        im : List ℤ
        im = part numbers (axis_prior m q level imaginary) (q / 2)

    -- It is at least what the squared distances alone come to
    pub child_distances : (d s : ℕ)
        → let r = pos (nat_abs (get_or numbers (row_start m level) (pos 0))) in
        child_metric q d (axis_distance left.re r (q - q / 2)) (axis_distance left.im r (q / 2)) s ≤ child_of m q numbers level node d s
    unfolding child_metric axis_part
    child_distances d s = rw (← child_by d s, ← asked.plain level inside) (omega arith)

    module _ {tables : List ℤ} (tabled : Tabled m q numbers tables)
        (low_re : nat_abs left.re < remainder_bound) (low_im : nat_abs left.im < remainder_bound) where
      -- and by the table
      pub child_parts : (d s : ℕ) → s < 2 ^ q
          → child_of m q numbers level node d s
          ≡ child_metric q d (table_part tables (axis_place level real) left.re) (table_part tables (axis_place level imaginary) left.im) s
      unfolding child_metric
      child_parts d s h =
          sym
          (ap₂ (λ (a b : ℕ). d + (a + b)) (part_by tabled real left.re low_re (s / 2 ^ (q / 2)) (first_half q s h))
          (part_by tabled imaginary left.im low_im (s % 2 ^ (q / 2)) (mod-lt s (pow_pos (q / 2))))
          ∙ child_by d s)

    -- An array with both axes filled in by the table has the node's parts
    module _ {tables : List ℤ} (tabled : Tabled m q numbers tables)
        (low_re : nat_abs left.re < remainder_bound) (low_im : nat_abs left.im < remainder_bound)
        (axes : List ℕ) (size : length axes ≡ 2 * span) (small : AllSmall axes) where
      abbrev first : List ℕ
      first = axis_in q tables level real left.re axes

      abbrev second : List ℕ
      second = axis_in q tables level imaginary left.im first

      first_size : length first ≡ 2 * span
      first_size = from_length 0 _ (2 ^ (q - q / 2)) axes ∙ size

      real_at : (a : ℕ) → a < 2 ^ (q - q / 2) → real_in second a ≡ keyed (real_part a) (cost_of m q numbers level real a)
      real_at a h =
          from_before span _ (2 ^ (q / 2)) first a 0 (omega (arith, pow_mono (axis_few q real asked.bits)))
          ∙ rw (zero-add a) at (in_at tabled real left.re low_re axes size a h)

      imaginary_at : (b : ℕ) → b < 2 ^ (q / 2) → imaginary_in second b ≡ keyed (imaginary_part b) (cost_of m q numbers level imaginary b)
      imaginary_at b h = in_at tabled imaginary left.im low_im first first_size b h

      pub measured_by : (new : List ℕ) → new ≡ parts_in q tables level left.re left.im axes → Measured m q numbers level node new
      unfolding child_metric parts_in
      measured_by new e =
          rw e
          (record {
            size = from_length span _ (2 ^ (q / 2)) first ∙ first_size;
            small = in_small tabled imaginary left.im low_im first first_size (in_small tabled real left.re low_re axes size small);
            cheap = λ s h.
                omega (
                  arith,
                  costs_are s,
                  cost_few real (s / 2 ^ (q / 2)),
                  cost_few imaginary (s % 2 ^ (q / 2)),
                );
            child = λ d s h.
                omega (
                  arith,
                  real_at (s / 2 ^ (q / 2)) (first_half q s h),
                  imaginary_at (s % 2 ^ (q / 2)) (mod-lt s (pow_pos (q / 2))),
                  child_by d s,
                  costs_are s,
                );
          })
