-- The table: what filling an axis's entries in makes of it, and what it asks.
use Prim.Native.Nat.{ℕ, zero, suc, ◌+◌, ◌-◌, ◌*◌, ◌/◌, ◌^◌, ◌≤◌, ◌<◌}
use mathlib.Core.Path.{◌≡◌, refl, sym, ◌∙◌, ap, ap₂, subst}
use mathlib.Core.List.{List, ◌++◌}
use native.Mathlib.Decide.{dec_lt}
use native.Mathlib.Nat.{zero-add, mul_assoc, mul_comm, not-suc-le-zero}
use native.Mathlib.Numerals.{add-one}
use native.Mathlib.Omega.{arith}
use lib.ListN.{length, get_or, take, drop}
use Rattle.std.proofs.lemmas.List.{ext_get_or, get_or-take, get_or-drop, length-take, length-drop, take-append-drop}
use lib.Pow.{pow_mono, pow_pos}
use lib.IntN.{ℤ, pos, nat_abs}
use borrow.Rule.Slice.PartMut.{mid_of, put_mid}
use Rattle.model.specs.Constellation.{bits_of, amplitude}
use Rattle.model.specs.Block.{Every, Within, most_streams, most_width, most_prior}
use Rattle.model.proofs.Lists.{every-up_from, get_or-places}
use Rattle.model.proofs.Gray.{amplitude_below}
use Rattle.model.proofs.Numbers.{length-bits_of}
use Rattle.constellation.specs.Points.{Points}
use Rattle.constellation.proofs.Tables.{real_axis, imaginary_axis}
use Rattle.metric.specs.Parts.{axis_width, span, part, filled_from}
use Rattle.metric.specs.Rows.{row_start, prior_start, VectorAsked}
use Rattle.axes.specs.Tables.{Axis, table_size, axis_place, axis_bits, axis_prior, label_product, label_cost, entries_in, axis_in, rows_in}
use Rattle.axes.specs.Tables.{AxisTabled, RowTabled, TabledTo, AmplitudesAsked, EntriesAsked}
use Rattle.axes.specs.Tables.Axis.{real, imaginary}
use Rattle.metric.proofs.Filled.{from_length, from_before, from_at}
use Rattle.metric.proofs.Grid.{row_room}
use Rattle.metric.proofs.Increments.{part_length}
use Rattle.axes.proofs.Lent.{before_filled, behind_filled}
use Rattle.metric.proofs.Rows.{priors_room, prior_within, diagonal_within}

-- The amplitude of an axis label is less than the span
pub amplitude_few : (w g : ℕ) → w ≤ axis_width → nat_abs (amplitude (bits_of w g)) < span
amplitude_few w g h = omega (arith, amplitude_below (bits_of w g), ap (λ (n : ℕ). 2 ^ n) (length-bits_of w g), pow_mono h)

-- An axis has at most half the bits of the widest symbol, and its entries stand before those of the rows after it
pub axis_few : (q : ℕ) (x : Axis) → q ≤ most_width → axis_bits q x ≤ axis_width
axis_few q real h = omega arith
axis_few q imaginary h = omega arith

pub place_room : (i : ℕ) (x : Axis) → i < most_streams → axis_place i x + 2 * span ≤ table_size
place_room i real h = omega arith
place_room i imaginary h = omega arith

places_rise : (i k : ℕ) (x : Axis) → i < k → axis_place i x + 2 * span ≤ axis_place k real
places_rise i k real h = omega arith
places_rise i k imaginary h = omega arith

module _ (tables : List ℤ) (at : ℕ) (diagonal : ℤ) (priors : List ℤ) (w : ℕ) where
  abbrev after : List ℤ
  after = entries_in tables at diagonal priors w

  entries_length : length after ≡ length tables
  unfolding entries_in
  entries_length =
      from_length (at + span) (label_cost priors w) (2 ^ w) _ ∙ from_length at (label_product diagonal w) (2 ^ w) tables

  entries_before : (i : ℕ) → i < at → get_or after i (pos 0) ≡ get_or tables i (pos 0)
  unfolding entries_in
  entries_before i h =
      from_before (at + span) (label_cost priors w) (2 ^ w) _ i (pos 0) (omega arith)
      ∙ from_before at (label_product diagonal w) (2 ^ w) tables i (pos 0) h

  -- The entries of an axis before it are kept
  entries_kept : {at' : ℕ} {diagonal' : ℤ} {priors' : List ℤ} {w' : ℕ} → w' ≤ axis_width → at' + 2 * span ≤ at
      → AxisTabled tables at' diagonal' priors' w' → AxisTabled after at' diagonal' priors' w'
  entries_kept {at'} few h t = record {
    product = λ g k. entries_before (at' + g) (omega (arith, pow_mono few)) ∙ t.product g k;
    cost = λ g k. entries_before (at' + span + g) (omega (arith, pow_mono few)) ∙ t.cost g k;
  }

  -- and its own made
  entries_made : length tables ≡ table_size → w ≤ axis_width → at + 2 * span ≤ table_size → AxisTabled after at diagonal priors w
  unfolding entries_in
  entries_made size few room = record {
    product =
        λ g h.
        from_before (at + span) (label_cost priors w) (2 ^ w) _ (at + g) (pos 0) (omega (arith, pow_mono few))
        ∙ from_at at (label_product diagonal w) (2 ^ w) tables g (pos 0) h (omega (arith, pow_mono few));
    cost =
        λ g h.
        from_at (at + span) (label_cost priors w) (2 ^ w) _ g (pos 0) h
        (omega (arith, pow_mono few, from_length at (label_product diagonal w) (2 ^ w) tables));
  }

-- One row more
module _ {m q : ℕ} {numbers tables : List ℤ} {k : ℕ} (few : q ≤ most_width) (inside : k < most_streams)
    (so_far : TabledTo m q numbers tables k) where
  abbrev diagonal : ℤ
  diagonal = get_or numbers (row_start m k) (pos 0)

  abbrev first : List ℤ
  first = axis_in m q numbers tables k diagonal real

  abbrev second : List ℤ
  second = axis_in m q numbers first k diagonal imaginary

  first_size : length first ≡ table_size
  first_size = entries_length tables (axis_place k real) _ _ _ ∙ so_far.size

  older : (i : ℕ) → i < k → (x : Axis) → RowTabled m q numbers second i x
  older i h x =
      entries_kept first (axis_place k imaginary) _ _ _ (axis_few q x few) (omega (arith, places_rise i k x h))
      (entries_kept tables (axis_place k real) _ _ _ (axis_few q x few) (places_rise i k x h) (so_far.axes i h x))

  newest : (x : Axis) → RowTabled m q numbers second k x
  newest real =
      entries_kept first (axis_place k imaginary) _ _ _ (axis_few q real few) (omega arith)
      (entries_made tables (axis_place k real) _ _ _ so_far.size (axis_few q real few) (place_room k real inside))
  newest imaginary =
      entries_made first (axis_place k imaginary) _ _ _ first_size (axis_few q imaginary few) (place_room k imaginary inside)

  pub tabled_more : (d : ℤ) (one two : List ℤ) → d ≡ diagonal → one ≡ axis_in m q numbers tables k d real
      → two ≡ axis_in m q numbers one k d imaginary → TabledTo m q numbers two (k + 1)
  tabled_more d one two e e₁ e₂ =
      rw (e₂, e₁, e)
      (record {
        size = entries_length first (axis_place k imaginary) _ _ _ ∙ first_size;
        axes = λ i h x. go i h x (dec_lt i k);
      })
    where
      go : (i : ℕ) → i < k + 1 → (x : Axis) → Dec (i < k) → RowTabled m q numbers second i x
      go i h x (yes l) = older i l x
      go i h x (no l) = let e : k ≡ i = omega arith in subst (λ (j : ℕ). RowTabled m q numbers second j x) e (newest x)

-- An axis's entries are filled in where a part of the table is lent
module _ (diagonal : ℤ) (priors : List ℤ) (w : ℕ) where
  lent_before : (at : ℕ) (a b : List ℤ) → at + 2 * span ≤ length a → w ≤ axis_width
      → entries_in a at diagonal priors w ++ b ≡ entries_in (a ++ b) at diagonal priors w
  unfolding entries_in
  lent_before at a b room few =
      before_filled (at + span) _ (2 ^ w) (filled_from at _ (2 ^ w) a) b
      (omega (arith, pow_mono few, from_length at (label_product diagonal w) (2 ^ w) a))
      ∙ ap (filled_from (at + span) _ (2 ^ w)) (before_filled at _ (2 ^ w) a b (omega (arith, pow_mono few)))

  lent_behind : (at n : ℕ) (a b : List ℤ) → length a ≡ n → a ++ entries_in b at diagonal priors w ≡ entries_in (a ++ b) (n + at) diagonal priors w
  unfolding entries_in
  lent_behind at n a b size =
      let e : n + (at + span) ≡ n + at + span = omega arith in
      behind_filled n (at + span) _ (2 ^ w) a (filled_from at _ (2 ^ w) b) size
      ∙ ap₂ (λ (i : ℕ) (l : List ℤ). filled_from i (label_cost priors w) (2 ^ w) l) e (behind_filled n at _ (2 ^ w) a b size)

  -- put back they are the table's
  pub entries_put : (at n : ℕ) (tables : List ℤ) → n ≡ 2 * span → at + 2 * span ≤ length tables → w ≤ axis_width
      → put_mid at n tables (entries_in (mid_of at n tables) 0 diagonal priors w) ≡ entries_in tables at diagonal priors w
  entries_put at n tables e room few =
      let z : at + 0 ≡ at = omega arith in
      let lent = mid_of at n tables in
      let behind = drop n (drop at tables) in
      ap (λ (l : List ℤ). take at tables ++ l)
      (lent_before 0 lent behind (omega (arith, length-take n (drop at tables), length-drop at tables)) few
      ∙ ap (λ (l : List ℤ). entries_in l 0 diagonal priors w) (take-append-drop n (drop at tables)))
      ∙ lent_behind 0 at (take at tables) (drop at tables) (omega (arith, length-take at tables))
      ∙ ap₂ (λ (l : List ℤ) (i : ℕ). entries_in l i diagonal priors w) (take-append-drop at tables) z

-- as those of an axis of a row
pub axis_put : (m q : ℕ) (numbers tables : List ℤ) (k : ℕ) (d : ℤ) (x : Axis) (n : ℕ) (priors new : List ℤ) → q ≤ most_width → k < most_streams
    → length tables ≡ table_size → n ≡ 2 * span → priors ≡ part numbers (axis_prior m q k x) (axis_bits q x)
    → new ≡ entries_in (mid_of (axis_place k x) n tables) 0 d priors (axis_bits q x)
    → put_mid (axis_place k x) n tables new ≡ axis_in m q numbers tables k d x
axis_put m q numbers tables k d x n priors new few inside size e ep en =
    rw (en, ep) (entries_put d _ (axis_bits q x) (axis_place k x) n tables e (omega (arith, place_room k x inside)) (axis_few q x few))

-- A row more of the table, as it is made: the entries of both axes are filled in and put back
module _ (m q : ℕ) (numbers old tables : List ℤ) (k : ℕ) (few : q ≤ most_width) (inside : k < most_streams) (size : length tables ≡ table_size)
    (n n' : ℕ) (e : n ≡ 2 * span) (e' : n' ≡ 2 * span) (d : ℤ) (re im one two : List ℤ) where
  abbrev with_real : List ℤ
  with_real = put_mid (axis_place k real) n tables one

  pub rows_more : tables ≡ rows_in m q numbers k old → d ≡ get_or numbers (row_start m k) (pos 0)
      → re ≡ part numbers (axis_prior m q k real) (axis_bits q real)
      → im ≡ part numbers (axis_prior m q k imaginary) (axis_bits q imaginary)
      → one ≡ entries_in (mid_of (axis_place k real) n tables) 0 d re (axis_bits q real)
      → two ≡ entries_in (mid_of (axis_place k imaginary) n' with_real) 0 d im (axis_bits q imaginary)
      → put_mid (axis_place k imaginary) n' with_real two ≡ rows_in m q numbers (k + 1) old
  unfolding rows_in
  rows_more so_far ed er ei e₁ e₂ =
      let first : with_real ≡ axis_in m q numbers tables k d real = axis_put m q numbers tables k d real n re one few inside size e er e₁ in
      let room : length with_real ≡ table_size = ap length first ∙ entries_length tables (axis_place k real) d _ (axis_bits q real) ∙ size in
      rw add-one
      (axis_put m q numbers with_real k d imaginary n' im two few inside room e' ei e₂
      ∙ ap₂ (λ (l : List ℤ) (z : ℤ). axis_in m q numbers l k z imaginary) first ed
      ∙ ap₂ (λ (l : List ℤ) (z : ℤ).
      axis_in m q numbers (axis_in m q numbers l k z real) k (get_or numbers (row_start m k) (pos 0)) imaginary) so_far ed)

-- It has the axes of the first k rows, whatever stood in it
pub rows_tabled : (m q : ℕ) (numbers old : List ℤ) → q ≤ most_width → length old ≡ table_size → (k : ℕ) → k ≤ most_streams
    → TabledTo m q numbers (rows_in m q numbers k old) k
unfolding rows_in
rows_tabled m q numbers old few size zero h = record { size = size; axes = λ i h. absurd (not-suc-le-zero h) }
rows_tabled m q numbers old few size (suc k) h =
    subst (TabledTo m q numbers (rows_in m q numbers (suc k) old)) (add-one k) (tabled_more few h (rows_tabled m q numbers old few size k (omega arith)) _ _ _ refl refl refl)

-- Numbers from a place on, as they are lent
part_lent : (numbers : List ℤ) (at n : ℕ) → at + n ≤ length numbers → take n (drop at numbers) ≡ part numbers at n
unfolding part
part_lent numbers at n room =
    ext_get_or (pos 0) _ _ (size ∙ sym (part_length numbers at n))
    (λ i h.
    let k : i < n = omega (arith, size) in
    rw (get_or-take, get_or-drop) (sym (get_or-places (λ j. get_or numbers (at + j) (pos 0)) (pos 0) n i k)))
  where
    size : length (take n (drop at numbers)) ≡ n
    size = omega (arith, length-take n (drop at numbers), length-drop at numbers)

module _ {m q : ℕ} {numbers : List ℤ} (asked : VectorAsked m q numbers) (level : ℕ) (inside : level < m) where
  -- The priors of an axis: w of the row's from a place on
  within : (from at w : ℕ) → at ≡ prior_start m q level + from → from + w ≤ q → Every (Within most_prior) (part numbers at w)
  unfolding part
  within from at w e h =
      every-up_from (Within most_prior) (λ i. get_or numbers (at + i) (pos 0)) 0 w
      (λ i k.
      let e : at + i ≡ prior_start m q level + (from + i) = omega arith in
      rw e (prior_within asked level inside (from + i) (omega arith)))

  pub axis_priors : (x : Axis) → Every (Within most_prior) (part numbers (axis_prior m q level x) (axis_bits q x))
  axis_priors real = within 0 (axis_prior m q level real) (axis_bits q real) (omega arith) (omega arith)
  axis_priors imaginary = within (q - q / 2) (axis_prior m q level imaginary) (axis_bits q imaginary) (omega arith) (omega arith)

  pub prior_room : (x : Axis) → axis_prior m q level x + axis_bits q x ≤ length numbers
  prior_room real = omega (arith, priors_room asked level inside)
  prior_room imaginary = omega (arith, priors_room asked level inside)

  -- They are lent as a part of the numbers
  pub priors_lent : (x : Axis) (n : ℕ) → n ≡ axis_bits q x
      → take n (drop (axis_prior m q level x) numbers) ≡ part numbers (axis_prior m q level x) (axis_bits q x)
  priors_lent x n e = rw e (part_lent numbers (axis_prior m q level x) (axis_bits q x) (prior_room x))

  -- What making an axis's entries asks
  pub entries_asked : (x : Axis) (priors : List ℤ) (diagonal : ℤ) → priors ≡ part numbers (axis_prior m q level x) (axis_bits q x)
      → diagonal ≡ get_or numbers (row_start m level) (pos 0) → EntriesAsked priors diagonal (axis_bits q x)
  entries_asked x priors diagonal e d =
      let size : length priors ≡ axis_bits q x = ap length e ∙ part_length numbers (axis_prior m q level x) (axis_bits q x) in
      record {
        each = record {
          bits = omega (arith, size, axis_few q x asked.bits);
          range = rw e (axis_priors x);
        };
        bits = size;
        entry = omega (arith, ap nat_abs d, diagonal_within asked level inside);
      }

-- The amplitudes of both axes stand in the points
module _ {q : ℕ} {points : List ℤ} (p : Points q points) (few : q ≤ most_width) where
  pub real_amplitudes : (step : ℕ) → step ≡ 2 * 2 ^ (q / 2) → AmplitudesAsked points 0 step (q - q / 2)
  real_amplitudes step e = record {
    bits = axis_few q real few;
    room = λ g h. rw e (omega (arith, row_room q g h, pow_pos (q / 2), pow_mono few, place g));
    each = λ g h. rw (e, zero-add) (real_axis p g h);
  }
    where
      place : (g : ℕ) → g * (2 * 2 ^ (q / 2)) ≡ 2 * (g * 2 ^ (q / 2))
      place g = omega (arith, mul_assoc g 2 (2 ^ (q / 2)), mul_comm g 2, mul_assoc 2 g (2 ^ (q / 2)))

  pub imaginary_amplitudes : AmplitudesAsked points 1 2 (q / 2)
  imaginary_amplitudes = record {
    bits = axis_few q imaginary few;
    room = λ g h. omega (arith, h, pow_mono (axis_few q imaginary few));
    each = λ g h. imaginary_axis p g h;
  }
