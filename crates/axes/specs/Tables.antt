-- The table of what depends on a vector alone: for each axis of each row, the diagonal entry times the amplitude of each axis label, then
-- each label's prior cost.
use Rattle.std.specs.Prelude.{ℕ, zero, suc, ◌+◌, ◌-◌, ◌*◌, ◌/◌, ◌≤◌, ◌<◌, ◌^◌, ◌≡◌, List, ℤ, pos, nat_abs, ◌-ℤ◌, ◌*ℤ◌, length, get_or}
use Rattle.model.specs.Constellation.{bits_of, amplitude}
use Rattle.model.specs.Block.{Every, Within, most_streams, most_entry, most_prior}
use Rattle.constellation.specs.Points.{places}
use Rattle.metric.specs.Keys.{keyed}
use Rattle.metric.specs.Parts.{axis_width, span, part, axis_cost, filled_from, remainder_bound}
use Rattle.metric.specs.Rows.{row_start, prior_start}

-- The places of a table: a row has two axes, and an axis a span of products and one of costs
abbrev pub table_size : ℕ
table_size = most_streams * (4 * span)

-- The two axes of a row
pub data Axis : Type 0 where
  real : Axis
  imaginary : Axis

-- Where the entries of an axis of row i begin
abbrev pub axis_place : ℕ → Axis → ℕ
axis_place i real = i * (4 * span)
axis_place i imaginary = i * (4 * span) + 2 * span

-- How many of a symbol's bits an axis has, and where the priors of those begin
abbrev pub axis_bits : ℕ → Axis → ℕ
axis_bits q real = q - q / 2
axis_bits q imaginary = q / 2

abbrev pub axis_prior : ℕ → ℕ → ℕ → Axis → ℕ
axis_prior m q i real = prior_start m q i
axis_prior m q i imaginary = prior_start m q i + (q - q / 2)

-- The entries of an axis label of w bits: the diagonal entry times its amplitude, and its prior cost
unfoldable pub label_product : ℤ → ℕ → ℕ → ℤ
label_product diagonal w g = diagonal *ℤ amplitude (bits_of w g)

unfoldable pub label_cost : List ℤ → ℕ → ℕ → ℤ
label_cost priors w g = pos (axis_cost priors w g)

-- An axis's entries stand in the table from a place on
pub record AxisTabled (tables : List ℤ) (at : ℕ) (diagonal : ℤ) (priors : List ℤ) (w : ℕ) : Type 0 where
  pub product : (g : ℕ) → g < 2 ^ w → get_or tables (at + g) (pos 0) ≡ label_product diagonal w g
  pub cost : (g : ℕ) → g < 2 ^ w → get_or tables (at + span + g) (pos 0) ≡ label_cost priors w g

-- A table with them filled in
unfoldable pub entries_in : List ℤ → ℕ → ℤ → List ℤ → ℕ → List ℤ
entries_in tables at diagonal priors w =
    filled_from (at + span) (label_cost priors w) (2 ^ w) (filled_from at (label_product diagonal w) (2 ^ w) tables)

-- A table with those of an axis of row i filled in
abbrev pub axis_in : ℕ → ℕ → List ℤ → List ℤ → ℕ → ℤ → Axis → List ℤ
axis_in m q numbers tables i diagonal x =
    entries_in tables (axis_place i x) diagonal (part numbers (axis_prior m q i x) (axis_bits q x)) (axis_bits q x)

-- and with both axes of the first k rows: the other places are as before
unfoldable pub rows_in : ℕ → ℕ → List ℤ → ℕ → List ℤ → List ℤ
rows_in m q numbers zero tables = tables
rows_in m q numbers (suc k) tables =
    let diagonal = get_or numbers (row_start m k) (pos 0) in
    axis_in m q numbers (axis_in m q numbers (rows_in m q numbers k tables) k diagonal real) k diagonal imaginary

-- The entries of an axis of row i stand at their place
abbrev pub RowTabled : ℕ → ℕ → List ℤ → List ℤ → ℕ → Axis → Type 0
RowTabled m q numbers tables i x =
    AxisTabled tables (axis_place i x) (get_or numbers (row_start m i) (pos 0)) (part numbers (axis_prior m q i x) (axis_bits q x)) (axis_bits q x)

-- A table with both axes of the first k rows
pub record TabledTo (m q : ℕ) (numbers tables : List ℤ) (k : ℕ) : Type 0 where
  pub size : length tables ≡ table_size
  pub axes : (i : ℕ) → i < k → (x : Axis) → RowTabled m q numbers tables i x

-- A vector's table
abbrev pub Tabled : ℕ → ℕ → List ℤ → List ℤ → Type 0
Tabled m q numbers tables = TabledTo m q numbers tables m

-- What an axis label adds to the increment, by the table's entries: `left` is what remains of y on that axis
unfoldable pub table_part : List ℤ → ℕ → ℤ → ℕ → ℕ
table_part tables at left g =
    let z = left -ℤ get_or tables (at + g) (pos 0) in
    nat_abs z * nat_abs z + nat_abs (get_or tables (at + span + g) (pos 0))

-- and to a child's key: the same with its prior cost
unfoldable pub key_part : List ℤ → ℕ → ℤ → ℕ → ℕ
key_part tables at left g = keyed (table_part tables at left g) (nat_abs (get_or tables (at + span + g) (pos 0)))

-- An array of both axes with what row i's labels add to keys filled in: the other places are as before
unfoldable pub parts_in : ℕ → List ℤ → ℕ → ℤ → ℤ → List ℕ → List ℕ
parts_in q tables i re im axes =
    filled_from span (key_part tables (axis_place i imaginary) im) (2 ^ axis_bits q imaginary)
    (filled_from 0 (key_part tables (axis_place i real) re) (2 ^ axis_bits q real) axes)

-- What measuring an axis asks: its entries stand within the table, products in their range and costs not negative
pub record AxisAsked (tables : List ℤ) (at : ℕ) (left : ℤ) (w : ℕ) : Type 0 where
  pub bits : w ≤ axis_width
  pub room : at + 2 * span ≤ table_size
  pub remains : nat_abs left < remainder_bound
  pub product : (g : ℕ) → g < 2 ^ w → nat_abs (get_or tables (at + g) (pos 0)) < remainder_bound
  pub cost : (g : ℕ) → g < 2 ^ w → get_or tables (at + span + g) (pos 0) ≡ pos (nat_abs (get_or tables (at + span + g) (pos 0)))

-- What multiplying with an axis's amplitudes asks: they stand in the points from a place on, some places apart
pub record AmplitudesAsked (points : List ℤ) (first step w : ℕ) : Type 0 where
  pub bits : w ≤ axis_width
  pub room : (g : ℕ) → g < 2 ^ w → first + g * step < places
  pub each : (g : ℕ) → g < 2 ^ w → get_or points (first + g * step) (pos 0) ≡ amplitude (bits_of w g)

-- What pricing an axis's labels asks: the priors of its bits are few, and in their range
pub record PriorsAsked (priors : List ℤ) : Type 0 where
  pub bits : length priors ≤ axis_width
  pub range : Every (Within most_prior) priors

-- What making an axis's entries asks
pub record EntriesAsked (priors : List ℤ) (diagonal : ℤ) (w : ℕ) : Type 0 where
  pub each : PriorsAsked priors
  pub bits : length priors ≡ w
  pub entry : Within most_entry diagonal
