-- A row of a vector read off its whole numbers by places, and what remains of y in it.
use Rattle.std.specs.Prelude.{ℕ, suc, ◌+◌, ◌-◌, ◌*◌, ◌≤◌, ◌<◌, ◌^◌, ◌≡◌, List, map, ◌++◌, ℤ, pos, nat_abs, length, get_or}
use Rattle.model.specs.Constellation.{Complex, Bits, bits_of, ◌⊖◌}
use Rattle.model.specs.Metric.{Row, dot, prior_cost, increment}
use Rattle.model.specs.Soft.{up_from}
use Rattle.model.specs.Block.{Within, most_streams, most_width, most_bits, most_entry, most_received, most_prior}
use Rattle.block.specs.Reading.{vector_size}
use Rattle.block.specs.Contents.{complex_at}
use Rattle.constellation.specs.Points.{point_in}
use Rattle.metric.specs.Keys.{cost_room, keyed}
use Rattle.metric.specs.Parts.{span, part, real_in, imaginary_in, child_metric, AllSmall}

-- Where row i's numbers of R begin, from 0: the rows before it have 2m - 1, 2m - 3, .. numbers
abbrev pub row_start : ℕ → ℕ → ℕ
row_start m i = i * (2 * m - i)

-- Where the priors of row i's bits begin
abbrev pub prior_start : ℕ → ℕ → ℕ → ℕ
prior_start m q i = m * m + 2 * m + i * q

-- Row i of a vector of m streams with q bits each
unfoldable pub row_at : ℕ → ℕ → List ℤ → ℕ → Row
row_at m q numbers i = record {
  diagonal = nat_abs (get_or numbers (row_start m i) (pos 0));
  right = map (λ j. complex_at numbers (row_start m i + 1 + 2 * j)) (up_from 0 (m - suc i));
  received = complex_at numbers (m * m + 2 * i);
  priors = part numbers (prior_start m q i) q;
}

-- What remains of y in a row after the symbols that are chosen for the streams after its own
unfoldable pub remainder_of : ℕ → Row → Bits → Complex
remainder_of q r bits = r.received ⊖ dot q r.right bits

-- The bits of the child with symbol s below a node, from row i's stream to the last
abbrev pub child_bits : ℕ → ℕ → ℕ → ℕ → ℕ → Bits
child_bits m q i node s = bits_of q s ++ bits_of ((m - suc i) * q) node

-- The partial metric of that child, below a node of partial metric d
unfoldable pub child_of : ℕ → ℕ → List ℤ → ℕ → ℕ → ℕ → ℕ → ℕ
child_of m q numbers i node d s = d + increment q (row_at m q numbers i) (child_bits m q i node s)

-- The prior cost of its symbol
abbrev pub symbol_cost_in : ℕ → ℕ → List ℤ → ℕ → ℕ → ℕ
symbol_cost_in m q numbers i s = prior_cost (row_at m q numbers i).priors (bits_of q s)

-- Its key
abbrev pub child_key : ℕ → ℕ → List ℤ → ℕ → ℕ → ℕ → ℕ → ℕ
child_key m q numbers i node d s = keyed (child_of m q numbers i node d s) (symbol_cost_in m q numbers i s)

-- What measuring asks of a vector's numbers: the sizes and ranges of document 01, "The record"
pub record VectorAsked (m q : ℕ) (numbers : List ℤ) : Type 0 where
  pub streams : m ≤ most_streams
  pub bit : 0 < q
  pub bits : q ≤ most_width
  pub label : m * q ≤ most_bits
  pub room : vector_size m q ≤ length numbers
  pub entries : (i : ℕ) → i < m * m → Within most_entry (get_or numbers i (pos 0))
  pub plain : (i : ℕ) → i < m → get_or numbers (row_start m i) (pos 0) ≡ pos (nat_abs (get_or numbers (row_start m i) (pos 0)))
  pub positive : (i : ℕ) → i < m → 1 ≤ nat_abs (get_or numbers (row_start m i) (pos 0))
  pub received : (i : ℕ) → i < 2 * m → Within most_received (get_or numbers (m * m + i) (pos 0))
  pub priors : (i : ℕ) → i < m * q → Within most_prior (get_or numbers (m * m + 2 * m + i) (pos 0))

-- An array has the parts of both axes at a node: whatever its partial metric d, they give each child's key, in which there is room for the cost
pub record Measured (m q : ℕ) (numbers : List ℤ) (i node : ℕ) (axes : List ℕ) : Type 0 where
  pub size : length axes ≡ 2 * span
  pub small : AllSmall axes
  pub cheap : (s : ℕ) → s < 2 ^ q → symbol_cost_in m q numbers i s < cost_room
  pub child : (d s : ℕ) → s < 2 ^ q → child_key m q numbers i node d s ≡ child_metric q (d * cost_room) (real_in axes) (imaginary_in axes) s

-- What multiplying the entry of R at a place with a symbol's point asks
pub record TermAsked (points numbers : List ℤ) (place symbol : ℕ) : Type 0 where
  pub below : symbol < 2 ^ most_width
  pub point_re : nat_abs (point_in points symbol).re < span
  pub point_im : nat_abs (point_in points symbol).im < span
  pub room : place + 1 < length numbers
  pub real : Within most_entry (get_or numbers place (pos 0))
  pub imaginary : Within most_entry (get_or numbers (place + 1) (pos 0))
