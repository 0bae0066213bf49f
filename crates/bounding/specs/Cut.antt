-- Would a child be cut? A child passes where its partial metric is at most B, or below the limit of a bit that is open: one that is open at
-- all of its siblings, or one of its own symbol that is opposite to the best label's.
use Rattle.std.specs.Prelude.{ℕ, ◌+◌, ◌-◌, ◌*◌, ◌/◌, ◌%◌, ◌^◌, ◌≤◌, ◌<◌, max, ◌≡◌, List, ℤ, nat_abs, length, get_or}
use Rattle.std.specs.Int.Bits.{bit_xor}
use Rattle.model.specs.Block.{most_width}
use Rattle.metric.specs.Parts.{span, remainder_bound}
use Rattle.metric.specs.Rows.{VectorAsked}
use Rattle.axes.specs.Tables.{axis_place}
use Rattle.axes.specs.Tables.Axis.{real, imaginary}
use Rattle.bounding.specs.Axes.{WidestLast, ByBits, LeastAsked}

-- A stream's entries: for each real label, then a span later for each imaginary one, the widest limit of the bits that are 1 in it. Of a
-- symbol's bits that are 1 this is the widest
unfoldable pub symbol_reach : ℕ → List ℕ → ℕ → ℕ
symbol_reach q entries s = max (get_or entries (s / 2 ^ (q / 2)) 0) (get_or entries (span + s % 2 ^ (q / 2)) 0)

-- The child with symbol s and partial metric d would be cut by what all siblings share, `base`, and by its own bits: d is not below `base`,
-- and not below the limits of its bits that differ from those of the best label's symbol
pub record Beyond (q base : ℕ) (entries : List ℕ) (own d s : ℕ) : Type 0 where
  pub above_base : base ≤ d
  pub above_own : symbol_reach q entries (bit_xor s own) ≤ d

-- Of the entries of either axis the widest is the last, and none is wider than those of its single bits
pub record Widest (q : ℕ) (entries : List ℕ) : Type 0 where
  pub real : WidestLast entries 0 (q - q / 2)
  pub imaginary : WidestLast entries span (q / 2)
  pub real_bits : ByBits entries 0 (q - q / 2)
  pub imaginary_bits : ByBits entries span (q / 2)

-- What the test by distances asks: `re` and `im` are what remains of y in the row
pub record OpensAsked (m q row : ℕ) (re im : ℤ) (partial : ℕ) (numbers : List ℤ) (entries : List ℕ) (own : ℕ) : Type 0 where
  pub vector : VectorAsked m q numbers
  pub inside : row < m
  pub low_re : nat_abs re < remainder_bound
  pub low_im : nat_abs im < remainder_bound
  pub low : partial < 2 ^ 61
  pub stream : length entries ≡ 2 * span
  pub widest : Widest q entries
  pub symbol : own < 2 ^ q

-- What the test by the parts asks, which are made by the tables
pub record TableAsked (q row : ℕ) (re im : ℤ) (partial : ℕ) (tables : List ℤ) (entries : List ℕ) (own : ℕ) : Type 0 where
  pub bits : q ≤ most_width
  pub first : LeastAsked tables (axis_place row real) re (q - q / 2)
  pub second : LeastAsked tables (axis_place row imaginary) im (q / 2)
  pub low : partial < 2 ^ 61
  pub stream : length entries ≡ 2 * span
  pub widest : Widest q entries
  pub symbol : own < 2 ^ q
