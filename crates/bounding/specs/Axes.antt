-- What the functions of the test ask of one axis, and whether its labels have costs.
use Rattle.std.specs.Prelude.{ℕ, suc, ◌+◌, ◌-◌, ◌*◌, ◌^◌, ◌≤◌, ◌<◌, ◌≡◌, Bool, true, not, ◌||◌, List, eqb, ℤ, pos, nat_abs, length, get_or}
use Rattle.model.specs.Block.{most_entry}
use Rattle.metric.specs.Parts.{axis_width, span, nearest_of, bit_of, remainder_bound}
use Rattle.axes.specs.Tables.{axis_place, axis_bits, table_part, AxisAsked}
use Rattle.axes.specs.Tables.Axis.{real, imaginary}

-- Of the entries of an axis of w bits, which stand from a place on, the last, that of the label whose bits are all 1, is the widest
abbrev pub WidestLast : List ℕ → ℕ → ℕ → Type 0
WidestLast entries from w = (g : ℕ) → g < 2 ^ w → get_or entries (from + g) 0 ≤ get_or entries (from + (2 ^ w - 1)) 0

-- and none is wider than both that of no bit and those of the single bits that are 1 in it
abbrev pub ByBits : List ℕ → ℕ → ℕ → Type 0
ByBits entries from w =
    (g bound : ℕ) → g < 2 ^ w → get_or entries from 0 ≤ bound
    → ((i : ℕ) → i < w → bit_of w g i ≡ true → get_or entries (from + 2 ^ (w - suc i)) 0 ≤ bound) → get_or entries (from + g) 0 ≤ bound

-- What making the parts of an axis's labels asks: they are made by the table, and small
pub record LeastAsked (tables : List ℤ) (at : ℕ) (left : ℤ) (w : ℕ) : Type 0 where
  pub axis : AxisAsked tables at left w
  pub small : (g : ℕ) → g < 2 ^ w → table_part tables at left g < 2 ^ 62

-- What holding the limits of an axis's bits against the nearest distances asks: `other` is added to a squared distance, `low` is what the
-- nearest of all comes to, and `own` is the best label's
pub record BitAsked (left : ℤ) (diagonal w other low : ℕ) (entries : List ℕ) (from own : ℕ) : Type 0 where
  pub bits : w ≤ axis_width
  pub remains : nat_abs left < remainder_bound
  pub entry : diagonal ≤ most_entry
  pub added : other < 2 ^ 62
  pub nearest : low ≤ other + nearest_of diagonal w (nat_abs left) * nearest_of diagonal w (nat_abs left)
  pub place : from ≤ span
  pub stream : length entries ≡ 2 * span
  pub by_bits : ByBits entries from w
  pub label : own < 2 ^ w

-- Has label g of an axis a cost, by the table?
abbrev pub has_cost : List ℤ → ℕ → ℕ → Bool
has_cost tables at g = not (eqb (nat_abs (get_or tables (at + span + g) (pos 0))) 0)

-- Has the label of an axis of w bits whose bits are all 0 a cost, or that whose bits are all 1?
unfoldable pub axis_priced : List ℤ → ℕ → ℕ → Bool
axis_priced tables at w = has_cost tables at 0 || has_cost tables at (2 ^ w - 1)

-- Has such a label of either axis of a row's stream?
unfoldable pub priced_by : ℕ → List ℤ → ℕ → Bool
priced_by q tables row =
    axis_priced tables (axis_place row real) (axis_bits q real) || axis_priced tables (axis_place row imaginary) (axis_bits q imaginary)
