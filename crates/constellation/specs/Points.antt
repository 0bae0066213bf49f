-- The points of a constellation as an array: the real and the imaginary part of each symbol's point, by rising label.
use Rattle.std.specs.Prelude.{ℕ, ◌+◌, ◌*◌, ◌^◌, ◌≤◌, ◌<◌, ◌≡◌, List, ℤ, pos, length, get_or}
use Rattle.model.specs.Constellation.{Complex, amplitude, bits_of, point}
use Rattle.model.specs.Block.{most_width}

abbrev pub complex_of : ℤ → ℤ → Complex
complex_of re im = record { re = re; im = im }

-- How many places the points of the widest symbols have
abbrev pub places : ℕ
places = 2 * 2 ^ most_width

-- The point of symbol s, in such an array
abbrev pub point_in : List ℤ → ℕ → Complex
point_in points s = complex_of (get_or points (2 * s) (pos 0)) (get_or points (2 * s + 1) (pos 0))

-- An array has the points of all symbols of q bits
pub record Points (q : ℕ) (points : List ℤ) : Type 0 where
  pub each : (s : ℕ) → s < 2 ^ q → point_in points s ≡ point (bits_of q s)

-- The points of the first k symbols are filled in, and what stands behind them stays
pub record FilledTo (q k : ℕ) (old new : List ℤ) : Type 0 where
  pub size : length new ≡ length old
  pub each : (s : ℕ) → s < k → point_in new s ≡ point (bits_of q s)
  pub kept : (i : ℕ) → 2 * k ≤ i → get_or new i (pos 0) ≡ get_or old i (pos 0)

-- Those of all symbols are
abbrev pub Filled : ℕ → List ℤ → List ℤ → Type 0
Filled q old new = FilledTo q (2 ^ q) old new

-- A table has the amplitudes of the axes of up to 3 bits: those of w bits stand from place 2 ^ w on, by rising label
pub record Axes (table : List ℤ) : Type 0 where
  pub each : (w g : ℕ) → w ≤ 3 → g < 2 ^ w → get_or table (2 ^ w + g) (pos 0) ≡ amplitude (bits_of w g)
