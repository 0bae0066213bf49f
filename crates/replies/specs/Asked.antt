-- What writing a part of the reply asks.
use Rattle.std.specs.Prelude.{ℕ, ◌+◌, ◌*◌, ◌^◌, ◌<◌, ◌≤◌, List, ℤ, pos, length, get_or}
use Rattle.wire.specs.Folding.{folded}

-- What writing soft values asks: room for four groups each, and values that fit these
pub record SoftAsked (at : ℕ) (soft : List ℤ) (room : ℕ) : Type 0 where
  pub buffer : at + 4 * length soft ≤ room
  pub each : (i : ℕ) → i < length soft → folded (get_or soft i (pos 0)) < 2 ^ 28

-- What writing a mark and two numbers asks: room for one group and four each
pub record FoundAsked (at count label room : ℕ) : Type 0 where
  pub counts : count < 2 ^ 28
  pub labels : label < 2 ^ 28
  pub buffer : at + 9 ≤ room
