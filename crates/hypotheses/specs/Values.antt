-- What the soft values ask of the minima.
use Rattle.std.specs.Prelude.{ℕ, ◌≤◌, List, get_or}
use Rattle.search_spec.specs.Program.{above}

-- No minimum is above the sentinel
pub record MinimaLow (zeros ones : List ℕ) : Type 0 where
  pub zeros_low : (i : ℕ) → get_or zeros i 0 ≤ above
  pub ones_low : (i : ℕ) → get_or ones i 0 ≤ above
