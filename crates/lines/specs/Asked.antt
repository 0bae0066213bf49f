-- What writing a line asks, and the answer that it is of.
use Rattle.std.specs.Prelude.{ℕ, ◌+◌, ◌*◌, ◌^◌, ◌≤◌, ◌<◌, List, ℤ}
use Rattle.model.specs.Block.{Answer, most_bits}
use Rattle.search.specs.declared.Found.{Found}
use Rattle.lines.specs.Text.{most_line}

-- What a search found, with its soft values, as an answer
abbrev pub told : Found → List ℤ → Answer
told f soft = record { stopped = f.stopped; count = f.count; result = record { label = f.label; soft = soft } }

-- What a line's n soft values and distance ask: a distance of at most 39 bits, and room
pub record ValuesAsked (at n distance room : ℕ) : Type 0 where
  pub few : n ≤ most_bits
  pub digits : distance < 2 ^ 39
  pub buffer : at + 12 * n + 14 ≤ room

-- What a vector's line asks: no more values and priors than a label has bits; and room for any such line
pub record LineAsked (at values bits distance room : ℕ) : Type 0 where
  pub few : bits ≤ most_bits
  pub values_few : values ≤ most_bits
  pub digits : distance < 2 ^ 39
  pub buffer : at + most_line ≤ room
