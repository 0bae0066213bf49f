-- What the lent list holds once a record is read: the numbers of a block in range, each of whose vectors a search may be asked for.
use Rattle.std.specs.Prelude.{ℕ, ◌<◌, ◌≡◌, List, ℤ, length}
use Rattle.model.specs.Block.{InRange}
use Rattle.block.specs.Reading.{count_at, most_numbers}
use Rattle.block.specs.Contents.{vector_numbers, block_of}
use Rattle.block.specs.declared.Layout.{Layout}
use Rattle.hypotheses.specs.Limits.{SearchAsked}

pub record Holds (layout : Layout) (list : List ℤ) : Type 0 where
  pub room : length list ≡ most_numbers
  pub ranged : InRange (block_of layout list)
  pub each : (k : ℕ) → k < count_at 2 list → SearchAsked (count_at 0 list) (count_at 1 list) (count_at 3 list) (vector_numbers layout list k)
