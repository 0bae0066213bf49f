-- What a search of one vector answers.
use Rattle.std.specs.Prelude.{ℕ, ◌≡◌, Bool, List, ◌++◌, ℤ, drop}
use Rattle.model.specs.Metric.{Vector, label_bits}
use Rattle.model.specs.Block.{answer, winning_distance}

-- The model's answer is what is returned, with its label's squared distance, and its soft values at the front of an array
pub record Answered (v : Vector) (weak allowance : ℕ) (stopped : Bool) (count label distance : ℕ) (before after : List ℤ) : Type 0 where
  pub stopped_is : stopped ≡ (answer v weak allowance).stopped
  pub count_is : count ≡ (answer v weak allowance).count
  pub label_is : label ≡ (answer v weak allowance).result.label
  pub distance_is : distance ≡ winning_distance v (answer v weak allowance)
  pub soft_is : after ≡ (answer v weak allowance).result.soft ++ drop (label_bits v) before
