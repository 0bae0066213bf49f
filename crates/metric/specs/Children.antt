-- Document 02, Point 5: "What works out a child's increment must therefore promise the two parts and their sum".
use Rattle.std.specs.Prelude.{ℕ, ◌+◌, ◌-◌, ◌*◌, ◌<◌, ◌≡◌, List, ℤ, get_or}
use Rattle.model.specs.Metric.{squared_distance, increment}
use Rattle.metric.specs.Keys.{cost_room, metric_in, cost_in}
use Rattle.metric.specs.Rows.{row_at, child_bits, symbol_cost_in, Measured}

-- The child with symbol s, in row i, of a node of squared distance d and prior cost c
pub record Parted (m q : ℕ) (numbers : List ℤ) (i node d c s : ℕ) (distance cost sum : ℕ) : Type 0 where
  pub distance_is : distance ≡ d + squared_distance q (row_at m q numbers i) (child_bits m q i node s)
  pub cost_is : cost ≡ c + symbol_cost_in m q numbers i s
  pub sum_is : sum ≡ d + c + increment q (row_at m q numbers i) (child_bits m q i node s)

-- The same of the child's key: the sum is the metric in it, the cost is the node's and the one in the key, and the squared distance is the rest
abbrev pub PartedKey : ℕ → ℕ → List ℤ → ℕ → ℕ → ℕ → ℕ → ℕ → ℕ → Type 0
PartedKey m q numbers i node d c s key = Parted m q numbers i node d c s (metric_in key - (c + cost_in key)) (c + cost_in key) (metric_in key)

-- After the first k children are measured, whatever node the axes were made for: each of these has its place, and its key there has both parts
-- and their sum. `shared` is what that node gives to the keys of all
abbrev pub PartedTo : ℕ → ℕ → List ℕ → ℕ → List ℕ → Type 0
PartedTo q shared axes k keys =
    (m : ℕ) (numbers : List ℤ) (i node d c : ℕ) → Measured m q numbers i node axes → shared ≡ (d + c) * cost_room → (s : ℕ) → s < k
    → PartedKey m q numbers i node d c s (get_or keys s 0)
