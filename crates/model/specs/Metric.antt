-- Document 01, "The metric": the increment of a row, the partial metric of a node and the metric of a label.
use Rattle.std.specs.Prelude.{ℕ, suc, ◌+◌, ◌*◌, Bool, cond, List, [], ◌∷◌, ◌++◌, length, take, drop, get_or, ℤ, pos, negsuc}
use Rattle.model.specs.Constellation.{Complex, Bits, real, ◌⊕◌, ◌⊖◌, ◌⊗◌, square, point}

-- Row i of R ("its diagonal real and positive", and the entries right of it) with y_i and the priors of stream i's bits
pub record Row : Type 0 where
  pub diagonal : ℕ
  pub right : List Complex
  pub received : Complex
  pub priors : List ℤ

-- One vector: Q, C and the rows 1 to M
pub record Vector : Type 0 where
  pub width : ℕ
  pub clip : ℕ
  pub rows : List Row

-- The sum of R's entries times the points of as many streams, of which `bits` holds the symbols, q bits each
unfoldable pub dot : ℕ → List Complex → Bits → Complex
dot q [] bits = real 0
dot q (e ∷ es) bits = e ⊗ point (take q bits) ⊕ dot q es (drop q bits)

-- "y_i minus the sum over j from i to M of R_ij s_j", of the bits of streams i to M
unfoldable pub residual : ℕ → Row → Bits → Complex
residual q r bits = r.received ⊖ dot q (real r.diagonal ∷ r.right) bits

abbrev pub squared_distance : ℕ → Row → Bits → ℕ
squared_distance q r bits = square (residual q r bits)

-- The prior cost of a bit: "the prior's magnitude where the bit goes against the sign, else 0"; "positive favours 0"
abbrev pub bit_cost : ℤ → Bool → ℕ
bit_cost (pos n) b = cond b n 0
bit_cost (negsuc n) b = cond b 0 (suc n)

-- The prior cost of a symbol
unfoldable pub prior_cost : List ℤ → Bits → ℕ
prior_cost [] bits = 0
prior_cost (p ∷ ps) [] = 0
prior_cost (p ∷ ps) (b ∷ bits) = bit_cost p b + prior_cost ps bits

-- Row i's increment (000, eq. 25), of the bits of streams i to M: squared distance "plus the prior cost of stream i's bits"
unfoldable pub increment : ℕ → Row → Bits → ℕ
increment q r bits = squared_distance q r bits + prior_cost r.priors (take q bits)

-- The sum of the increments of rows i to M, of the bits of these streams (000, eq. 12 and 13): a node's partial metric, with all rows a
-- label's metric
unfoldable pub metric : ℕ → List Row → Bits → ℕ
metric q [] bits = 0
metric q (r ∷ rs) bits = increment q r bits + metric q rs (drop q bits)

-- The two parts of that sum (document 02, "The distance without priors"): the squared distances of rows i to M,
unfoldable pub distance : ℕ → List Row → Bits → ℕ
distance q [] bits = 0
distance q (r ∷ rs) bits = squared_distance q r bits + distance q rs (drop q bits)

-- and the prior costs of the bits of these streams
unfoldable pub cost : ℕ → List Row → Bits → ℕ
cost q [] bits = 0
cost q (r ∷ rs) bits = prior_cost r.priors (take q bits) + cost q rs (drop q bits)

-- "A label's metric is the sum of its increments"
abbrev pub metric_of : Vector → Bits → ℕ
metric_of v label = metric v.width v.rows label

-- A label's "squared distance separately from its prior cost" (document 02)
abbrev pub distance_of : Vector → Bits → ℕ
distance_of v label = distance v.width v.rows label

-- and that prior cost
abbrev pub cost_of : Vector → Bits → ℕ
cost_of v label = cost v.width v.rows label

-- M × Q, the number of bits in a label
abbrev pub label_bits : Vector → ℕ
label_bits v = length v.rows * v.width

-- All priors "in label order"
unfoldable pub all_priors : List Row → List ℤ
all_priors [] = []
all_priors (r ∷ rs) = r.priors ++ all_priors rs

-- Bit i of a label and its prior, i counted from 0 in label order
abbrev pub bit_at : ℕ → Bits → Bool
bit_at i label = get_or label i Bool.false

abbrev pub prior_at : Vector → ℕ → ℤ
prior_at v i = get_or (all_priors v.rows) i (pos 0)
