-- A vector by its numbers, a bit's limit as one number, and what is kept of the leaves in one array: the minima, the limits and what these give.
use Rattle.std.specs.Prelude.{ℕ, ◌+◌, ◌*◌, ◌≤◌, ◌<◌, ◌^◌, min, ◌≡◌, Bool, true, false, cond, List, length, get_or, set, ℤ, pos, negsuc}
use Rattle.std.specs.Int.Bits.{bit_xor}
use Rattle.model.specs.Metric.{Vector, label_bits, prior_at}
use Rattle.model.specs.Block.{most_bits, most_clip}
use Rattle.block.specs.Contents.{rows_of}
use Rattle.metric.specs.Rows.{VectorAsked}
use Rattle.metric.specs.Parts.{bit_of, filled}
use Rattle.search_spec.specs.Program.{above, Taken, taken_in, zeros_of, ones_of, limits_of, reach_of, lowered_at, sooner, noted}
use Rattle.bounding.specs.Cut.{Widest}
use Rattle.limits.specs.Reach.{limits_size, entries_of, Reaches, reaches_in}
use Rattle.tree.specs.declared.Task.{Task}
use Rattle.tree.specs.declared.Node.{Node}
use Rattle.tree.specs.declared.Kept.{Kept}

-- The vector that m rows with q bits a symbol are, by their numbers
abbrev pub vector_at : ℕ → ℕ → ℕ → List ℤ → Vector
vector_at m q clip numbers = record { width = q; clip = clip; rows = rows_of m q numbers }

-- What a search asks of its vector: document 01's ranges
pub record SearchAsked (m q clip : ℕ) (numbers : List ℤ) : Type 0 where
  pub stream : 0 < m
  pub vector : VectorAsked m q numbers
  pub clips : clip ≤ most_clip

-- The same by what the search is asked
abbrev pub vector_for : Task → List ℤ → Vector
vector_for t numbers = vector_at t.streams t.width t.clip numbers

abbrev pub Asked : Task → List ℤ → Type 0
Asked t numbers = SearchAsked t.streams t.width t.clip numbers

-- A whole number, 0 in place of a negative one
unfoldable pub up_of : ℤ → ℕ
up_of (pos n) = n
up_of (negsuc n) = 0

-- Bit i's limit: a partial metric lets the bit be of use where it is below this number
unfoldable pub limit_at : Vector → Taken → ℕ → ℕ
limit_at v t i =
    let b = bit_of (label_bits v) t.label i in
    min (get_or (cond b t.zeros t.ones) i 0) (up_of (reach_of b (t.best + v.clip) (prior_at v i)))

-- The places of the array of minima, with the limits and what they give behind them
abbrev pub minima_size : ℕ
minima_size = 2 * most_bits + limits_size

-- The place of the least metric with bit i as it is
abbrev pub minimum_place : Bool → ℕ → ℕ
minimum_place bit i = cond bit (most_bits + i) i

-- A label of metric d is taken into the minima of the first k of its n bits: each side is lowered by the bits of that side
pub record NotedTo (n label d k : ℕ) (old new : List ℕ) : Type 0 where
  pub size : length new ≡ length old
  pub zeros : zeros_of new ≡ filled (lowered_at n false label d (zeros_of old)) k (zeros_of old)
  pub ones : ones_of new ≡ filled (lowered_at n true label d (ones_of old)) k (ones_of old)

-- and into the limits of those that are 1 in `opposed`, and no others
pub record NarrowedTo (n label opposed d k : ℕ) (old new : List ℕ) : Type 0 where
  pub sides : NotedTo n label d k old new
  pub limits : limits_of new ≡ filled (lowered_at n true opposed d (limits_of old)) k (limits_of old)

-- One bit of a label of metric d: the least metric of its side and its limit are lowered
abbrev pub lowered_both : Bool → ℕ → ℕ → List ℕ → List ℕ
lowered_both bit i d old =
    let new = set old (minimum_place bit i) (min d (get_or old (minimum_place bit i) 0)) in
    set new (2 * most_bits + i) (min d (get_or new (2 * most_bits + i) 0))

-- At each bit of a label that is 0 in `opposed` the least metric of its side is not above d
abbrev pub LowBeside : ℕ → ℕ → ℕ → ℕ → List ℕ → Type 0
LowBeside n label opposed d minima =
    (i : ℕ) → i < n → bit_of n opposed i ≡ false → get_or minima (minimum_place (bit_of n label i) i) 0 ≤ d

-- The limits are as many as they are; of each axis's entries the last is the widest, and none is wider than its single bits
pub record LimitsAsked (m q : ℕ) (limits : List ℕ) : Type 0 where
  pub size : length limits ≡ limits_size
  pub widest : (j : ℕ) → j < m → Widest q (entries_of limits j)

-- The best label's own side of each bit has no least metric above its own
abbrev pub OwnLow : Vector → Taken → Type 0
OwnLow v t =
    (i : ℕ) → i < label_bits v → get_or (cond (bit_of (label_bits v) t.label i) t.ones t.zeros) i 0 ≤ t.best

-- What is kept of the leaves, with the limits: once there is a best label, its sides are low, and the limits are those of what the leaves
-- gave: the array has what they give. Before, every child passes, and they may be any
pub record Limited (v : Vector) (t : Taken) (limits : List ℕ) : Type 0 where
  pub placed : t.label < 2 ^ label_bits v
  pub asked : LimitsAsked (length v.rows) v.width limits
  pub own : t.best < above → OwnLow v t
  pub exact : t.best < above → Reaches v.width (limit_at v t) limits (length v.rows)

-- The limits are renewed behind minima that stay
pub record Renewed (v : Vector) (label best : ℕ) (old new : List ℕ) : Type 0 where
  pub size : length new ≡ length old
  pub kept : taken_in label best new ≡ taken_in label best old
  pub reached : Reaches v.width (limit_at v (taken_in label best new)) (limits_of new) (length v.rows)

-- The limits with what they give, after a leaf of metric d is taken: where it is the best label all limits are made anew, and where it leaves
-- that label those of its bits that are opposite to the label's are lowered. The places of no bit and of no label are as before
unfoldable pub limits_after : Vector → ℕ → ℕ → ℕ → Taken → List ℕ → List ℕ
limits_after v m node d t limits =
    let n = m * v.width in
    let lowered = lowered_at n true (bit_xor node t.label) d limits in
    reaches_in v.width (filled (cond (sooner v d node t.best t.label) (limit_at v (noted v node d t)) lowered) n limits) m

-- Both parts of the best label's metric are kept with it (document 02, Point 5): those of a leaf that comes before it, else as they were
pub record PartsAfter (v : Vector) (leaf : Node) (old new : Kept) : Type 0 where
  pub distance_is : new.distance ≡ cond (sooner v leaf.partial leaf.bits old.best old.label) leaf.distance old.distance
  pub cost_is : new.cost ≡ cond (sooner v leaf.partial leaf.bits old.best old.label) leaf.cost old.cost
