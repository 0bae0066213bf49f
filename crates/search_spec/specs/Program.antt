-- The search of one vector over numbers, as code makes it: a node is the number of its bits, an infinite least metric is a sentinel,
-- and the next child is the first smallest key that is not taken. That it gives document 01's answer is `replied_is` (proofs/Answer).
use Rattle.std.specs.Prelude.{ℕ, zero, suc, ◌+◌, ◌-◌, ◌*◌, ◌^◌, ◌≤◌, min, Bool, true, false, cond, not, ◌&&◌, ◌||◌, List, [], ◌∷◌, ◌++◌, map, leb, ltb, eqb, length, get_or, set, replicate, take, drop, ℤ, pos, ◌+ℤ◌, ◌-ℤ◌}
use Rattle.std.specs.Bool.{beq}
use Rattle.std.specs.Int.Signed.{lt_z}
use Rattle.model.specs.Constellation.{real, bits_of}
use Rattle.model.specs.Metric.{Row, Vector, prior_cost, increment, cost_of, label_bits, prior_at}
use Rattle.model.specs.Order.{earlier}
use Rattle.model.specs.Soft.{Least, infinite, finite, up_from, places, soft_value}
use Rattle.model.specs.Walk.{any_of}
use Rattle.model.specs.Block.{Answer, empty_side, RowsInRange, most_streams, most_width, most_bits}
use Rattle.model.proofs.Bounds.{largest_metric}
use Rattle.metric.specs.Parts.{bit_of, filled}
use Rattle.metric.specs.Keys.{keyed, metric_in}
use Rattle.search_spec.specs.Arrays.{least_first}

-- The most children of a node
abbrev pub most_children : ℕ
most_children = 2 ^ most_width

-- A vector that document 01 allows; of the clip nothing is asked
pub record Ranged (v : Vector) : Type 0 where
  pub bit : 1 ≤ v.width
  pub bits : v.width ≤ most_width
  pub stream : 1 ≤ length v.rows
  pub streams : length v.rows ≤ most_streams
  pub label : length v.rows * v.width ≤ most_bits
  pub rows : RowsInRange v.width v.rows

-- The largest partial metric of a node with `level` streams to choose
abbrev pub largest_partial : Vector → ℕ → ℕ
largest_partial v level = largest_metric v.width (length v.rows - level)

-- The sentinel, 2 ^ 39, above every metric: an infinite least metric
abbrev pub above : ℕ
above = 549755813888

-- The key of a child that was tried, 2 ^ 62: it has the sentinel for a metric
abbrev pub tried : ℕ
tried = 4611686018427387904

-- The sentinel decoded
unfoldable pub side_of : ℕ → Least
side_of n = cond (eqb n above) infinite (finite n)

-- What the leaves gave: m as a number, B, and for each bit the least metric with it 0 and with it 1
pub record Taken : Type 0 where
  pub label : ℕ
  pub best : ℕ
  pub zeros : List ℕ
  pub ones : List ℕ

-- What is kept: nodes counted, the mark, and what the leaves gave
pub record Kept : Type 0 where
  pub count : ℕ
  pub stopped : Bool
  pub taken : Taken

abbrev pub taken_of : ℕ → ℕ → List ℕ → List ℕ → Taken
taken_of label best zeros ones = record { label = label; best = best; zeros = zeros; ones = ones }

-- One array has each bit's least metric with it 0, then that with it 1, two runs with room for a label's bits, and then the limits
abbrev pub zeros_of : List ℕ → List ℕ
zeros_of minima = take most_bits minima

abbrev pub ones_of : List ℕ → List ℕ
ones_of minima = take most_bits (drop most_bits minima)

abbrev pub limits_of : List ℕ → List ℕ
limits_of minima = drop (2 * most_bits) minima

abbrev pub taken_in : ℕ → ℕ → List ℕ → Taken
taken_in label best minima = taken_of label best (zeros_of minima) (ones_of minima)

abbrev pub kept_of : ℕ → Bool → Taken → Kept
kept_of count stopped taken = record { count = count; stopped = stopped; taken = taken }

-- Before the first node, with room for the minima of `room` bits
abbrev pub fresh : ℕ → Kept
fresh room = kept_of 0 false (taken_of 0 above (replicate room above) (replicate room above))

-- Bit i is at the child, of which the first `free` bits are not yet chosen, not chosen or chosen opposite to m's
unfoldable pub opens : ℕ → ℕ → ℕ → ℕ → ℕ → Bool
opens n label free child i = ltb i free || not (beq (bit_of n child i) (bit_of n label i))

-- B + C + prior if m's bit is 0, B + C - prior if it is 1
unfoldable pub reach_of : Bool → ℕ → ℤ → ℤ
reach_of bit far prior = cond bit (pos far -ℤ prior) (pos far +ℤ prior)

module _ (v : Vector) (t : Taken) where
  -- d is below bit i's limit: below the least metric with the bit opposite to m's, and below B + C with the prior
  unfoldable pub reaches : ℕ → ℕ → Bool
  reaches d i =
      let b = bit_of (label_bits v) t.label i in
      ltb d (get_or (cond b t.zeros t.ones) i 0) && lt_z (pos d) (reach_of b (t.best + v.clip) (prior_at v i))

  -- Bit i lets a child of partial metric d pass
  unfoldable pub lets : ℕ → ℕ → ℕ → ℕ → Bool
  lets d free child i = opens (label_bits v) t.label free child i && reaches d i

  -- The pass test
  unfoldable pub passing : ℕ → ℕ → ℕ → Bool
  passing d free child = leb d t.best || any_of (lets d free child) (places v)

-- The least metric at place i with a bit x, after one more label of metric d
unfoldable pub lowered_at : ℕ → Bool → ℕ → ℕ → List ℕ → ℕ → ℕ
lowered_at n x label d us i = cond (beq (bit_of n label i) x) (min d (get_or us i 0)) (get_or us i 0)

-- The same at all n bits
abbrev pub lowered : ℕ → Bool → ℕ → ℕ → List ℕ → List ℕ
lowered n x label d us = filled (lowered_at n x label d us) n us

-- The prior cost of a label, by its number
abbrev pub cost_at : Vector → ℕ → ℕ
cost_at v label = cost_of v (bits_of (label_bits v) label)

-- A label of metric d comes before the best one: by metric, then by prior cost, then by number
abbrev pub sooner : Vector → ℕ → ℕ → ℕ → ℕ → Bool
sooner v d node best label = earlier (d ∷ cost_at v node ∷ node ∷ []) (best ∷ cost_at v label ∷ label ∷ [])

-- A leaf of metric d is taken into m, B and the minima
unfoldable pub noted : Vector → ℕ → ℕ → Taken → Taken
noted v node d t =
    taken_of (cond (sooner v d node t.best t.label) node t.label) (min d t.best)
    (lowered (label_bits v) false node d t.zeros) (lowered (label_bits v) true node d t.ones)

-- In place of a row that is not there
abbrev pub no_row : Row
no_row = record { diagonal = 0; right = []; received = real 0; priors = [] }

-- How many bits are chosen while `level` streams are not
unfoldable pub chosen : Vector → ℕ → ℕ
chosen v level = (length v.rows - level) * v.width

-- The partial metric of the child with symbol s of a node of partial metric d; `level` streams stand above the child's
unfoldable pub partial_of : Vector → ℕ → ℕ → ℕ → ℕ → ℕ
partial_of v level node d s = d + increment v.width (get_or v.rows level no_row) (bits_of v.width s ++ bits_of (chosen v (suc level)) node)

-- The child's number
abbrev pub child_in : Vector → ℕ → ℕ → ℕ → ℕ
child_in v level node s = s * 2 ^ chosen v (suc level) + node

-- The prior cost of symbol s; `level` streams stand above its own
unfoldable pub symbol_cost : Vector → ℕ → ℕ → ℕ
symbol_cost v level s = prior_cost (get_or v.rows level no_row).priors (bits_of v.width s)

-- The child's key: its partial metric with that cost
abbrev pub key_of : Vector → ℕ → ℕ → ℕ → ℕ → ℕ
key_of v level node d s = keyed (partial_of v level node d s) (symbol_cost v level s)

-- The keys of all children
abbrev pub keys_of : Vector → ℕ → ℕ → ℕ → List ℕ
keys_of v level node d = map (key_of v level node d) (up_from 0 (2 ^ v.width))

-- A stopped search stays as it is; another goes on
abbrev pub onward : Bool → Kept → Kept → Kept
onward true k further = k
onward false k further = further

-- `fuel` of a node's n children are left: `test` is the pass test of a symbol with its key, `sub` the search below that child
module _ (test : ℕ → ℕ → Taken → Bool) (sub : ℕ → ℕ → Kept → Kept) (n allowance : ℕ) where
  unfoldable pub siblings : ℕ → List ℕ → Kept → Kept
  siblings zero keys k = k
  siblings (suc fuel) keys k =
      let s = least_first keys n in
      let key = get_or keys s 0 in
      let left = set keys s tried in
      cond (test s key k.taken)
      (cond (ltb k.count allowance)
      (let w = sub s key (kept_of (k.count + 1) k.stopped k.taken) in onward w.stopped w (siblings fuel left w))
      (kept_of k.count true k.taken))
      (siblings fuel left k)

-- The pass test of a node's child, by its key
abbrev pub test_of : Vector → ℕ → ℕ → ℕ → ℕ → Taken → Bool
test_of v level node s key t = passing v t (metric_in key) (level * v.width) (child_in v level node s)

-- The search below a node of partial metric d, with `level` streams to choose
unfoldable pub below : Vector → ℕ → ℕ → ℕ → ℕ → Kept → Kept
below v allowance zero node d k = kept_of k.count k.stopped (noted v node d k.taken)
below v allowance (suc level) node d k =
    siblings (test_of v level node) (λ s key. below v allowance level (child_in v level node s) (metric_in key)) (2 ^ v.width) allowance (2 ^ v.width)
    (keys_of v level node d) k

-- What is left to do below a node with `fuel` children not tried
unfoldable pub rest_of : Vector → ℕ → ℕ → ℕ → ℕ → List ℕ → Kept → Kept
rest_of v allowance level node fuel keys k =
    siblings (test_of v level node) (λ s key. below v allowance level (child_in v level node s) (metric_in key)) (2 ^ v.width) allowance fuel keys k

-- Bit i's soft value, from the minima; `empty` is what an empty side gives
unfoldable pub value_of : Vector → ℕ → Taken → ℕ → ℤ
value_of v empty t i = soft_value v.clip empty (prior_at v i) (side_of (get_or t.ones i 0)) (side_of (get_or t.zeros i 0))

-- A vector's part of the reply
abbrev pub answer_of : Bool → ℕ → ℕ → List ℤ → Answer
answer_of stopped count label soft = record { stopped = stopped; count = count; result = record { label = label; soft = soft } }

-- The answer by W, from what is kept at the end
unfoldable pub replied : Vector → ℕ → Kept → Answer
replied v weak k =
    answer_of k.stopped k.count k.taken.label (map (value_of v (empty_side k.stopped weak v.clip) k.taken) (places v))
