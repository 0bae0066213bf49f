-- The search of one vector as a program keeps it: no list of nodes or leaves, but a count, a mark, the best label, its metric and two
-- least metrics for each bit. Code is proved against this; a reader need not believe it, since `search_answer .. (search ..)` is
-- proved to be the `answer` of document 01 (proofs/Search).
use Rattle.std.specs.Prelude.{ℕ, suc, Bool, true, false, cond, ltb, get_or, ℤ}
use mathlib.Core.List.{List, [], ◌∷◌, map, foldl, reverse}
use Rattle.model.specs.Constellation.{Bits, number}
use Rattle.model.specs.Metric.{Row, Vector, metric, metric_of, bit_at, prior_at}
use Rattle.model.specs.Soft.{Least, infinite, finite, lesser, has_bit, better, places, soft_value}
use Rattle.model.specs.Walk.{is_leaf, passes, children}
use Rattle.model.specs.Block.{Answer, empty_side}

-- Nodes counted, the mark, m, B, and for each bit the least metric with it 0 and with it 1
pub record Search : Type 0 where
  pub count : ℕ
  pub stopped : Bool
  pub best : Bits
  pub least : Least
  pub zeros : List Least
  pub ones : List Least

unfoldable pub start : Vector → Search
start v = record { count = 0; stopped = false; best = []; least = infinite; zeros = map (λ i. infinite) (places v); ones = map (λ i. infinite) (places v) }

-- Bit i's U
abbrev pub opposite_of : Search → ℕ → Least
opposite_of s i = get_or (cond (bit_at i s.best) s.zeros s.ones) i infinite

-- The pass test from what is kept
abbrev pub admits : Vector → Search → ℕ → Bits → Bool
admits v s d node = passes v s.least s.best (opposite_of s) d node

-- m after one more leaf
abbrev pub best_after : Vector → Least → Bits → Bits → Bits
best_after v infinite best leaf = leaf
best_after v (finite b) best leaf = better v best leaf

-- The least metrics with a bit x after one more leaf
abbrev pub updated : Vector → Bool → List Least → Bits → List Least
updated v x us leaf =
    map (λ i. cond (has_bit i x leaf) (lesser (metric_of v leaf) (get_or us i infinite)) (get_or us i infinite)) (places v)

-- A node is walked: counted and, where it is a leaf, taken into m, B and the minima
unfoldable pub enter : Vector → Search → Bits → Search
enter v s node =
    cond (is_leaf v node)
    (record {
      count = suc s.count;
      stopped = s.stopped;
      best = best_after v s.least s.best node;
      least = lesser (metric_of v node) s.least;
      zeros = updated v false s.zeros node;
      ones = updated v true s.ones node;
    })
    (record { count = suc s.count; stopped = s.stopped; best = s.best; least = s.least; zeros = s.zeros; ones = s.ones })

abbrev pub stop : Search → Search
stop s = record { count = s.count; stopped = true; best = s.best; least = s.least; zeros = s.zeros; ones = s.ones }

-- A child is tried under an allowance of n nodes: one that passes is entered while the count is below n, else the search stops
abbrev pub attempt : Vector → ℕ → List Row → (Bits → Search → Search) → Search → Bits → Search
attempt v n rows below s child =
    let further = below child (enter v s child) in
    cond s.stopped s (cond (admits v s (metric v.width rows child) child) (cond (ltb s.count n) further (stop s)) s)

unfoldable pub search_below : Vector → ℕ → List Row → List Row → Bits → Search → Search
search_below v n [] done node s = s
search_below v n (r ∷ todo) done node s = foldl (attempt v n (r ∷ done) (search_below v n todo (r ∷ done))) s (children v.width (r ∷ done) node)

abbrev pub search : Vector → ℕ → Search
search v n = search_below v n (reverse v.rows) [] [] (start v)

-- Bit i's soft value from a finished search; `empty` is what an empty side gives
abbrev pub value_at : Vector → ℕ → Search → ℕ → ℤ
value_at v empty s i = soft_value v.clip empty (prior_at v i) (get_or s.ones i infinite) (get_or s.zeros i infinite)

-- The answer of a finished search, by W
unfoldable pub search_answer : Vector → ℕ → Search → Answer
search_answer v weak s = record {
  stopped = s.stopped;
  count = s.count;
  result = record { label = number s.best; soft = map (value_at v (empty_side s.stopped weak v.clip) s) (places v) };
}
