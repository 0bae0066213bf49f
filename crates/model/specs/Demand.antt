-- The user's demands 2 and 3, in their words, with document 02's W.
use Rattle.std.specs.Prelude.{ℕ, ◌+◌, ◌*◌, ◌≤◌, ◌<◌, min, ◌≡◌, Bool, true, false, ◌↔◌, ◌⊎◌, length, get_or, ℤ, pos, ◌-ℤ◌}
use mathlib.Core.List.{List, [], ◌∷◌, ◌++◌, Nodup}
use Rattle.integers.specs.Clip.{clipped}
use Rattle.model.specs.Constellation.{Bits, number}
use Rattle.model.specs.Metric.{Row, Vector, metric_of, cost_of, label_bits, bit_at, prior_at}
use Rattle.model.specs.Soft.{Least, infinite, finite, soft_value, Report, report}
use Rattle.model.specs.Walk.{walk, cut_children, leaves}
use Rattle.model.specs.Block.{Block, vector_of, Answer, empty_side, walked_nodes, walked_labels, total_count, ◌∈◌}
use Rattle.model.specs.Search.{search, search_answer}

-- a is "the least metric with that bit" x over all labels: one of them has it, none has less
pub record LeastMetric (v : Vector) (i : ℕ) (x : Bool) (a : ℕ) : Type 0 where
  pub label : Bits
  pub whole : length label ≡ label_bits v
  pub bit : bit_at i label ≡ x
  pub value : metric_of v label ≡ a
  pub least : (l : Bits) → length l ≡ label_bits v → bit_at i l ≡ x → a ≤ metric_of v l

-- z is bit i's soft value: "the least metric with that bit 1, less the least with it 0, less its prior, clipped"
pub record SoftValue (v : Vector) (i : ℕ) (z : ℤ) : Type 0 where
  pub one : ℕ
  pub zero : ℕ
  pub with1 : LeastMetric v i true one
  pub with0 : LeastMetric v i false zero
  pub value : z ≡ clipped v.clip (pos one -ℤ pos zero -ℤ prior_at v i)

-- Of some labels, the one that demand 2 picks: "the least metric"; a tie "goes to the one with less prior cost, and only then to the smaller
-- number" (document 02)
pub record First (v : Vector) (among : Bits → Type 0) (label : Bits) : Type 0 where
  pub least : (l : Bits) → among l → metric_of v label ≤ metric_of v l
  pub cheapest : (l : Bits) → among l → metric_of v l ≡ metric_of v label → cost_of v label ≤ cost_of v l
  pub smallest : (l : Bits) → among l → metric_of v l ≡ metric_of v label → cost_of v l ≡ cost_of v label → number label ≤ number l

-- Demand 2, of the label and the soft values of a complete vector: neither walk nor pruning is in it
pub record Demand2 (v : Vector) (r : Report) : Type 0 where
  pub label : Bits
  pub whole : length label ≡ label_bits v
  pub shown : r.label ≡ number label
  -- "the label has the least metric of all labels"
  pub first : First v (λ l. length l ≡ label_bits v) label
  -- each bit's soft value
  pub many : length r.soft ≡ label_bits v
  pub soft : (i : ℕ) → i < label_bits v → SoftValue v i (get_or r.soft i (pos 0))

-- u is the least metric with bit i equal to x over the labels of a list: infinite where none has it
abbrev pub LeastOver : Vector → List Bits → ℕ → Bool → Least → Type 0
LeastOver v ls i x infinite = (l : Bits) → l ∈ ls → bit_at i l ≡ x → ⊥
LeastOver v ls i x (finite a) =
    (l : Bits) × (l ∈ ls) × (bit_at i l ≡ x) × (metric_of v l ≡ a) × ((k : Bits) → k ∈ ls → bit_at i k ≡ x → a ≤ metric_of v k)

-- z is bit i's soft value over these labels
pub record SoftOver (v : Vector) (empty : ℕ) (ls : List Bits) (i : ℕ) (z : ℤ) : Type 0 where
  pub one : Least
  pub zero : Least
  pub with1 : LeastOver v ls i true one
  pub with0 : LeastOver v ls i false zero
  pub value : z ≡ soft_value v.clip empty (prior_at v i) one zero

-- "demand 2's with that set in place of all labels. A side on which the set has no label is infinite"
pub record Demand2Over (v : Vector) (empty : ℕ) (ls : List Bits) (r : Report) : Type 0 where
  pub label : Bits
  pub member : label ∈ ls
  pub shown : r.label ≡ number label
  pub first : First v (λ l. l ∈ ls) label
  pub many : length r.soft ≡ label_bits v
  pub soft : (i : ℕ) → i < label_bits v → SoftOver v empty ls i (get_or r.soft i (pos 0))

-- A label of a cut subtree (document 01's term), one "whose leaf is a cut child or lies below one"
pub record InCutSubtree (v : Vector) (l : Bits) : Type 0 where
  pub whole : length l ≡ label_bits v
  pub child : Bits
  pub cut : child ∈ cut_children v
  pub above : Bits
  pub joined : above ++ child ≡ l

-- s is "the walked labels and whichever labels of cut subtrees, many or none"
pub record WalkedAndCut (v : Vector) (s : List Bits) : Type 0 where
  pub every : (l : Bits) → l ∈ leaves v (walk v) → l ∈ s
  pub only : (l : Bits) → l ∈ s → (l ∈ leaves v (walk v)) ⊎ InCutSubtree v l

-- What demand 3 finds of one vector and its answer: `spent` nodes were walked before it, `after` vectors stand behind it, and n is its
-- allowance
pub record Result (b : Block) (spent after n : ℕ) (v : Vector) (a : Answer) : Type 0 where
  -- N × D, less what was spent, less (N - k) × M, with no difference cut off at 0
  pub allowed : n + (spent + after * b.streams) ≡ length b.vectors * b.share
  -- "marked stopped exactly when document 01's walk of it is longer than its allowance"
  pub stopped : (a.stopped ≡ true) ↔ (n < length (walk v))
  -- "each count is the smaller of that walk's length and the allowance", and "at least M"
  pub count : a.count ≡ min (length (walk v)) n
  pub least : b.streams ≤ a.count
  -- mark, count, label and values are the search's own, the count its "tally .. made node by node"
  pub tally : search_answer v b.weak (search v n) ≡ a
  -- "no node twice"
  pub once : Nodup (walked_nodes v n)
  -- "label and values over the walked labels alone", of which there is one; "a stopped vector is from here on judged by W on empty sides
  -- and by C elsewhere" (document 02)
  pub some : (l : Bits) × (l ∈ walked_labels v n)
  pub walked : a.result ≡ report v (empty_side a.stopped b.weak v.clip) (walked_labels v n)
  pub over : Demand2Over v (empty_side a.stopped b.weak v.clip) (walked_labels v n) a.result
  -- "for every complete vector, over the walked labels and whichever labels of cut subtrees .. the label and every soft value come
  -- out as in the reply"
  pub pruned : a.stopped ≡ false → (s : List Bits) → WalkedAndCut v s → report v v.clip s ≡ a.result
  -- and demand 2
  pub exact : a.stopped ≡ false → Demand2 v a.result

-- The same of vectors in record order, "each next one with what those before it spent"
abbrev pub ResultsFrom : Block → ℕ → List (List Row) → List Answer → Type 0
ResultsFrom b spent [] [] = Unit {0}
ResultsFrom b spent [] (a ∷ rest) = ⊥
ResultsFrom b spent (rows ∷ later) [] = ⊥
ResultsFrom b spent (rows ∷ later) (a ∷ rest) =
    ((n : ℕ) × Result b spent (length later) n (vector_of b rows) a) × ResultsFrom b (spent + a.count) later rest

-- Demand 3: one claim about a whole list of vectors and their answers. "The reply's counts add up to at most N × D"
pub record Demand3 (b : Block) (found : List Answer) : Type 0 where
  pub sum : total_count found ≤ length b.vectors * b.share
  pub each : ResultsFrom b 0 b.vectors found
