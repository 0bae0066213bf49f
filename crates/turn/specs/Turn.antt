-- A turn over a node's children, by the arrays of limits and keys.
use Rattle.std.specs.Prelude.{ℕ, ◌+◌, ◌-◌, ◌*◌, ◌≤◌, ◌<◌, ◌^◌, max, ◌≡◌, true, false, List, ℤ, length, get_or, take, drop}
use Rattle.metric.specs.Keys.{cost_room, metric_in, cost_in}
use Rattle.metric.specs.Rows.{symbol_cost_in}
use Rattle.metric.specs.Children.{Parted}
use Rattle.search_spec.specs.Arrays.{least_first}
use Rattle.search_spec.specs.Program.{above}
use Rattle.limits.specs.Reach.{limits_size}
use Rattle.enumeration.specs.Rows.{key_count, RowLeast, Took}
use Rattle.hypotheses.specs.Limits.{LimitsAsked}
use Rattle.turn.specs.Limits.{passes_at, opposite_reach}
use Rattle.expansion.specs.Expand.{NodeIn, kid_key, Shut, Filled}
use Rattle.tree.specs.declared.Task.{Task}
use Rattle.tree.specs.declared.Node.{Node}
use Rattle.tree.specs.declared.Kept.{Kept}
use Rattle.turn.specs.declared.Turn.{Turn}
use Rattle.turn.specs.declared.Turn.TheVariants.{Ended, Cut, Stop, Left, Leaf, Enter}

-- The keys behind a node's own, of the levels below
abbrev pub behind : ℕ → List ℕ → List ℕ
behind q keys = take (length keys - key_count q) (drop (key_count q) keys)

-- What taking a node's next child asks: its partial metric is no less than its prior cost
pub record NextAsked (m q : ℕ) (n : Node) (limits keys : List ℕ) : Type 0 where
  pub inner : 0 < n.level
  pub inside : n.level ≤ m
  pub placed : n.bits < 2 ^ ((m - n.level) * q)
  pub size : length limits ≡ limits_size
  pub rows : RowLeast q keys
  pub low : metric_in (get_or keys (least_first keys (2 ^ q)) 0) < above
  pub within : let key = get_or keys (least_first keys (2 ^ q)) 0 in n.cost + cost_in key ≤ metric_in key

-- The next child of a node, by the first of its smallest keys: the metric in that key is its partial metric, of which its prior cost is its
-- parent's with the one in the key and its squared distance the rest; its chosen bits are its own symbol's and its parent's
abbrev pub next_of : ℕ → ℕ → Node → ℕ → List ℕ → List ℕ → Node
next_of m q n label limits keys =
    let s = least_first keys (2 ^ q) in
    let key = get_or keys s 0 in
    record {
      level = n.level - 1;
      bits = s * 2 ^ ((m - n.level) * q) + n.bits;
      partial = metric_in key;
      distance = metric_in key - (n.cost + cost_in key);
      cost = n.cost + cost_in key;
      chosen = max (opposite_reach m q label limits (n.level - 1) s) n.chosen;
    }

-- That child is taken. Document 02, Point 5: whatever vector the node is of, where its key is that of the node's child it has squared distance,
-- prior cost and their sum
pub record NextChild (m q : ℕ) (n : Node) (label : ℕ) (limits old new : List ℕ) (child : Node) : Type 0 where
  pub is : child ≡ next_of m q n label limits old
  pub took : Took q old new (least_first old (2 ^ q))
  pub parted : (numbers : List ℤ) → n.partial ≡ n.distance + n.cost
      → let s = least_first old (2 ^ q) in
      symbol_cost_in m q numbers (n.level - 1) s < cost_room → get_or old s 0 ≡ kid_key m q numbers n s
      → Parted m q numbers (n.level - 1) n.bits n.distance n.cost s child.distance child.cost child.partial

-- What a turn asks: of the next child, too
pub record AdvanceAsked (t : Task) (numbers : List ℤ) (n : Node) (k : Kept) (limits keys : List ℕ) : Type 0 where
  pub child : NodeIn t.streams t.width t.clip numbers (next_of t.streams t.width n k.label limits keys)
  pub limited : LimitsAsked t.streams t.width limits
  pub next : NextAsked t.streams t.width n limits keys
  pub lowest : k.best ≤ above
  pub room : n.level * key_count t.width ≤ length keys

-- What a turn comes to. The children end where the node itself fails with the metric in the smallest key left; the child with that key fails, or passes
-- with the allowance used up, or is counted. Then it is a leaf, or all of its own children would be cut, or their keys stand behind the
-- node's
module _ (t : Task) (numbers : List ℤ) (n : Node) (k : Kept) (limits old new : List ℕ) where
  abbrev child : Node
  child = next_of t.streams t.width n k.label limits old

  abbrev taken : Type 0
  taken = Took t.width old new (least_first old (2 ^ t.width))

  pub record Counts : Type 0 where
    pub took : taken
    pub passes : passes_at k.best limits child.chosen child.partial child.level ≡ true
    pub more : k.count < t.allowance

  abbrev pub Advanced : Turn → Type 0
  Advanced Ended = passes_at k.best limits n.chosen child.partial n.level ≡ false
  Advanced Cut = taken × (passes_at k.best limits child.chosen child.partial child.level ≡ false)
  Advanced Stop = (passes_at k.best limits child.chosen child.partial child.level ≡ true) × (t.allowance ≤ k.count)
  Advanced Left = Counts × (0 < child.level) × Shut t.streams t.width numbers child k.label k.best limits
  Advanced (Leaf c) = Counts × (c ≡ child) × (child.level ≡ 0)
  Advanced (Enter c) =
      Counts × (c ≡ child) × (0 < child.level) × Filled t.streams t.width numbers child (behind t.width new)
