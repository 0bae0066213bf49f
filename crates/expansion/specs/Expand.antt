-- A node's children before the first of them is tried: all would be cut, or their keys are filled in.
use Rattle.std.specs.Prelude.{ℕ, suc, ◌+◌, ◌-◌, ◌*◌, ◌≤◌, ◌<◌, ◌^◌, max, ◌≡◌, Bool, true, false, not, ◌&&◌, ◌||◌, cond, List, ℤ, nat_abs, eqb, length, get_or, replicate}
use Rattle.model.specs.Constellation.{Complex, bits_of}
use Rattle.constellation.specs.Points.{complex_of}
use Rattle.metric.specs.Keys.{cost_room}
use Rattle.metric.specs.Rows.{row_at, remainder_of, child_of, child_key}
use Rattle.metric.specs.Parts.{span, remainder_bound}
use Rattle.axes.specs.Tables.{axis_place, table_part, parts_in}
use Rattle.axes.specs.Tables.Axis.{real, imaginary}
use Rattle.search_spec.specs.Program.{above, largest_partial, chosen}
use Rattle.search_spec.specs.Parts.{NodeParts}
use Rattle.bounding.specs.Cut.{Beyond}
use Rattle.bounding.specs.Axes.{priced_by}
use Rattle.bounding.specs.Answers.{some_child_may_pass, some_child_may_pass_by_parts}
use Rattle.limits.specs.Reach.{first_place, entries_of, symbol_of}
use Rattle.enumeration.specs.Rows.{key_count, keys_in, RowLeast}
use Rattle.hypotheses.specs.Limits.{vector_at, LimitsAsked}
use Rattle.tree.specs.declared.Task.{Task}
use Rattle.tree.specs.declared.Node.{Node}

-- A node of a vector, with both parts of its partial metric
pub record NodeIn (m q clip : ℕ) (numbers : List ℤ) (n : Node) : Type 0 where
  pub inside : n.level ≤ m
  pub placed : n.bits < 2 ^ chosen (vector_at m q clip numbers) n.level
  pub bounded : n.partial ≤ largest_partial (vector_at m q clip numbers) n.level
  pub parts : NodeParts (vector_at m q clip numbers) n

-- The partial metric of a node's child with symbol s
abbrev pub kid_of : ℕ → ℕ → List ℤ → Node → ℕ → ℕ
kid_of m q numbers n s = child_of m q numbers (n.level - 1) n.bits n.partial s

-- and its key
abbrev pub kid_key : ℕ → ℕ → List ℤ → Node → ℕ → ℕ
kid_key m q numbers n s = child_key m q numbers (n.level - 1) n.bits n.partial s

-- What remains of y in the row of a node's children
abbrev pub left_of : ℕ → ℕ → List ℤ → Node → Complex
left_of m q numbers n = remainder_of q (row_at m q numbers (n.level - 1)) (bits_of ((m - suc (n.level - 1)) * q) n.bits)

-- `re` and `im` are its parts
pub record Remains (m q : ℕ) (numbers : List ℤ) (n : Node) (re im : ℤ) : Type 0 where
  pub is : complex_of re im ≡ left_of m q numbers n
  pub low_re : nat_abs re < remainder_bound
  pub low_im : nat_abs im < remainder_bound

-- What asking whether a child of a node may pass asks: `re` and `im` are what remains of y in the children's row
pub record OpenAsked (t : Task) (numbers : List ℤ) (n : Node) (best : ℕ) (re im : ℤ) (limits : List ℕ) : Type 0 where
  pub node : NodeIn t.streams t.width t.clip numbers n
  pub inner : 0 < n.level
  pub limited : LimitsAsked t.streams t.width limits
  pub lowest : best ≤ above
  pub left : Remains t.streams t.width numbers n re im

-- What all children of a node with `level` streams to choose are held against: below it each of them passes
abbrev pub base_of : ℕ → List ℕ → ℕ → ℕ → ℕ
base_of best limits chosen level = max (max (best + 1) (get_or limits (first_place (level - 1)) 0)) chosen

-- The child with symbol s and partial metric d would be cut
abbrev pub WouldCut : ℕ → ℕ → ℕ → ℕ → ℕ → ℕ → List ℕ → ℕ → ℕ → Type 0
WouldCut m q level chosen label best limits d s =
    Beyond q (base_of best limits chosen level) (entries_of limits (level - 1)) (symbol_of m q label (level - 1)) d s

-- All children of a node would be cut
abbrev pub Shut : ℕ → ℕ → List ℤ → Node → ℕ → ℕ → List ℕ → Type 0
Shut m q numbers n label best limits =
    (s : ℕ) → s < 2 ^ q → WouldCut m q n.level n.chosen label best limits (kid_of m q numbers n s) s

-- May a child of a node pass, as it is found: by the distances, and of a parent of leaves, where there are prior costs, by the parts too
unfoldable pub may_pass_at : ℕ → ℕ → List ℤ → List ℤ → Node → ℕ → ℕ → ℤ → ℤ → List ℕ → Bool
may_pass_at m q numbers tables n label best re im limits =
    let row = n.level - 1 in
    let base = base_of best limits n.chosen n.level in
    let own = symbol_of m q label row in
    some_child_may_pass m q row re im n.partial base numbers (entries_of limits row) own
    && (not (eqb row 0 && priced_by q tables row)
    || some_child_may_pass_by_parts q n.partial base (table_part tables (axis_place row real) re) (table_part tables (axis_place row imaginary) im)
    (entries_of limits row) own)

-- What filling in the keys of a node's children asks
pub record KeysAsked (t : Task) (numbers : List ℤ) (n : Node) (keys : List ℕ) : Type 0 where
  pub node : NodeIn t.streams t.width t.clip numbers n
  pub inner : 0 < n.level
  pub room : n.level * key_count t.width ≤ length keys

-- What looking at them asks
pub record ExpandAsked (t : Task) (numbers : List ℤ) (n : Node) (best : ℕ) (limits keys : List ℕ) : Type 0 where
  pub node : NodeIn t.streams t.width t.clip numbers n
  pub inner : 0 < n.level
  pub limited : LimitsAsked t.streams t.width limits
  pub lowest : best ≤ above
  pub room : n.level * key_count t.width ≤ length keys

-- The keys of a node's children are filled in, and behind them the smallest of each row
pub record Filled (m q : ℕ) (numbers : List ℤ) (n : Node) (keys : List ℕ) : Type 0 where
  pub each : (s : ℕ) → s < 2 ^ q → get_or keys s 0 ≡ kid_key m q numbers n s
  pub rows : RowLeast q keys

-- What is found of them: whether their keys are
abbrev pub Expanded : ℕ → ℕ → List ℤ → Node → ℕ → ℕ → List ℕ → List ℕ → Bool → Type 0
Expanded m q numbers n label best limits new false = Shut m q numbers n label best limits
Expanded m q numbers n label best limits new true = Filled m q numbers n new

-- The test's answer, and the keys with those of a node's children filled in
abbrev pub may_pass : ℕ → ℕ → List ℤ → List ℤ → Node → ℕ → ℕ → List ℕ → Bool
may_pass m q numbers tables n label best limits =
    let left = left_of m q numbers n in
    may_pass_at m q numbers tables n label best left.re left.im limits

unfoldable pub keys_for : ℕ → ℕ → List ℤ → List ℤ → Node → List ℕ → List ℕ
keys_for m q numbers tables n keys =
    let left = left_of m q numbers n in
    keys_in q (n.partial * cost_room) (parts_in q tables (n.level - 1) left.re left.im (replicate (2 * span) 0)) keys

-- The answer, and the whole of the keys: where a child may pass those of all are filled in, else they are as before
pub record Told (m q : ℕ) (numbers tables : List ℤ) (n : Node) (label best : ℕ) (limits old new : List ℕ) (r : Bool) : Type 0 where
  pub answer : r ≡ may_pass m q numbers tables n label best limits
  pub keys : new ≡ cond r (keys_for m q numbers tables n old) old
