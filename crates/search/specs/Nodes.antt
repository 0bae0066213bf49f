-- What the search below a node asks, and a node after leaves were walked below it.
use Rattle.std.specs.Prelude.{ℕ, ◌*◌, ◌≤◌, ◌≡◌, List, ℤ, length}
use Rattle.model.specs.Block.{most_width}
use Rattle.search_spec.specs.Program.{above, Taken}
use Rattle.enumeration.specs.Rows.{key_count}
use Rattle.hypotheses.specs.Limits.{vector_at, Limited}
use Rattle.expansion.specs.Expand.{NodeIn}
use Rattle.turn.specs.Limits.{opposite}
use Rattle.tree.specs.declared.Node.{Node}

-- The places of the keys of all levels, three of the widest symbols or four of 6 bits
abbrev pub key_places : ℕ
key_places = 3 * key_count most_width

-- A node after leaves were walked: what its chosen bits give is looked up anew
pub record Renewal (m q label : ℕ) (limits : List ℕ) (old new : Node) : Type 0 where
  pub level_is : new.level ≡ old.level
  pub bits_is : new.bits ≡ old.bits
  pub partial_is : new.partial ≡ old.partial
  pub distance_is : new.distance ≡ old.distance
  pub cost_is : new.cost ≡ old.cost
  pub chosen_is : new.chosen ≡ opposite m q limits label old.level old.bits

-- What the search below it asks, but for the keys of its children
pub record NodeAsked (m q clip : ℕ) (numbers : List ℤ) (n : Node) (t : Taken) (limits keys : List ℕ) : Type 0 where
  pub node : NodeIn m q clip numbers n
  pub lowest : t.best ≤ above
  pub limited : Limited (vector_at m q clip numbers) t limits
  pub opposed : n.chosen ≡ opposite m q limits t.label n.level n.bits
  pub room : n.level * key_count q ≤ length keys
