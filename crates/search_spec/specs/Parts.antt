-- Document 02, Point 5: "the two parts and their sum", of a node over the streams that it has chosen, and of the best label.
use Rattle.std.specs.Prelude.{ℕ, ◌<◌, ◌≡◌, List, drop}
use Rattle.model.specs.Constellation.{Bits, bits_of}
use Rattle.model.specs.Metric.{Row, Vector, metric, distance, cost, distance_of, label_bits}
use Rattle.search_spec.specs.Program.{above, chosen, cost_at}
use Rattle.tree.specs.declared.Node.{Node}
use Rattle.tree.specs.declared.Kept.{Kept}

-- One of the model's sums over rows, of a node with `level` streams to choose
abbrev pub node_sum : (ℕ → List Row → Bits → ℕ) → Vector → ℕ → ℕ → ℕ
node_sum sum v level bits = sum v.width (drop level v.rows) (bits_of (chosen v level) bits)

-- A node carries its partial metric, its squared distance and its prior cost
pub record NodeParts (v : Vector) (n : Node) : Type 0 where
  pub partial_is : n.partial ≡ node_sum metric v n.level n.bits
  pub distance_is : n.distance ≡ node_sum distance v n.level n.bits
  pub cost_is : n.cost ≡ node_sum cost v n.level n.bits

-- Once there is a leaf, both parts of the best label's metric are kept
pub record BestParts (v : Vector) (k : Kept) : Type 0 where
  pub distance_is : k.best < above → k.distance ≡ distance_of v (bits_of (label_bits v) k.label)
  pub cost_is : k.best < above → k.cost ≡ cost_at v k.label
