-- Both parts of the best label's metric stay with it: a leaf that takes its place brings its own.
use Prim.Native.Nat.{ℕ, ◌+◌, ◌-◌, ◌<◌, min}
use mathlib.Core.Path.{◌≡◌, refl, ◌∙◌, ap}
use mathlib.Core.Bool.{Bool, true, false, cond}
use mathlib.Core.List.{List}
use native.Mathlib.Omega.{arith}
use lib.ListN.{length}
use Rattle.model.specs.Constellation.{Bits, bits_of}
use Rattle.model.specs.Metric.{Row, Vector, distance, cost, label_bits}
use Rattle.search_spec.specs.Program.{above, chosen, Kept as Search, kept_of, taken_in, cost_at, sooner, noted}
use Rattle.search_spec.specs.Parts.{node_sum, NodeParts, BestParts}
use Rattle.search_spec.proofs.Agree.{sooner_min}
use Rattle.hypotheses.specs.Limits.{PartsAfter}
use Rattle.tree.specs.declared.Node.{Node}
use Rattle.tree.specs.declared.Kept.{Kept}

-- Before the first leaf there is none
pub none_best : (v : Vector) (k : Kept) → k.best ≡ above → BestParts v k
none_best v k e = record { distance_is = λ found. absurd (omega arith); cost_is = λ found. absurd (omega arith) }

-- A node more is counted: the best label stays
pub best_counted : (v : Vector) (k : Kept) → BestParts v k → BestParts v (record k { count = k.count + 1 })
best_counted v k p = record { distance_is = p.distance_is; cost_is = p.cost_is }

-- A leaf's sums are its label's
leaf_sum : (sum : ℕ → List Row → Bits → ℕ) (v : Vector) (level bits : ℕ) → level ≡ 0
    → node_sum sum v level bits ≡ sum v.width v.rows (bits_of (label_bits v) bits)
unfolding chosen
leaf_sum sum v level bits e = rw e (let all : length v.rows - 0 ≡ length v.rows = omega arith in rw all)

-- and so is its prior cost
pub leaf_cost : (v : Vector) {leaf : Node} → leaf.level ≡ 0 → NodeParts v leaf → leaf.cost ≡ cost_at v leaf.bits
leaf_cost v {leaf} bottom p = p.cost_is ∙ leaf_sum cost v leaf.level leaf.bits bottom

-- A leaf is taken
module _ (v : Vector) {leaf : Node} (p : NodeParts v leaf) (bottom : leaf.level ≡ 0) {k r : Kept} (after : PartsAfter v leaf k r)
    (old new : List ℕ) (is : kept_of r.count r.stopped (taken_in r.label r.best new)
    ≡ kept_of k.count k.stopped (noted v leaf.bits leaf.partial (taken_in k.label k.best old))) where
  first : Bool
  first = sooner v leaf.partial leaf.bits k.best k.label

  label_is : r.label ≡ cond first leaf.bits k.label
  unfolding noted first
  label_is = ap (λ (x : Search). x.taken.label) is

  best_is : r.best ≡ min leaf.partial k.best
  unfolding noted
  best_is = ap (λ (x : Search). x.taken.best) is

  -- One of the two parts: of the leaf where it comes first, else as it was
  part_after : (sum : ℕ → List Row → Bits → ℕ) (own old new : ℕ) → own ≡ node_sum sum v leaf.level leaf.bits
      → (k.best < above → old ≡ sum v.width v.rows (bits_of (label_bits v) k.label)) → new ≡ cond first own old
      → r.best < above → new ≡ sum v.width v.rows (bits_of (label_bits v) r.label)
  unfolding first
  part_after sum own old new eo kept en found = go first refl
    where
      go : (t : Bool) → first ≡ t → new ≡ sum v.width v.rows (bits_of (label_bits v) r.label)
      go true e =
          let l : r.label ≡ leaf.bits = label_is ∙ ap (λ (x : Bool). cond x leaf.bits k.label) e in
          rw l (en ∙ ap (λ (x : Bool). cond x own old) e ∙ eo ∙ leaf_sum sum v leaf.level leaf.bits bottom)
      go false e =
          let l : r.label ≡ k.label = label_is ∙ ap (λ (x : Bool). cond x leaf.bits k.label) e in
          let b : r.best ≡ k.best = best_is ∙ sooner_min v leaf.partial leaf.bits k.best k.label false e in
          rw l (en ∙ ap (λ (x : Bool). cond x own old) e ∙ kept (omega arith))

  pub best_after_lem : BestParts v k → BestParts v r
  unfolding first
  best_after_lem b = record {
    distance_is = part_after distance _ _ _ p.distance_is b.distance_is after.distance_is;
    cost_is = part_after cost _ _ _ p.cost_is b.cost_is after.cost_is;
  }
