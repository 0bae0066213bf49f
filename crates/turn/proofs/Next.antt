-- The next child is a node of the vector, with its partial metric and both parts of it: its key is that of the node's child.
use Prim.Native.Nat.{ℕ, suc, ◌+◌, ◌-◌, ◌*◌, ◌^◌, ◌≤◌, ◌<◌}
use mathlib.Core.Path.{◌≡◌, refl, sym, ◌∙◌, ap, subst}
use mathlib.Core.List.{List, []}
use native.Mathlib.Omega.{arith}
use lib.ListN.{get_or, take}
use lib.Seq.{take_at}
use lib.IntN.{ℤ}
use Rattle.model.specs.Constellation.{bits_of}
use Rattle.model.specs.Metric.{Row, Vector, prior_cost, increment}
use Rattle.model.proofs.Numbers.{length-bits_of}
use Rattle.block.proofs.Places.{rows_count}
use Rattle.metric.specs.Keys.{cost_room, metric_in, cost_in}
use Rattle.metric.specs.Rows.{row_at, child_bits, symbol_cost_in, child_key}
use Rattle.metric.specs.Children.{Parted}
use Rattle.metric.proofs.Keys.{key_metric}
use Rattle.metric.proofs.Parted.{parted}
use Rattle.search_spec.specs.Arrays.{least_first}
use Rattle.search_spec.specs.Program.{above, no_row, chosen, partial_of, symbol_cost, child_in}
use Rattle.search_spec.proofs.Answer.{symbol_cheap}
use Rattle.search_spec.proofs.Bounds.{symbol_inside, chosen_by_lem, partial_bound, partial_under, child_placed, child_by}
use Rattle.search_spec.proofs.Parts.{child_parts, parts_sum}
use Rattle.hypotheses.specs.Limits.{vector_at, SearchAsked}
use Rattle.expansion.specs.Expand.{NodeIn, kid_key}
use Rattle.expansion.proofs.Rows.{row_is, partial_by}
use Rattle.expansion.proofs.Nodes.{in_range, within, level_up, some, row_inside}
use Rattle.turn.specs.Turn.{next_of}
use Rattle.tree.specs.declared.Node.{Node}

-- The first smallest key is that of a symbol
pub symbol_least : (keys : List ℕ) (q : ℕ) → least_first keys (2 ^ q) < 2 ^ q
symbol_least keys q = symbol_inside keys q (2 ^ q) (least_first keys (2 ^ q)) refl refl

-- The next child of a node: squared distance, prior cost and their sum
pub next_parted : (m q : ℕ) (numbers : List ℤ) (n : Node) → n.partial ≡ n.distance + n.cost → (label : ℕ) (limits keys : List ℕ)
    → let s = least_first keys (2 ^ q) in
    let child = next_of m q n label limits keys in
    symbol_cost_in m q numbers (n.level - 1) s < cost_room → get_or keys s 0 ≡ kid_key m q numbers n s
    → Parted m q numbers (n.level - 1) n.bits n.distance n.cost s child.distance child.cost child.partial
next_parted m q numbers n sum label limits keys cheap is =
    let s = least_first keys (2 ^ q) in
    parted m q numbers (n.level - 1) n.bits n.distance n.cost s (get_or keys s 0) cheap
    (is ∙ ap (λ (d : ℕ). child_key m q numbers (n.level - 1) n.bits d s) sum)

module _ {m q clip : ℕ} {numbers : List ℤ} (a : SearchAsked m q clip numbers) {n : Node} (w : NodeIn m q clip numbers n) (inner : 0 < n.level)
    (keys : List ℕ)
    (is : get_or keys (least_first keys (2 ^ q)) 0 ≡ kid_key m q numbers n (least_first keys (2 ^ q))) where
  abbrev v : Vector
  v = vector_at m q clip numbers

  abbrev s : ℕ
  s = least_first keys (2 ^ q)

  cheap : symbol_cost_in m q numbers (n.level - 1) s < cost_room
  unfolding symbol_cost
  cheap =
      subst (λ (r : Row). prior_cost r.priors (bits_of q s) < cost_room) (row_is m q numbers a.vector (n.level - 1) no_row (row_inside a w inner))
      (symbol_cheap v (in_range a w) (n.level - 1) s)

  -- The metric in its key is its partial metric,
  metric_is : metric_in (get_or keys s 0) ≡ partial_of v (n.level - 1) n.bits n.partial s
  metric_is =
      ap metric_in is ∙ key_metric _ _ cheap ∙ partial_by m q numbers a.vector clip (n.level - 1) n.bits n.partial s (row_inside a w inner)

  -- which is not above the sentinel
  pub next_low : metric_in (get_or keys s 0) < above
  next_low = rw metric_is (partial_under v n.level (some a w inner) (within a w) (in_range a w) n.partial w.bounded n.bits s)

  both : (label : ℕ) (limits : List ℕ)
      → let child = next_of m q n label limits keys in
      Parted m q numbers (n.level - 1) n.bits n.distance n.cost s child.distance child.cost child.partial
  both label limits = next_parted m q numbers n (parts_sum v n w.parts) label limits keys cheap is

  -- Its prior cost is within it
  pub next_within : n.cost + cost_in (get_or keys s 0) ≤ metric_in (get_or keys s 0)
  unfolding increment
  next_within = let p = both 0 [] in omega (arith, p.cost_is, p.sum_is, own_cost)
    where
      own_cost : prior_cost (row_at m q numbers (n.level - 1)).priors (take q (child_bits m q (n.level - 1) n.bits s))
          ≡ prior_cost (row_at m q numbers (n.level - 1)).priors (bits_of q s)
      own_cost = ap (prior_cost (row_at m q numbers (n.level - 1)).priors) (take_at (bits_of q s) _ q (length-bits_of q s))

  -- Its row and the bits after its symbol, as the search names them
  row_same : get_or v.rows (n.level - 1) no_row ≡ row_at m q numbers (n.level - 1)
  row_same = row_is m q numbers a.vector (n.level - 1) no_row (row_inside a w inner)

  chosen_same : chosen v n.level ≡ (m - suc (n.level - 1)) * q
  chosen_same = chosen_by_lem v m n.level (sym (rows_count m q numbers)) ∙ ap (λ (l : ℕ). (m - l) * q) (level_up a w inner)

  module _ (label : ℕ) (limits : List ℕ) where
    abbrev next : Node
    next = next_of m q n label limits keys

    pub next_bits : next.bits ≡ child_in v (n.level - 1) n.bits s
    next_bits = child_by v n.level (some a w inner) (within a w) m n.bits s next.bits (sym (rows_count m q numbers)) refl

    pub next_in : NodeIn m q clip numbers next
    next_in = record {
      inside = omega (arith, w.inside);
      placed = child_placed v n.level (some a w inner) (within a w) n.bits s next.bits (symbol_least keys q) w.placed next_bits;
      bounded = rw metric_is (partial_bound v n.level (some a w inner) (within a w) (in_range a w) n.partial w.bounded n.bits s);
      parts =
          let p = both label limits in
          child_parts v n w.parts (some a w inner) (within a w) w.placed s next refl next_bits (rw (row_same, chosen_same) (p.sum_is ∙ ap (λ (d : ℕ). d + increment q (row_at m q numbers (n.level - 1)) (child_bits m q (n.level - 1) n.bits s)) (sym (parts_sum v n w.parts))))
          (rw (row_same, chosen_same) p.distance_is) (rw row_same p.cost_is);
    }
