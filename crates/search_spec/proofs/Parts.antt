-- The parts of a node's child: each sum has one row more, that of the child's stream.
use Prim.Native.Nat.{ℕ, suc, ◌+◌, ◌-◌, ◌*◌, ◌%◌, ◌/◌, ◌^◌, ◌≤◌, ◌<◌}
use mathlib.Core.Path.{◌≡◌, refl, sym, ◌∙◌, ap, ap₂}
use mathlib.Core.List.{List, ◌∷◌, ◌++◌}
use native.Mathlib.Nat.{mul-add-div_right, div-eq_of_lt, mul-add-mod_self_right, mod-eq_of_lt}
use native.Mathlib.Omega.{arith}
use lib.ListN.{length, get_or, take, drop, take-append-drop}
use lib.Pow.{pow_pos}
use lib.Seq.{drop-cons, drop_at, take_at}
use Rattle.model.specs.Constellation.{Bits, bits_of}
use Rattle.model.specs.Metric.{Row, Vector, squared_distance, prior_cost, increment, metric, distance, cost}
use Rattle.model.proofs.Numbers.{length-bits_of, take_bits, drop_bits, low_bits}
use Rattle.model.proofs.Parts.{metric_parts}
use Rattle.search_spec.specs.Program.{no_row, chosen, child_in}
use Rattle.search_spec.specs.Parts.{node_sum, NodeParts}
use Rattle.search_spec.proofs.Bounds.{chosen_step}
use Rattle.tree.specs.declared.Node.{Node}

-- The bits of a number that is put together of two
joined : (a b x y : ℕ) → y < 2 ^ b → bits_of (a + b) (x * 2 ^ b + y) ≡ bits_of a x ++ bits_of b y
joined a b x y h =
    sym (take-append-drop a (bits_of (a + b) (x * 2 ^ b + y)))
    ∙ ap₂ ◌++◌ (take_bits a b (x * 2 ^ b + y) ∙ ap (bits_of a) first) (drop_bits a b (x * 2 ^ b + y) ∙ sym (low_bits b (x * 2 ^ b + y)) ∙ ap (bits_of b) last)
  where
    first : (x * 2 ^ b + y) / 2 ^ b ≡ x
    first = omega (arith, mul-add-div_right (pow_pos b) x y, div-eq_of_lt h)

    last : (x * 2 ^ b + y) % 2 ^ b ≡ y
    last = mul-add-mod_self_right x (2 ^ b) y ∙ mod-eq_of_lt h

-- A node with `level` streams to choose
module _ (v : Vector) (level bits : ℕ) (inner : level ≡ 0 → ⊥) (inside : level ≤ length v.rows) (placed : bits < 2 ^ chosen v level) where
  abbrev row : Row
  row = get_or v.rows (level - 1) no_row

  abbrev rest : Bits
  rest = bits_of (chosen v level) bits

  rows_are : drop (level - 1) v.rows ≡ row ∷ drop level v.rows
  rows_are =
      let up : suc (level - 1) ≡ level = omega arith in
      drop-cons v.rows (level - 1) no_row (omega arith) ∙ ap (λ (l : ℕ). row ∷ drop l v.rows) up

  module _ (s : ℕ) where
    bits_are : bits_of (chosen v (level - 1)) (child_in v (level - 1) bits s) ≡ bits_of v.width s ++ rest
    bits_are =
        let up : suc (level - 1) ≡ level = omega arith in
        rw (up, chosen_step v level inner inside) (joined v.width (chosen v level) s bits placed)

    -- Any of the sums: the child has one term more, its own row's
    child_sum : (sum : ℕ → List Row → Bits → ℕ) (term : ℕ → Row → Bits → ℕ)
        → ((r : Row) (rs : List Row) (b : Bits) → sum v.width (r ∷ rs) b ≡ term v.width r b + sum v.width rs (drop v.width b))
        → node_sum sum v (level - 1) (child_in v (level - 1) bits s) ≡ term v.width row (bits_of v.width s ++ rest) + node_sum sum v level bits
    child_sum sum term step =
        ap₂ (sum v.width) rows_are bits_are
        ∙ step row (drop level v.rows) (bits_of v.width s ++ rest)
        ∙ ap (λ (b : Bits). term v.width row (bits_of v.width s ++ rest) + sum v.width (drop level v.rows) b)
        (drop_at (bits_of v.width s) rest v.width (length-bits_of v.width s))

    metric_more : node_sum metric v (level - 1) (child_in v (level - 1) bits s)
        ≡ increment v.width row (bits_of v.width s ++ rest) + node_sum metric v level bits
    unfolding metric
    metric_more = child_sum metric increment (λ r rs b. refl)

    distance_more : node_sum distance v (level - 1) (child_in v (level - 1) bits s)
        ≡ squared_distance v.width row (bits_of v.width s ++ rest) + node_sum distance v level bits
    unfolding distance
    distance_more = child_sum distance squared_distance (λ r rs b. refl)

    cost_more : node_sum cost v (level - 1) (child_in v (level - 1) bits s) ≡ prior_cost row.priors (bits_of v.width s) + node_sum cost v level bits
    unfolding cost
    cost_more =
        child_sum cost (λ q r b. prior_cost r.priors (take q b)) (λ r rs b. refl)
        ∙ ap (λ (b : Bits). prior_cost row.priors b + node_sum cost v level bits) (take_at (bits_of v.width s) rest v.width (length-bits_of v.width s))

-- The child with symbol s, from both parts of its increment and their sum
pub child_parts : (v : Vector) (n : Node) → NodeParts v n → (n.level ≡ 0 → ⊥) → n.level ≤ length v.rows → n.bits < 2 ^ chosen v n.level
    → (s : ℕ) (child : Node) → child.level ≡ n.level - 1 → child.bits ≡ child_in v (n.level - 1) n.bits s
    → let row = get_or v.rows (n.level - 1) no_row in
    let bits = bits_of v.width s ++ bits_of (chosen v n.level) n.bits in
    child.partial ≡ n.partial + increment v.width row bits → child.distance ≡ n.distance + squared_distance v.width row bits
    → child.cost ≡ n.cost + prior_cost row.priors (bits_of v.width s) → NodeParts v child
child_parts v n p inner inside placed s child el eb ep ed ec =
    rw (el, eb) (record {
      partial_is = omega (arith, ep, p.partial_is, metric_more v n.level n.bits inner inside placed s);
      distance_is = omega (arith, ed, p.distance_is, distance_more v n.level n.bits inner inside placed s);
      cost_is = omega (arith, ec, p.cost_is, cost_more v n.level n.bits inner inside placed s);
    })

-- The parts of a node make its partial metric
pub parts_sum : (v : Vector) (n : Node) → NodeParts v n → n.partial ≡ n.distance + n.cost
parts_sum v n p =
    omega (arith, p.partial_is, p.distance_is, p.cost_is, metric_parts v.width (drop n.level v.rows) (bits_of (chosen v n.level) n.bits))
