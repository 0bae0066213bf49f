-- The first of the smallest keys, its symbol in front of the node's bits; what the symbol's bits give beside what the node's give.
use Rattle.std.proofs.Common.{◌≡◌, ℕ, suc, ◌+◌, ◌-◌, ◌*◌, ◌/◌, ◌%◌, ◌^◌, ◌<◌, max, List, get_or, refl, ◌∙◌, ap, subst, arith}
use native.Mathlib.Nat.{mod-lt}
use lib.Bits.{bit_xor, xor_lt}
use lib.Pow.{pow_mono, pow_pos}
use Rattle.search_spec.specs.Arrays.{least_first}
use Rattle.limits.specs.Reach.{stream_reach, symbol_of}
use Rattle.enumeration.specs.Rows.{Took}
use Rattle.enumeration.proofs.Taking.{took}
use Rattle.metric.specs.Keys.{metric_in, cost_in}
use Rattle.turn.specs.Turn.{NextChild}
use Rattle.turn.proofs.Next.{symbol_least, next_parted}
use Rattle.expansion.proofs.Nodes.{rest_few}
use Rattle.tree.specs.declared.Node.{Node}
use Rattle.turn.proofs.next_child.Goals as goal

picked : (m q : ℕ) (n : Node) (label : ℕ) (limits keys after : List ℕ) (s own key : ℕ) → 0 < n.level → Took q keys after s
    → own ≡ label / 2 ^ ((m - n.level) * q) % 2 ^ q → key ≡ get_or keys (least_first keys (2 ^ q)) 0 → (bits wide : ℕ)
    → bits ≡ s * 2 ^ ((m - n.level) * q) + n.bits → wide ≡ max (stream_reach q limits (n.level - 1) (bit_xor s own)) n.chosen
    → NextChild m q n label limits keys after
    (record { level = n.level - 1; bits = bits; partial = metric_in key; distance = metric_in key - (n.cost + cost_in key); cost = n.cost + cost_in key; chosen = wide })
picked m q n label limits keys after s own key inner t eo ek bits wide eb ew =
    let up : suc (n.level - 1) ≡ n.level = omega arith in
    let own_is : own ≡ symbol_of m q label (n.level - 1) = rw up eo in
    rw (eb, ew, ek, own_is, t.first) (record {
      is = refl;
      took = subst (λ (x : ℕ). Took q keys after x) t.first t;
      parted = λ numbers sum cheap mine. next_parted m q numbers n sum label limits keys cheap mine;
    })

pub with_symbol-requires : goal.with_symbol-requires
with_symbol-requires c =
    let v = c.args.vector in
    let symbol = symbol_least c.args.keys.now v.task.width in (
      omega (arith, c.take-symbol.ensures.0, symbol, pow_mono v.asked.vector.bits),
      rest_few c.args.node.level v.asked.vector,
      c.requires.0.placed,
    )

-- Its prior cost is within its partial metric
pub overflow_sub-result : goal.overflow_sub-result
unfolding metric_in cost_in
overflow_sub-result c = rw c.requires.1.least c.requires.0.within

pub stream_reach-requires : goal.stream_reach-requires
stream_reach-requires c =
    let v = c.args.vector in
    let q = v.task.width in (
      v.asked.vector.bits,
      omega (arith, c.requires.0.inner, c.requires.0.inside, v.asked.vector.streams),
      rw (c.take-symbol.ensures.0, c.symbol_at-own.ensures) (xor_lt q _ _ (symbol_least c.args.keys.now q) (mod-lt _ (pow_pos q))),
      c.requires.0.size,
    )

pub returns : goal.returns
unfolding metric_in cost_in
returns c =
    picked _ _ _ _ _ _ _ _ _ _ c.requires.0.inner (took c.requires.0.rows c.take-symbol.ensures.0 c.take-symbol.ensures.1)
    c.symbol_at-own.ensures c.requires.1.least _ _ c.with_symbol.ensures
    (c.larger.ensures ∙ ap (λ (x : ℕ). max x c.args.node.chosen) c.stream_reach.ensures)
