-- Each turn over the node's children is one step of the search below the node, as the turn's answer says.
use Rattle.std.proofs.Common.{◌≡◌, ◌∙◌, refl, ap, arith, ℕ, ◌+◌, ◌-◌, ◌^◌, ◌<◌, ◌≤◌, length}
use borrow.Rule.Slice.PartMut.{same_len_mid}
use Rattle.search_spec.specs.Program.{Kept}
use Rattle.enumeration.specs.Rows.{key_count}
use Rattle.tree.specs.declared.Node.{Node}
use Rattle.expansion.proofs.Nodes.{partial_under, leaf_placed}
use Rattle.search.proofs.Search.{limits_lent, start, done, ended, halts, cut, past, stops, onward, onward_here, limits_asked, next_asked, child_asked, child_in_lem, leaf_noted}
use Rattle.search.proofs.Best.{best_counted, leaf_cost, best_after_lem}
use Rattle.search.proofs.+walk.Goals as goal

-- A turn of the loop has a child to try, and one more was tried after it
module _ {n total left : ℕ} (is : n ≡ total) (some : 0 < left) (room : left ≤ n) where
  in_loop : total - left < total
  in_loop = omega arith

  tried_next : total - (left - 1) ≡ total - left + 1
  tried_next = omega arith

pub loop-left-init : goal.loop-left-init
loop-left-init t c =
    let w = c.requires.asked in
    let v = c.args.vector.now in
    let none : 2 ^ v.task.width - c.labels-left.result ≡ 0 = omega (arith, c.labels-left.ensures.value) in
    record {
      whole = omega arith;
      same = refl;
      state = rw none (start v.asked w.node c.requires.inner _ _ w.lowest w.limited w.opposed _ _ w.room c.requires.filled _ _ c.requires.running);
      parts = c.requires.parts;
    }

pub advance-requires : goal.advance-requires
advance-requires t c =
    let v = c.args.vector.now in
    let h = c.loop-left.invariant.state in
    let more = in_loop c.labels-left.ensures.value c.loop-left-test.true c.loop-left.auto._left in
    rw (limits_lent c.loop-left.minima c.loop-left.invariant.whole) (record {
      child = child_in_lem v.asked h more;
      limited = limits_asked v.asked h.node _ _ h.limited;
      next = next_asked v.asked h more;
      lowest = h.lowest;
      room = h.room;
    })

pub returns-in-Ended-clause-found : goal.returns-in-Ended-clause-found
returns-in-Ended-clause-found t c =
    let v = c.args.vector.now in
    let h = c.loop-left.invariant.state in
    let more = in_loop c.labels-left.ensures.value c.loop-left-test.true c.loop-left.auto._left in
    ended v.asked h more (rw (limits_lent c.loop-left.minima c.loop-left.invariant.whole) at c.in-Ended.ensures)

pub returns-in-Stop-clause-found : goal.returns-in-Stop-clause-found
returns-in-Stop-clause-found t c =
    let v = c.args.vector.now in
    let h = c.loop-left.invariant.state in
    let more = in_loop c.labels-left.ensures.value c.loop-left-test.true c.loop-left.auto._left in
    let r = rw (limits_lent c.loop-left.minima c.loop-left.invariant.whole) at c.in-Stop.ensures in
    rw c.halted.ensures (halts v.asked h more r.0 r.1)

pub take-k-requires : goal.take-k-requires
take-k-requires t c =
    let v = c.args.vector.now in
    let h = c.loop-left.invariant.state in
    let more = in_loop c.labels-left.ensures.value c.loop-left-test.true c.loop-left.auto._left in
    let r = rw (limits_lent c.loop-left.minima c.loop-left.invariant.whole) at c.in-Leaf.ensures in
    let child = child_in_lem v.asked h more in
    rw (r.1, c.counted.ensures) (
      v.asked,
      partial_under v.asked child,
      leaf_placed v.asked child r.2,
      h.limited,
      leaf_cost _ r.2 child.parts,
      best_counted _ _ c.loop-left.invariant.parts,
    )

pub walk-k-requires : goal.walk-k-requires
walk-k-requires t c =
    let v = c.args.vector.now in
    let h = c.loop-left.invariant.state in
    let more = in_loop c.labels-left.ensures.value c.loop-left-test.true c.loop-left.auto._left in
    let r = rw (limits_lent c.loop-left.minima c.loop-left.invariant.whole) at c.in-Enter.ensures in
    let e = c.counted-in-Enter.ensures in
    let placed = c.key_places-places.ensures in (
      omega (arith, c.decreases, c.loop-left.invariant.same, h.inner, ap (λ (n : Node). n.level) r.1),
      (
        rw (r.1, e, placed) (child_asked v.asked h more r.0.took r.0.passes r.0.more),
        (
          rw r.1 r.2,
          (rw e h.running, (rw (r.1, placed) r.3, rw e (best_counted _ _ c.loop-left.invariant.parts))),
        ),
      ),
    )

pub returns-then-k-clause-found : goal.returns-then-k-clause-found
returns-then-k-clause-found t c =
    let v = c.args.vector.now in
    let h = c.loop-left.invariant.state in
    let more = in_loop c.labels-left.ensures.value c.loop-left-test.true c.loop-left.auto._left in
    let r = rw (limits_lent c.loop-left.minima c.loop-left.invariant.whole) at c.in-Enter.ensures in
    stops v.asked h more r.0.took r.0.passes r.0.more _ (rw (r.1, c.counted-in-Enter.ensures) at c.walk-k.ensures.found) c.if-k.true

pub loop-left-preserved-in-Left : goal.loop-left-preserved-in-Left
loop-left-preserved-in-Left t c =
    let v = c.args.vector.now in
    let l = c.loop-left in
    let i = l.invariant in
    let h = i.state in
    let more = in_loop c.labels-left.ensures.value c.loop-left-test.true c.loop-left.auto._left in
    let next = tried_next c.labels-left.ensures.value c.loop-left-test.true c.loop-left.auto._left in
    let r = rw (limits_lent l.minima i.whole) at c.in-Left.ensures in
    rw (next, c.counted-k.ensures) (record {
      whole = i.whole;
      same = i.same;
      state = past v.asked h more r.0.took r.0.passes r.0.more r.1 r.2;
      parts = best_counted _ _ i.parts;
    })

pub loop-left-preserved-in-Leaf : goal.loop-left-preserved-in-Leaf
loop-left-preserved-in-Leaf t c =
    let v = c.args.vector.now in
    let l = c.loop-left in
    let i = l.invariant in
    let h = i.state in
    let more = in_loop c.labels-left.ensures.value c.loop-left-test.true c.loop-left.auto._left in
    let next = tried_next c.labels-left.ensures.value c.loop-left-test.true c.loop-left.auto._left in
    let r = rw (limits_lent l.minima i.whole) at c.in-Leaf.ensures in
    let e = c.counted.ensures in
    let child = child_in_lem v.asked h more in
    let is = rw (r.1, e) at c.take-k.ensures.0 in
    let runs = ap (λ (x : Kept). x.stopped) is ∙ h.running in
    rw next (record {
      whole = c.take-k.ensures.3;
      same = c.renew_node-parent.ensures.level_is ∙ i.same;
      state = onward_here v.asked h more r.0.took r.0.passes r.0.more _ (is ∙ leaf_noted v.asked child _ _ r.2 _ _ h.running) runs
          c.take-k.ensures.2 _ (rw (limits_lent c.take-k.new.minima c.take-k.ensures.3) at c.renew_node-parent.ensures);
      parts = best_after_lem _ child.parts r.2 (rw (r.1, e) at c.take-k.ensures.4) _ _ is (best_counted _ _ i.parts);
    })

pub loop-left-preserved-in-Enter : goal.loop-left-preserved-in-Enter
loop-left-preserved-in-Enter t c =
    let v = c.args.vector.now in
    let l = c.loop-left in
    let i = l.invariant in
    let h = i.state in
    let more = in_loop c.labels-left.ensures.value c.loop-left-test.true c.loop-left.auto._left in
    let next = tried_next c.labels-left.ensures.value c.loop-left-test.true c.loop-left.auto._left in
    let r = rw (limits_lent l.minima i.whole) at c.in-Enter.ensures in
    let placed = c.key_places-places.ensures in
    let after = c.advance.new.keys in
    let q = v.task.width in
    let many = rw placed at c.walk-k.auto.keys in
    rw (next, placed) (record {
      whole = c.walk-k.array_long;
      same = c.renew_node-parent-in-Enter.ensures.level_is ∙ i.same;
      state = onward v.asked h more r.0.took r.0.passes r.0.more _ (rw (r.1, c.counted-in-Enter.ensures) at c.walk-k.ensures.found) c.if-k.false
          c.walk-k.ensures.limited _ (same_len_mid (key_count q) (length after - key_count q) after c.walk-k.new.keys many) _
          (rw (limits_lent c.walk-k.new.minima c.walk-k.array_long) at c.renew_node-parent-in-Enter.ensures);
      parts = c.walk-k.ensures.parts;
    })

pub loop-left-preserved : goal.loop-left-preserved
loop-left-preserved t c =
    let v = c.args.vector.now in
    let l = c.loop-left in
    let i = l.invariant in
    let h = i.state in
    let more = in_loop c.labels-left.ensures.value c.loop-left-test.true c.loop-left.auto._left in
    let next = tried_next c.labels-left.ensures.value c.loop-left-test.true c.loop-left.auto._left in
    let r = rw (limits_lent l.minima i.whole) at c.in-Cut.ensures in
    rw next (record {
      whole = i.whole;
      same = i.same;
      state = cut v.asked h more r.0 r.1;
      parts = i.parts;
    })

pub returns-clause-found : goal.returns-clause-found
returns-clause-found t c = done c.args.vector.now.asked c.loop-left.invariant.state (omega arith)
