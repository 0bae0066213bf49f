-- Each answer is one case of the definition: the node's own test, then the child's, the allowance, and what is found of the child's children.
use Rattle.std.proofs.Common.{sym, arith}
use Rattle.metric.specs.Keys.{metric_in}
use Rattle.turn.proofs.Levels.{looked}
use Rattle.turn.proofs.advance.Goals as goal

-- The node itself fails
pub returns-then-not-passes : goal.returns-then-not-passes
unfolding metric_in
returns-then-not-passes c = rw (← c.least_row-next.ensures.least) (sym c.if-not-passes.ensures)

-- The child's children are looked at behind the node's keys
pub returns-then-not-expand : goal.returns-then-not-expand
returns-then-not-expand c =
    let v = c.args.vector in
    let child = c.next_child-child.ensures in
    let places = c.key_places-places.ensures in
    rw places
    (looked v.asked v.tabled c.requires child.took (rw child.is at (sym c.if-not-passes-2.ensures)) c.if-vector-kept.false
    (omega (arith, rw child.is at c.if-child-eq0.false)) (rw (child.is, places) at c.if-not-expand.ensures) (rw places at c.expand.auto.keys))

pub returns : goal.returns
returns c =
    let v = c.args.vector in
    let child = c.next_child-child.ensures in
    let places = c.key_places-places.ensures in
    let r =
    looked v.asked v.tabled c.requires child.took (rw child.is at (sym c.if-not-passes-2.ensures)) c.if-vector-kept.false
    (omega (arith, rw child.is at c.if-child-eq0.false)) (rw (child.is, places) at c.if-not-expand.ensures) (rw places at c.expand.auto.keys) in
    rw places (r.0, child.is, r.1, r.2)
