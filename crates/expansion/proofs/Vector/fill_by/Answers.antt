-- The table gives the parts, and the parts the keys.
use Rattle.std.proofs.Common.{◌-◌, ◌*◌, List, ℕ, refl, ◌∙◌, ap, replicate}
use Rattle.model.specs.Constellation.{Complex}
use Rattle.metric.specs.Keys.{cost_room}
use Rattle.metric.specs.Parts.{span}
use Rattle.axes.specs.Tables.{parts_in}
use Rattle.enumeration.specs.Rows.{keys_in}
use Rattle.metric.proofs.Filled.{zeros_small}
use Rattle.expansion.specs.Expand.{keys_for}
use Rattle.expansion.proofs.Nodes.{room_for, partial_under, row_inside}
use Rattle.expansion.proofs.Kids.{measured}
use Rattle.expansion.proofs.Vector.fill_by.Goals as goal

pub fill_parts-requires : goal.fill_parts-requires
fill_parts-requires c =
    let v = c.args.self in
    let k = c.requires.0 in
    let r = c.requires.1 in
    (v.asked.vector, v.tabled, row_inside v.asked k.node k.inner, r.low_re, r.low_im, zeros_small (2 * span))

pub fill-requires : goal.fill-requires
fill-requires c =
    let v = c.args.self in
    let k = c.requires.0 in
    let w = rw (← c.fill_parts.ensures) at (measured v.asked k.node k.inner v.tabled c.requires.1) in
    (v.asked.vector.bits, partial_under v.asked k.node, w.small, room_for c.args.node.level v.task.width k.inner _ k.room)

pub returns : goal.returns
unfolding keys_for
returns c =
    let v = c.args.self in
    let n = c.args.node in
    c.fill.ensures
    ∙ ap (λ (l : List ℕ). keys_in v.task.width (n.partial * cost_room) l c.args.keys.now)
    (c.fill_parts.ensures
    ∙ ap (λ (z : Complex). parts_in v.task.width v.tables.now (n.level - 1) z.re z.im (replicate (2 * span) 0)) c.requires.1.is)
