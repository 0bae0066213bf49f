-- The i-th soft value is written.
use Rattle.std.proofs.Common.{◌≡◌, ◌∙◌, ap, length, get_or, pos, arith, rules, SFits, w32, to_z-of_z}
use lib.Seq.{drop-length}
use Rattle.wire.specs.Folding.{folded}
use Rattle.wire.proofs.Runs.{left_more, left_none}
use Rattle.replies.specs.Reply.{written}
use Rattle.replies.proofs.Steps.{soft_more, soft_room}
use Rattle.replies.proofs.write_soft.Goals as goal

pub number-requires : goal.number-requires
number-requires c =
    let soft = c.args.soft.now in
    let i = c.loop-value.value-index in
    let f : SFits w32 (get_or soft i (pos 0)) = search rules in
    let e : c.fold.result ≡ folded (get_or soft i (pos 0)) = c.fold.ensures ∙ ap folded (to_z-of_z {w = w32} f) in
    let left = c.loop-value.invariant in
    rw e (c.requires.each i c.loop-value-test.true, omega (arith, left.size, soft_room soft i c.loop-value-test.true left c.requires.buffer))

pub loop-value-preserved : goal.loop-value-preserved
loop-value-preserved c =
    let soft = c.args.soft.now in
    let i = c.loop-value.value-index in
    let f : SFits w32 (get_or soft i (pos 0)) = search rules in
    let e : c.fold.result ≡ folded (get_or soft i (pos 0)) = c.fold.ensures ∙ ap folded (to_z-of_z {w = w32} f) in
    left_more c.loop-value.invariant (rw e (soft_more soft i c.loop-value-test.true)) c.number.ensures

pub returns : goal.returns
unfolding written
returns c =
    let e : c.loop-value.value-index ≡ length c.args.soft.now = omega arith in
    left_none c.loop-value.invariant (rw (e, drop-length))
