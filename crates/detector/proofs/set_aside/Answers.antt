-- An owner's number is a place of the array, and what is set aside for it a machine number.
use Rattle.std.proofs.Common.{arith, ◌<◌}
use Rattle.block.specs.Reading.{count_at}
use Rattle.model.proofs.Bounds.{total_small}
use Rattle.detector.proofs.Shares.{owner_small, filling_most, filling_more, filling_all}
use Rattle.detector.proofs.Held.{few_streams, streams_are, share_are}
use Rattle.detector.proofs.set_aside.Goals as goal

pub overflow_cast-more : goal.overflow_cast-more
overflow_cast-more c = let p = c.requires in omega (arith, few_streams p.held p.headed)

pub overflow_sub-more : goal.overflow_sub-more
overflow_sub-more c =
    let p = c.requires in omega (arith, streams_are p.headed, share_are p.headed, p.held.ranged.reserve)

pub offset_bounds-spare-owner : goal.offset_bounds-spare-owner
offset_bounds-spare-owner c =
    let p = c.requires in
    omega (arith, c.owner_of-owner.ensures, p.headed.vectors_is, owner_small c.args.h.layout c.args.numbers.now p.held.ranged c.loop-k.k)

pub bounds-spare-owner : goal.bounds-spare-owner
bounds-spare-owner c =
    let p = c.requires in
    omega (arith, c.owner_of-owner.ensures, p.headed.vectors_is, owner_small c.args.h.layout c.args.numbers.now p.held.ranged c.loop-k.k)

pub overflow_add-spare : goal.overflow_add-spare
overflow_add-spare c =
    let p = c.requires in
    let o = c.args.h.layout in
    let l = c.args.numbers.now in
    let most = filling_most o l c.loop-k.k c.loop-k.spare p.held.ranged (omega (arith, p.headed.vectors_is)) c.loop-k.invariant in
    rw (c.owner_of-owner.ensures, streams_are p.headed, share_are p.headed) (omega (arith, most, total_small _ p.held.ranged))

pub bounds-spare-owner-in-loop-k : goal.bounds-spare-owner-in-loop-k
bounds-spare-owner-in-loop-k c =
    let p = c.requires in
    omega (arith, c.owner_of-owner.ensures, p.headed.vectors_is, owner_small c.args.h.layout c.args.numbers.now p.held.ranged c.loop-k.k)

pub loop-k-preserved : goal.loop-k-preserved
loop-k-preserved c =
    let p = c.requires in
    let inside : c.loop-k.k < count_at 2 c.args.numbers.now = omega (arith, p.headed.vectors_is) in
    rw (c.owner_of-owner.ensures, streams_are p.headed, share_are p.headed)
    (filling_more c.args.h.layout c.args.numbers.now c.loop-k.k c.loop-k.spare p.held.ranged inside c.loop-k.invariant)

pub returns : goal.returns
returns c =
    let p = c.requires in
    filling_all c.args.h.layout c.args.numbers.now c.loop-k.k c.loop-k.spare p.held.ranged (omega (arith, p.headed.vectors_is)) c.loop-k.invariant
