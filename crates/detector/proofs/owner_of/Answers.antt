-- The number before the vector, which stands within the list, or 1.
use native.Mathlib.Omega.{arith}
use Rattle.search.proofs.Records.{vector_end}
use Rattle.detector.proofs.Held.{few_streams, few_bits, few_vectors}
use Rattle.detector.proofs.owner_of.Goals as goal

pub vector_start-place-requires : goal.vector_start-place-requires
vector_start-place-requires c =
    let p = c.requires in
    let held = p.asked.held in
    let headed = p.asked.headed in
    (few_streams held headed, few_bits held headed, omega (arith, few_vectors held headed, p.inside))

pub count_at-requires : goal.count_at-requires
count_at-requires c =
    let p = c.requires.asked in
    let headed = p.headed in
    let end = vector_end c.args.h.layout c.args.numbers.now p.held c.args.h.streams c.args.h.width headed.streams_is
    headed.width_is c.args.k (omega (arith, c.requires.inside, headed.vectors_is)) in
    omega (arith, c.vector_start-place.ensures, c.own_count.ensures, c.if-own_count-eq0.false, p.held.room)
