-- Vector k ends within the lent list.
use Rattle.std.proofs.Common.{arith}
use Rattle.detector.proofs.Held.{few_streams, few_bits, few_vectors}
use Rattle.detector.proofs.Priors.{end_small, priors_are}
use Rattle.detector.proofs.priors_of.Goals as goal

pub vector_start-end-requires : goal.vector_start-end-requires
vector_start-end-requires c =
    let p = c.requires.asked in
    (few_streams p.held p.headed, few_bits p.held p.headed, omega (arith, c.requires.inside, few_vectors p.held p.headed))

pub offset_bounds-numbers-end : goal.offset_bounds-numbers-end
offset_bounds-numbers-end c =
    let p = c.requires.asked in
    omega (arith, c.vector_start-end.ensures, end_small p.held p.headed.streams_is p.headed.width_is c.args.k (omega (arith, c.requires.inside, p.headed.vectors_is)))

pub slice_bounds-result-end : goal.slice_bounds-result-end
slice_bounds-result-end c =
    let p = c.requires.asked in
    let small = end_small p.held p.headed.streams_is p.headed.width_is c.args.k (omega (arith, c.requires.inside, p.headed.vectors_is)) in
    omega (arith, c.vector_start-end.ensures, small, p.held.room)

pub returns : goal.returns
returns c =
    let p = c.requires.asked in
    rw c.vector_start-end.ensures
    (priors_are p.held p.headed.streams_is p.headed.width_is c.args.k (omega (arith, c.requires.inside, p.headed.vectors_is)))
