-- The part of the lent list that is searched is vector k's, behind its owner's number.
use Prim.Native.Nat.{ℕ, ◌+◌, ◌*◌, ◌≤◌}
use mathlib.Core.Path.{◌≡◌, refl}
use mathlib.Core.List.{List}
use native.Mathlib.Omega.{arith}
use lib.IntN.{ℤ}
use Rattle.block.specs.Reading.{own_count, header_size, owned_size, vector_size, most_numbers}
use Rattle.block.specs.Contents.{block_of}
use Rattle.search.proofs.Records.{vector_end, part_asked, part_answered}
use Rattle.detector.specs.declared.Header.{Header}
use Rattle.detector.specs.Steps.{SearchOneAsked}
use Rattle.detector.proofs.Held.{few_streams, few_bits, few_vectors, weak_most, inside}
use Rattle.detector.proofs.search_one.Goals as goal

pub vector_start-start-requires : goal.vector_start-start-requires
vector_start-start-requires c =
    let p = c.requires.0 in
    (few_streams p.held p.headed, few_bits p.held p.headed, omega (arith, few_vectors p.held p.headed, p.inside))

-- Its numbers are within the list
fits : {h : Header} {list points : List ℤ} {k keys bits : ℕ} → SearchOneAsked h list k points keys bits → (start own size : ℕ)
    → start ≡ header_size h.layout + k * owned_size (own_count h.layout) h.streams h.width → own ≡ own_count h.layout
    → size ≡ vector_size h.streams h.width → start + own + size ≤ most_numbers
fits p start own size e f g =
    rw (e, f, g) (vector_end _ _ p.held _ _ p.headed.streams_is p.headed.width_is _ (inside p))

pub search_vector-requires : goal.search_vector-requires
search_vector-requires c =
    let p = c.requires.0 in
    let h = p.headed in (
      rw (c.vector_start-start.ensures, c.own_count.ensures, c.vector_size-size.ensures)
          (part_asked _ _ p.held _ _ h.streams_is h.width_is _ (inside p) _ h.clip_is),
      weak_most p.held h,
      p.array,
      p.work,
      p.pointed,
      c.requires.1,
    )

pub returns : goal.returns
unfolding block_of
returns c =
    let p = c.requires.0 in
    let h = p.headed in
    part_answered _ _ p.held _ _ h.streams_is h.width_is _ (inside p) _ h.clip_is h.weak_is refl
    (rw (c.vector_start-start.ensures, c.own_count.ensures, c.vector_size-size.ensures) at c.search_vector.ensures)

pub overflow_add-from : goal.overflow_add-from
overflow_add-from c =
    omega (arith, fits c.requires.0 _ _ _ c.vector_start-start.ensures c.own_count.ensures c.vector_size-size.ensures)

pub overflow_add-to : goal.overflow_add-to
overflow_add-to c =
    omega (arith, fits c.requires.0 _ _ _ c.vector_start-start.ensures c.own_count.ensures c.vector_size-size.ensures)

pub offset_bounds-numbers-from : goal.offset_bounds-numbers-from
offset_bounds-numbers-from c =
    omega (arith, fits c.requires.0 _ _ _ c.vector_start-start.ensures c.own_count.ensures c.vector_size-size.ensures)

pub slice_bounds-search_vector-end : goal.slice_bounds-search_vector-end
slice_bounds-search_vector-end c =
    omega (arith, fits c.requires.0 _ _ _ c.vector_start-start.ensures c.own_count.ensures c.vector_size-size.ensures, c.requires.0.held.room)
