-- The invariant: all N vectors into the list as it was are those from the k-th on into the list as it is.
use Rattle.std.proofs.Common.{ℕ, ◌-◌, ◌+◌, ◌*◌, ◌≤◌, ◌<◌, ◌≡◌, sym, ◌∙◌, List, length, ℤ, arith, suc-mul, add-one}
use borrow.Rule.Slice.PartMut.{same_len_mid}
use Rattle.wire.proofs.Reading.{err_is}
use Rattle.block.specs.Reading.{own_count, header_size, part_kinds, owned_size, count_at, most_numbers, SizesStored}
use Rattle.block.specs.declared.Layout.{Layout}
use Rattle.block.specs.declared.Part.TheVariants.{Vector}
use Rattle.block.proofs.Lending.{tail_room, tail_part}
use Rattle.block.proofs.Parts.{rest_none, rest_ended, rest_refused}
use Rattle.block.proofs.Stored.{stored_small, stored_fits}
use Rattle.reader.proofs.read_vectors.Goals as goal

-- M and Q are those of the list, so vector k has room in it
vector_fits : (o : Layout) (list : List ℤ) → SizesStored list → (k : ℕ) → k < count_at 2 list → {m q : ℕ} → m ≡ count_at 0 list → q ≡ count_at 1 list
    → header_size o + k * owned_size (own_count o) m q + length (part_kinds (Vector (own_count o) m q)) ≤ most_numbers
vector_fits o list s k h em eq = rw (em, eq) (stored_fits o list s k h)

pub loop-k-init : goal.loop-k-init
loop-k-init c =
    let l = c.args.numbers.now in
    let all : count_at 2 l - 0 ≡ count_at 2 l = omega arith in
    let start : header_size c.args.layout + 0 * owned_size (own_count c.args.layout) (count_at 0 l) (count_at 1 l) ≡ header_size c.args.layout = omega arith in
    rw (c.count_at-m.ensures, c.count_at-q.ensures, c.count_at-n.ensures) (record { long = c.told-numbers; is = rw (all, start) })

pub slice_bounds-read_part-start : goal.slice_bounds-read_part-start
slice_bounds-read_part-start c =
    let fits = vector_fits c.args.layout c.args.numbers.now c.requires c.loop-k.k (omega arith) c.count_at-m.ensures c.count_at-q.ensures in
    omega (arith, c.vector_start-first.ensures, fits)

pub offset_bounds-numbers-first : goal.offset_bounds-numbers-first
offset_bounds-numbers-first c =
    let fits = vector_fits c.args.layout c.args.numbers.now c.requires c.loop-k.k (omega arith) c.count_at-m.ensures c.count_at-q.ensures in
    omega (arith, c.vector_start-first.ensures, fits)

pub slice_bounds-read_part-count : goal.slice_bounds-read_part-count
slice_bounds-read_part-count c =
    let fits = vector_fits c.args.layout c.args.numbers.now c.requires c.loop-k.k (omega arith) c.count_at-m.ensures c.count_at-q.ensures in
    omega (arith, c.vector_start-first.ensures, fits)

pub read_part-requires : goal.read_part-requires
read_part-requires c =
    let l = c.args.numbers.now in
    let o = c.args.layout in
    rw (c.vector_start-first.ensures, c.own_count.ensures, c.count_at-m.ensures, c.count_at-q.ensures)
    (stored_small o l c.requires, tail_room _ _ c.loop-k.numbers c.loop-k.invariant.long (stored_fits o l c.requires c.loop-k.k (omega arith)))

pub loop-k-preserved : goal.loop-k-preserved
loop-k-preserved c =
    let size = owned_size (own_count c.args.layout) c.count_at-m.result c.count_at-q.result in
    let first = header_size c.args.layout + c.loop-k.k * size in
    let fits = vector_fits c.args.layout c.args.numbers.now c.requires c.loop-k.k (omega arith) c.count_at-m.ensures c.count_at-q.ensures in
    let part = tail_part _ first c.loop-k.numbers c.loop-k.invariant.long fits _ _ _ _ (rw (c.vector_start-first.ensures, c.own_count.ensures) at c.in_ok-read_part.ensures.found) in
    let next : header_size c.args.layout + (c.loop-k.k + 1) * size ≡ first + size = rw (add-one, suc-mul c.loop-k.k size) (omega arith) in
    record {
      long = same_len_mid _ _ c.loop-k.numbers _ c.read_part.auto.numbers ∙ c.loop-k.invariant.long;
      is = rw (next, c.vector_start-first.ensures, c.read_part.ensures.same_bytes) (c.loop-k.invariant.is ∙ rest_ended _ _ _ _ _ _ _ _ _ c.loop-k-test.true _ _ part);
    }

pub returns-in_err-read_part : goal.returns-in_err-read_part
returns-in_err-read_part c =
    let size = owned_size (own_count c.args.layout) c.count_at-m.result c.count_at-q.result in
    let first = header_size c.args.layout + c.loop-k.k * size in
    let fits = vector_fits c.args.layout c.args.numbers.now c.requires c.loop-k.k (omega arith) c.count_at-m.ensures c.count_at-q.ensures in
    let part = tail_part _ first c.loop-k.numbers c.loop-k.invariant.long fits _ _ _ _ (rw (c.vector_start-first.ensures, c.own_count.ensures) at c.in_err-read_part.ensures.found) in
    rw (err_is _ c.from_residual.ensures.1, c.vector_start-first.ensures) (sym (c.loop-k.invariant.is ∙ rest_refused _ _ _ _ _ _ _ _ _ c.loop-k-test.true _ _ part))

pub returns : goal.returns
returns c = sym (c.loop-k.invariant.is ∙ rest_none _ _ _ _ _ _ _ _ _ (omega arith))
