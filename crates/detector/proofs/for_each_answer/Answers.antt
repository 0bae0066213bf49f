-- An owner's number is a place of the array, an allowance a machine number, and what is handed on the answer of vector k.
use Rattle.std.proofs.Common.{refl, sym, subst, ◌∙◌, arith, ◌≡◌, ◌<◌, ℕ, List, ℤ}
use Rattle.model.specs.Block.{most_bits}
use Rattle.model.proofs.Bounds.{total_small}
use Rattle.block.specs.Reading.{count_at}
use Rattle.constellation.proofs.Tables.{points_of}
use Rattle.constellation.specs.Points.{Points}
use Rattle.search.specs.Nodes.{key_places}
use Rattle.detector.specs.declared.Header.{Header}
use Rattle.detector.specs.Steps.{ListAsked, SearchOneAsked}
use Rattle.detector.specs.Handed.{Handed}
use Rattle.detector.proofs.Held.{streams_are, width_are, few_streams, few_soft, after_length, handed_is, found_count, found_within}
use Rattle.detector.proofs.Shares.{owner_small, allowed_most}
use Rattle.detector.proofs.Turns.{turn_first, turn_last, turn_ready, turn_next}
use Rattle.detector.proofs.for_each_answer.Goals as goal

-- What searching vector k asks
searching : {h : Header} {list points : List ℤ} {k keys bits : ℕ} → ListAsked h list → k < h.vectors → Points h.width points → keys ≡ key_places
    → bits ≡ most_bits → SearchOneAsked h list k points keys bits
searching p inside pointed work array = record { held = p.held; headed = p.headed; inside = inside; pointed = pointed; work = omega arith; array = array }

pub fill-requires : goal.fill-requires
fill-requires g c = let p = c.requires.asked in rw (width_are p.headed) p.held.ranged.width

pub overflow_mul-bits : goal.overflow_mul-bits
overflow_mul-bits g c = let p = c.requires.asked in omega (arith, few_soft p.held p.headed)

pub overflow_cast-m : goal.overflow_cast-m
overflow_cast-m g c = let p = c.requires.asked in omega (arith, few_streams p.held p.headed)

pub loop-k-init : goal.loop-k-init
loop-k-init g c = record { keys = refl; soft = refl; turn = turn_first _ _ _ _ _ c.set_aside-spare.ensures c.requires.ready }

pub offset_bounds-spare-owner : goal.offset_bounds-spare-owner
offset_bounds-spare-owner g c =
    let p = c.requires.asked in
    omega (arith, c.owner_of-owner.ensures, p.headed.vectors_is, owner_small c.args.h.layout c.args.numbers.now p.held.ranged c.loop-k.k)

pub bounds-spare-owner : goal.bounds-spare-owner
bounds-spare-owner g c =
    let p = c.requires.asked in
    omega (arith, c.owner_of-owner.ensures, p.headed.vectors_is, owner_small c.args.h.layout c.args.numbers.now p.held.ranged c.loop-k.k)

pub offset_bounds-spare-owner-in-loop-k : goal.offset_bounds-spare-owner-in-loop-k
offset_bounds-spare-owner-in-loop-k g c =
    let p = c.requires.asked in
    omega (arith, c.owner_of-owner.ensures, p.headed.vectors_is, owner_small c.args.h.layout c.args.numbers.now p.held.ranged c.loop-k.k)

pub bounds-spare-owner-in-loop-k : goal.bounds-spare-owner-in-loop-k
bounds-spare-owner-in-loop-k g c =
    let p = c.requires.asked in
    omega (arith, c.owner_of-owner.ensures, p.headed.vectors_is, owner_small c.args.h.layout c.args.numbers.now p.held.ranged c.loop-k.k)

pub overflow_add-allowed : goal.overflow_add-allowed
overflow_add-allowed g c =
    let p = c.requires.asked in
    let inside : c.loop-k.k < count_at 2 c.args.numbers.now = omega (arith, p.headed.vectors_is) in
    let most = allowed_most p.held.ranged inside c.loop-k.invariant.turn.shares (streams_are p.headed) in
    rw c.owner_of-owner.ensures (omega (arith, most, total_small _ p.held.ranged))

pub search_one-found-requires : goal.search_one-found-requires
search_one-found-requires g c =
    let p = c.requires.asked in
    (searching p c.loop-k-test.true (points_of c.fill.ensures) c.loop-k.invariant.keys c.loop-k.invariant.soft, omega arith)

pub overflow_sub-spare : goal.overflow_sub-spare
overflow_sub-spare g c =
    let p = c.requires.asked in
    let s = searching p c.loop-k-test.true (points_of c.fill.ensures) c.loop-k.invariant.keys c.loop-k.invariant.soft in
    found_within s c.search_one-found.ensures

pub take-requires : goal.take-requires
take-requires g c =
    let p = c.requires.asked in
    let s = searching p c.loop-k-test.true (points_of c.fill.ensures) c.loop-k.invariant.keys c.loop-k.invariant.soft in
    let inside : c.loop-k.k < count_at 2 c.args.numbers.now = omega (arith, p.headed.vectors_is) in
    let ready = turn_ready g.S.Sink.can_take g.S.Sink.takes _ _ _ c.loop-k.invariant.turn p.held.ranged inside (streams_are p.headed) in
    let r = rw c.owner_of-owner.ensures at c.search_one-found.ensures in
    subst (g.S.Sink.can_take c.loop-k.sink) (sym (handed_is s r c.priors_of.ensures)) ready

pub loop-k-preserved : goal.loop-k-preserved
loop-k-preserved g c =
    let p = c.requires.asked in
    let s = searching p c.loop-k-test.true (points_of c.fill.ensures) c.loop-k.invariant.keys c.loop-k.invariant.soft in
    let inside : c.loop-k.k < count_at 2 c.args.numbers.now = omega (arith, p.headed.vectors_is) in
    let r = rw c.owner_of-owner.ensures at c.search_one-found.ensures in
    let took = subst (λ (x : Handed). g.S.Sink.takes c.loop-k.sink x c.take.new.self) (handed_is s r c.priors_of.ensures) c.take.ensures in
    record {
      keys = c.search_one-found.auto.keys ∙ c.loop-k.invariant.keys;
      soft = after_length s r;
      turn =
          rw (c.owner_of-owner.ensures, found_count s r)
          (turn_next _ _ _ _ _ c.loop-k.invariant.turn p.held.ranged inside (streams_are p.headed) took);
    }

pub returns : goal.returns
returns g c =
    let p = c.requires.asked in
    turn_last _ _ _ _ _ c.loop-k.invariant.turn (omega (arith, p.headed.vectors_is))
