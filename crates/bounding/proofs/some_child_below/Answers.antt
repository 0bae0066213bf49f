-- The answer is put together from the base and what is asked of each axis.
use Rattle.std.proofs.Common.{◌≡◌, ℕ, ◌+◌, ◌-◌, ◌*◌, ◌/◌, ◌%◌, ◌^◌, ◌≤◌, List, [], length, zero-add, get_or, take, drop, Bool, false, sym, ◌∙◌, arith, shr_lt}
use Rattle.std.specs.Simd.{first_chunks}
use Rattle.metric.specs.Parts.{axis_width, span}
use Rattle.bounding.proofs.Runs.{labels_few}
use Rattle.bounding.proofs.Cuts.{half_is, last_is}
use Rattle.bounding.proofs.Halves.{masked}
use Rattle.bounding.proofs.Answers.{begun, begun_base, begun_asked, begun_unasked, first_open, second_asked, second_unasked}
use Rattle.bounding.proofs.some_child_below.Given as given
use Rattle.bounding.proofs.some_child_below.Goals as goal
use Rattle.bounding.proofs.some_child_below.Goals.{Else-any_below, then-low-base, else-low-base+then-low-first, else-low-base+else-low-first}

pub bounds-first-ones_re : goal.bounds-first-ones_re
bounds-first-ones_re g c = omega (arith, labels_few c.width.result c.width.ensures.1)

pub any_below-requires : goal.any_below-requires
any_below-requires g c = (omega (arith, c.least-least_im.ensures), rw c.width-v.ensures.0 (shr_lt _ _ c.requires.2))

pub bounds-second-ones_im : goal.bounds-second-ones_im
bounds-second-ones_im g c = omega (arith, labels_few c.width-v.result c.width-v.ensures.1)

-- What is read of the two halves of the limits
module _ (entries : List ℕ) (halves : List (List ℕ)) (long : length entries ≡ 2 * span) (is : halves ≡ first_chunks span (length entries / span) entries) where
  first_is : get_or halves 0 [] ≡ take span entries
  first_is = half_is entries halves is 0 (omega arith)

  second_is : get_or halves 1 [] ≡ take span (drop span entries)
  second_is = half_is entries halves is 1 (omega arith)

  first_last : (w : ℕ) → w ≤ axis_width → get_or (get_or halves 0 []) (1 * 2 ^ w % 2 ^ 64 - 1) 0 ≡ get_or entries (2 ^ w - 1) 0
  first_last w few = rw (zero-add (2 ^ w - 1)) at (last_is entries halves is 0 (omega arith) w few)

  second_last : (w : ℕ) → w ≤ axis_width → get_or (get_or halves 1 []) (1 * 2 ^ w % 2 ^ 64 - 1) 0 ≡ get_or entries (span + (2 ^ w - 1)) 0
  second_last w few = last_is entries halves is 1 (omega arith) w few

-- The parts of the answer
module _ (g : given.Over) (re im : g.row.A.Denot) (partial : ℕ) (entries : List ℕ) (own : ℕ) where
  abbrev low : ℕ
  low = partial + (g.A.Axis.lowest re + g.A.Axis.lowest im)

  abbrev widest : ℕ
  widest = get_or entries (2 ^ g.A.Axis.bits re - 1) 0

  abbrev any_re : Bool
  any_re = g.A.Axis.any re (partial + g.A.Axis.lowest im) low (take span entries) (own / 2 ^ g.A.Axis.bits im)

  abbrev wider : ℕ
  wider = get_or entries (span + (2 ^ g.A.Axis.bits im - 1)) 0

  abbrev any_im : Bool
  any_im = g.A.Axis.any im (partial + g.A.Axis.lowest re) low (take span (drop span entries)) (own % 2 ^ g.A.Axis.bits im)

pub returns-then-any_below : goal.returns-then-any_below
returns-then-any_below g c =
    let a = c.args in
    let entries = a.entries.now in
    let halves = c.as_chunks.result.0.now in
    let low' = a.partial + (c.least-least_re.result + c.least-least_im.result) in
    let widest' = get_or (get_or halves 0 []) (1 * 2 ^ c.width.result % 2 ^ 64 - 1) 0 in
    let any' = g.A.Axis.any a.re (a.partial + c.least-least_im.result) low' (get_or halves 0 []) (a.own / 2 ^ c.width-v.result) in
    let begins : c.if-low-base.value ≡ begun a.base low' widest' any' =
    elim c.if-low-base.branch [
      | then-low-base w ↦ w.value-is ∙ begun_base _ _ widest' any' w.if-low-base.true
      | else-low-base+then-low-first w ↦ w.value-is ∙ w.any_below.ensures ∙ begun_asked _ _ widest' any' w.if-low-base.false w.if-low-first.true
      | else-low-base+else-low-first w ↦ w.value-is ∙ begun_unasked _ _ widest' any' w.if-low-base.false w.if-low-first.false
    ] in
    let first = first_is entries halves c.requires.1 c.as_chunks.ensures.front in
    let last = first_last entries halves c.requires.1 c.as_chunks.ensures.front c.width.result c.width.ensures.1 in
    let met = rw (last, first, c.width.ensures.0, c.width-v.ensures.0, c.least-least_re.ensures.0, c.least-least_im.ensures.0) at (sym begins ∙ c.if-any_below.true) in
    c.if-any_below.true
    ∙ first_open a.base (low g a.re a.im a.partial entries a.own) (widest g a.re a.im a.partial entries a.own) (any_re g a.re a.im a.partial entries a.own)
    (wider g a.re a.im a.partial entries a.own) (any_im g a.re a.im a.partial entries a.own) met

-- The base and the first axis open nothing
shut : (g : given.Over) (c : Else-any_below g)
    → let a = c.args in
    begun a.base (low g a.re a.im a.partial a.entries.now a.own) (widest g a.re a.im a.partial a.entries.now a.own)
    (any_re g a.re a.im a.partial a.entries.now a.own)
    ≡ false
shut g c =
    let a = c.args in
    let entries = a.entries.now in
    let halves = c.as_chunks.result.0.now in
    let low' = a.partial + (c.least-least_re.result + c.least-least_im.result) in
    let widest' = get_or (get_or halves 0 []) (1 * 2 ^ c.width.result % 2 ^ 64 - 1) 0 in
    let any' = g.A.Axis.any a.re (a.partial + c.least-least_im.result) low' (get_or halves 0 []) (a.own / 2 ^ c.width-v.result) in
    let begins : c.if-low-base.value ≡ begun a.base low' widest' any' =
    elim c.if-low-base.branch [
      | then-low-base w ↦ w.value-is ∙ begun_base _ _ widest' any' w.if-low-base.true
      | else-low-base+then-low-first w ↦ w.value-is ∙ w.any_below.ensures ∙ begun_asked _ _ widest' any' w.if-low-base.false w.if-low-first.true
      | else-low-base+else-low-first w ↦ w.value-is ∙ begun_unasked _ _ widest' any' w.if-low-base.false w.if-low-first.false
    ] in
    let first = first_is entries halves c.requires.1 c.as_chunks.ensures.front in
    let last = first_last entries halves c.requires.1 c.as_chunks.ensures.front c.width.result c.width.ensures.1 in
    rw (last, first, c.width.ensures.0, c.width-v.ensures.0, c.least-least_re.ensures.0, c.least-least_im.ensures.0) at (sym begins ∙ c.if-any_below.false)

pub returns-then-low-second : goal.returns-then-low-second
returns-then-low-second g c =
    let a = c.args in
    let entries = a.entries.now in
    let halves = c.as_chunks.result.0.now in
    let second = second_is entries halves c.requires.1 c.as_chunks.ensures.front in
    let last = second_last entries halves c.requires.1 c.as_chunks.ensures.front c.width-v.result c.width-v.ensures.1 in
    let below = rw (last, c.width-v.ensures.0, c.least-least_re.ensures.0, c.least-least_im.ensures.0) at c.if-low-second.true in
    let more = rw (second, masked c.width-v.result a.own c.width-v.ensures.1, c.width-v.ensures.0, c.least-least_re.ensures.0, c.least-least_im.ensures.0) at c.any_below-then-low-second.ensures in
    more
    ∙ second_asked a.base (low g a.re a.im a.partial entries a.own) (widest g a.re a.im a.partial entries a.own) (any_re g a.re a.im a.partial entries a.own)
    (wider g a.re a.im a.partial entries a.own) (any_im g a.re a.im a.partial entries a.own) (shut g ((goal.at.returns-then-low-second g c).Else-any_below)) below

pub returns-else-low-second : goal.returns-else-low-second
returns-else-low-second g c =
    let a = c.args in
    let entries = a.entries.now in
    let halves = c.as_chunks.result.0.now in
    let last = second_last entries halves c.requires.1 c.as_chunks.ensures.front c.width-v.result c.width-v.ensures.1 in
    let below = rw (last, c.width-v.ensures.0, c.least-least_re.ensures.0, c.least-least_im.ensures.0) at c.if-low-second.false in
    rw (last, c.width-v.ensures.0, c.least-least_re.ensures.0, c.least-least_im.ensures.0)
    (second_unasked a.base (low g a.re a.im a.partial entries a.own) (widest g a.re a.im a.partial entries a.own) (any_re g a.re a.im a.partial entries a.own)
    (wider g a.re a.im a.partial entries a.own) (any_im g a.re a.im a.partial entries a.own) (shut g ((goal.at.returns-else-low-second g c).Else-any_below)) below)
