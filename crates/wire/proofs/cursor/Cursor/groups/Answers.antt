-- `Cursor::groups` meets its contract. The invariant: the digits read are below 2 to the 7k, and the number at the start is what the
-- reader still finds at the present place, above those digits.
use Prim.Native.Nat.{ℕ, ◌<◌, ◌+◌, ◌*◌, ◌^◌}
use mathlib.Core.Path.{◌≡◌, sym, ap, ◌∙◌, subst}
use mathlib.Core.Logic.{⊎_elim}
use native.Mathlib.Omega.{arith}
use borrow.Author.Tests.{ltb-true, eqb-false}
use Rattle.std.specs.Prelude.{Ok}
use Rattle.wire.proofs.Reading.{state, state_start, state_malformed, state_short, state_more, state_zero, state_value}
use Rattle.wire.proofs.Reading.{digits_set, digits_below}
use Rattle.wire.proofs.RoundTrip.{answered}
use Rattle.wire.proofs.cursor.Cursor.groups.Goals as goal

pub loop-k-init : goal.loop-k-init
loop-k-init c = record { below = omega arith; is = state_start _ _ }

pub returns-then-self-place : goal.returns-then-self-place
returns-then-self-place c =
    let l = c.loop-k in
    (sym (l.invariant.is ∙ state_short _ l.place _ l.value (omega arith) c.if-self-place.true), tt)

pub returns-then-k-gt0 : goal.returns-then-k-gt0
returns-then-k-gt0 c =
    let l = c.loop-k in
    let later : 0 < l.k = omega (arith, ltb-true) in
    (sym (l.invariant.is ∙ state_zero _ l.place _ l.value (omega arith) c.if-self-place.false c.if-b-eq0.true later), tt)

pub returns-then-b-lt128 : goal.returns-then-b-lt128
returns-then-b-lt128 c =
    let l = c.loop-k in
    answered _ _ _
    (ap (λ (v : ℕ). Ok (v, l.place + 1)) (digits_set _ _ _ (omega arith) l.invariant.below)
    ∙ sym
    (l.invariant.is
    ∙ state_value _ l.place _ l.value (omega arith) c.if-self-place.false c.if-b-lt128.true
    (λ f. ⊎_elim
    (λ w. let first : l.k ≡ 0 = omega arith in absurd (eqb-false _ 0 f first))
    (λ w. omega arith)
    c.else-b-eq0.either)))

pub loop-k-preserved : goal.loop-k-preserved
loop-k-preserved c =
    let l = c.loop-k in
    let digits = digits_set _ _ _ (omega arith) l.invariant.below in
    record {
      below = subst (λ (v : ℕ). v < 2 ^ (7 * (l.k + 1))) (sym digits) (digits_below _ _ _ l.invariant.below);
      is = l.invariant.is ∙ state_more _ l.place _ l.value (omega arith) c.if-self-place.false c.if-b-lt128.false ∙ ap (state _ _ _) (sym digits);
    }

pub returns : goal.returns
returns c =
    let l = c.loop-k in (sym (l.invariant.is ∙ state_malformed _ l.place _ l.value (omega arith)), tt)
