-- The invariant: the widest of the streams so far.
use mathlib.Core.Path.{◌≡◌, ap, ap₂, ◌∙◌}
use mathlib.Core.Bool.{true}
use Prim.Native.Nat.{ℕ, ◌+◌, ◌-◌, ◌*◌, ◌/◌, ◌%◌, ◌^◌, ◌≤◌, max}
use native.Mathlib.Numerals.{add-one}
use native.Mathlib.Omega.{arith}
use Rattle.search_spec.specs.Reach.{widest_of}
use Rattle.search_spec.proofs.Reach.{widest_more}
use Rattle.limits.specs.Reach.{stream_reach, symbol_of, chosen_reach}
use Rattle.limits.proofs.chosen.Goals as goal

-- No stream yet
none_wide : (limit : ℕ → ℕ) (level n : ℕ) → n ≡ 0 → 0 ≡ widest_of (λ _. true) limit level n
unfolding widest_of
none_wide limit level n e = rw e

pub loop-j-init : goal.loop-j-init
loop-j-init c = none_wide _ c.args.level _ (omega arith)

-- One stream more
next_wider : (limit : ℕ → ℕ) (level j : ℕ) → level ≤ j
    → max (widest_of (λ _. true) limit level (j - level)) (limit j) ≡ widest_of (λ _. true) limit level (j + 1 - level)
next_wider limit level j h =
    let e : j ≡ level + (j - level) = omega arith in
    let f : j + 1 - level ≡ j - level + 1 = omega arith in
    rw (f, widest_more) (ap (λ (i : ℕ). max (widest_of (λ _. true) limit level (j - level)) (limit i)) e)

pub loop-j-preserved : goal.loop-j-preserved
loop-j-preserved c =
    let s = c.args in
    let reach = stream_reach s.q s.limits.now in
    let symbol = symbol_of s.m s.q s.bits in
    let e : c.symbol_at-symbol.result ≡ symbol c.loop-j.j =
    c.symbol_at-symbol.ensures ∙ ap (λ (n : ℕ). s.bits / 2 ^ ((s.m - n) * s.q) % 2 ^ s.q) (add-one c.loop-j.j) in
    let r : c.stream_reach.result ≡ reach c.loop-j.j (symbol c.loop-j.j) =
    c.stream_reach.ensures ∙ ap (reach c.loop-j.j) e in
    c.max-widest.ensures ∙ ap₂ max c.loop-j.invariant r ∙ next_wider (λ j. reach j (symbol j)) s.level c.loop-j.j (omega arith)

pub returns : goal.returns
unfolding chosen_reach
returns c =
    let e : c.loop-j.j ≡ c.args.m = omega arith in
    rw e at c.loop-j.invariant
