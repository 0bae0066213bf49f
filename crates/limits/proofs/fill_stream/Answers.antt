-- The two axes, then the widest limit of all bits of the stream, beside that of the streams before it.
use mathlib.Core.Path.{sym, ◌∙◌, ap, ap₂, subst}
use mathlib.Core.List.{List}
use Prim.Native.Nat.{ℕ, ◌+◌, ◌-◌, max}
use native.Mathlib.Numerals.{add-one}
use lib.ListN.{get_or, set}
use Rattle.limits.specs.Reach.{first_place, stream_reach, stream_in}
use Rattle.limits.proofs.Streams.{AxesFilled, axes_in_lem, widest_is}
use Rattle.limits.proofs.fill_stream.Goals as goal

pub returns : goal.returns
unfolding stream_in
returns c =
    let a = c.args in
    let asked = c.requires in
    let limits = c.fill_axes.new.limits in
    let axes =
    subst (λ (x : List ℕ). AxesFilled a.q a.limits.now x a.j) (sym c.fill_axes.ensures)
    (axes_in_lem a.q a.j a.limits.now asked.bits asked.label asked.inside asked.size) in
    let own = c.stream_reach-own.ensures ∙ ap (λ (n : ℕ). stream_reach a.q limits a.j (n - 1)) c.labels.ensures.value in
    rw (← add-one a.j)
    (ap₂ (λ (x : List ℕ) (u : ℕ). set x (first_place (a.j + 1)) u) c.fill_axes.ensures
    (c.max.ensures ∙ ap (max (get_or limits (first_place a.j) 0)) own ∙ widest_is asked.inside asked.size axes))
