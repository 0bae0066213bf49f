-- After i turns the first i limits are filled in, behind minima that stay.
use Prim.Native.Nat.{ℕ, ◌≤◌, ◌+◌, ◌*◌}
use mathlib.Core.Path.{sym, ap, ap₂, ◌∙◌}
use mathlib.Core.List.{List, ◌++◌}
use native.Mathlib.Omega.{arith}
use lib.ListN.{length, set, take, take-append-drop}
use Rattle.model.specs.Block.{most_bits}
use Rattle.metric.specs.Parts.{filled}
use Rattle.metric.proofs.Filled.{filled_more}
use Rattle.search_spec.specs.Program.{Taken, taken_in, limits_of}
use Rattle.hypotheses.specs.Limits.{vector_for, limit_at}
use Rattle.search_spec.proofs.Minima.{taken_kept, limit_set}
use Rattle.hypotheses.proofs.Vector.limit_all.Goals as goal

pub loop-i-init : goal.loop-i-init
unfolding filled
loop-i-init c = sym (take-append-drop (2 * most_bits) _)

pub loop-i-preserved : goal.loop-i-preserved
loop-i-preserved c =
    let a = c.args in
    let v = vector_for a.self.now.task a.self.now.numbers.now in
    let f = limit_at v (taken_in a.best.bits a.best.partial a.minima.now) in
    let wide : 2 * most_bits ≤ length a.minima.now = omega arith in
    let kept = taken_kept a.minima.now wide _ a.best.bits a.best.partial in
    ap₂ (λ (x : List ℕ) (u : ℕ). set x (2 * most_bits + c.loop-i.i) u) c.loop-i.invariant
    (c.limit_at.ensures ∙ ap (λ (t : Taken). limit_at v t c.loop-i.i) (ap (taken_in a.best.bits a.best.partial) c.loop-i.invariant ∙ kept))
    ∙ limit_set a.minima.now wide _ c.loop-i.i _
    ∙ ap (λ (x : List ℕ). take (2 * most_bits) a.minima.now ++ x) (filled_more f c.loop-i.i (limits_of a.minima.now))
