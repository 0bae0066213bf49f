-- After i turns the first i soft values are written.
use mathlib.Core.Path.{refl, ◌∙◌}
use native.Mathlib.Omega.{arith}
use borrow.Author.Rules.{sfits_of}
use mir.Syntax.{w32, w64}
use mir.Val.{SFits}
use mir.Facts.{to_z-of_z}
use Rattle.metric.specs.Parts.{filled}
use Rattle.search_spec.specs.Program.{zeros_of, ones_of}
use Rattle.hypotheses.specs.Limits.{vector_for}
use Rattle.search_spec.proofs.Minima.{zero_at, one_at}
use Rattle.hypotheses.proofs.Values.{write_more, soft_by}
use Rattle.hypotheses.proofs.write_soft.Goals as goal

pub loop-i-init : goal.loop-i-init
unfolding filled
loop-i-init c = refl

pub soft_value-requires : goal.soft_value-requires
soft_value-requires c =
    let i = c.loop-i.i in
    let m = c.args.minima.now in
    let f : SFits w64 c.prior_at-prior.result = sfits_of c.prior_at-prior.type_inv in
    let one = one_at m i (omega arith) in
    let zero = zero_at m i (omega arith) in (
      omega (arith, c.requires.2.ones_low i, c.requires.2.zeros_low i),
      omega (arith, c.requires.2.ones_low i, c.requires.2.zeros_low i),
      simp to_z-of_z (omega arith),
      c.requires.0.clips,
      c.requires.1,
    )

pub loop-i-preserved : goal.loop-i-preserved
loop-i-preserved c =
    let a = c.args in
    let i = c.loop-i.i in
    let m = a.minima.now in
    let f : SFits w64 c.prior_at-prior.result = sfits_of c.prior_at-prior.type_inv in
    let h : SFits w32 c.soft_value.result = sfits_of c.soft_value.type_inv in
    let v = vector_for a.task a.numbers.now in
    let e = to_z-of_z h ∙ (simp to_z-of_z at c.soft_value.ensures) in
    write_more v a.empty (zeros_of m) (ones_of m) i a.soft.now c.loop-i.soft _ c.loop-i.invariant
    (soft_by v a.empty (zeros_of m) (ones_of m) i c.prior_at-prior.result _ c.prior_at-prior.ensures.0
    (rw (one_at m i (omega arith), zero_at m i (omega arith)) at e))
