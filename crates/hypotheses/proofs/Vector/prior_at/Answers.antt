-- The prior's place is within the numbers.
use mathlib.Core.Path.{sym, ap, ◌∙◌}
use native.Mathlib.Omega.{arith}
use borrow.Author.Rules.{sfits_of}
use lib.IntN.{nat_abs}
use mir.Syntax.{w64}
use mir.Val.{SFits}
use mir.Facts.{to_z-of_z}
use Rattle.block.proofs.Places.{all_priors_at}
use Rattle.hypotheses.proofs.Vector.prior_at.Goals as goal

pub returns : goal.returns
returns c =
    let v = c.args.self.now in
    let f : SFits w64 c.element.result = sfits_of c.element.type_inv in
    simp to_z-of_z (
      c.element.ensures ∙ sym (all_priors_at v.task.streams v.task.width v.numbers.now c.args.i c.requires),
      omega (arith, ap nat_abs c.element.ensures, v.asked.vector.priors c.args.i c.requires),
    )
