-- A negative reach is 0 as a natural number, another one is itself.
use mathlib.Core.Path.{◌≡◌, refl, ap, ◌∙◌}
use Prim.Native.Nat.{min}
use borrow.Author.Rules.{sfits_of}
use lib.IntN.{ℤ, pos, negsuc, nat_abs}
use mir.Syntax.{w64}
use native.Mathlib.Omega.{arith}
use Rattle.std.proofs.lemmas.Bool.Decides.{nat_tests}
use mir.Val.{SFits}
use mir.Facts.{to_z-of_z}
use Rattle.std.specs.Int.{int_max}
use Rattle.hypotheses.specs.Limits.{up_of}
use Rattle.hypotheses.proofs.limit.Goals as goal

up_max : (z : ℤ) → nat_abs (int_max z (pos 0)) ≡ up_of z
unfolding up_of
up_max (pos n) = grind (arith, nat_tests)
up_max (negsuc n) = refl

pub returns : goal.returns
returns c =
    let f = c.ranges.reach in
    let g : SFits w64 c.max.result = sfits_of c.max.type_inv in
    let far = to_z-of_z g ∙ c.max.ensures.value ∙ ap (λ (z : ℤ). int_max z (pos 0)) (to_z-of_z f) in
    c.min.ensures ∙ ap (min c.args.opposite) (ap nat_abs far ∙ up_max c.args.reach)
