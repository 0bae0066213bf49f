-- The three cases are those of the model's soft value; the difference of two metrics and the prior is small.
use Prim.Native.Nat.{ℕ, ◌<◌, ◌≤◌, ◌^◌}
use mathlib.Core.Path.{◌≡◌, ◌∙◌}
use native.Mathlib.Omega.{arith}
use borrow.Author.Rules.{sfits_of}
use borrow.Author.Tests.{eq-eqb, ne_eqb}
use lib.IntN.{ℤ, pos, nat_abs, ◌-ℤ◌}
use mir.Syntax.{w32, w64}
use mir.Val.{SFits}
use mir.Facts.{to_z-of_z, to_z_pos}
use Rattle.integers.proofs.Fits.{sfits_abs, zero_sub, negation_fits}
use Rattle.integers.proofs.Magnitudes.{nat_abs-sub}
use Rattle.search_spec.specs.Program.{above, side_of}
use Rattle.hypotheses.proofs.soft_value.Goals as goal

-- The difference of two metrics is small, and so it is without the prior
difference : (a b : ℕ) → a ≤ above → b ≤ above → SFits w64 (pos a -ℤ pos b)
difference a b h k = sfits_abs _ (omega (arith, nat_abs-sub (pos a) (pos b)))

whole : (a b : ℕ) (prior : ℤ) → a ≤ above → b ≤ above → nat_abs prior < 2 ^ 31 → SFits w64 (pos a -ℤ pos b -ℤ prior)
whole a b prior h k l =
    sfits_abs _ (omega (arith, nat_abs-sub (pos a) (pos b), nat_abs-sub (pos a -ℤ pos b) prior))

pub returns-then-one-eq-ABOVE : goal.returns-then-one-eq-ABOVE
unfolding side_of
returns-then-one-eq-ABOVE c =
    let h : c.args.empty < 2 ^ 31 = omega arith in
    let none : c.args.one ≡ above = c.if-one-eq-ABOVE.true in
    simp (to_z_pos, eq-eqb _ _ none)

pub returns-then-zero-eq-ABOVE : goal.returns-then-zero-eq-ABOVE
unfolding side_of
returns-then-zero-eq-ABOVE c =
    let h : c.args.empty < 2 ^ 31 = omega arith in
    let negated : SFits w32 (pos 0 -ℤ pos c.args.empty) = negation_fits (pos c.args.empty) h in
    let low = rw zero_sub at negated in
    let none : c.args.zero ≡ above = c.if-zero-eq-ABOVE.true in
    simp (to_z_pos, to_z-of_z, zero_sub, ne_eqb _ _ c.if-one-eq-ABOVE.false, eq-eqb _ _ none)

pub returns : goal.returns
unfolding side_of
returns c =
    let a = c.args in
    let one : a.one < 2 ^ 63 = omega arith in
    let zero : a.zero < 2 ^ 63 = omega arith in
    let f = c.ranges.prior in
    let h : SFits w32 c.clip.result = sfits_of c.clip.type_inv in
    let d = difference a.one a.zero c.requires.0 c.requires.1 in
    let e = whole a.one a.zero a.prior c.requires.0 c.requires.1 c.requires.2 in
    simp (ne_eqb _ _ c.if-one-eq-ABOVE.false, ne_eqb _ _ c.if-zero-eq-ABOVE.false)
    (to_z-of_z h ∙ (simp (to_z_pos, to_z-of_z) at c.clip.ensures))
