-- The invariant: the costs of the first 2^b labels are there.
use mathlib.Core.Path.{◌≡◌, refl}
use native.Mathlib.Omega.{arith}
use native.Mathlib.Nat.{pow-suc}
use lib.IntN.{ℤ, pos, ◌+ℤ◌}
use lib.ListN.{length, get_or}
use lib.Pow.{pow_mono}
use Prim.Native.Nat.{suc, ◌-◌, ◌^◌, ◌<◌, ◌≤◌}
use lib.ListN.{length-set}
use Rattle.axes.proofs.Doubled.{doubled_is}
use mir.Facts.{to_z_pos, to_z-of_z}
use mir.Val.{SFits}
use mir.Syntax.{w32}
use borrow.Author.Rules.{sfits_of}
use Rattle.std.proofs.Common.{rules}
use Rattle.integers.proofs.Fits.{sfits_abs}
use Rattle.metric.specs.Parts.{filled, filled_from}
use Rattle.axes.specs.Tables.{label_cost}
use Rattle.axes.proofs.Costs.{cost_small, raised_fits, raised_all}
use Rattle.axes.proofs.table.fill_label_costs.Goals as goal

pub overflow_cast-costs : goal.overflow_cast-costs
unfolding label_cost
overflow_cast-costs c = sfits_abs _ (omega (arith, cost_small c.args.priors.now 0 c.requires.0))

pub loop-b-init : goal.loop-b-init
unfolding filled label_cost
loop-b-init c =
    let small : c.first_cost.result < 2 ^ 31 = omega (arith, cost_small c.args.priors.now 0 c.requires.0) in
    rw (to_z_pos w32 small, c.first_cost.ensures) refl

-- The prior of a turn
abbrev prior_of : goal.After-labels → ℤ
prior_of c = let p = c.args.priors.now in get_or p (length p - 1 - c.loop-b.b) (pos 0)

-- There is room for the costs of all labels, and so for those of one bit more
room : (c : goal.After-labels) → 2 ^ length c.args.priors.now ≤ length c.loop-b.costs
room c = omega (arith, length-set {A = ℤ}, pow_mono c.requires.0.bits)

pub double-requires-clause-room : goal.double-requires-clause-room
double-requires-clause-room c =
    let h : suc c.loop-b.b ≤ length c.args.priors.now = omega arith in
    omega (arith, room c, pow-suc 2 c.loop-b.b, pow_mono h)

pub double-requires-clause-may : goal.double-requires-clause-may
double-requires-clause-may c = λ g d h κs r e s t.
    let k : g < 2 ^ c.loop-b.b = omega arith in
    let cost : SFits w32 (get_or c.loop-b.costs g d) = sfits_of e.1.0 in
    let prior : SFits w32 (prior_of c) = search rules in
    simp to_z-of_z
    (raised_fits c.args.priors.now c.args.costs.now c.loop-b-test.true (room c) c.loop-b.invariant c.requires.0 g d k)

pub loop-b-preserved : goal.loop-b-preserved
loop-b-preserved c =
    let p = c.args.priors.now in
    let prior : ℤ = get_or p (length p - 1 - c.loop-b.b) (pos 0) in
    let whole : 2 ^ length p ≤ length c.loop-b.costs = omega (arith, length-set {A = ℤ}, pow_mono c.requires.0.bits) in
    let h : suc c.loop-b.b ≤ length p = omega arith in
    let more : c.double.new.entries ≡ filled_from c.labels.result (λ g. get_or c.loop-b.costs g (pos 0) +ℤ prior) c.labels.result c.loop-b.costs =
    doubled_is c.double.ensures (omega (arith, pow-suc 2 c.loop-b.b, pow_mono h)) (λ z. z +ℤ prior) (pos 0) (λ g y k h.
    let cost : SFits w32 (get_or c.loop-b.costs g (pos 0)) = search rules in
    let price : SFits w32 prior = search rules in
    let l : g < 2 ^ c.loop-b.b = omega arith in
    let sum = raised_fits p c.args.costs.now c.loop-b-test.true whole c.loop-b.invariant c.requires.0 g (pos 0) l in
    search (rules, to_z-of_z)) in
    raised_all p c.args.costs.now c.loop-b-test.true whole c.loop-b.invariant c.double.new.entries (rw c.labels.ensures.value at more)
