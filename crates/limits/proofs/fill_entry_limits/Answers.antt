-- The invariant: the entries of the last b bits are there.
use Prim.Native.Nat.{ℕ, suc, ◌-◌, ◌^◌, ◌≤◌, max}
use mathlib.Core.Path.{◌≡◌, refl}
use native.Mathlib.Nat.{pow-suc}
use native.Mathlib.Omega.{arith}
use lib.ListN.{length, get_or, length-set}
use lib.Pow.{pow_mono}
use Rattle.std.proofs.Common.{rules}
use Rattle.metric.specs.Parts.{filled, filled_from}
use Rattle.search_spec.specs.Reach.{widest_of}
use Rattle.axes.proofs.Doubled.{doubled_is}
use Rattle.limits.specs.Reach.{axis_reach}
use Rattle.limits.proofs.Axes.{axis_more}
use Rattle.limits.proofs.fill_entry_limits.Goals as goal

pub loop-b-init : goal.loop-b-init
unfolding filled axis_reach widest_of
loop-b-init c = refl

pub double-requires-clause-room : goal.double-requires-clause-room
double-requires-clause-room c =
    let h : suc c.loop-b.b ≤ length c.args.own.now = omega arith in
    omega (arith, length-set {A = ℕ}, pow-suc 2 c.loop-b.b, pow_mono h, pow_mono c.requires.0)

pub loop-b-preserved : goal.loop-b-preserved
loop-b-preserved c =
    let own = c.args.own.now in
    let limit : ℕ = get_or own (length own - 1 - c.loop-b.b) 0 in
    let whole : 2 ^ length own ≤ length c.loop-b.entries = omega (arith, length-set {A = ℕ}, pow_mono c.requires.0) in
    let h : suc c.loop-b.b ≤ length own = omega arith in
    let more : c.double.new.entries ≡ filled_from c.labels.result (λ g. max (get_or c.loop-b.entries g 0) limit) c.labels.result c.loop-b.entries =
    doubled_is c.double.ensures (omega (arith, pow-suc 2 c.loop-b.b, pow_mono h)) (λ x. max x limit) 0 (λ g y k e. search rules) in
    axis_more own c.args.entries.now c.loop-b-test.true whole c.loop-b.invariant c.double.new.entries (rw c.labels.ensures.value at more)
