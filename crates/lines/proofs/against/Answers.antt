-- A prior's marks are shifted into the masks.
use Rattle.std.proofs.Common.{sym, ap, ◌∙◌, arith, rules, pos, get_or, ◌≡◌, length, ◌≤◌, SFits, w32, to_z, of_z, to_z-of_z}
use Rattle.lines.specs.Against.{negative_mark, nonzero_mark}
use Rattle.lines.proofs.Masks.{negative_is, nonzero_is, negative_mark_lem, nonzero_mark_lem, mask_none, mask_next, mask_all, ones_against}
use Rattle.lines.proofs.against.Goals as goal

pub loop-prior-init : goal.loop-prior-init
loop-prior-init c = record { negative = sym (mask_none negative_mark c.args.priors.now); nonzero = sym (mask_none nonzero_mark c.args.priors.now) }

pub loop-prior-preserved : goal.loop-prior-preserved
loop-prior-preserved c =
    let ps = c.args.priors.now in
    let i = c.loop-prior.prior-index in
    let fits : SFits w32 (get_or ps i (pos 0)) = search rules in
    let p = get_or ps i (pos 0) in
    let m = c.loop-prior.invariant in
    let e : to_z w32 (of_z w32 p) ≡ p = to_z-of_z {w = w32} fits in
    let n : c.from.result ≡ negative_mark p = c.from.ensures ∙ negative_is _ ∙ ap negative_mark e in
    let z : c.from-in-loop-prior.result ≡ nonzero_mark p = c.from-in-loop-prior.ensures ∙ nonzero_is p fits in
    record {
      negative = rw (m.negative, n) (mask_next negative_mark negative_mark_lem ps i c.loop-prior-test.true c.requires);
      nonzero = rw (m.nonzero, z) (mask_next nonzero_mark nonzero_mark_lem ps i c.loop-prior-test.true c.requires);
    }

pub returns : goal.returns
returns c =
    let ps = c.args.priors.now in
    let i = c.loop-prior.prior-index in
    let m = c.loop-prior.invariant in
    let none : length ps ≤ i = omega arith in
    rw (m.negative, m.nonzero, mask_all negative_mark ps i none, mask_all nonzero_mark ps i none) (ones_against ps c.args.label)
