-- The limits are filled in behind the minima, and then what they give behind the limits.
use Prim.Native.Nat.{ℕ}
use mathlib.Core.Path.{◌≡◌, sym, ◌∙◌, ap}
use mathlib.Core.List.{List}
use Rattle.block.proofs.Places.{rows_count}
use Rattle.limits.specs.Reach.{reaches_in}
use Rattle.limits.proofs.Streams.{reaches}
use Rattle.limits.proofs.Passing.{none_stands}
use native.Mathlib.Omega.{arith}
use lib.ListN.{length}
use Rattle.hypotheses.specs.Limits.{vector_for, minima_size}
use Rattle.hypotheses.proofs.Renewed.{lent_limits, lent_is, lent_whole, made_whole, made_kept, made_limits, made_right, limits_after_lem, renewed}
use Rattle.hypotheses.proofs.Vector.renew_limits.Goals as goal

pub fill-requires : goal.fill-requires
fill-requires c =
    let v = c.args.self.now in
    let b = c.args.best in
    let p = v.asked.vector in
    let mid = c.limit_all.new.minima in (
      p.streams,
      p.bits,
      p.label,
      lent_whole mid (made_whole (vector_for v.task v.numbers.now) v.task.streams p.label b.bits b.partial c.args.minima.now mid (omega arith) c.limit_all.ensures),
      none_stands v.task.streams v.task.width (lent_limits mid) p.bit p.label,
    )

pub returns : goal.returns
returns c =
    let t = c.args.self.now.task in
    let v = vector_for t c.args.self.now.numbers.now in
    let p = c.args.self.now.asked.vector in
    let m = t.streams in
    let label = c.args.best.bits in
    let best = c.args.best.partial in
    let old = c.args.minima.now in
    let all : length old ≡ minima_size = omega arith in
    let mid = c.limit_all.new.minima in
    let made = c.limit_all.ensures in
    let whole = made_whole v m p.label label best old mid all made in
    let right = made_right v m p.label label best old mid all made in
    let gives = reaches (lent_limits mid) p.streams p.bits p.label (lent_whole mid whole) c.fill.ensures in
    let rows = sym (rows_count m t.width c.args.self.now.numbers.now) in
    let r = renewed v m rows label best mid whole right _ gives in (
      record {
        size = r.size ∙ whole ∙ sym all;
        kept = r.kept ∙ made_kept v m p.label label best old mid all made;
        reached = r.reached;
      },
      limits_after_lem v m rows label best mid whole right _ gives ∙ c.fill.ensures
          ∙ ap (λ (l : List ℕ). reaches_in t.width l m)
          (lent_is mid whole ∙ made_limits v m p.label label best old mid all made),
    )
