-- The invariant: the answer is that of the last k bits, where what remains was folded once for each bit before these.
use Rattle.std.proofs.Common.{◌≡◌, ◌<◌, nat_abs}
use Rattle.metric.specs.Parts.{remainder_bound}
use Rattle.bounding.specs.Answers.{any_bit, bits_open}
use Rattle.bounding.proofs.by_folds.ByFolds.any_bit.Given as goal

abbrev pub invariant-loop-k : goal.invariant-loop-k
invariant-loop-k l =
    let a = l.self in
    let e = l.limits.entries.now in
    record {
      small : nat_abs l.x < remainder_bound;
      rest : any_bit a.left a.diagonal a.width l.other l.low e 0 l.limits.own ≡ bits_open a.diagonal a.width l.other l.low e 0 l.limits.own l.k l.x;
    }
