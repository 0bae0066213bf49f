-- Before a prior the two masks hold the marks of the priors before it.
use Rattle.std.proofs.Common.{◌≡◌}
use Rattle.lines.specs.Against.{negative_mark, nonzero_mark}
use Rattle.lines.proofs.Masks.{mask_to}
use Rattle.lines.proofs.against.Given as goal

abbrev pub invariant-loop-prior : goal.invariant-loop-prior
invariant-loop-prior l = record {
  negative : l.negative ≡ mask_to negative_mark l.priors l.prior-index;
  nonzero : l.nonzero ≡ mask_to nonzero_mark l.priors l.prior-index;
}
