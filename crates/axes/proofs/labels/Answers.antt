-- 1 is shifted by few places.
use native.Mathlib.Omega.{arith}
use lib.Pow.{pow_mono}
use Rattle.metric.proofs.Shifts.{one_shifted}
use Rattle.axes.proofs.labels.Goals as goal

pub returns-clause-value : goal.returns-clause-value
returns-clause-value c = one_shifted c.args.w (omega arith)

pub returns-clause-few : goal.returns-clause-few
returns-clause-few c = λ h. omega (arith, one_shifted c.args.w (omega arith), pow_mono h)
