-- As many as 1 shifted by q places.
use Rattle.metric.proofs.Shifts.{one_shifted}
use Rattle.std.proofs.Common.{rules}
use Rattle.metric.proofs.children.fill_all.Goals as goal

pub returns : goal.returns
returns c =
    rw (one_shifted c.args.q (search rules)) at c.fill_first.ensures
