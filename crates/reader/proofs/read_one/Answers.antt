-- A number below the bound is taken, any other is ranged; where none can be read, it is refused as the definition says.
use Rattle.std.proofs.Common.{ap}
use Rattle.wire.proofs.Reading.{err_is}
use Rattle.block.specs.Reading.{by_number}
use Rattle.reader.proofs.read_one.Goals as goal

pub returns-in_err-n-clause-found : goal.returns-in_err-n-clause-found
unfolding by_number
returns-in_err-n-clause-found c = rw (err_is _ c.from_residual.ensures.1) (ap (by_number _) c.in_err-n.ensures.found.0)
