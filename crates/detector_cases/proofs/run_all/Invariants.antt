-- Each item ends behind the place where its length stands, so what is left of the input falls.
use Rattle.std.proofs.Common.{◌-◌, length}
use Rattle.detector_cases.proofs.run_all.Given as goal

abbrev pub decreases-loop-record : goal.decreases-loop-record
decreases-loop-record g l = length l.items.input.now - l.items.at
