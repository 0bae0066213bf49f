-- The number is the outcome's, and the buffer is what `answer` left.
use Rattle.std.proofs.Common.{rules}
use Rattle.refusals.proofs.Outcomes.{number_counted}
use Rattle.detector.proofs.geckoneedle_detect.Goals as goal

pub returns : goal.returns
returns c = (search (rules, number_counted), c.answer.ensures.1)
