-- The library's test is the definition.
use mathlib.Core.Path.{◌∙◌}
use Rattle.block.specs.Reading.{opening}
use Rattle.block.proofs.Openings.{starts_is}
use Rattle.reader.proofs.has_opening.Goals as goal

pub returns : goal.returns
returns c = rw c.opening.ensures at c.starts_with.ensures.value ∙ starts_is (opening c.args.layout) c.args.bytes.now
