-- The two parts of a line are that of the answer.
use Rattle.std.proofs.Common.{arith, append_assoc}
use Rattle.wire.proofs.Runs.{writes_then, writes_same}
use Rattle.lines.specs.Text.{vector_line}
use Rattle.lines.proofs.write_line.Goals as goal

pub returns : goal.returns
unfolding vector_line
returns c =
    let counts = rw c.against.ensures at c.write_counts.ensures in
    let values = c.write_values.ensures in
    (omega (arith, c.requires.values_few, counts.0, values.0), writes_same (simp append_assoc) (writes_then counts.1 values.1))
