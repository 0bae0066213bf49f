-- The sizes, two fields and a line end.
use Rattle.std.proofs.Common.{arith}
use Rattle.wire.proofs.Runs.{writes_then}
use Rattle.lines.specs.Text.{head_line}
use Rattle.lines.proofs.write_head.Goals as goal

pub returns : goal.returns
unfolding head_line
returns c =
    let sizes = c.write_sizes.ensures in
    let clip = c.write_field.ensures in
    let share = c.write_field-2.ensures in
    let end = c.byte.ensures in (
      omega (arith, sizes.0, clip.0, share.0, end.wrote.ends),
      writes_then (writes_then (writes_then sizes.1 clip.1) share.1) end,
    )
