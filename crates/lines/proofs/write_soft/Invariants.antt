-- The values from the i-th on are left to write.
use Rattle.std.proofs.Common.{◌+◌, ◌*◌, ◌≤◌}
use Rattle.wire.proofs.Runs.{Left}
use Rattle.lines.proofs.Pieces.{soft_left}
use Rattle.lines.proofs.write_soft.Given as goal

abbrev pub invariant-loop-value : goal.invariant-loop-value
invariant-loop-value l = record {
  near : l.text.at ≤ l.initial.text.at + 12 * l.value-index;
  left : Left l.initial.text (soft_left l.soft 0) l.text (soft_left l.soft l.value-index);
}
