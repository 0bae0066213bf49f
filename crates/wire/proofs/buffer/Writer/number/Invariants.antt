-- The invariant: of n's groups those of what is left are to be written, and at most three follow the next one. So the room that was asked for
-- holds one more group. The measure is what is left.
use Rattle.std.proofs.Common.{◌≤◌, ◌<◌, ◌-◌, ◌+◌, ◌*◌, ◌^◌, suc}
use Rattle.wire.specs.Writing.{groups_of, bytes_of}
use Rattle.wire.proofs.Runs.{Left}
use Rattle.wire.proofs.buffer.Writer.number.Given as goal

abbrev pub invariant-loop-rest : goal.invariant-loop-rest
invariant-loop-rest l = let g = l.initial.self.at + 3 - l.self.at in
    record {
      most : l.self.at ≤ l.initial.self.at + 3;
      small : l.rest < 2 ^ (7 * suc g);
      left : Left l.initial.self (bytes_of l.n) l.self (groups_of (suc g) l.rest);
    }

abbrev pub decreases-loop-rest : goal.decreases-loop-rest
decreases-loop-rest l = l.rest
