-- The invariant: the whole run into the list as it was is the rest of the run into the list as it is. Each turn and each exit is one law.
use mathlib.Core.Path.{◌≡◌}
use Prim.Native.Nat.{◌-◌}
use lib.ListN.{length, replicate}
use Rattle.block.specs.Reading.{numbers_at, into}
use Rattle.reader.proofs.read_run.Given as goal

abbrev pub invariant-loop-number : goal.invariant-loop-number
invariant-loop-number l = record {
  same : l.cursor.bytes ≡ l.initial.cursor.bytes;
  is : into 0 (numbers_at (replicate (length l.initial.numbers) l.kind) l.initial.cursor.bytes.now l.initial.cursor.at) l.initial.numbers
      ≡ into l.number-index (numbers_at (replicate (length l.initial.numbers - l.number-index) l.kind) l.cursor.bytes.now l.cursor.at) l.numbers;
}
