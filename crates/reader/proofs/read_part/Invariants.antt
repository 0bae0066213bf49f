-- The invariant: the whole part into the list as it was is the runs from the i-th on into the list as it is.
use mathlib.Core.Path.{◌≡◌}
use Prim.Native.Nat.{◌≤◌, ◌+◌}
use lib.ListN.{length, drop}
use Rattle.block.specs.Reading.{kinds_of, runs_of, numbers_at, part_at, into}
use Rattle.reader.proofs.read_part.Given as goal

abbrev pub invariant-loop-i : goal.invariant-loop-i
invariant-loop-i l = record {
  room : l.from + length (kinds_of (drop l.i (runs_of l.part))) ≤ length l.initial.numbers;
  same : l.cursor.bytes ≡ l.initial.cursor.bytes;
  is : into 0 (part_at l.part l.initial.cursor.bytes.now l.initial.cursor.at) l.initial.numbers
      ≡ into l.from (numbers_at (kinds_of (drop l.i (runs_of l.part))) l.cursor.bytes.now l.cursor.at) l.numbers;
}
