-- The invariant: all N vectors into the list as it was are those from the k-th on into the list as it is.
use mathlib.Core.Path.{◌≡◌}
use Prim.Native.Nat.{◌-◌, ◌+◌, ◌*◌}
use lib.ListN.{length}
use Rattle.block.specs.Reading.{own_count, header_size, owned_size, vector_kinds, vector_stage, numbers_at, into, most_numbers}
use Rattle.reader.proofs.read_vectors.Given as goal

abbrev pub invariant-loop-k : goal.invariant-loop-k
invariant-loop-k l = record {
  long : length l.numbers ≡ most_numbers;
  is : into (header_size l.layout) (numbers_at (vector_stage l.layout l.initial.numbers) l.initial.cursor.bytes.now l.initial.cursor.at) l.initial.numbers
      ≡ into (header_size l.layout + l.k * owned_size (own_count l.layout) l.m l.q) (numbers_at (vector_kinds (l.n - l.k) (own_count l.layout) l.m l.q) l.cursor.bytes.now l.cursor.at) l.numbers;
}
