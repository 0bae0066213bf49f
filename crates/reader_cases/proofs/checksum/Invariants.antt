-- The sum is the checksum of the numbers passed, and below the prime.
use Rattle.std.proofs.Common.{◌≡◌, ◌<◌}
use Rattle.reader_cases.specs.Numbers.{checksum_of}
use Rattle.reader_cases.proofs.checksum.Given as goal

abbrev pub invariant-loop-z : goal.invariant-loop-z
invariant-loop-z l = (l.sum < 4294967291) × (l.sum ≡ checksum_of l.numbers l.z-index)
