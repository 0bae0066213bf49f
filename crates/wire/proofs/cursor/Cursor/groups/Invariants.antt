-- `Cursor::groups` meets its contract. The invariant: the digits read are below 2 to the 7k, and the number at the start is what the
-- reader still finds at the present place, above those digits.
use Prim.Native.Nat.{◌<◌, ◌*◌, ◌^◌}
use mathlib.Core.Path.{◌≡◌}
use Rattle.wire.specs.Reading.{number_at}
use Rattle.wire.proofs.Reading.{state}
use Rattle.wire.proofs.cursor.Cursor.groups.Given as goal

abbrev pub invariant-loop-k : goal.invariant-loop-k
invariant-loop-k l = record {
  below : l.value < 2 ^ (7 * l.k);
  is : number_at l.self.bytes.now l.self.at ≡ state l.self.bytes.now l.place l.k l.value;
}
