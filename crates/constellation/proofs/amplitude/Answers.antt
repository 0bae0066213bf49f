-- The label's place is within the table, and the table has the amplitude there, as is computed once for the whole table.
use Prim.Native.Nat.{ℕ, ◌+◌, ◌*◌, ◌%◌, ◌^◌, ◌≤◌, ◌<◌}
use mathlib.Core.Path.{◌≡◌, refl}
use mathlib.Core.List.{List}
use native.Mathlib.Omega.{arith}
use lib.IntN.{ℤ, pos}
use lib.ListN.{length, get_or}
use lib.Pow.{shl_exact, pow_mono}
use mir.Facts.{to_z-of_z}
use mir.Syntax.{w8}
use mir.Val.{to_z, of_z}
use Rattle.integers.proofs.Fits.{sfits_abs}
use Rattle.model.specs.Constellation.{amplitude, bits_of}
use Rattle.model.specs.Soft.{up_from}
use Rattle.model.proofs.Gray.{amplitude_below}
use Rattle.model.proofs.Numbers.{length-bits_of}
use Rattle.constellation.specs.Points.{Axes}
use Rattle.constellation.specs.declared.TheConstants.{AXES}
use Rattle.constellation.proofs.Tables.{axis, table_axes}
use Rattle.constellation.proofs.amplitude.Goals as goal

first : (bits : ℕ) → bits ≤ 3 → 1 * 2 ^ bits % 2 ^ 64 ≡ 2 ^ bits
first bits h = omega (arith, shl_exact {a = 1} 1 bits 64 (omega arith) (omega arith))

read : (table : List ℤ) → Axes table → (bits label : ℕ) → bits ≤ 3 → label < 2 ^ bits
    → to_z w8 (of_z w8 (get_or table (1 * 2 ^ bits % 2 ^ 64 + label) (pos 0))) ≡ amplitude (bits_of bits label)
read table right bits label h k =
    let few : length (bits_of bits label) ≤ 3 = omega (arith, length-bits_of bits label) in
    rw (first bits h, right.each bits label h k)
    (to_z-of_z {w = w8} (sfits_abs (amplitude (bits_of bits label)) (omega (arith, amplitude_below (bits_of bits label), pow_mono few))))

pub bounds-bits : goal.bounds-bits
bounds-bits c = omega (arith, first c.args.bits c.requires.0, pow_mono c.requires.0)

pub returns : goal.returns
unfolding axis up_from amplitude bits_of
returns c = read AXES (table_axes (record { axes = refl })) c.args.bits c.args.label c.requires.0 c.requires.1
