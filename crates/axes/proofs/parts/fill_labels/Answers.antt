-- The invariant: the first g places are filled.
use mathlib.Core.Path.{refl}
use Prim.Native.Nat.{◌+◌}
use lib.IntN.{pos}
use lib.ListN.{get_or}
use mir.Syntax.{w32, w64}
use mir.Val.{SFits, to_z, of_z}
use mir.Facts.{to_z-of_z}
use Rattle.std.proofs.Common.{rules}
use Rattle.metric.specs.Parts.{span, filled}
use Rattle.metric.proofs.Filled.{filled_more}
use Rattle.axes.specs.Tables.{table_part, key_part}
use Rattle.axes.proofs.parts.fill_labels.Goals as goal

pub loop-g-init : goal.loop-g-init
unfolding filled
loop-g-init c = refl

-- The two entries, as they were read
pub loop-g-preserved : goal.loop-g-preserved
unfolding key_part table_part
loop-g-preserved c =
    let a = c.args in
    let t = a.tables.now in
    let product : SFits w32 (get_or t (a.at + c.loop-g.g) (pos 0)) = search rules in
    let cost : SFits w32 (get_or t (a.at + span + c.loop-g.g) (pos 0)) = search rules in
    rw (c.key_part.ensures, to_z-of_z product, to_z-of_z cost, c.loop-g.invariant)
    (filled_more (key_part t a.at (to_z w64 (of_z w64 a.left))) c.loop-g.g a.parts.now)
