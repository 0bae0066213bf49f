-- That the table's numbers are the points of the Gray rule is computed, once for the whole table.
use mathlib.Core.Path.{refl}
use Rattle.model.specs.Constellation.{amplitude, bits_of, point}
use Rattle.model.specs.Soft.{up_from}
use Rattle.constellation.proofs.Tables.{table_filled}
use Rattle.constellation.proofs.copy_points.Goals as goal

pub returns : goal.returns
unfolding point amplitude bits_of up_from
returns c = table_filled _ _ (record { points = refl }) c.told-points refl
