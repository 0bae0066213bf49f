-- The invariant: the kind at j of the whole matrix is that at the present place of what is left of it, a matrix of fewer columns, which is
-- not passed yet.
use Rattle.std.proofs.Common.{◌≡◌, ◌*◌, ◌<◌, get_or}
use Rattle.block.specs.Reading.{kinds_of, matrix_runs}
use Rattle.refusals.specs.declared.Kind.TheVariants.{StreamCount}
use Rattle.records.proofs.matrix_kind.Given as goal

abbrev pub invariant-loop-right : goal.invariant-loop-right
invariant-loop-right l =
    (l.place < l.right * l.right)
    × (get_or (kinds_of (matrix_runs l.m)) l.j StreamCount ≡ get_or (kinds_of (matrix_runs l.right)) l.place StreamCount)
