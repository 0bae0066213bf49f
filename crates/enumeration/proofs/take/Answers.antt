-- The row's smallest key is taken, in the column that is kept; then the smallest that is left there, and its column, are put behind the keys.
use Prim.Native.Nat.{◌*◌}
use mathlib.Core.Path.{refl, ◌∙◌}
use native.Mathlib.Omega.{arith}
use lib.ListN.{length-set}
use Rattle.enumeration.proofs.Least.{least_part}
use Rattle.enumeration.proofs.Taking.{taken, room}
use Rattle.enumeration.proofs.take.Goals as goal

pub returns : goal.returns
returns c =
    let a = c.args in
    let columns = c.of-grid.result.columns in
    let e = c.of-grid.ensures in
    let h = room e.0 e.1 e.2 c.requires in
    let part = least_part _ (a.row * columns) columns h.0 (rw length-set (omega arith)) in
    taken a.q _ _ _ a.keys.now a.row _ c.least_first-column.result e.0 e.2 e.1 c.requires.1 c.requires.2 refl
    (c.least_first-column.ensures.0 ∙ part)

pub overflow_add-least : goal.overflow_add-least
overflow_add-least c = omega (arith, room c.of-grid.ensures.0 c.of-grid.ensures.1 c.of-grid.ensures.2 c.requires)

pub overflow_add-kept-2 : goal.overflow_add-kept-2
overflow_add-kept-2 c = omega (arith, room c.of-grid.ensures.0 c.of-grid.ensures.1 c.of-grid.ensures.2 c.requires)

pub overflow_mul-start : goal.overflow_mul-start
overflow_mul-start c = omega (arith, room c.of-grid.ensures.0 c.of-grid.ensures.1 c.of-grid.ensures.2 c.requires)

pub offset_bounds-keys-kept : goal.offset_bounds-keys-kept
offset_bounds-keys-kept c = omega (arith, room c.of-grid.ensures.0 c.of-grid.ensures.1 c.of-grid.ensures.2 c.requires)

pub bounds-keys-kept : goal.bounds-keys-kept
bounds-keys-kept c = omega (arith, room c.of-grid.ensures.0 c.of-grid.ensures.1 c.of-grid.ensures.2 c.requires)

pub overflow_add-symbol : goal.overflow_add-symbol
overflow_add-symbol c = omega (arith, room c.of-grid.ensures.0 c.of-grid.ensures.1 c.of-grid.ensures.2 c.requires)

pub offset_bounds-keys-symbol : goal.offset_bounds-keys-symbol
offset_bounds-keys-symbol c = omega (arith, room c.of-grid.ensures.0 c.of-grid.ensures.1 c.of-grid.ensures.2 c.requires)

pub bounds-keys-symbol : goal.bounds-keys-symbol
bounds-keys-symbol c = omega (arith, room c.of-grid.ensures.0 c.of-grid.ensures.1 c.of-grid.ensures.2 c.requires)

pub overflow_add-start : goal.overflow_add-start
overflow_add-start c = omega (arith, room c.of-grid.ensures.0 c.of-grid.ensures.1 c.of-grid.ensures.2 c.requires)

pub offset_bounds-keys-start : goal.offset_bounds-keys-start
offset_bounds-keys-start c = omega (arith, room c.of-grid.ensures.0 c.of-grid.ensures.1 c.of-grid.ensures.2 c.requires)

pub slice_bounds-least_first-end : goal.slice_bounds-least_first-end
slice_bounds-least_first-end c = rw length-set (omega (arith, room c.of-grid.ensures.0 c.of-grid.ensures.1 c.of-grid.ensures.2 c.requires))

pub bounds-keys-least : goal.bounds-keys-least
bounds-keys-least c = rw length-set (omega (arith, room c.of-grid.ensures.0 c.of-grid.ensures.1 c.of-grid.ensures.2 c.requires))

pub bounds-keys-kept-2 : goal.bounds-keys-kept-2
bounds-keys-kept-2 c = rw (length-set, length-set) (omega (arith, room c.of-grid.ensures.0 c.of-grid.ensures.1 c.of-grid.ensures.2 c.requires))
