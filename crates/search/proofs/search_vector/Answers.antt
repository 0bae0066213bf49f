-- The walk from the root keeps what the model's search keeps, and the soft values are written from its minima, with W or C on empty sides.
use Rattle.std.proofs.Common.{refl}
use native.Mathlib.Nat.{le_trans}
use Rattle.model.proofs.Weak.{empty_most}
use Rattle.axes.proofs.Tables.{rows_tabled}
use Rattle.search.proofs.Values.{keys_many, root_asked, end_low, end_answered}
use Rattle.search.proofs.search_vector.Goals as goal

pub invariant_of-vector-clause-tabled : goal.invariant_of-vector-clause-tabled
invariant_of-vector-clause-tabled c =
    let t = c.args.task in
    let a = c.requires.0.vector in
    rw c.prepare.ensures (rows_tabled t.streams t.width c.args.numbers.now _ a.bits refl t.streams a.streams)

pub begin-end-requires-clause-asked : goal.begin-end-requires-clause-asked
begin-end-requires-clause-asked c = root_asked c.requires.0 _ (le_trans (keys_many c.requires.0) c.requires.3)

pub write_soft-requires : goal.write_soft-requires
write_soft-requires c =
    let asked = c.requires.0 in (
      asked,
      rw c.empty_side-empty.ensures (empty_most c.begin-end.result.stopped c.requires.1),
      end_low asked c.args.task.allowance c.begin-end.ensures.found,
    )

pub returns : goal.returns
returns c =
    end_answered c.requires.0 c.args.task.allowance c.begin-end.ensures.found c.args.weak c.empty_side-empty.ensures _ _ c.requires.2
    c.write_soft.ensures c.requires.5 c.begin-end.result refl refl c.begin-end.ensures.parts
