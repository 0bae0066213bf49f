-- Behind the opening of its layout M is read, and behind M what it calls for.
use mathlib.Core.Path.{sym, ◌∙◌}
use native.Mathlib.Omega.{arith}
use Rattle.wire.proofs.Reading.{err_is}
use Rattle.block.specs.Reading.{kinds_of, runs_of, layout_of, read_record}
use Rattle.block.proofs.Stored.{first_stored, first_ended, first_refused}
use Rattle.reader.proofs.read_record.Goals as goal

pub read_part-requires : goal.read_part-requires
unfolding kinds_of runs_of
read_part-requires c = (tt, omega arith)

pub returns-then-not-has_opening : goal.returns-then-not-has_opening
unfolding read_record
returns-then-not-has_opening c = rw (rw c.layout_of-layout.ensures at (sym c.if-not-has_opening.ensures))

pub read_sized-requires : goal.read_sized-requires
read_sized-requires c = first_stored c.layout_of-layout.result _ _ _ _ _ c.told-numbers c.in_ok-read_part.ensures.found

pub returns-in_err-read_part : goal.returns-in_err-read_part
unfolding read_record
returns-in_err-read_part c =
    rw (err_is _ c.from_residual.ensures.1, rw c.layout_of-layout.ensures at (sym c.if-not-has_opening.ensures))
    (sym (first_refused (layout_of c.args.bytes.now) _ _ _ _ _ c.in_err-read_part.ensures.found))

pub returns-in_err-read_sized : goal.returns-in_err-read_sized
unfolding read_record
returns-in_err-read_sized c =
    rw (err_is _ c.from_residual-in_err-read_sized.ensures.1, rw c.layout_of-layout.ensures at (sym c.if-not-has_opening.ensures))
    (rw (c.layout_of-layout.ensures, c.read_part.ensures.same_bytes) at c.in_err-read_sized.ensures
    ∙ sym (first_ended (layout_of c.args.bytes.now) _ _ _ _ _ c.told-numbers c.in_ok-read_part.ensures.found))

pub returns : goal.returns
unfolding read_record
returns c =
    rw (rw c.layout_of-layout.ensures at (sym c.if-not-has_opening.ensures))
    (rw (c.layout_of-layout.ensures, c.read_part.ensures.same_bytes) at c.in_ok-read_sized.ensures
    ∙ sym (first_ended (layout_of c.args.bytes.now) _ _ _ _ _ c.told-numbers c.in_ok-read_part.ensures.found))
