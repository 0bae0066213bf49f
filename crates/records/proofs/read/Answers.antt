-- A record is read or refused; what was read is what the list holds, and is handed over.
use Rattle.std.proofs.Common.{pos, replicate, refl}
use lib.ListN.{length-replicate}
use Rattle.std.proofs.lemmas.Result.{err_from_is_err_and}
use Rattle.block.specs.Reading.{most_numbers}
use Rattle.block.proofs.Lent.{lent_room}
use Rattle.records.proofs.Reading.{lent_sized, read_ended, read_refused}
use Rattle.records.proofs.read.Goals as goal

pub returns-in_err-read_whole : goal.returns-in_err-read_whole
returns-in_err-read_whole c =
    let p = err_from_is_err_and c.from_residual.result c.from_residual.ensures.1 in
    rw (p.1, p.2)
    (rw (read_refused _ _ (replicate most_numbers (pos 0)) _ _ (rw c.in_err-read_whole.was at c.read_whole.ensures)) (refl, refl))

pub hand_over-requires : goal.hand_over-requires
hand_over-requires c =
    let e = rw c.in_ok-read_whole.was at c.read_whole.ensures in
    let size = length-replicate most_numbers (pos 0) in
    rw c.layout_of-layout.ensures
    (lent_sized _ 0 (replicate most_numbers (pos 0)) _ _ size e, lent_room _ _ (replicate most_numbers (pos 0)) _ size e)

pub returns : goal.returns
returns c =
    rw (read_ended _ _ (replicate most_numbers (pos 0)) _ _ (length-replicate most_numbers (pos 0)) (rw c.in_ok-read_whole.was at c.read_whole.ensures))
    (rw c.layout_of-layout.ensures at c.hand_over.ensures)
