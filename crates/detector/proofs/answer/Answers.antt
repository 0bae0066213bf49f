-- A record is read or refused; what was read is what the lent list holds.
use Rattle.std.proofs.Common.{pos, replicate, refl}
use lib.ListN.{length-replicate}
use Rattle.std.proofs.lemmas.Result.{err_from_is_err_and}
use Rattle.block.specs.Reading.{most_numbers}
use Rattle.search.proofs.Records.{lent_holds}
use Rattle.detector.proofs.Outcomes.{when_ended, when_refused}
use Rattle.detector.proofs.answer.Goals as goal

pub returns-in_err-read_whole : goal.returns-in_err-read_whole
returns-in_err-read_whole c =
    let p = err_from_is_err_and c.from_residual.result c.from_residual.ensures.1 in
    rw (p.1, p.2)
    (rw (when_refused _ _ (replicate most_numbers (pos 0)) _ _ (rw c.in_err-read_whole.was at c.read_whole.ensures)) (refl, refl))

pub reply_to-requires : goal.reply_to-requires
reply_to-requires c =
    rw c.layout_of.ensures
    (lent_holds _ _ (replicate most_numbers (pos 0)) _ (length-replicate most_numbers (pos 0)) (rw c.in_ok-read_whole.was at c.read_whole.ensures))

pub returns : goal.returns
returns c =
    rw (when_ended _ _ (replicate most_numbers (pos 0)) _ _ (length-replicate most_numbers (pos 0)) (rw c.in_ok-read_whole.was at c.read_whole.ensures))
    (rw c.layout_of.ensures at c.reply_to.ensures)
