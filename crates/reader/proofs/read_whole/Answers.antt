-- Only where the record ended before the last byte is there a further refusal.
use borrow.Author.Tests.{lt-ltb, le-ltb}
use Rattle.wire.proofs.Reading.{err_is}
use Rattle.block.proofs.Parts.{whole_ended, whole_refused}
use Rattle.reader.proofs.read_whole.Goals as goal

pub returns-then-at-bytes : goal.returns-then-at-bytes
returns-then-at-bytes c =
    whole_ended _ _ _ _ (rw c.in_ok-at.was at c.read_record.ensures) _ (rw (lt-ltb _ _ c.if-at-bytes.true))

pub returns : goal.returns
returns c =
    whole_ended _ _ _ _ (rw c.in_ok-at.was at c.read_record.ensures) _ (rw (le-ltb _ _ c.if-at-bytes.false))

pub returns-in_err-at : goal.returns-in_err-at
returns-in_err-at c =
    rw (err_is _ c.from_residual.ensures.1) (whole_refused _ _ _ _ (rw c.in_err-at.was at c.read_record.ensures))
