-- The invariant: the whole run into the list as it was is the rest of the run into the list as it is. Each turn and each exit is one law.
use Rattle.std.proofs.Common.{sym, ◌∙◌, arith, rules, w32}
use lib.Seq.{set-get_or}
use mir.Val.{SFits}
use mir.Facts.{to_z-of_z}
use Rattle.wire.proofs.Reading.{err_is}
use Rattle.block.proofs.Reading.{run_none, run_taken, run_turned}
use Rattle.reader.proofs.read_run.Goals as goal

pub loop-number-preserved : goal.loop-number-preserved
loop-number-preserved c =
    let f : SFits w32 c.in_ok-number.field-0 = search rules in
    let i = c.loop-number.invariant in
    let e = c.read_one.ensures.same_bytes in
    record {
      same = e ∙ i.same;
      is = rw (to_z-of_z f, e) (i.is ∙ run_taken _ _ _ _ _ _ (omega arith) _ _ (sym c.in_ok-number.ensures.found));
    }

pub returns-in_err-number-clause-found : goal.returns-in_err-number-clause-found
returns-in_err-number-clause-found c =
    rw (err_is _ c.from_residual.ensures.1, set-get_or)
    (sym (c.loop-number.invariant.is ∙ run_turned _ _ _ _ _ _ (omega arith) _ (sym c.in_err-number.ensures.found)))

pub returns-clause-found : goal.returns-clause-found
returns-clause-found c = sym (c.loop-number.invariant.is ∙ run_none _ _ _ _ _ _ (omega arith))
