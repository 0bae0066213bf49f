-- The invariant: the whole part into the list as it was is the runs from the i-th on into the list as it is.
use Rattle.std.proofs.Common.{sym, ◌∙◌, ◌<◌, length, arith}
use Rattle.wire.proofs.Reading.{err_is}
use Rattle.block.specs.Reading.{runs_of}
use Rattle.block.proofs.Lending.{run_part}
use Rattle.block.proofs.Runs.{run_room, part_ended, part_refused, part_none}
use Rattle.reader.proofs.read_part.Goals as goal

pub returns-in_err-read_run-clause-found : goal.returns-in_err-read_run-clause-found
returns-in_err-read_run-clause-found c =
    let there : c.loop-i.i < length (runs_of c.args.part) = omega arith in
    let room = run_room _ _ there _ c.run_at-run.ensures in
    let part = run_part _ c.run_at-run.result.count _ _ c.loop-i.from c.loop-i.numbers _ _ (omega (arith, room)) c.in_err-read_run.ensures.found in
    rw (err_is _ c.from_residual.ensures.1)
    (sym (c.loop-i.invariant.is ∙ part_refused _ _ there _ c.run_at-run.ensures _ _ _ _ _ _ part))

pub loop-i-preserved : goal.loop-i-preserved
loop-i-preserved c =
    let there : c.loop-i.i < length (runs_of c.args.part) = omega arith in
    let room = run_room _ _ there _ c.run_at-run.ensures in
    let part = run_part _ c.run_at-run.result.count _ _ c.loop-i.from c.loop-i.numbers _ _ (omega (arith, room)) c.in_ok-read_run.ensures.found in
    let e = c.read_run.ensures.same_bytes in
    record {
      room = omega (arith, room);
      same = e ∙ c.loop-i.invariant.same;
      is = rw e (c.loop-i.invariant.is ∙ part_ended _ _ there _ c.run_at-run.ensures _ _ _ _ _ _ part);
    }

pub slice_bounds-read_run-end : goal.slice_bounds-read_run-end
slice_bounds-read_run-end c = omega (arith, run_room (runs_of c.args.part) c.loop-i.i (omega arith) _ c.run_at-run.ensures)

pub overflow_add-end : goal.overflow_add-end
overflow_add-end c = omega (arith, run_room (runs_of c.args.part) c.loop-i.i (omega arith) _ c.run_at-run.ensures)

pub returns-clause-found : goal.returns-clause-found
returns-clause-found c = sym (c.loop-i.invariant.is ∙ part_none (runs_of c.args.part) c.loop-i.i _ _ _ _ (omega arith))
