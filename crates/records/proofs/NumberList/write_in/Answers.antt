-- A list is turned back, or checked and then written if its record fits.
use Rattle.std.proofs.Common.{◌≤◌, length, refl, sym, ◌∙◌, ap, Ok, arith}
use Rattle.std.proofs.lemmas.Result.{err_from_is_err_and}
use Rattle.wire.proofs.Writing.{put_start}
use Rattle.records.specs.Writing.{record_of}
use Rattle.records.proofs.Writing.{Fine, check_fine, write_short, write_enough, write_refused}
use Rattle.records.proofs.NumberList.write_in.Goals as goal
use Rattle.records.proofs.NumberList.write_in.Goals.{In_ok-size}

-- The list passed, and its record's length is the one that was counted
passed : (c : In_ok-size) → Fine c.args.self.now.layout c.args.self.now.numbers.now c.in_ok-size.size
passed c = check_fine c.args.self.now.layout _ _ (sym c.check.ensures ∙ c.in_ok-size.was)

pub returns-in_err-size : goal.returns-in_err-size
returns-in_err-size c =
    let p = err_from_is_err_and c.from_residual.result c.from_residual.ensures.1 in
    rw (p.1, p.2) (rw (write_refused c.args.self.now.layout _ _ _ (sym c.check.ensures ∙ c.in_err-size.was)) (refl, refl))

pub returns-then-record-size : goal.returns-then-record-size
returns-then-record-size c =
    let p = passed (goal.at.returns-then-record-size c).In_ok-size in
    rw (write_short c.args.self.now.layout _ _ _ p c.if-record-size.true) (refl, refl)

pub returns : goal.returns
returns c =
    let p = passed (goal.at.returns c).In_ok-size in
    let room = c.args.«record».now in
    let fits : length (record_of c.args.self.now.layout c.args.self.now.numbers.now) ≤ length room = omega (arith, p.size_is, c.if-record-size.false) in
    rw (write_enough c.args.self.now.layout _ _ _ p c.if-record-size.false)
    (ap Ok p.size_is, c.write_all.ensures ∙ put_start _ _ fits)
