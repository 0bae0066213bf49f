-- W and D are stored behind M, Q, N and C; so the vectors fit the list, and the rest is what was to be read.
use mathlib.Core.Path.{sym, ◌∙◌}
use native.Mathlib.Omega.{arith}
use borrow.Author.Rules.{rules}
use lib.IntN.{pos}
use lib.ListN.{get_or}
use mir.Syntax.{w32}
use mir.Val.{SFits}
use mir.Facts.{to_z-of_z}
use Rattle.wire.proofs.Reading.{err_is}
use Rattle.block.proofs.Parts.{weak_few}
use Rattle.block.proofs.Lending.{tail_room}
use Rattle.block.proofs.Stored.{limits_numbers, limits_lent, limits_stored, limits_ended, limits_refused}
use Rattle.reader.proofs.read_limited.Goals as goal

pub read_part-requires : goal.read_part-requires
read_part-requires c =
    rw c.weak_count.ensures
    (tt, tail_room _ 4 c.args.numbers.now c.told-numbers (omega (arith, limits_numbers, weak_few c.args.layout)))

pub read_vectors-requires : goal.read_vectors-requires
read_vectors-requires c =
    let m : SFits w32 (get_or c.args.numbers.now 0 (pos 0)) = search rules in
    let clip : SFits w32 (get_or c.args.numbers.now 3 (pos 0)) = search rules in
    let read = simp to_z-of_z at (rw c.weak_count.ensures at c.in_ok-read_part.ensures.found) in
    limits_stored c.args.layout _ _ _ _ _ c.requires (limits_lent c.args.layout c.args.cursor.now.bytes.now c.args.cursor.now.at c.args.numbers.now c.requires _ _ read)

pub returns-in_err-read_part : goal.returns-in_err-read_part
returns-in_err-read_part c =
    let m : SFits w32 (get_or c.args.numbers.now 0 (pos 0)) = search rules in
    let clip : SFits w32 (get_or c.args.numbers.now 3 (pos 0)) = search rules in
    let read = simp to_z-of_z at (rw c.weak_count.ensures at c.in_err-read_part.ensures.found) in
    rw (err_is _ c.from_residual.ensures.1)
    (sym (limits_refused c.args.layout _ _ _ _ _ (limits_lent c.args.layout c.args.cursor.now.bytes.now c.args.cursor.now.at c.args.numbers.now c.requires _ _ read)))

pub returns : goal.returns
returns c =
    let m : SFits w32 (get_or c.args.numbers.now 0 (pos 0)) = search rules in
    let clip : SFits w32 (get_or c.args.numbers.now 3 (pos 0)) = search rules in
    let read = simp to_z-of_z at (rw c.weak_count.ensures at c.in_ok-read_part.ensures.found) in
    rw c.read_part.ensures.same_bytes at c.read_vectors.ensures
    ∙ sym (limits_ended c.args.layout _ _ _ _ _ c.requires (limits_lent c.args.layout c.args.cursor.now.bytes.now c.args.cursor.now.at c.args.numbers.now c.requires _ _ read))
