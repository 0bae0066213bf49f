-- Q, N and C are stored, and the rest goes on behind them.
use mathlib.Core.Path.{sym, ◌∙◌}
use native.Mathlib.Omega.{arith}
use borrow.Author.Rules.{rules}
use lib.IntN.{pos}
use lib.ListN.{get_or}
use mir.Syntax.{w32}
use mir.Val.{SFits, to_z, of_z}
use mir.Facts.{to_z-of_z}
use Rattle.wire.proofs.Reading.{err_is}
use Rattle.block.specs.Reading.{kinds_of, runs_of, part_kinds}
use Rattle.block.specs.declared.Part.TheVariants.{Sizes}
use Rattle.block.proofs.Lending.{tail_room}
use Rattle.block.proofs.Stored.{sizes_lent, sizes_stored, sizes_ended, sizes_refused}
use Rattle.reader.proofs.read_sized.Goals as goal

pub read_part-requires : goal.read_part-requires
unfolding kinds_of runs_of
read_part-requires c =
    let sizes = part_kinds (Sizes (to_z w32 (of_z w32 (get_or c.args.numbers.now 0 (pos 0))))) in
    (tt, tail_room sizes 1 c.args.numbers.now c.told-numbers (omega arith))

pub read_limited-requires : goal.read_limited-requires
read_limited-requires c =
    let m : SFits w32 (get_or c.args.numbers.now 0 (pos 0)) = search rules in
    let read = simp to_z-of_z at c.in_ok-read_part.ensures.found in
    sizes_stored c.args.layout _ _ _ _ _ c.requires (sizes_lent c.args.cursor.now.bytes.now c.args.cursor.now.at c.args.numbers.now c.requires _ _ read)

pub returns-in_err-read_part : goal.returns-in_err-read_part
returns-in_err-read_part c =
    let m : SFits w32 (get_or c.args.numbers.now 0 (pos 0)) = search rules in
    let read = simp to_z-of_z at c.in_err-read_part.ensures.found in
    rw (err_is _ c.from_residual.ensures.1)
    (sym (sizes_refused c.args.layout _ _ _ _ _ (sizes_lent c.args.cursor.now.bytes.now c.args.cursor.now.at c.args.numbers.now c.requires _ _ read)))

pub returns : goal.returns
returns c =
    let m : SFits w32 (get_or c.args.numbers.now 0 (pos 0)) = search rules in
    let read = simp to_z-of_z at c.in_ok-read_part.ensures.found in
    rw c.read_part.ensures.same_bytes at c.read_limited.ensures
    ∙ sym (sizes_ended c.args.layout _ _ _ _ _ c.requires (sizes_lent c.args.cursor.now.bytes.now c.args.cursor.now.at c.args.numbers.now c.requires _ _ read))
