-- A number is what its kind makes of it, and either exit is one case of the test of its range.
use Rattle.std.proofs.Common.{sym, ap, ◌∙◌, w32}
use borrow.Author.Rules.{sfits_of}
use mir.Facts.{to_z-of_z}
use mir.Val.{SFits}
use Rattle.refusals.specs.Table.{allowed}
use Rattle.block.proofs.Reading.{by_taken, by_turned}
use Rattle.reader.proofs.ranged.Goals as goal

pub returns-then-allowed : goal.returns-then-allowed
returns-then-allowed c =
    let fits : SFits w32 c.whole-z.result = sfits_of c.whole-z.type_inv in
    let test = c.allowed.ensures ∙ ap (allowed c.args.kind) (to_z-of_z fits ∙ c.whole-z.ensures) in
    rw (to_z-of_z fits, c.whole-z.ensures) (λ next. sym (by_taken _ _ next (sym test ∙ c.if-allowed.true)))

pub returns : goal.returns
returns c =
    let fits : SFits w32 c.whole-z.result = sfits_of c.whole-z.type_inv in
    let test = c.allowed.ensures ∙ ap (allowed c.args.kind) (to_z-of_z fits ∙ c.whole-z.ensures) in
    rw (c.refusal_of.ensures, to_z-of_z fits, c.whole-z.ensures) (λ next. sym (by_turned _ _ next (sym test ∙ c.if-allowed.false)))
