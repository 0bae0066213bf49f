-- The definition tests for the same openings in the same order.
use mathlib.Core.Path.{sym, ◌∙◌}
use Rattle.block.specs.Reading.{layout_of}
use Rattle.reader.proofs.layout_of.Goals as goal

pub returns-then-has_opening : goal.returns-then-has_opening
unfolding layout_of
returns-then-has_opening c = rw (sym c.has_opening.ensures ∙ c.if-has_opening.true)

pub returns-then-has_opening-2 : goal.returns-then-has_opening-2
unfolding layout_of
returns-then-has_opening-2 c =
    rw (sym c.has_opening.ensures ∙ c.if-has_opening.false, sym c.has_opening-2.ensures ∙ c.if-has_opening-2.true)

pub returns : goal.returns
unfolding layout_of
returns c =
    rw (sym c.has_opening.ensures ∙ c.if-has_opening.false, sym c.has_opening-2.ensures ∙ c.if-has_opening-2.false)
