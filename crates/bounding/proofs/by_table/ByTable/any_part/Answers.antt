-- The chain asks each label in turn.
use Rattle.std.proofs.Common.{ℕ, ◌<◌, ◌^◌, ap, ◌∙◌, arith, rules, tests}
use Rattle.std.proofs.lemmas.Iterator.{serves_from_Range, YieldsList-from_range}
use Rattle.std.proofs.lemmas.Iterator.Search.{any_from_yields_List}
use Rattle.std.specs.Int.Bits.{bit_xor, xor_lt}
use Rattle.metric.specs.Parts.{axis_width}
use Rattle.axes.specs.Tables.{table_part}
use Rattle.bounding.specs.Answers.{any_part, over_at}
use Rattle.bounding.proofs.Runs.{labels_few, any_over}
use Rattle.bounding.proofs.by_table.ByTable.any_part.Goals as goal

pub any-requires-clause-callable : goal.any-requires-clause-callable
any-requires-clause-callable c =
    let a = c.args.self in
    let few = labels_few a.width a.asked.axis.bits in
    serves_from_Range (λ x q k. search rules)
    (λ x low high.
    let inside : x < 2 ^ a.width = omega (arith, few) in
    let place : bit_xor x c.args.limits.own < 16 = xor_lt axis_width x c.args.limits.own (omega (arith, few)) (omega (arith, few)) in
    let small : table_part a.entries.now 0 a.left x < 2 ^ 62 = a.asked.small x inside in
    search rules)

pub returns : goal.returns
unfolding any_part
returns c =
    let a = c.args.self in
    let few = labels_few a.width a.asked.axis.bits in
    let test = over_at c.args.limits.entries.now 0 (table_part a.entries.now 0 a.left) c.args.other c.args.limits.own in
    any_from_yields_List test _ _ c.any.result c.any.ensures.ran
    (YieldsList-from_range 0 (2 ^ a.width) (2 ^ a.width) (ap (λ (n : ℕ). record { start = 0; end = n }) few.0) (omega arith)) (λ x b q k. (search rules, search (rules, tests)))
    ∙ any_over test 0 (2 ^ a.width)
