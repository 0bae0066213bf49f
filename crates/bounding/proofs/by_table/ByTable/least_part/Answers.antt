-- The chain takes the lesser of the least so far and the next label's part.
use Rattle.std.proofs.Common.{◌≡◌, ℕ, ◌+◌, ◌-◌, ◌^◌, min, ap, ◌∙◌, arith, rules, pow_pos}
use Rattle.std.proofs.lemmas.Iterator.{YieldsList-from_range}
use Rattle.std.proofs.lemmas.Iterator.Consumers.{fold_from_yields_List}
use Rattle.axes.specs.Tables.{table_part}
use Rattle.bounding.specs.Answers.{least_part}
use Rattle.bounding.proofs.Runs.{labels_few, least_over}
use Rattle.bounding.proofs.Answers.{least_of_lem}
use Rattle.bounding.proofs.by_table.ByTable.least_part.Goals as goal

pub returns : goal.returns
unfolding least_part
returns c =
    let a = c.args.self in
    let few = labels_few a.width a.asked.axis.bits in
    let part = table_part a.entries.now 0 a.left in
    let n = 2 ^ a.width - 1 in
    let e : 0 + n ≡ n = omega arith in
    let is : c.fold.result ≡ least_part part n =
    fold_from_yields_List _ (λ (m g : ℕ). min m (part g)) _ c.fold.result c.fold.ensures.ran
    (YieldsList-from_range 1 (2 ^ a.width) n (ap (λ (k : ℕ). record { start = 1; end = k }) few.0) (omega (arith, few))) (λ m x b q k. (search rules, search rules))
    ∙ (rw c.part.ensures (least_over part 0 n)) ∙ ap (least_part part) e in
    (is, rw is (least_of_lem part _ (pow_pos a.width) a.asked.small).low)
