-- The numbers are as many as M, Q and N say; they are copied if they fit.
use Rattle.std.proofs.Common.{ℕ, ℤ, List, ◌++◌, drop, ap₂, ◌≡◌, ◌≤◌, length, take, refl, sym, ◌∙◌, ap, arith, length-take-le, Ok}
use Rattle.block.specs.Reading.{count_at, most_numbers}
use Rattle.refusals.proofs.Fillings.{fitted_short, fitted_enough}
use Rattle.block.proofs.Parts.{all_fit}
use Rattle.records.specs.Steps.{number_count}
use Rattle.records.proofs.NumberList.hand_over.Goals as goal
use Rattle.records.proofs.NumberList.hand_over.Goals.{After-number_count-count}

-- The numbers are within the list
few : (c : After-number_count-count) → number_count c.args.self.now.layout c.args.self.now.numbers.now ≤ most_numbers
few c =
    let l = c.args.self.now.numbers.now in
    all_fit c.args.self.now.layout (count_at 0 l) (count_at 1 l) (count_at 2 l) c.requires.0.streams c.requires.0.label c.requires.0.vectors

-- and as many
many : (c : After-number_count-count) → let l = c.args.self.now.numbers.now in length (take (number_count c.args.self.now.layout l) l) ≡ c.number_count-count.result
many c = length-take-le _ c.args.self.now.numbers.now (omega (arith, few c, c.requires.1)) ∙ sym c.number_count-count.ensures

pub returns-then-numbers-count : goal.returns-then-numbers-count
returns-then-numbers-count c =
    let m = many (goal.at.returns-then-numbers-count c).After-number_count-count in
    rw (fitted_short _ _ (rw (sym m) at c.if-numbers-count.true)) (refl, refl)

pub returns : goal.returns
returns c =
    let l = c.args.self.now.numbers.now in
    let m = many (goal.at.returns c).After-number_count-count in
    let copied : c.copy_from_slice.new.self ≡ take (number_count c.args.self.now.layout l) l =
    c.copy_from_slice.ensures.after ∙ ap (λ k. take k l) c.number_count-count.ensures in
    rw (fitted_enough _ _ (rw (sym m) at c.if-numbers-count.false))
    (ap Ok (sym m), ap₂ (λ (front : List ℤ) (k : ℕ). front ++ drop k c.args.numbers.now) copied (sym m))
