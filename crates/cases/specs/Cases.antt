-- The input: test records one after another, each behind its length in two bytes, the low one first.
use Rattle.std.specs.Prelude.{ℕ, ◌+◌, ◌*◌, ◌-◌, ◌≤◌, ◌<◌, ◌≡◌, cond, List, ltb, length, get_or, slice_range, None, Some, Ok, Err, Option, Result}
use Rattle.std.specs.Borrow.{Bor}
use Rattle.cases.specs.declared.Case.{Case}
use Rattle.cases.specs.declared.CutOff.{CutOff}

-- The length at a place
abbrev pub length_at : List ℕ → ℕ → ℕ
length_at input at = get_or input at 0 + 256 * get_or input (at + 1) 0

-- The test record behind the length at a place, if the input has all of it
abbrev pub case_at : List ℕ → ℕ → Option Case
case_at input at =
    cond (ltb (at + 1) (length input))
    (cond (ltb (length input - (at + 2)) (length_at input at)) None (Some (record { start = at + 2; end = at + 2 + length_at input at })))
    None

-- It lies behind the place and within the input
abbrev pub Within : ℕ → ℕ → Option Case → Type 0
Within at n (Some lies) = (at < lies.start) × (lies.start ≤ lies.end) × (lies.end ≤ n)
Within at n None = Unit {0}

-- What is given at a place of an input, and at which place of which input the next is given: the test record there; or that the input ends
-- within it; and nothing at the input's end
abbrev pub GivesCase : List ℕ → ℕ → Option (Result (Bor (List ℕ)) CutOff) → List ℕ → ℕ → Type 0
GivesCase input at None same next = (length input ≤ at) × (same ≡ input) × (next ≡ at)
GivesCase input at (Some (Ok bytes)) same next =
    (lies : Case) × (at < length input) × (case_at input at ≡ Some lies)
    × (bytes.now ≡ slice_range input lies.start lies.end) × (same ≡ input) × (next ≡ lies.end)
GivesCase input at (Some (Err _)) same next =
    (at < length input) × (case_at input at ≡ None) × (same ≡ input) × (next ≡ length input)
