-- Answers of vectors with owners, computed from the definitions: document 01's vector of two streams, C = 10, of several owners.
use Prim.Native.Nat.{ℕ}
use mathlib.Core.Path.{◌≡◌, refl}
use mathlib.Core.List.{List, [], ◌∷◌, map}
use lib.IntN.{pos}
use Rattle.model.specs.Constellation.{number, symbols, amplitude, point}
use Rattle.model.specs.Metric.{dot, residual, prior_cost, increment, metric, cost, all_priors}
use Rattle.model.specs.Order.{earlier}
use Rattle.model.specs.Soft.{least_of, those, pick, up_from}
use Rattle.model.specs.Walk.{passes, insert, sort, children, walk_below}
use Rattle.model.specs.Block.{Block, Answer, answer}
use Rattle.model.proofs.Readings.{pair, stopped, complete, minus}
use Rattle.owners.specs.Owners.{of_owner, shared_from, shared_answers}

-- A vector for each owner, W and D
abbrev owned : List ℕ → ℕ → ℕ → Block
owned owners w d = record {
  streams = 2;
  width = 1;
  clip = 10;
  weak = w;
  share = d;
  owners = owners;
  vectors = map (λ (o : ℕ). pair) owners;
}

-- Answers after 4, 3 and 2 nodes, and a complete one
abbrev after4 : ℕ → Answer
after4 w = stopped 4 2 (minus 8 ∷ pos w ∷ [])

abbrev after3 : ℕ → Answer
after3 w = stopped 3 2 (minus 8 ∷ pos w ∷ [])

abbrev after2 : ℕ → Answer
after2 w = stopped 2 2 (minus w ∷ pos w ∷ [])

abbrev all5 : Answer
all5 = complete 5 2 (minus 4 ∷ pos 4 ∷ [])

pub record Reading : Type 0 where
  pub owners : List ℕ
  pub weak : ℕ
  pub share : ℕ
  pub expected : List Answer

abbrev reading : List ℕ → ℕ → ℕ → List Answer → Reading
reading owners w d expected = record { owners = owners; weak = w; share = d; expected = expected }

-- Two owners in turn; two and one; one between another's; and a weak value, with another vector between owner 1's
unfoldable pub readings : List Reading
readings =
    reading (1 ∷ 2 ∷ 1 ∷ 2 ∷ []) 10 3 (after4 10 ∷ after4 10 ∷ after2 10 ∷ after2 10 ∷ []) ∷
    reading (1 ∷ 1 ∷ 2 ∷ []) 10 3 (after4 10 ∷ after2 10 ∷ after3 10 ∷ []) ∷
    reading (1 ∷ 2 ∷ 2 ∷ 1 ∷ []) 10 4 (all5 ∷ all5 ∷ after3 10 ∷ after3 10 ∷ []) ∷
    reading (1 ∷ 4 ∷ 1 ∷ []) 7 3 (after4 7 ∷ after3 7 ∷ after2 7 ∷ []) ∷ []

unfoldable pub found : Reading → List Answer
unfolding number symbols amplitude point dot residual prior_cost increment metric cost all_priors earlier least_of those pick up_from passes insert sort children walk_below answer of_owner shared_from
found r = shared_answers (owned r.owners r.weak r.share)

unfoldable pub stated : Reading → List Answer
stated r = r.expected

pub all_hold : map found readings ≡ map stated readings
unfolding found stated readings
all_hold = refl
