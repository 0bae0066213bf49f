-- What is handed on of each vector, in record order, and what taking one after the other comes to.
use Rattle.std.specs.Prelude.{ℕ, suc, ◌≡◌, List, [], ◌∷◌, ℤ}
use Rattle.model.specs.Metric.{Row, all_priors}
use Rattle.model.specs.Block.{Block, vector_of, Answer, winning_distance}
use Rattle.owners.specs.Owners.{shared_answers}
use Rattle.search_spec.specs.Program.{answer_of}
use Rattle.search.specs.declared.Found.{Found}

-- Of a vector, by its place from 0: its answer, its label's squared distance, and its priors
pub record Handed : Type 0 where
  pub place : ℕ
  pub answer : Answer
  pub distance : ℕ
  pub priors : List ℤ

-- as a search found it
abbrev pub handed : ℕ → Found → List ℤ → List ℤ → Handed
handed k f soft priors =
    record { place = k; answer = answer_of f.stopped f.count f.label soft; distance = f.distance; priors = priors }

-- Of vectors and their answers, the first of which has a place
unfoldable pub handed_from : Block → ℕ → List (List Row) → List Answer → List Handed
handed_from b k [] found = []
handed_from b k (rows ∷ later) [] = []
handed_from b k (rows ∷ later) (a ∷ found) =
    record { place = k; answer = a; distance = winning_distance (vector_of b rows) a; priors = all_priors rows } ∷ handed_from b (suc k) later found

-- Of all vectors of a block
abbrev pub all_handed : Block → List Handed
all_handed b = handed_from b 0 b.vectors (shared_answers b)

module _ {S : Type 0} (can : S → Handed → Type 0) (takes : S → Handed → S → Type 0) where
  -- One after the other can be taken, whatever each leaves
  unfoldable pub Ready : S → List Handed → Type 0
  Ready s [] = Unit {0}
  Ready s (x ∷ xs) = can s x × ((t : S) → takes s x t → Ready t xs)

module _ {S : Type 0} (takes : S → Handed → S → Type 0) where
  -- One after the other was taken
  unfoldable pub Taken : S → List Handed → S → Type 0
  Taken s [] u = u ≡ s
  Taken s (x ∷ xs) u = (t : S) × (takes s x t × Taken t xs u)
