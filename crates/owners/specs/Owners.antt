-- Document 02, "Shares for several gauges": "An owner with n vectors has n × D nodes, spent maximum-first among its own vectors only."
use Rattle.std.specs.Prelude.{ℕ, ◌+◌, ◌*◌, ◌<◌, ◌≤◌, ◌≡◌, cond, ◌↔◌, List, [], ◌∷◌, eqb, length, get_or}
use Rattle.model.specs.Metric.{Row}
use Rattle.model.specs.Block.{Block, vector_of, Answer, answer, allowance, total_count}
use Rattle.model.specs.Demand.{Demand3}

-- Of a list beside the owners, what stands beside owner o, in record order: its vectors, its answers
unfoldable pub of_owner : {A : Type 0} → ℕ → List ℕ → List A → List A
of_owner o [] xs = []
of_owner o (p ∷ ps) [] = []
of_owner o (p ∷ ps) (x ∷ xs) = cond (eqb p o) (x ∷ of_owner o ps xs) (of_owner o ps xs)

-- The block that holds owner o's vectors alone, with the same M, Q, C, W and D: "a list of its own with n for N"
abbrev pub alone : Block → ℕ → Block
alone b o = record {
  streams = b.streams;
  width = b.width;
  clip = b.clip;
  weak = b.weak;
  share = b.share;
  owners = of_owner o b.owners b.owners;
  vectors = of_owner o b.owners b.vectors;
}

-- The nodes that each owner's vectors have walked, after c more by owner o's
abbrev pub charged : (ℕ → ℕ) → ℕ → ℕ → ℕ → ℕ
charged spent o c p = cond (eqb o p) (spent p + c) (spent p)

-- The answer of a vector of owner o, under what o's vectors before it left: document 01's allowance with o's own list, what that list has
-- spent, and o's vectors behind this one. `os` and `later` are the owners and vectors behind it
abbrev pub shared_answer : Block → (ℕ → ℕ) → ℕ → List Row → List ℕ → List (List Row) → Answer
shared_answer b spent o rows os later =
    answer (vector_of b rows) b.weak (allowance (alone b o) (spent o) (length (of_owner o os later)))

-- The answers of vectors in record order
unfoldable pub shared_from : Block → (ℕ → ℕ) → List ℕ → List (List Row) → List Answer
shared_from b spent [] vs = []
shared_from b spent (o ∷ os) [] = []
shared_from b spent (o ∷ os) (rows ∷ later) =
    let a = shared_answer b spent o rows os later in a ∷ shared_from b (charged spent o a.count) os later

-- The answers of a block: nothing is spent before its first vector
abbrev pub shared_answers : Block → List Answer
shared_answers b = shared_from b (λ o. 0) b.owners b.vectors

-- Demand 3 where vectors have owners: "of each owner's vectors, in record order, as of a list of its own with n for N". An owner without
-- vectors is owed nothing. All counts together are at most N × D
pub record SharedDemand3 (b : Block) (found : List Answer) : Type 0 where
  pub many : length found ≡ length b.vectors
  pub each : (o : ℕ) → Demand3 (alone b o) (of_owner o b.owners found)
  pub sum : total_count found ≤ length b.vectors * b.share

-- "two accepted records with equal headers that have one owner's vectors at equal positions with equal contents", of their blocks
pub record AgreeFor (o : ℕ) (b c : Block) : Type 0 where
  pub streams : b.streams ≡ c.streams
  pub width : b.width ≡ c.width
  pub clip : b.clip ≡ c.clip
  pub weak : b.weak ≡ c.weak
  pub share : b.share ≡ c.share
  pub vectors : length b.vectors ≡ length c.vectors
  pub positions : (k : ℕ) → k < length b.vectors → (get_or b.owners k 0 ≡ o) ↔ (get_or c.owners k 0 ≡ o)
  pub contents : (k : ℕ) → k < length b.vectors → get_or b.owners k 0 ≡ o → get_or b.vectors k [] ≡ get_or c.vectors k []
