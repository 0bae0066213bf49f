-- The answers still to come and what each owner has to spare for them, from vector to vector.
use Prim.Native.Nat.{ℕ, ◌+◌, ◌-◌, ◌≤◌, ◌<◌}
use mathlib.Core.Path.{◌≡◌, refl, ◌∙◌}
use mathlib.Core.List.Memᴰ
use mathlib.Core.List.{List, [], ◌∷◌}
use native.Mathlib.Numerals.{add-one}
use native.Mathlib.Omega.{arith}
use lib.IntN.{ℤ}
use lib.ListN.{get_or, set, drop, drop_of_length-le}
use lib.Seq.{drop-cons}
use Rattle.model.specs.Metric.{Row}
use Rattle.model.specs.Block.{vector_of, Answer, total, most_owner, InRange}
use Rattle.model.proofs.Lists.{in-up_from}
use Rattle.model.proofs.Bounds.{of_every}
use Rattle.model.proofs.Demand.{count_is}
use Rattle.owners.specs.Owners.{charged, shared_from, shared_answers}
use Rattle.owners.specs.Spares.{spare_places, Spares}
use Rattle.owners.proofs.Spares.{Filled, filled_most, filled_more, filled_all, spare_allowed, spare_most, spare_next}
use Rattle.block.specs.Reading.{count_at}
use Rattle.block.specs.Contents.{owner_at, vector_rows, block_of}
use Rattle.block.specs.declared.Layout.{Layout}
use Rattle.block.proofs.Places.{vectors_count, owners_count, vector_at_lem, owner_at_lem}
use Rattle.detector.specs.Steps.{answer_at}

-- An owner's number is a place of the array
pub owner_small : (o : Layout) (list : List ℤ) → InRange (block_of o list) → (k : ℕ) → k < count_at 2 list → owner_at o list k < spare_places
unfolding block_of
owner_small o list ranged k l =
    let between = of_every (λ (n : ℕ). (1 ≤ n) × (n ≤ most_owner)) (block_of o list).owners ranged.owners
    (Memᴰ.map (owner_at o list) (in-up_from 0 (count_at 2 list) k (omega arith) (omega arith))) in
    omega (arith, between.1)

-- The owners and the vectors from the k-th on
module _ (o : Layout) (list : List ℤ) (k : ℕ) where
  abbrev pub owners_from : List ℕ
  owners_from = drop k (block_of o list).owners

  abbrev pub vectors_from : List (List Row)
  vectors_from = drop k (block_of o list).vectors

  module _ (l : k < count_at 2 list) where
    pub owners_next : owners_from ≡ owner_at o list k ∷ drop (k + 1) (block_of o list).owners
    owners_next = rw (drop-cons (block_of o list).owners k 0 (omega (arith, owners_count o list)), owner_at_lem o list k l, add-one)

    pub vectors_next : vectors_from ≡ vector_rows o list k ∷ drop (k + 1) (block_of o list).vectors
    vectors_next = rw (drop-cons (block_of o list).vectors k [] (omega (arith, vectors_count o list)), vector_at_lem o list k [] l, add-one)

  pub owners_none : count_at 2 list ≤ k → owners_from ≡ []
  owners_none l = drop_of_length-le (block_of o list).owners {i = k} (omega (arith, owners_count o list))

  pub vectors_none : count_at 2 list ≤ k → vectors_from ≡ []
  vectors_none l = drop_of_length-le (block_of o list).vectors {i = k} (omega (arith, vectors_count o list))

-- While the array is filled, before vector k
abbrev pub Filling : Layout → List ℤ → ℕ → List ℕ → Type 0
Filling o list k spare = Filled (block_of o list) spare (owners_from o list k) (vectors_from o list k)

module _ (o : Layout) (list : List ℤ) (k : ℕ) (spare : List ℕ) (ranged : InRange (block_of o list)) (l : k < count_at 2 list) (s : Filling o list k spare) where
  filling_here : Filled (block_of o list) spare (owner_at o list k ∷ owners_from o list (k + 1)) (vector_rows o list k ∷ vectors_from o list (k + 1))
  filling_here = rw (owners_next o list k l, vectors_next o list k l) at s

  -- D - M more for an owner is at most N × D
  pub filling_most : get_or spare (owner_at o list k) 0 + ((block_of o list).share - (block_of o list).streams) ≤ total (block_of o list)
  filling_most = filled_most _ _ _ _ _ _ (owner_small o list ranged k l) filling_here

  pub filling_more : Filling o list (k + 1)
      (set spare (owner_at o list k) (get_or spare (owner_at o list k) 0 + ((block_of o list).share - (block_of o list).streams)))
  filling_more = filled_more _ _ _ _ _ _ (owner_small o list ranged k l) filling_here

pub filling_all : (o : Layout) (list : List ℤ) (k : ℕ) (spare : List ℕ) → InRange (block_of o list) → count_at 2 list ≤ k → Filling o list k spare
    → Spares (block_of o list) spare (λ p. 0) (block_of o list).owners (block_of o list).vectors
filling_all o list k spare ranged l s = filled_all _ _ ranged.reserve (rw (owners_none o list k l, vectors_none o list k l) at s)

-- Before vector k: `rest` are the answers to come, and the array has what the owners have to spare
pub record Shares (o : Layout) (list : List ℤ) (k : ℕ) (spare : List ℕ) (rest : List Answer) : Type 0 where
  pub spent : ℕ → ℕ
  pub spares : Spares (block_of o list) spare spent (owners_from o list k) (vectors_from o list k)
  pub rest_is : rest ≡ shared_from (block_of o list) spent (owners_from o list k) (vectors_from o list k)

-- Before the first all of them are to come
pub shares_first : (o : Layout) (list : List ℤ) (spare : List ℕ) → Spares (block_of o list) spare (λ p. 0) (block_of o list).owners (block_of o list).vectors
    → Shares o list 0 spare (shared_answers (block_of o list))
shares_first o list spare s = record { spent = λ p. 0; spares = s; rest_is = refl }

-- and after the last none
pub shares_last : {o : Layout} {list : List ℤ} {k : ℕ} {spare : List ℕ} {rest : List Answer} → Shares o list k spare rest → count_at 2 list ≤ k → rest ≡ []
unfolding shared_from
shares_last {o} {list} {k} s l = s.rest_is ∙ rw (owners_none o list k l)

module _ {o : Layout} {list : List ℤ} {k : ℕ} {spare : List ℕ} {rest : List Answer} (ranged : InRange (block_of o list)) (l : k < count_at 2 list)
    (s : Shares o list k spare rest) {m : ℕ} (streams : m ≡ (block_of o list).streams) where
  abbrev owner : ℕ
  owner = owner_at o list k

  -- Vector k's allowance, and its answer
  abbrev allowed : ℕ
  allowed = get_or spare owner 0 + m

  abbrev found : Answer
  found = answer_at o list allowed k

  here : Spares (block_of o list) spare s.spent (owner ∷ owners_from o list (k + 1)) (vector_rows o list k ∷ vectors_from o list (k + 1))
  here = rw (owners_next o list k l, vectors_next o list k l) at s.spares

  -- The allowance is at most N × D
  pub allowed_most : allowed ≤ total (block_of o list)
  allowed_most = rw streams (spare_most _ _ _ _ _ _ _ (owner_small o list ranged k l) here)

  -- No more is walked
  pub found_most : found.count ≤ allowed
  unfolding answer_at
  found_most = omega (arith, count_is (vector_of (block_of o list) (vector_rows o list k)) (block_of o list).weak allowed)

  abbrev pub later : List Answer
  later = shared_from (block_of o list) (charged s.spent owner found.count) (owners_from o list (k + 1)) (vectors_from o list (k + 1))

  -- Its answer is the next one
  pub rest_next : rest ≡ found ∷ later
  unfolding shared_from answer_at
  rest_next =
      s.rest_is
      ∙ rw (streams, owners_next o list k l, vectors_next o list k l, spare_allowed _ _ _ _ _ _ _ (owner_small o list ranged k l) here)

  -- and what it leaves is to spare for its owner's next vector
  pub shares_next : Shares o list (k + 1) (set spare owner (allowed - found.count)) later
  shares_next = record {
    spent = charged s.spent owner found.count;
    spares = rw streams (spare_next _ _ _ _ _ _ _ (owner_small o list ranged k l) here (answer_at o list (get_or spare owner 0 + (block_of o list).streams) k).count (rw streams at found_most));
    rest_is = refl;
  }
