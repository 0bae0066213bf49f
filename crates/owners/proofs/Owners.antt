-- Owner o's answers in record order are those of the block that holds its vectors alone: the law that everything here follows from.
use Prim.Native.Nat.{ℕ, suc, ◌+◌}
use mathlib.Core.Path.{◌≡◌, refl, ◌∙◌, ap, ap₂, subst}
use mathlib.Core.Bool.{Bool, true, false, cond}
use mathlib.Core.List.{List, [], ◌∷◌, head-eq_of_cons-eq, tail-eq_of_cons-eq}
use native.Mathlib.Omega.{arith}
use borrow.Author.Tests.{eqb-true, eq-eqb}
use lib.Dec.{eqb}
use lib.ListN.{length}
use Rattle.model.specs.Metric.{Row}
use Rattle.model.specs.Block.{Block, Answer, answers_from, answers}
use Rattle.owners.specs.Owners.{of_owner, alone, charged, shared_answer, shared_from, shared_answers}

-- What an owner's vector walks is charged to it, and to no other
charged_own : (spent : ℕ → ℕ) (p o c : ℕ) → eqb p o ≡ true → charged spent p c o ≡ spent o + c
charged_own spent p o c e = rw e

charged_other : (spent : ℕ → ℕ) (p o c : ℕ) → eqb p o ≡ false → charged spent p c o ≡ spent o
charged_other spent p o c e = rw e

-- Owner o's answers in record order are those of its own list
from_own : (b : Block) (o : ℕ) (os : List ℕ) (vs : List (List Row)) (spent : ℕ → ℕ)
    → of_owner o os (shared_from b spent os vs) ≡ answers_from (alone b o) (spent o) (of_owner o os vs)
unfolding of_owner shared_from answers_from
from_own b o [] vs spent = refl
from_own b o (p ∷ ps) [] spent = refl
from_own b o (p ∷ ps) (rows ∷ later) spent = go (eqb p o) refl (from_own b o ps later (charged spent p (found_at p).count))
  where
    found_at : ℕ → Answer
    found_at q = shared_answer b spent q rows ps later

    after : List Answer
    after = shared_from b (charged spent p (found_at p).count) ps later

    own : ℕ → List Answer
    own n = answers_from (alone b o) n (of_owner o ps later)

    go : (t : Bool) → eqb p o ≡ t → of_owner o ps after ≡ own (charged spent p (found_at p).count o)
        → cond t (found_at p ∷ of_owner o ps after) (of_owner o ps after)
        ≡ answers_from (alone b o) (spent o) (cond t (rows ∷ of_owner o ps later) (of_owner o ps later))
    go true e ih =
        let first : found_at p ≡ found_at o = ap found_at (eqb-true p o e) in
        ap₂ ◌∷◌ first (ih ∙ ap own (charged_own spent p o (found_at p).count e) ∙ ap (λ (a : Answer). own (spent o + a.count)) first)
    go false e ih = ih ∙ ap own (charged_other spent p o (found_at p).count e)

pub own_answers : (b : Block) (o : ℕ) → of_owner o b.owners (shared_answers b) ≡ answers (alone b o)
own_answers b o = from_own b o b.owners b.vectors (λ p. 0)

-- As many answers as vectors
from_many : (b : Block) (os : List ℕ) (vs : List (List Row)) (spent : ℕ → ℕ) → length os ≡ length vs
    → length (shared_from b spent os vs) ≡ length vs
unfolding shared_from
from_many b [] [] spent e = refl
from_many b [] (rows ∷ later) spent e = absurd (omega arith)
from_many b (o ∷ os) [] spent e = refl
from_many b (o ∷ os) (rows ∷ later) spent e = ap suc (from_many b os later _ (omega arith))

pub answers_many : (b : Block) → length b.owners ≡ length b.vectors → length (shared_answers b) ≡ length b.vectors
answers_many b e = from_many b b.owners b.vectors (λ p. 0) e

-- A list is decided by what stands beside each owner
module _ {A : Type 0} where
  pub parts_decide : (os : List ℕ) (xs ys : List A) → length xs ≡ length os → length ys ≡ length os
      → ((o : ℕ) → of_owner o os xs ≡ of_owner o os ys) → xs ≡ ys
  unfolding of_owner
  parts_decide [] [] [] e f h = refl
  parts_decide [] [] (y ∷ ys) e f h = absurd (omega arith)
  parts_decide [] (x ∷ xs) ys e f h = absurd (omega arith)
  parts_decide (p ∷ ps) [] ys e f h = absurd (omega arith)
  parts_decide (p ∷ ps) (x ∷ xs) [] e f h = absurd (omega arith)
  parts_decide (p ∷ ps) (x ∷ xs) (y ∷ ys) e f h =
      ap₂ ◌∷◌ (head-eq_of_cons-eq both) (parts_decide ps xs ys (omega arith) (omega arith) (λ o. go o (eqb p o) (h o)))
    where
      both : x ∷ of_owner p ps xs ≡ y ∷ of_owner p ps ys
      both =
          subst (λ (t : Bool). cond t (x ∷ of_owner p ps xs) (of_owner p ps xs) ≡ cond t (y ∷ of_owner p ps ys) (of_owner p ps ys))
          (eq-eqb p p refl) (h p)

      go : (o : ℕ) (t : Bool) → cond t (x ∷ of_owner o ps xs) (of_owner o ps xs) ≡ cond t (y ∷ of_owner o ps ys) (of_owner o ps ys)
          → of_owner o ps xs ≡ of_owner o ps ys
      go o true k = tail-eq_of_cons-eq k
      go o false k = k
