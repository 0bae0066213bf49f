-- A list's sum is that of its owners' parts, so that all counts together are at most N × D.
use Prim.Native.Nat.{ℕ, zero, suc, ◌+◌, ◌*◌, ◌≤◌, ◌<◌}
use mathlib.Core.Path.{◌≡◌, refl, sym, ◌∙◌, ap, ap₂}
use mathlib.Core.Bool.{Bool, true, false, cond}
use mathlib.Core.Logic.{◌≢◌}
use mathlib.Core.List.{List, [], ◌∷◌}
use native.Mathlib.Nat.{add-mul}
use native.Mathlib.Omega.{arith}
use borrow.Author.Tests.{eqb-true, eqb-false, ne_eqb}
use lib.Dec.{eqb}
use lib.ListN.{length}
use Rattle.model.specs.Block.{Block, Answer, total, total_count, Every, InRange, most_owner}
use Rattle.model.specs.Demand.{Demand3}
use Rattle.owners.specs.Owners.{of_owner, alone}

-- Sums over the owners 1 to m
unfoldable over_owners : ℕ → (ℕ → ℕ) → ℕ
over_owners zero g = 0
over_owners (suc m) g = g (suc m) + over_owners m g

-- A sum over a list
unfoldable weigh : {A : Type 0} → (A → ℕ) → List A → ℕ
weigh f [] = 0
weigh f (x ∷ xs) = f x + weigh f xs

owner_beyond : (m p a : ℕ) (g : ℕ → ℕ) → m < p → over_owners m (λ o. cond (eqb p o) (a + g o) (g o)) ≡ over_owners m g
unfolding over_owners
owner_beyond zero p a g h = refl
owner_beyond (suc m) p a g h =
    ap₂ ◌+◌ (ap (λ (t : Bool). cond t (a + g (suc m)) (g (suc m))) (ne_eqb p (suc m) (λ e. omega arith))) (owner_beyond m p a g (omega arith))

owner_within : (m p a : ℕ) (g : ℕ → ℕ) → 1 ≤ p → p ≤ m → over_owners m (λ o. cond (eqb p o) (a + g o) (g o)) ≡ a + over_owners m g
unfolding over_owners
owner_within zero p a g l h = absurd (omega arith)
owner_within (suc m) p a g l h = go (eqb p (suc m)) refl (owner_within m p a g l)
  where
    rest : ℕ
    rest = over_owners m (λ o. cond (eqb p o) (a + g o) (g o))

    go : (t : Bool) → eqb p (suc m) ≡ t → (p ≤ m → rest ≡ a + over_owners m g)
        → cond t (a + g (suc m)) (g (suc m)) + rest ≡ a + (g (suc m) + over_owners m g)
    go true e ih = let same : p ≡ suc m = eqb-true p (suc m) e in omega (arith, owner_beyond m p a g (omega arith))
    go false e ih = let other : p ≢ suc m = eqb-false p (suc m) e in omega (arith, ih (omega arith))

-- One owner's part of a list's sum
weigh_own : {A : Type 0} (f : A → ℕ) (x : A) (xs : List A) (t : Bool) → weigh f (cond t (x ∷ xs) xs) ≡ cond t (f x + weigh f xs) (weigh f xs)
unfolding weigh
weigh_own f x xs true = refl
weigh_own f x xs false = refl

none_sum : (m : ℕ) → over_owners m (λ o. 0) ≡ 0
unfolding over_owners
none_sum zero = refl
none_sum (suc m) = omega (arith, none_sum m)

-- A list's sum is that of its owners' parts
split_sum : {A : Type 0} (f : A → ℕ) (m : ℕ) (os : List ℕ) (xs : List A) → length os ≡ length xs
    → Every (λ (o : ℕ). (1 ≤ o) × (o ≤ m)) os → weigh f xs ≡ over_owners m (λ o. weigh f (of_owner o os xs))
unfolding weigh of_owner
split_sum f m [] [] e h = sym (none_sum m)
split_sum f m [] (x ∷ xs) e h = absurd (omega arith)
split_sum f m (p ∷ ps) [] e h = absurd (omega arith)
split_sum f m (p ∷ ps) (x ∷ xs) e h =
    ap (λ (n : ℕ). f x + n) (split_sum f m ps xs (omega arith) h.1)
    ∙ sym (owner_within m p (f x) (λ o. weigh f (of_owner o ps xs)) h.0.0 h.0.1)
    ∙ λ j. over_owners m (λ o. sym (weigh_own f x (of_owner o ps xs) (eqb p o)) j)

count_weigh : (found : List Answer) → total_count found ≡ weigh (λ a. a.count) found
unfolding total_count weigh
count_weigh [] = refl
count_weigh (a ∷ found) = ap (λ (n : ℕ). a.count + n) (count_weigh found)

length_weigh : {A : Type 0} (xs : List A) → length xs ≡ weigh (λ x. 1) xs
unfolding weigh
length_weigh [] = refl
length_weigh (x ∷ xs) = omega (arith, length_weigh xs)

owners_le : (m d : ℕ) (g n : ℕ → ℕ) → ((o : ℕ) → g o ≤ n o * d) → over_owners m g ≤ over_owners m n * d
unfolding over_owners
owners_le zero d g n h = omega arith
owners_le (suc m) d g n h = omega (arith, h (suc m), owners_le m d g n h, add-mul (n (suc m)) (over_owners m n) d)

-- Where each owner is held to its own total, all counts together are at most N × D
pub whole_sum : (b : Block) (found : List Answer) → InRange b → length found ≡ length b.vectors
    → ((o : ℕ) → Demand3 (alone b o) (of_owner o b.owners found)) → total_count found ≤ total b
whole_sum b found ranged many d =
    let os = b.owners in
    let counts = split_sum (λ a. a.count) most_owner os found (ranged.owned ∙ sym many) ranged.owners in
    let vectors = split_sum (λ v. 1) most_owner os b.vectors ranged.owned ranged.owners in
    let le = owners_le most_owner b.share (λ o. weigh (λ a. a.count) (of_owner o os found)) (λ o. weigh (λ v. 1) (of_owner o os b.vectors))
    (λ o. rw (← count_weigh (of_owner o os found), ← length_weigh (of_owner o os b.vectors)) (d o).sum) in
    rw (count_weigh found, counts, length_weigh b.vectors, vectors) le
