-- A node's children are tried in strictly rising order, so the next one is the least of those after the last one tried; among equal
-- partial metrics the smaller symbol label comes first.
use Prim.Native.Nat.{ℕ, ◌+◌}
use mathlib.Core.Path.{◌≡◌, refl, sym, ◌∙◌, ap, subst}
use mathlib.Core.Bool.{Bool, true, false, cond, ◌&&◌, ◌||◌, true≢false}
use mathlib.Core.Logic.{◌⊎◌, inl, inr}
use mathlib.Core.List.Memᴰ
use mathlib.Core.List.{List, [], ◌∷◌, ◌++◌, map, append_cancel_right}
use native.Mathlib.Omega.{arith}
use lib.Dec.{ltb, eqb}
use borrow.Author.Tests.{ltb-true, ltb-false}
use lib.ListN.{length}
use Rattle.model.specs.Constellation.{Bits, number, symbols}
use Rattle.model.specs.Metric.{Row, metric, cost}
use Rattle.model.specs.Order.{earlier, rank, is_before}
use Rattle.model.specs.Walk.{insert, sort, children}
use Rattle.model.specs.Block.{◌∈◌}
use Rattle.model.proofs.Lists.{of_insert, of_sort, in_sort, Once, once_map, once_symbols}
use Rattle.model.proofs.Numbers.{number_injective, siblings}
use Rattle.model.proofs.Ranks.{rank_number, cons_last, earlier_trans, earlier_total}
use Rattle.model.proofs.Tree.{children_length}

-- A strict order, total on a list, in the form that sorting needs
pub record Strict (A : Type 0) (f : A → A → Bool) (xs : List A) : Type 0 where
  pub trans : (x y z : A) → f x y ≡ true → f y z ≡ true → f x z ≡ true
  pub total : (x y : A) → x ∈ xs → y ∈ xs → f x y ≡ false → (x ≡ y) ⊎ (f y x ≡ true)

-- Each element stands before all that follow it
abbrev pub Rising : {A : Type 0} → (A → A → Bool) → List A → Type 0
Rising f [] = Unit {0}
Rising {A} f (x ∷ xs) = ((y : A) → y ∈ xs → f x y ≡ true) × Rising f xs

rising_insert : {A : Type 0} (f : A → A → Bool) (x : A) (ys : List A) → Strict A f (x ∷ ys) → ¬ (x ∈ ys) → Rising f ys → Rising f (insert f x ys)
unfolding insert
rising_insert f x [] s n r = (λ y h. absurd (Memᴰ.not-nil h), tt)
rising_insert {A} f x (y ∷ ys) s n r = go (f y x) refl (rising_insert f x ys fewer (λ h. n (Memᴰ.tail h)) r.1)
  where
    wider : (z : A) → z ∈ x ∷ ys → z ∈ x ∷ y ∷ ys
    wider z h = step (Memᴰ.cases_cons h)
      where
        step : (z ≡ x) ⊎ (z ∈ ys) → z ∈ x ∷ y ∷ ys
        step (inl e) = Memᴰ.head e
        step (inr k) = Memᴰ.tail (Memᴰ.tail k)

    fewer : Strict A f (x ∷ ys)
    fewer = record { trans = s.trans; total = λ a b h k e. s.total a b (wider a h) (wider b k) e }

    first : f y x ≡ true → (z : A) → (z ≡ x) ⊎ (z ∈ ys) → f y z ≡ true
    first e z (inl p) = ap (f y) p ∙ e
    first e z (inr k) = r.0 z k

    ahead : f y x ≡ false → f x y ≡ true
    ahead e = pick_one (s.total y x (Memᴰ.tail (Memᴰ.head refl)) (Memᴰ.head refl) e)
      where
        pick_one : (y ≡ x) ⊎ (f x y ≡ true) → f x y ≡ true
        pick_one (inl p) = absurd (n (Memᴰ.head (sym p)))
        pick_one (inr k) = k

    all : f x y ≡ true → (z : A) → (z ≡ y) ⊎ (z ∈ ys) → f x z ≡ true
    all e z (inl p) = ap (f x) p ∙ e
    all e z (inr k) = s.trans x y z e (r.0 z k)

    go : (b : Bool) → f y x ≡ b → Rising f (insert f x ys) → Rising f (cond b (y ∷ insert f x ys) (x ∷ y ∷ ys))
    go true e ih = (λ z h. first e z (of_insert f x z ys h), ih)
    go false e ih = (λ z h. all (ahead e) z (Memᴰ.cases_cons h), r)

pub rising_sort : {A : Type 0} (f : A → A → Bool) (xs : List A) → Strict A f xs → Once xs → Rising f (sort f xs)
unfolding sort
rising_sort f [] s o = tt
rising_sort {A} f (x ∷ xs) s o = rising_insert f x (sort f xs) sorted (λ h. o.0 (of_sort f x xs h)) (rising_sort f xs (record { trans = s.trans; total = λ a b h k e. s.total a b (Memᴰ.tail h) (Memᴰ.tail k) e }) o.1)
  where
    back : (z : A) → z ∈ x ∷ sort f xs → z ∈ x ∷ xs
    back z h = step (Memᴰ.cases_cons h)
      where
        step : (z ≡ x) ⊎ (z ∈ sort f xs) → z ∈ x ∷ xs
        step (inl e) = Memᴰ.head e
        step (inr k) = Memᴰ.tail (of_sort f z xs k)

    sorted : Strict A f (x ∷ sort f xs)
    sorted = record { trans = s.trans; total = λ a b h k e. s.total a b (back a h) (back b k) e }

-- In a rising list the element after p is the least of all that stand after p
pub next_least : {A : Type 0} (f : A → A → Bool) → ((x y z : A) → f x y ≡ true → f y z ≡ true → f x z ≡ true) → ((x : A) → f x x ≡ false) → (done : List A) (p x : A) (rest : List A)
    → Rising f (done ++ p ∷ x ∷ rest) → (z : A) → z ∈ done ++ p ∷ x ∷ rest → f p z ≡ true → (z ≡ x) ⊎ (f x z ≡ true)
next_least {A} f tr irr [] p x rest r z h e = after (Memᴰ.cases_cons h)
  where
    later : (z ≡ x) ⊎ (z ∈ rest) → (z ≡ x) ⊎ (f x z ≡ true)
    later (inl q) = inl q
    later (inr k) = inr (r.1.0 z k)

    after : (z ≡ p) ⊎ (z ∈ x ∷ rest) → (z ≡ x) ⊎ (f x z ≡ true)
    after (inl q) = absurd (true≢false (sym e ∙ ap (f p) q ∙ irr p))
    after (inr k) = later (Memᴰ.cases_cons k)
next_least {A} f tr irr (d ∷ done) p x rest r z h e = go (Memᴰ.cases_cons h) (λ k. next_least f tr irr done p x rest r.1 z k e)
  where
    go : (z ≡ d) ⊎ (z ∈ done ++ p ∷ x ∷ rest) → (z ∈ done ++ p ∷ x ∷ rest → (z ≡ x) ⊎ (f x z ≡ true)) → (z ≡ x) ⊎ (f x z ≡ true)
    go (inl q) ih = absurd (true≢false (sym (tr d p d (r.0 p (Memᴰ.append_right done (Memᴰ.head refl))) (subst (λ (y : A). f p y ≡ true) q e)) ∙ irr d))
    go (inr k) ih = ih k

module _ (q : ℕ) (rows : List Row) where
  pub before_trans : (x y z : Bits) → is_before q rows x y ≡ true → is_before q rows y z ≡ true → is_before q rows x z ≡ true
  before_trans x y z h k = earlier_trans (rank q rows x) (rank q rows y) (rank q rows z) h k

  pub before_total : (x y : Bits) → length x ≡ length y → is_before q rows x y ≡ false → (x ≡ y) ⊎ (is_before q rows y x ≡ true)
  before_total x y l h = go (earlier_total (rank q rows x) (rank q rows y) refl h)
    where
      go : (rank q rows x ≡ rank q rows y) ⊎ (is_before q rows y x ≡ true) → (x ≡ y) ⊎ (is_before q rows y x ≡ true)
      go (inl e) = inl (number_injective x y l (rank_number q rows x y e))
      go (inr k) = inr k

  -- A node's children are tried in rising order
  pub children_rise : (node : Bits) → Rising (is_before q rows) (children q rows node)
  unfolding children
  children_rise node =
      rising_sort (is_before q rows) kids
      (record { trans = before_trans; total = λ x y h k e. before_total x y (len x h ∙ sym (len y k)) e })
      (once_map (λ s. s ++ node) (λ x y e. append_cancel_right x y node e) (symbols q) (once_symbols q))
    where
      kids : List Bits
      kids = map (λ s. s ++ node) (symbols q)

      len : (x : Bits) → x ∈ kids → length x ≡ q + length node
      len x h = children_length q rows node x (in_sort (is_before q rows) x kids h)

-- The one order, of siblings: by rising partial metric, equal ones by the smaller partial prior cost and then by the smaller symbol label
pub sibling_order : (q : ℕ) (rows : List Row) (node s t : Bits)
    → is_before q rows (s ++ node) (t ++ node)
    ≡ earlier (metric q rows (s ++ node) ∷ cost q rows (s ++ node) ∷ number s ∷ []) (metric q rows (t ++ node) ∷ cost q rows (t ++ node) ∷ number t ∷ [])
unfolding earlier
sibling_order q rows node s t =
    ap (λ (last : Bool). ltb (metric q rows (s ++ node)) (metric q rows (t ++ node))
    || (eqb (metric q rows (s ++ node)) (metric q rows (t ++ node))
    && (ltb (cost q rows (s ++ node)) (cost q rows (t ++ node)) || (eqb (cost q rows (s ++ node)) (cost q rows (t ++ node)) && last))))
    (cons_last a b ∙ by_symbol ∙ sym (cons_last (number s) (number t)))
  where
    a : ℕ
    a = number (s ++ node)

    b : ℕ
    b = number (t ++ node)

    by_symbol : ltb a b ≡ ltb (number s) (number t)
    by_symbol = go (ltb a b) (ltb (number s) (number t)) refl refl
      where
        go : (p r : Bool) → ltb a b ≡ p → ltb (number s) (number t) ≡ r → p ≡ r
        go true true e f = refl
        go true false e f = absurd (omega (arith, (siblings s t node).0 (ltb-true a b e), ltb-false (number s) (number t) f))
        go false true e f = absurd (omega (arith, (siblings s t node).1 (ltb-true (number s) (number t) f), ltb-false a b e))
        go false false e f = refl
