-- The order of lists of numbers.
use Prim.Native.Nat.{ℕ, ◌≤◌, ◌<◌}
use mathlib.Core.Path.{◌≡◌, refl, sym, ◌∙◌, ap, ap₂}
use mathlib.Core.Bool.{Bool, true, false, ◌&&◌, ◌||◌, true≢false}
use mathlib.Core.Logic.{◌⊎◌, inl, inr, ◌≢◌}
use mathlib.Core.List.{List, [], ◌∷◌}
use native.Mathlib.Omega.{arith}
use lib.Dec.{ltb, eqb}
use lib.ListN.{length, get_or}
use borrow.Author.Tests.{ltb-true, ltb-false, eqb-true, eqb-false, lt-ltb, le-ltb, eq-eqb, ne_eqb}
use Rattle.model.specs.Constellation.{Bits, number}
use Rattle.model.specs.Metric.{Row}
use Rattle.model.specs.Order.{earlier, rank}

-- Nodes of equal ranks have equal numbers
pub rank_number : (q : ℕ) (rows : List Row) (x y : Bits) → rank q rows x ≡ rank q rows y → number x ≡ number y
rank_number q rows x y e = ap (λ (k : List ℕ). get_or k 2 0) e

-- A list is at or before another of its length
abbrev pub AtOrBefore : List ℕ → List ℕ → Type 0
AtOrBefore [] [] = Unit {0}
AtOrBefore [] (b ∷ bs) = ⊥
AtOrBefore (a ∷ ks) [] = ⊥
AtOrBefore (a ∷ ks) (b ∷ bs) = (a < b) ⊎ ((a ≡ b) × AtOrBefore ks bs)

pub order_refl : (ks : List ℕ) → AtOrBefore ks ks
order_refl [] = tt
order_refl (a ∷ ks) = inr (refl, order_refl ks)

pub order_trans : (xs ys zs : List ℕ) → AtOrBefore xs ys → AtOrBefore ys zs → AtOrBefore xs zs
order_trans [] [] [] h k = tt
order_trans [] [] (z ∷ zs) h k = k
order_trans [] (y ∷ ys) zs h k = absurd h
order_trans (x ∷ xs) [] zs h k = absurd h
order_trans (x ∷ xs) (y ∷ ys) [] h k = k
order_trans (x ∷ xs) (y ∷ ys) (z ∷ zs) h k = go h k (order_trans xs ys zs)
  where
    go : (x < y) ⊎ ((x ≡ y) × AtOrBefore xs ys) → (y < z) ⊎ ((y ≡ z) × AtOrBefore ys zs) → (AtOrBefore xs ys → AtOrBefore ys zs → AtOrBefore xs zs) → (x < z) ⊎ ((x ≡ z) × AtOrBefore xs zs)
    go (inl a) (inl b) ih = inl (omega arith)
    go (inl a) (inr b) ih = inl (omega arith)
    go (inr a) (inl b) ih = inl (omega arith)
    go (inr a) (inr b) ih = inr (a.0 ∙ b.0, ih a.1 b.1)

pub order_antisym : (xs ys : List ℕ) → AtOrBefore xs ys → AtOrBefore ys xs → xs ≡ ys
order_antisym [] [] h k = refl
order_antisym [] (y ∷ ys) h k = absurd h
order_antisym (x ∷ xs) [] h k = absurd h
order_antisym (x ∷ xs) (y ∷ ys) h k = go h k (order_antisym xs ys)
  where
    go : (x < y) ⊎ ((x ≡ y) × AtOrBefore xs ys) → (y < x) ⊎ ((y ≡ x) × AtOrBefore ys xs) → (AtOrBefore xs ys → AtOrBefore ys xs → xs ≡ ys) → x ∷ xs ≡ y ∷ ys
    go (inl a) (inl b) ih = absurd (omega arith)
    go (inl a) (inr b) ih = absurd (omega arith)
    go (inr a) (inl b) ih = absurd (omega arith)
    go (inr a) (inr b) ih = ap₂ ◌∷◌ a.0 (ih a.1 b.1)

pub order_head : {a b : ℕ} {X : Type 0} → (a < b) ⊎ ((a ≡ b) × X) → a ≤ b
order_head (inl h) = omega arith
order_head (inr h) = omega arith

-- The test
pub earlier_true : (xs ys : List ℕ) → earlier xs ys ≡ true → AtOrBefore xs ys
unfolding earlier
earlier_true [] ys e = absurd (true≢false (sym e))
earlier_true (x ∷ xs) [] e = absurd (true≢false (sym e))
earlier_true (x ∷ xs) (y ∷ ys) e = go (ltb x y) (eqb x y) refl refl e (earlier_true xs ys)
  where
    go : (p q : Bool) → ltb x y ≡ p → eqb x y ≡ q → (p || (q && earlier xs ys)) ≡ true → (earlier xs ys ≡ true → AtOrBefore xs ys) → (x < y) ⊎ ((x ≡ y) × AtOrBefore xs ys)
    go true q a b k ih = inl (ltb-true x y a)
    go false true a b k ih = inr (eqb-true x y b, ih k)
    go false false a b k ih = absurd (true≢false (sym k))

pub earlier_false : (xs ys : List ℕ) → length xs ≡ length ys → earlier xs ys ≡ false → AtOrBefore ys xs
unfolding earlier
earlier_false [] [] l e = tt
earlier_false [] (y ∷ ys) l e = absurd (omega arith)
earlier_false (x ∷ xs) [] l e = absurd (omega arith)
earlier_false (x ∷ xs) (y ∷ ys) l e = go (ltb x y) (eqb x y) refl refl e (earlier_false xs ys (omega arith))
  where
    go : (p q : Bool) → ltb x y ≡ p → eqb x y ≡ q → (p || (q && earlier xs ys)) ≡ false → (earlier xs ys ≡ false → AtOrBefore ys xs) → (y < x) ⊎ ((y ≡ x) × AtOrBefore ys xs)
    go true q a b k ih = absurd (true≢false k)
    go false true a b k ih = inr (sym (eqb-true x y b), ih k)
    go false false a b k ih = let n : x ≢ y = eqb-false x y b in inl (omega (arith, ltb-false))

or_false : (b : Bool) → (b || false) ≡ b
or_false true = refl
or_false false = refl

and_false : (b : Bool) → (b && false) ≡ false
and_false true = refl
and_false false = refl

-- The test is a strict order, total at equal lengths
pub cons_first : (x y : ℕ) (xs ys : List ℕ) → x < y → earlier (x ∷ xs) (y ∷ ys) ≡ true
unfolding earlier
cons_first x y xs ys h = rw (lt-ltb x y h)

pub cons_next : (x y : ℕ) (xs ys : List ℕ) → x ≡ y → earlier (x ∷ xs) (y ∷ ys) ≡ earlier xs ys
unfolding earlier
cons_next x y xs ys h = rw (le-ltb x y (omega arith), eq-eqb x y h)

-- Numbers that differ decide, and so do the last ones
pub cons_differ : (x y : ℕ) (xs ys : List ℕ) → x ≢ y → earlier (x ∷ xs) (y ∷ ys) ≡ ltb x y
unfolding earlier
cons_differ x y xs ys h = rw (ne_eqb x y h) (or_false (ltb x y))

pub cons_last : (x y : ℕ) → earlier (x ∷ []) (y ∷ []) ≡ ltb x y
unfolding earlier
cons_last x y = ap (λ (b : Bool). ltb x y || b) (and_false (eqb x y)) ∙ or_false (ltb x y)

cons_cases : (x y : ℕ) (xs ys : List ℕ) → earlier (x ∷ xs) (y ∷ ys) ≡ true → (x < y) ⊎ ((x ≡ y) × (earlier xs ys ≡ true))
unfolding earlier
cons_cases x y xs ys e = go (ltb x y) (eqb x y) refl refl e
  where
    go : (p q : Bool) → ltb x y ≡ p → eqb x y ≡ q → (p || (q && earlier xs ys)) ≡ true → (x < y) ⊎ ((x ≡ y) × (earlier xs ys ≡ true))
    go true q a b k = inl (ltb-true x y a)
    go false true a b k = inr (eqb-true x y b, k)
    go false false a b k = absurd (true≢false (sym k))

pub earlier_trans : (xs ys zs : List ℕ) → earlier xs ys ≡ true → earlier ys zs ≡ true → earlier xs zs ≡ true
unfolding earlier
earlier_trans [] ys zs h k = absurd (true≢false (sym h))
earlier_trans (x ∷ xs) [] zs h k = absurd (true≢false (sym h))
earlier_trans (x ∷ xs) (y ∷ ys) [] h k = absurd (true≢false (sym k))
earlier_trans (x ∷ xs) (y ∷ ys) (z ∷ zs) h k = go (cons_cases x y xs ys h) (cons_cases y z ys zs k) (earlier_trans xs ys zs)
  where
    go : (x < y) ⊎ ((x ≡ y) × (earlier xs ys ≡ true)) → (y < z) ⊎ ((y ≡ z) × (earlier ys zs ≡ true)) → (earlier xs ys ≡ true → earlier ys zs ≡ true → earlier xs zs ≡ true) → earlier (x ∷ xs) (z ∷ zs) ≡ true
    go (inl a) (inl b) ih = cons_first x z xs zs (omega arith)
    go (inl a) (inr b) ih = cons_first x z xs zs (omega arith)
    go (inr a) (inl b) ih = cons_first x z xs zs (omega arith)
    go (inr a) (inr b) ih = cons_next x z xs zs (a.0 ∙ b.0) ∙ ih a.1 b.1

pub earlier_total : (xs ys : List ℕ) → length xs ≡ length ys → earlier xs ys ≡ false → (xs ≡ ys) ⊎ (earlier ys xs ≡ true)
unfolding earlier
earlier_total [] [] l e = inl refl
earlier_total [] (y ∷ ys) l e = absurd (omega arith)
earlier_total (x ∷ xs) [] l e = absurd (omega arith)
earlier_total (x ∷ xs) (y ∷ ys) l e = go (ltb x y) (eqb x y) refl refl e (earlier_total xs ys (omega arith))
  where
    next : x ≡ y → (xs ≡ ys) ⊎ (earlier ys xs ≡ true) → (x ∷ xs ≡ y ∷ ys) ⊎ (earlier (y ∷ ys) (x ∷ xs) ≡ true)
    next p (inl q) = inl (ap₂ ◌∷◌ p q)
    next p (inr q) = inr (cons_next y x ys xs (sym p) ∙ q)

    go : (p q : Bool) → ltb x y ≡ p → eqb x y ≡ q → (p || (q && earlier xs ys)) ≡ false → (earlier xs ys ≡ false → (xs ≡ ys) ⊎ (earlier ys xs ≡ true)) → (x ∷ xs ≡ y ∷ ys) ⊎ (earlier (y ∷ ys) (x ∷ xs) ≡ true)
    go true q a b k ih = absurd (true≢false k)
    go false true a b k ih = next (eqb-true x y b) (ih k)
    go false false a b k ih = let n : x ≢ y = eqb-false x y b in inr (cons_first y x ys xs (omega (arith, ltb-false)))
