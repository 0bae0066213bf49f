-- Facts on lists that the walk's proofs use: tests, places, sorting, all strings of bits.
use Prim.Native.Nat.{ℕ, zero, suc, ◌+◌, ◌≤◌, ◌<◌, ◌^◌}
use mathlib.Core.Path.{◌≡◌, refl, sym, ◌∙◌, ap, ap₂}
use mathlib.Core.Bool.{Bool, true, false, cond, ◌&&◌, ◌||◌, true≢false}
use mathlib.Core.Logic.{◌⊎◌, inl, inr, ◌≢◌}
use mathlib.Core.List.Memᴰ
use mathlib.Core.List.{List, [], ◌∷◌, ◌++◌, map, head-eq_of_cons-eq, tail-eq_of_cons-eq}
use native.Mathlib.Decide.{ℕ_discrete}
use native.Mathlib.Nat.{pow-suc}
use native.Mathlib.Omega.{arith}
use lib.ListN.{length, get_or, length-append, length-map}
use Rattle.model.specs.Constellation.{Bits, symbols}
use Rattle.model.specs.Soft.{those, up_from}
use Rattle.model.specs.Walk.{any_of, insert, sort}
use Rattle.model.specs.Block.{◌∈◌, Every}

pub or_left : (a b : Bool) → (a || b) ≡ false → a ≡ false
or_left true b e = e
or_left false b e = refl

pub or_right : (a b : Bool) → (a || b) ≡ false → b ≡ false
or_right true b e = absurd (true≢false e)
or_right false b e = e

pub and_cases : (a b : Bool) → (a && b) ≡ false → (a ≡ false) ⊎ (b ≡ false)
and_cases true b e = inr e
and_cases false b e = inl refl

pub any_false : {A : Type 0} (f : A → Bool) (xs : List A) (x : A) → any_of f xs ≡ false → x ∈ xs → f x ≡ false
any_false f [] x e h = absurd (Memᴰ.not-nil h)
any_false f (y ∷ ys) x e h = go (Memᴰ.cases_cons h) (any_false f ys x (or_right (f y) (any_of f ys) e))
  where
    go : (x ≡ y) ⊎ (x ∈ ys) → (x ∈ ys → f x ≡ false) → f x ≡ false
    go (inl p) ih = ap f p ∙ or_left (f y) (any_of f ys) e
    go (inr k) ih = ih k

pub in-up_from : (a n i : ℕ) → a ≤ i → i < a + n → i ∈ up_from a n
unfolding up_from
in-up_from a zero i h k = absurd (omega arith)
in-up_from a (suc n) i h k = go (ℕ_discrete i a) (in-up_from (suc a) n i)
  where
    go : Dec (i ≡ a) → (suc a ≤ i → i < suc a + n → i ∈ up_from (suc a) n) → i ∈ a ∷ up_from (suc a) n
    go (yes p) ih = Memᴰ.head p
    go (no p) ih = let q : i ≢ a = p in Memᴰ.tail (ih (omega arith) (omega arith))

-- The members that meet a test, by membership and with one more at the end
pub in_those : {A : Type 0} (f : A → Bool) (x : A) (xs : List A) → x ∈ xs → f x ≡ true → x ∈ those f xs
unfolding those
in_those f x [] h e = absurd (Memᴰ.not-nil h)
in_those f x (y ∷ ys) h e = go (f y) refl (Memᴰ.cases_cons h) (in_those f x ys)
  where
    go : (b : Bool) → f y ≡ b → (x ≡ y) ⊎ (x ∈ ys) → (x ∈ ys → f x ≡ true → x ∈ those f ys) → x ∈ cond b (y ∷ those f ys) (those f ys)
    go true g (inl p) ih = Memᴰ.head p
    go true g (inr k) ih = Memᴰ.tail (ih k e)
    go false g (inl p) ih = absurd (true≢false (sym e ∙ ap f p ∙ g))
    go false g (inr k) ih = ih k e

pub of_those : {A : Type 0} (f : A → Bool) (x : A) (xs : List A) → x ∈ those f xs → (x ∈ xs) × (f x ≡ true)
unfolding those
of_those f x [] h = absurd (Memᴰ.not-nil h)
of_those {A} f x (y ∷ ys) h = go (f y) refl (of_those f x ys) h
  where
    go : (b : Bool) → f y ≡ b → (x ∈ those f ys → (x ∈ ys) × (f x ≡ true)) → x ∈ cond b (y ∷ those f ys) (those f ys) → (x ∈ y ∷ ys) × (f x ≡ true)
    go true g ih k = first (Memᴰ.cases_cons k)
      where
        first : (x ≡ y) ⊎ (x ∈ those f ys) → (x ∈ y ∷ ys) × (f x ≡ true)
        first (inl p) = (Memᴰ.head p, ap f p ∙ g)
        first (inr m) = (Memᴰ.tail (ih m).0, (ih m).1)
    go false g ih k = (Memᴰ.tail (ih k).0, (ih k).1)

pub those_snoc : {A : Type 0} (f : A → Bool) (xs : List A) (x : A) → those f (xs ++ x ∷ []) ≡ cond (f x) (those f xs ++ x ∷ []) (those f xs)
unfolding those
those_snoc f [] x = refl
those_snoc {A} f (y ∷ ys) x = rw (those_snoc f ys x) (go (f y) (f x))
  where
    rest : List A
    rest = those f ys

    go : (p q : Bool) → cond p (y ∷ cond q (rest ++ x ∷ []) rest) (cond q (rest ++ x ∷ []) rest) ≡ cond q (cond p (y ∷ rest) rest ++ x ∷ []) (cond p (y ∷ rest) rest)
    go true true = refl
    go true false = refl
    go false true = refl
    go false false = refl

-- Two functions that agree at n places from a on
pub map-up_from : {A : Type 0} (f g : ℕ → A) (a n : ℕ) → ((i : ℕ) → i < a + n → f i ≡ g i) → map f (up_from a n) ≡ map g (up_from a n)
unfolding up_from
map-up_from f g a zero h = refl
map-up_from f g a (suc n) h = ap₂ ◌∷◌ (h a (omega arith)) (map-up_from f g (suc a) n (λ i k. h i (omega arith)))

pub any-up_from : (f g : ℕ → Bool) (a n : ℕ) → ((i : ℕ) → i < a + n → f i ≡ g i) → any_of f (up_from a n) ≡ any_of g (up_from a n)
unfolding up_from
any-up_from f g a zero h = refl
any-up_from f g a (suc n) h = ap₂ ◌||◌ (h a (omega arith)) (any-up_from f g (suc a) n (λ i k. h i (omega arith)))

-- A list made place by place
pub length-up_from : {A : Type 0} (f : ℕ → A) (a n : ℕ) → length (map f (up_from a n)) ≡ n
unfolding up_from
length-up_from f a zero = refl
length-up_from f a (suc n) = ap suc (length-up_from f (suc a) n)

pub get_or-up_from : {A : Type 0} (f : ℕ → A) (d : A) (a n i : ℕ) → i < n → get_or (map f (up_from a n)) i d ≡ f (a + i)
unfolding up_from
get_or-up_from f d a zero i h = absurd (omega arith)
get_or-up_from f d a (suc n) zero h = ap f (omega arith)
get_or-up_from f d a (suc n) (suc i) h = get_or-up_from f d (suc a) n i (omega arith) ∙ ap f (omega arith)

pub get_or-places : {A : Type 0} (f : ℕ → A) (d : A) (n i : ℕ) → i < n → get_or (map f (up_from 0 n)) i d ≡ f i
get_or-places f d n i h = get_or-up_from f d 0 n i h ∙ ap f (omega arith)

in_insert_head : {A : Type 0} (f : A → A → Bool) (x : A) (ys : List A) → x ∈ insert f x ys
unfolding insert
in_insert_head f x [] = Memᴰ.head refl
in_insert_head f x (y ∷ ys) = go (f y x) (in_insert_head f x ys)
  where
    go : (b : Bool) → x ∈ insert f x ys → x ∈ cond b (y ∷ insert f x ys) (x ∷ y ∷ ys)
    go true ih = Memᴰ.tail ih
    go false ih = Memᴰ.head refl

in_insert_tail : {A : Type 0} (f : A → A → Bool) (x z : A) (ys : List A) → z ∈ ys → z ∈ insert f x ys
unfolding insert
in_insert_tail f x z [] h = absurd (Memᴰ.not-nil h)
in_insert_tail f x z (y ∷ ys) h = go (f y x) (Memᴰ.cases_cons h) (in_insert_tail f x z ys)
  where
    go : (b : Bool) → (z ≡ y) ⊎ (z ∈ ys) → (z ∈ ys → z ∈ insert f x ys) → z ∈ cond b (y ∷ insert f x ys) (x ∷ y ∷ ys)
    go true (inl p) ih = Memᴰ.head p
    go true (inr k) ih = Memᴰ.tail (ih k)
    go false k ih = Memᴰ.tail h

-- Sorting loses no element
pub in_sort : {A : Type 0} (f : A → A → Bool) (z : A) (xs : List A) → z ∈ xs → z ∈ sort f xs
unfolding sort
in_sort f z [] h = absurd (Memᴰ.not-nil h)
in_sort f z (x ∷ xs) h = go (Memᴰ.cases_cons h) (in_sort f z xs)
  where
    go : (z ≡ x) ⊎ (z ∈ xs) → (z ∈ xs → z ∈ sort f xs) → z ∈ insert f x (sort f xs)
    go (inl p) ih = Memᴰ.cast p (in_insert_head f x (sort f xs))
    go (inr k) ih = in_insert_tail f x z (sort f xs) (ih k)

-- Each string of q bits is a symbol
pub in_symbols : (q : ℕ) (s : Bits) → length s ≡ q → s ∈ symbols q
unfolding symbols
in_symbols zero [] e = Memᴰ.head refl
in_symbols zero (b ∷ s) e = absurd (omega arith)
in_symbols (suc q) [] e = absurd (omega arith)
in_symbols (suc q) (true ∷ s) e = Memᴰ.append_right (map (◌∷◌ false) (symbols q)) (Memᴰ.map (◌∷◌ true) (in_symbols q s (omega arith)))
in_symbols (suc q) (false ∷ s) e = Memᴰ.append_left (map (◌∷◌ true) (symbols q)) (Memᴰ.map (◌∷◌ false) (in_symbols q s (omega arith)))

-- Sorting adds no element
pub of_insert : {A : Type 0} (f : A → A → Bool) (x z : A) (ys : List A) → z ∈ insert f x ys → (z ≡ x) ⊎ (z ∈ ys)
unfolding insert
of_insert f x z [] h = Memᴰ.cases_cons h
of_insert f x z (y ∷ ys) h = go (f y x) h (of_insert f x z ys)
  where
    later : (z ≡ x) ⊎ (z ∈ ys) → (z ≡ x) ⊎ (z ∈ y ∷ ys)
    later (inl p) = inl p
    later (inr k) = inr (Memᴰ.tail k)

    put : (z ≡ y) ⊎ (z ∈ insert f x ys) → (z ∈ insert f x ys → (z ≡ x) ⊎ (z ∈ ys)) → (z ≡ x) ⊎ (z ∈ y ∷ ys)
    put (inl p) ih = inr (Memᴰ.head p)
    put (inr k) ih = later (ih k)

    go : (b : Bool) → z ∈ cond b (y ∷ insert f x ys) (x ∷ y ∷ ys) → (z ∈ insert f x ys → (z ≡ x) ⊎ (z ∈ ys)) → (z ≡ x) ⊎ (z ∈ y ∷ ys)
    go true k ih = put (Memᴰ.cases_cons k) ih
    go false k ih = Memᴰ.cases_cons k

pub of_sort : {A : Type 0} (f : A → A → Bool) (z : A) (xs : List A) → z ∈ sort f xs → z ∈ xs
unfolding sort
of_sort f z [] h = h
of_sort f z (x ∷ xs) h = go (of_insert f x z (sort f xs) h) (of_sort f z xs)
  where
    go : (z ≡ x) ⊎ (z ∈ sort f xs) → (z ∈ sort f xs → z ∈ xs) → z ∈ x ∷ xs
    go (inl p) ih = Memᴰ.head p
    go (inr k) ih = Memᴰ.tail (ih k)

-- Each symbol has q bits
pub symbols_length : (q : ℕ) (s : Bits) → s ∈ symbols q → length s ≡ q
unfolding symbols
symbols_length zero s h = ap length (Memᴰ.eq_of_singleton h)
symbols_length (suc q) s h = go (Memᴰ.append_cases (map (◌∷◌ false) (symbols q)) h) (symbols_length q)
  where
    go : (s ∈ map (◌∷◌ false) (symbols q)) ⊎ (s ∈ map (◌∷◌ true) (symbols q)) → ((t : Bits) → t ∈ symbols q → length t ≡ q) → length s ≡ suc q
    go (inl k) ih = let r = Memᴰ.of_map (◌∷◌ false) (symbols q) k in ap length (sym r.2) ∙ ap suc (ih r.0 r.1)
    go (inr k) ih = let r = Memᴰ.of_map (◌∷◌ true) (symbols q) k in ap length (sym r.2) ∙ ap suc (ih r.0 r.1)

-- No element twice
abbrev pub Once : {A : Type 0} → List A → Type 0
Once [] = Unit {0}
Once (x ∷ xs) = (x ∈ xs → ⊥) × Once xs

pub once_append : {A : Type 0} (s t : List A) → Once s → Once t → ((x : A) → x ∈ s → x ∈ t → ⊥) → Once (s ++ t)
once_append [] t a b d = b
once_append (x ∷ s) t a b d = (λ h. go (Memᴰ.append_cases s h), once_append s t a.1 b (λ y h k. d y (Memᴰ.tail h) k))
  where
    go : (x ∈ s) ⊎ (x ∈ t) → ⊥
    go (inl h) = a.0 h
    go (inr h) = d x (Memᴰ.head refl) h

pub once_map : {A B : Type 0} (f : A → B) → ((x y : A) → f x ≡ f y → x ≡ y) → (xs : List A) → Once xs → Once (map f xs)
once_map f inj [] a = tt
once_map f inj (x ∷ xs) a =
    (λ h. let r = Memᴰ.of_map f xs h in a.0 (Memᴰ.cast (inj x r.0 (sym r.2)) r.1), once_map f inj xs a.1)

once_insert : {A : Type 0} (f : A → A → Bool) (x : A) (ys : List A) → (x ∈ ys → ⊥) → Once ys → Once (insert f x ys)
unfolding insert
once_insert f x [] n a = (n, tt)
once_insert f x (y ∷ ys) n a = go (f y x) (once_insert f x ys (λ h. n (Memᴰ.tail h)) a.1)
  where
    apart : (y ≡ x) ⊎ (y ∈ ys) → ⊥
    apart (inl e) = n (Memᴰ.head (sym e))
    apart (inr h) = a.0 h

    go : (b : Bool) → Once (insert f x ys) → Once (cond b (y ∷ insert f x ys) (x ∷ y ∷ ys))
    go true ih = (λ h. apart (of_insert f x y ys h), ih)
    go false ih = (n, a)

pub once_sort : {A : Type 0} (f : A → A → Bool) (xs : List A) → Once xs → Once (sort f xs)
unfolding sort
once_sort f [] a = tt
once_sort f (x ∷ xs) a = once_insert f x (sort f xs) (λ h. a.0 (of_sort f x xs h)) (once_sort f xs a.1)

pub once_symbols : (q : ℕ) → Once (symbols q)
unfolding symbols
once_symbols zero = (λ h. Memᴰ.not-nil h, tt)
once_symbols (suc q) =
    once_append (map (◌∷◌ false) (symbols q)) (map (◌∷◌ true) (symbols q))
    (once_map (◌∷◌ false) (λ x y. tail-eq_of_cons-eq) (symbols q) (once_symbols q))
    (once_map (◌∷◌ true) (λ x y. tail-eq_of_cons-eq) (symbols q) (once_symbols q))
    (λ x h k. let r = Memᴰ.of_map (◌∷◌ false) (symbols q) h in let t = Memᴰ.of_map (◌∷◌ true) (symbols q) k in true≢false (head-eq_of_cons-eq (t.2 ∙ sym r.2)))

-- Sorting keeps the number of elements, and there are 2^q symbols
length_insert : {A : Type 0} (f : A → A → Bool) (x : A) (ys : List A) → length (insert f x ys) ≡ suc (length ys)
unfolding insert
length_insert f x [] = refl
length_insert f x (y ∷ ys) = go (f y x) (length_insert f x ys)
  where
    go : (b : Bool) → length (insert f x ys) ≡ suc (length ys) → length (cond b (y ∷ insert f x ys) (x ∷ y ∷ ys)) ≡ suc (suc (length ys))
    go true ih = ap suc ih
    go false ih = refl

pub length_sort : {A : Type 0} (f : A → A → Bool) (xs : List A) → length (sort f xs) ≡ length xs
unfolding sort
length_sort f [] = refl
length_sort f (x ∷ xs) = length_insert f x (sort f xs) ∙ ap suc (length_sort f xs)

pub symbols_count : (q : ℕ) → length (symbols q) ≡ 2 ^ q
unfolding symbols
symbols_count zero = refl
symbols_count (suc q) =
    length-append (map (◌∷◌ false) (symbols q)) (map (◌∷◌ true) (symbols q))
    ∙ omega (arith, length-map (symbols q) (◌∷◌ false), length-map (symbols q) (◌∷◌ true), symbols_count q, pow-suc 2 q)

-- What holds of a rule's value at each place holds of every member
pub every-up_from : {A : Type 0} (P : A → Type 0) (f : ℕ → A) (a n : ℕ) → ((i : ℕ) → i < a + n → P (f i)) → Every P (map f (up_from a n))
unfolding up_from
every-up_from P f a zero h = tt
every-up_from P f a (suc n) h = (h a (omega arith), every-up_from P f (suc a) n (λ i k. h i (omega arith)))
