-- Laws of the arrays. A filled place holds its value and the others what they held. The first smallest key is at most each key and less
-- than each earlier one, and only the first n keys decide which it is; while fewer than n keys are taken, it is not a taken one.
use Prim.Native.Nat.{ℕ, zero, suc, ◌+◌, ◌-◌, ◌≤◌, ◌<◌}
use mathlib.Core.Path.{◌≡◌, refl, sym, ap, ap₂, ◌∙◌}
use mathlib.Core.Bool.{Bool, true, false, cond}
use mathlib.Core.List.{List, [], ◌∷◌, ◌++◌, map}
use mathlib.Core.Logic.{◌⊎◌, inl, inr, ⊎_elim, ◌≢◌}
use native.Mathlib.Decide.{ℕ_discrete}
use native.Mathlib.Nat.{eq-or-lt_of_le, le_of_suc-le-suc, not-suc-le-zero, ne_of_lt, le_refl}
use native.Mathlib.Numerals.{add-one}
use native.Mathlib.Omega.{arith}
use lib.Dec.{ltb}
use borrow.Author.Tests.{ltb-true, ltb-false, lt-ltb, le-ltb}
use lib.ListN.{length, get_or, set, take, drop, length-set, length-append, length-drop, take-append-drop, get_or-append}
use lib.Seq.{get_or-set_same, get_or-set_other, take-suc-set, drop-set-lt, get_or-take, length-take-le}
use Rattle.model.specs.Soft.{up_from}
use Rattle.metric.specs.Parts.{filled}
use Rattle.metric.proofs.Filled.{filled_length}
use Rattle.search_spec.specs.Arrays.{smaller_at, least_first}

last_or_not : {i n : ℕ} → i < suc n → (i ≡ n) ⊎ (i < n)
last_or_not h = eq-or-lt_of_le (le_of_suc-le-suc h)

module _ {A : Type 0} where
  map_snoc : (f : ℕ → A) (a n : ℕ) → map f (up_from a n) ++ f (a + n) ∷ [] ≡ map f (up_from a (suc n))
  unfolding up_from
  map_snoc f a zero = let e : a + 0 ≡ a = omega arith in rw e
  map_snoc f a (suc n) = let e : a + suc n ≡ suc a + n = omega arith in rw e (ap (◌∷◌ (f a)) (map_snoc f (suc a) n))

  take_filled : (f : ℕ → A) (n : ℕ) (l : List A) → n ≤ length l → take n (filled f n l) ≡ map f (up_from 0 n)
  unfolding filled up_from
  take_filled f zero l h = refl
  take_filled f (suc n) l h =
      take-suc-set (filled f n l) n (f n) (omega (arith, filled_length f n l))
      ∙ ap₂ (λ (t : List A) (x : ℕ). t ++ f x ∷ []) (take_filled f n l (omega arith)) (omega arith) ∙ map_snoc f 0 n

  drop_filled : (f : ℕ → A) (k n : ℕ) (l : List A) → k ≤ n → drop n (filled f k l) ≡ drop n l
  unfolding filled
  drop_filled f zero n l h = refl
  drop_filled f (suc k) n l h = drop-set-lt n (filled f k l) k (f k) (omega arith) ∙ drop_filled f k n l (omega arith)

  -- The whole array: the values, then what stood there
  pub filled_is : (f : ℕ → A) (n : ℕ) (l : List A) → n ≤ length l → filled f n l ≡ map f (up_from 0 n) ++ drop n l
  filled_is f n l h = sym (take-append-drop n (filled f n l)) ∙ ap₂ ◌++◌ (take_filled f n l h) (drop_filled f n n l (le_refl n))

smaller_ind : (P : ℕ → Type 0) (keys : List ℕ) (b k : ℕ) → (get_or keys k 0 < get_or keys b 0 → P k) → (get_or keys b 0 ≤ get_or keys k 0 → P b)
    → P (smaller_at keys b k)
unfolding smaller_at
smaller_ind P keys b k f g = go (ltb (get_or keys k 0) (get_or keys b 0)) refl
  where
    go : (t : Bool) → ltb (get_or keys k 0) (get_or keys b 0) ≡ t → P (cond t k b)
    go true e = f (ltb-true _ _ e)
    go false e = g (ltb-false _ _ e)

-- The first smallest key is one of the first n
pub least_below : (keys : List ℕ) (n : ℕ) → 0 < n → least_first keys n < n
unfolding least_first
least_below keys zero h = absurd (not-suc-le-zero h)
least_below keys (suc zero) h = smaller_ind (λ r. r < 1) keys 0 0 (λ lt. omega arith) (λ le. omega arith)
least_below keys (suc (suc n)) h =
    let i = least_below keys (suc n) (omega arith) in
    smaller_ind (λ r. r < suc (suc n)) keys (least_first keys (suc n)) (suc n) (λ lt. omega arith) (λ le. omega arith)

-- None of them is smaller
pub least_le : (keys : List ℕ) (n i : ℕ) → i < n → get_or keys (least_first keys n) 0 ≤ get_or keys i 0
unfolding least_first
least_le keys zero i h = absurd (not-suc-le-zero h)
least_le keys (suc n) i h = smaller_ind (λ r. get_or keys r 0 ≤ get_or keys i 0) keys (least_first keys n) n
    (λ lt. ⊎_elim (λ (e : i ≡ n). rw e (le_refl _)) (λ (s : i < n). omega (arith, least_le keys n i s)) (last_or_not h))
    (λ le. ⊎_elim (λ (e : i ≡ n). rw e le) (λ (s : i < n). least_le keys n i s) (last_or_not h))

-- Each earlier one is larger
pub least_first_lem : (keys : List ℕ) (n i : ℕ) → i < least_first keys n → get_or keys (least_first keys n) 0 < get_or keys i 0
unfolding least_first
least_first_lem keys zero i h = absurd (not-suc-le-zero h)
least_first_lem keys (suc n) i h = smaller_ind (λ r. i < r → get_or keys r 0 < get_or keys i 0) keys (least_first keys n) n
    (λ lt s. omega (arith, least_le keys n i s)) (λ le s. least_first_lem keys n i s) h

-- One key more: it is the least
pub least_take : (keys : List ℕ) (b k : ℕ) → b ≡ least_first keys k → get_or keys k 0 < get_or keys b 0 → k ≡ least_first keys (k + 1)
unfolding least_first smaller_at
least_take keys b k e h = rw (add-one, ← e, lt-ltb _ _ h)

-- or it is not
pub least_keep : (keys : List ℕ) (b k : ℕ) → b ≡ least_first keys k → get_or keys b 0 ≤ get_or keys k 0 → b ≡ least_first keys (k + 1)
unfolding least_first smaller_at
least_keep keys b k e h = rw (add-one, ← e, le-ltb _ _ h)

-- Two arrays hold the same keys at their first n places
pub record Same (n : ℕ) (a b : List ℕ) : Type 0 where
  pub wide_a : n ≤ length a
  pub wide_b : n ≤ length b
  pub keys : (i : ℕ) → i < n → get_or a i 0 ≡ get_or b i 0

-- Their first smallest keys stand at the same place
pub least_same : {a b : List ℕ} {n : ℕ} → Same n a b → 0 < n → least_first a n ≡ least_first b n
least_same {a} {b} {n} s h = go (ℕ_discrete i j)
  where
    i : ℕ
    i = least_first a n

    j : ℕ
    j = least_first b n

    i_below : i < n
    i_below = least_below a n h

    j_below : j < n
    j_below = least_below b n h

    facts : (get_or a i 0 ≡ get_or b i 0) × (get_or a j 0 ≡ get_or b j 0) × (get_or a i 0 ≤ get_or a j 0) × (get_or b j 0 ≤ get_or b i 0)
    facts = (s.keys i i_below, s.keys j j_below, least_le a n j j_below, least_le b n i i_below)

    go : Dec (i ≡ j) → i ≡ j
    go (yes e) = e
    go (no e) = apart (ltb i j) refl
      where
        apart : (t : Bool) → ltb i j ≡ t → i ≡ j
        apart true k = absurd (omega (arith, facts, least_first_lem b n i (ltb-true i j k)))
        apart false k =
            let f : i ≢ j = e in
            let l : j < i = omega (arith, ltb-false i j k) in
            absurd (omega (arith, facts, least_first_lem a n j l))

-- and they stay alike where the same key is overwritten
pub same_set : {a b : List ℕ} {n : ℕ} → Same n a b → (s x : ℕ) → Same n (set a s x) (set b s x)
same_set {a} {b} {n} h s x = record {
  wide_a = omega (arith, length-set a s x, h.wide_a);
  wide_b = omega (arith, length-set b s x, h.wide_b);
  keys = λ i k. at i k (ℕ_discrete i s);
}
  where
    at : (i : ℕ) → i < n → Dec (i ≡ s) → get_or (set a s x) i 0 ≡ get_or (set b s x) i 0
    at i k (no e) = get_or-set_other a s i x 0 e ∙ h.keys i k ∙ sym (get_or-set_other b s i x 0 e)
    at i k (yes e) = rw e (get_or-set_same a s x 0 (omega (arith, h.wide_a)) ∙ sym (get_or-set_same b s x 0 (omega (arith, h.wide_b))))

-- What holds of a key and of the number that overwrites one, holds after that
pub set_each : (P : ℕ → Type 0) (keys : List ℕ) (s x i : ℕ) → P x → P (get_or keys i 0) → P (get_or (set keys s x) i 0)
set_each P [] s x i h k = k
set_each P (a ∷ keys) zero x zero h k = h
set_each P (a ∷ keys) zero x (suc i) h k = k
set_each P (a ∷ keys) (suc s) x zero h k = k
set_each P (a ∷ keys) (suc s) x (suc i) h k = set_each P keys s x i h k

-- Of the first n keys, those below a sentinel
unfoldable pub untaken : ℕ → List ℕ → ℕ → ℕ
untaken top keys zero = 0
untaken top keys (suc n) = cond (ltb (get_or keys n 0) top) 1 0 + untaken top keys n

untaken_all : (top : ℕ) (keys : List ℕ) (n : ℕ) → ((i : ℕ) → i < n → get_or keys i 0 < top) → untaken top keys n ≡ n
unfolding untaken
untaken_all top keys zero h = refl
untaken_all top keys (suc n) h =
    rw (lt-ltb (get_or keys n 0) top (h n (omega arith)), untaken_all top keys n (λ i k. h i (omega arith))) (omega arith)

untaken_none : (top : ℕ) (keys : List ℕ) (n : ℕ) → ((i : ℕ) → i < n → top ≤ get_or keys i 0) → untaken top keys n ≡ 0
unfolding untaken
untaken_none top keys zero h = refl
untaken_none top keys (suc n) h =
    rw (le-ltb (get_or keys n 0) top (h n (omega arith)), untaken_none top keys n (λ i k. h i (omega arith)))

untaken_same : (top : ℕ) (keys : List ℕ) (s x n : ℕ) → n ≤ s → untaken top (set keys s x) n ≡ untaken top keys n
unfolding untaken
untaken_same top keys s x zero h = refl
untaken_same top keys s x (suc n) h = rw (get_or-set_other keys s n x 0 (ne_of_lt h), untaken_same top keys s x n (omega arith))

untaken_set : (top : ℕ) (keys : List ℕ) (s x n : ℕ) → untaken top keys n ≤ untaken top (set keys s x) n + 1
unfolding untaken
untaken_set top keys s x zero = omega arith
untaken_set top keys s x (suc n) = go (ℕ_discrete n s) (untaken_set top keys s x n)
  where
    one : (b : Bool) → cond b 1 0 ≤ 1
    one true = omega arith
    one false = omega arith

    go : Dec (n ≡ s) → untaken top keys n ≤ untaken top (set keys s x) n + 1
        → cond (ltb (get_or keys n 0) top) 1 0 + untaken top keys n
        ≤ cond (ltb (get_or (set keys s x) n 0) top) 1 0 + untaken top (set keys s x) n + 1
    go (yes e) ih = let h : n ≤ s = omega arith in omega (arith, one (ltb (get_or keys n 0) top), untaken_same top keys s x n h)
    go (no e) ih = rw (get_or-set_other keys s n x 0 e) (omega arith)

-- The keys of a loop over n children after k turns: each is its child's own, or taken, and at most k are taken
pub record Held (top n : ℕ) (own : ℕ → ℕ) (k : ℕ) (keys : List ℕ) : Type 0 where
  pub each : (i : ℕ) → i < n → (get_or keys i 0 ≡ own i) ⊎ (get_or keys i 0 ≡ top)
  pub left : n ≤ untaken top keys n + k

-- At first none is taken
pub held_start : (top n : ℕ) (own : ℕ → ℕ) (keys : List ℕ) → ((i : ℕ) → i < n → own i < top) → ((i : ℕ) → i < n → get_or keys i 0 ≡ own i)
    → Held top n own 0 keys
held_start top n own keys low h = record {
  each = λ i k. inl (h i k);
  left = omega (arith, untaken_all top keys n (λ i k. omega (arith, h i k, low i k)));
}

-- While a turn is left, so is a key: the first smallest one is not taken
pub held_least : {top n : ℕ} {own : ℕ → ℕ} {k : ℕ} {keys : List ℕ} → Held top n own k keys → k < n
    → (s : ℕ) → s ≡ least_first keys n → get_or keys s 0 ≡ own s
held_least {top} {n} {own} {k} {keys} h more s e = rw e (go (h.each (least_first keys n) (least_below keys n (omega arith))))
  where
    go : (get_or keys (least_first keys n) 0 ≡ own (least_first keys n)) ⊎ (get_or keys (least_first keys n) 0 ≡ top)
        → get_or keys (least_first keys n) 0 ≡ own (least_first keys n)
    go (inl mine) = mine
    go (inr high) = absurd (omega (arith, h.left, untaken_none top keys n (λ i l. omega (arith, least_le keys n i l))))

-- One turn takes one key
pub held_set : {top n : ℕ} {own : ℕ → ℕ} {k : ℕ} {keys : List ℕ} → Held top n own k keys → (s : ℕ) → Held top n own (k + 1) (set keys s top)
held_set {top} {n} {own} {k} {keys} h s = record {
  each = λ i l. set_each (λ (x : ℕ). (x ≡ own i) ⊎ (x ≡ top)) keys s top i (inr refl) (h.each i l);
  left = omega (arith, h.left, untaken_set top keys s top n);
}

untaken_alike : {a b : List ℕ} (top n k : ℕ) → k ≤ n → Same n a b → untaken top a k ≡ untaken top b k
unfolding untaken
untaken_alike top n zero h s = refl
untaken_alike top n (suc k) h s =
    ap₂ (λ (x y : ℕ). cond (ltb x top) 1 0 + y) (s.keys k (omega arith)) (untaken_alike top n k (omega arith) s)

pub held_same : {top n : ℕ} {own : ℕ → ℕ} {k : ℕ} {a b : List ℕ} → Same n a b → Held top n own k a → Held top n own k b
held_same {top} {n} {own} {k} {a} {b} s h = record {
  each = λ i l. rw (← s.keys i l) (h.each i l);
  left = rw (← untaken_alike top n n (le_refl n) s) h.left;
}

-- Another tail, behind the first n keys and what else stands before it
pub same_part : (n k : ℕ) (a tail : List ℕ) → n ≤ k → k ≤ length a → Same n a (take k a ++ tail)
same_part n k a tail few h = record {
  wide_a = omega arith;
  wide_b = omega (arith, length-append (take k a) tail, length-take-le k a h);
  keys = λ i l. sym (get_or-append (take k a) tail 0 i (omega (arith, length-take-le k a h)) ∙ get_or-take k a i 0 (omega arith));
}

-- The part of an array from its n-th place on
pub part_length : (n : ℕ) (l : List ℕ) → length (take (length l - n) (drop n l)) ≡ length l - n
part_length n l = length-take-le (length l - n) (drop n l) (omega (arith, length-drop n l))
