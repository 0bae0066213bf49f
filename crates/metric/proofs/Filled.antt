-- A list filled place by place: after its first k places, for every k, those hold their values and the others are as before.
use Prim.Native.Nat.{ℕ, zero, suc, ◌+◌, ◌-◌, ◌^◌, ◌<◌, ◌≤◌}
use mathlib.Core.Path.{◌≡◌, refl, sym, ◌∙◌, ap, ap₂, subst}
use mathlib.Core.Logic.{◌⊎◌, inl, inr, ⊎_elim}
use mathlib.Core.List.{List}
use native.Mathlib.Nat.{add-suc, eq-or-lt_of_le, le_of_suc-le-suc, not-suc-le-zero, ne_of_lt, ne_of_gt}
use native.Mathlib.Decide.{ℕ_discrete}
use native.Mathlib.Numerals.{add-one}
use native.Mathlib.Omega.{arith}
use borrow.Rule.Slice.PartMut.{put_mid}
use lib.ListN.{length, get_or, set, replicate, take, drop, length-set, length-append, length-take, length-drop}
use lib.Seq.{get_or-set_same, get_or-set_other, get_or-take, get_or-drop, ext_get_or}
use Rattle.std.proofs.lemmas.Bool.{cases_lt}
use Rattle.std.proofs.lemmas.List.{get_or_append_left, get_or-append_right}
use Rattle.metric.specs.Parts.{filled, filled_from}

module _ {A : Type 0} where
  -- One place more
  pub filled_more : (f : ℕ → A) (k : ℕ) (l : List A) → set (filled f k l) k (f k) ≡ filled f (k + 1) l
  unfolding filled
  filled_more f k l = rw add-one

  pub filled_length : (f : ℕ → A) (k : ℕ) (l : List A) → length (filled f k l) ≡ length l
  unfolding filled
  filled_length f zero l = refl
  filled_length f (suc k) l = length-set (filled f k l) k (f k) ∙ filled_length f k l

  -- From place k on nothing is changed
  pub filled_rest : (f : ℕ → A) (k : ℕ) (l : List A) (i : ℕ) (d : A) → k ≤ i → get_or (filled f k l) i d ≡ get_or l i d
  unfolding filled
  filled_rest f zero l i d h = refl
  filled_rest f (suc k) l i d h = get_or-set_other (filled f k l) k i (f k) d (ne_of_gt h) ∙ filled_rest f k l i d (omega arith)

  -- Before it each place holds its value
  pub filled_at : (f : ℕ → A) (k : ℕ) (l : List A) (i : ℕ) (d : A) → i < k → k ≤ length l → get_or (filled f k l) i d ≡ f i
  unfolding filled
  filled_at f zero l i d h room = absurd (not-suc-le-zero h)
  filled_at f (suc k) l i d h room =
      ⊎_elim
      (λ (e : i ≡ k). rw e (get_or-set_same (filled f k l) k (f k) d (omega (arith, filled_length f k l))))
      (λ (lt : i < k). get_or-set_other (filled f k l) k i (f k) d (ne_of_lt lt) ∙ filled_at f k l i d lt (omega arith))
      (eq-or-lt_of_le (le_of_suc-le-suc h))

  -- Rules that agree on the first n places fill alike
  pub filled_same : (f g : ℕ → A) (n : ℕ) (l : List A) → ((i : ℕ) → i < n → f i ≡ g i) → filled f n l ≡ filled g n l
  unfolding filled
  filled_same f g zero l h = refl
  filled_same f g (suc n) l h =
      ap₂ (λ (x : List A) (v : A). set x n v) (filled_same f g n l (λ i k. h i (omega arith))) (h n (omega arith))

  -- From a place on, one place more
  pub from_more : (at : ℕ) (f : ℕ → A) (k : ℕ) (l : List A) → set (filled_from at f k l) (at + k) (f k) ≡ filled_from at f (k + 1) l
  unfolding filled_from
  from_more at f k l = rw add-one

  pub from_length : (at : ℕ) (f : ℕ → A) (k : ℕ) (l : List A) → length (filled_from at f k l) ≡ length l
  unfolding filled_from
  from_length at f zero l = refl
  from_length at f (suc k) l = length-set (filled_from at f k l) (at + k) (f k) ∙ from_length at f k l

  -- Before the place nothing is changed
  pub from_before : (at : ℕ) (f : ℕ → A) (k : ℕ) (l : List A) (i : ℕ) (d : A) → i < at → get_or (filled_from at f k l) i d ≡ get_or l i d
  unfolding filled_from
  from_before at f zero l i d h = refl
  from_before at f (suc k) l i d h =
      get_or-set_other (filled_from at f k l) (at + k) i (f k) d (ne_of_lt (omega arith)) ∙ from_before at f k l i d h

  -- From it on each place holds its value
  pub from_at : (at : ℕ) (f : ℕ → A) (k : ℕ) (l : List A) (i : ℕ) (d : A) → i < k → at + k ≤ length l
      → get_or (filled_from at f k l) (at + i) d ≡ f i
  unfolding filled_from
  from_at at f zero l i d h room = absurd (not-suc-le-zero h)
  from_at at f (suc k) l i d h room =
      ⊎_elim
      (λ (e : i ≡ k). rw e (get_or-set_same (filled_from at f k l) (at + k) (f k) d (omega (arith, from_length at f k l))))
      (λ (lt : i < k).
      get_or-set_other (filled_from at f k l) (at + k) (at + i) (f k) d (ne_of_lt (omega arith)) ∙ from_at at f k l i d lt (omega arith))
      (eq-or-lt_of_le (le_of_suc-le-suc h))

  -- Rules that agree on n places fill alike
  pub from_same : (at : ℕ) (f g : ℕ → A) (n : ℕ) (l : List A) → ((i : ℕ) → i < n → f i ≡ g i) → filled_from at f n l ≡ filled_from at g n l
  unfolding filled_from
  from_same at f g zero l h = refl
  from_same at f g (suc n) l h =
      ap₂ (λ (x : List A) (v : A). set x (at + n) v) (from_same at f g n l (λ i k. h i (omega arith))) (h n (omega arith))

  -- What every value that is filled in and every old entry has, every entry has
  pub from_all : (P : A → Type 0) (at : ℕ) (f : ℕ → A) (k : ℕ) (l : List A) (d : A) → at + k ≤ length l
      → ((i : ℕ) → i < k → P (f i)) → ((i : ℕ) → P (get_or l i d)) → (i : ℕ) → P (get_or (filled_from at f k l) i d)
  unfolding filled_from
  from_all P at f zero l d room new old i = old i
  from_all P at f (suc k) l d room new old i =
      go (from_all P at f k l d (omega arith) (λ j h. new j (omega arith)) old i) (ℕ_discrete i (at + k))
    where
      go : P (get_or (filled_from at f k l) i d) → Dec (i ≡ at + k) → P (get_or (set (filled_from at f k l) (at + k) (f k)) i d)
      go h (yes e) =
          rw (e, get_or-set_same (filled_from at f k l) (at + k) (f k) d (omega (arith, from_length at f k l))) (new k (omega arith))
      go h (no n) = subst P (sym (get_or-set_other (filled_from at f k l) (at + k) i (f k) d n)) h

  -- The places after the first ones, which are filled: together they are the first ones of more
  pub from_join : (at : ℕ) (f g : ℕ → A) (k : ℕ) (l : List A) → ((i : ℕ) → i < k → f i ≡ g (at + i))
      → filled_from at f k (filled g at l) ≡ filled g (at + k) l
  unfolding filled filled_from
  from_join at f g zero l same = let e : at ≡ at + 0 = omega arith in ap (λ (n : ℕ). filled g n l) e
  from_join at f g (suc k) l same =
      rw add-suc
      (ap₂ (λ (x : List A) (v : A). set x (at + k) v) (from_join at f g k l (λ i h. same i (omega arith))) (same k (omega arith)))

  -- The places behind ones that are filled from a place on: together they are more of these
  pub from_behind : (at n : ℕ) (f h : ℕ → A) (k : ℕ) (l : List A) → ((i : ℕ) → i < k → h i ≡ f (n + i))
      → filled_from (at + n) h k (filled_from at f n l) ≡ filled_from at f (n + k) l
  unfolding filled_from
  from_behind at n f h zero l same = let e : n ≡ n + 0 = omega arith in ap (λ (m : ℕ). filled_from at f m l) e
  from_behind at n f h (suc k) l same =
      let e : at + n + k ≡ at + (n + k) = omega arith in
      rw (add-suc, e)
      (ap₂ (λ (x : List A) (v : A). set x (at + (n + k)) v) (from_behind at n f h k l (λ i j. same i (omega arith))) (same k (omega arith)))

  -- From the last of them on nothing is changed
  pub from_after : (at : ℕ) (f : ℕ → A) (k : ℕ) (l : List A) (i : ℕ) (d : A) → at + k ≤ i → get_or (filled_from at f k l) i d ≡ get_or l i d
  unfolding filled_from
  from_after at f zero l i d h = refl
  from_after at f (suc k) l i d h =
      get_or-set_other (filled_from at f k l) (at + k) i (f k) d (ne_of_gt (omega arith)) ∙ from_after at f k l i d (omega arith)

  -- A part of a list is written over, its n entries by a rule: the list is filled from the part's place on
  pub from_part : (at : ℕ) (f : ℕ → A) (n : ℕ) (l part : List A) (d : A) → at + n ≤ length l → length part ≡ n
      → ((i : ℕ) → i < n → get_or part i d ≡ f i) → put_mid at n l part ≡ filled_from at f n l
  from_part at f n l part d room size each =
      ext_get_or d _ _ (all ∙ sym (from_length at f n l)) (λ i h. go i (cases_lt i at) (cases_lt i (at + n)))
    where
      front : length (take at l) ≡ at
      front = simp length-take (omega arith)

      all : length (put_mid at n l part) ≡ length l
      all = simp (length-append, length-take, length-drop) (omega arith)

      go : (i : ℕ) → (i < at) ⊎ (at ≤ i) → (i < at + n) ⊎ (at + n ≤ i)
          → get_or (put_mid at n l part) i d ≡ get_or (filled_from at f n l) i d
      go i (inl h) b =
          get_or_append_left (take at l) _ d i (omega (arith, front)) ∙ get_or-take at l i d h ∙ sym (from_before at f n l i d h)
      go i (inr h) (inl k) =
          let e : at + (i - at) ≡ i = omega arith in
          get_or-append_right (take at l) _ at i d front h ∙ get_or_append_left part _ d (i - at) (omega arith) ∙ each (i - at) (omega arith)
          ∙ sym (from_at at f n l (i - at) d (omega arith) room) ∙ ap (λ (j : ℕ). get_or (filled_from at f n l) j d) e
      go i (inr h) (inr k) =
          let e : at + (n + (i - at - n)) ≡ i = omega arith in
          get_or-append_right (take at l) _ at i d front h ∙ get_or-append_right part _ n (i - at) d size (omega arith)
          ∙ get_or-drop n (drop at l) (i - at - n) d ∙ get_or-drop at l (n + (i - at - n)) d ∙ ap (λ (j : ℕ). get_or l j d) e
          ∙ sym (from_after at f n l i d k)

-- An array that is cleared has small entries
pub zeros_small : (n i : ℕ) → get_or (replicate n 0) i 0 < 2 ^ 62
zeros_small zero i = omega arith
zeros_small (suc n) zero = omega arith
zeros_small (suc n) (suc i) = zeros_small n i
