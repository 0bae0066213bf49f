-- The array of what each owner has to spare: while it is filled, before the first vector, and from vector to vector.
use Prim.Native.Nat.{ℕ, suc, ◌+◌, ◌-◌, ◌*◌, ◌≤◌, ◌<◌}
use mathlib.Core.Path.{◌≡◌, refl, sym, ◌∙◌, ap, subst}
use mathlib.Core.Bool.{Bool, true, false, cond}
use mathlib.Core.Logic.{◌≢◌}
use mathlib.Core.List.{List, [], ◌∷◌}
use native.Mathlib.Nat.{suc-mul, mul-add, mul-le-mul_left, mul-le-mul_right}
use native.Mathlib.Omega.{arith}
use borrow.Author.Tests.{eqb-true, eqb-false, eq-eqb, ne_eqb}
use lib.Dec.{eqb}
use lib.ListN.{length, get_or, set, replicate, length-set, length-replicate, get_or-replicate}
use lib.Seq.{get_or-set_same, get_or-set_other}
use Rattle.model.specs.Metric.{Row}
use Rattle.model.specs.Block.{Block, total, allowance}
use Rattle.owners.specs.Owners.{of_owner, alone, charged}
use Rattle.owners.specs.Spares.{spare_places, Spares}

-- Owner o's list has no more vectors than the block
own_length : {A : Type 0} (o : ℕ) (os : List ℕ) (xs : List A) → length (of_owner o os xs) ≤ length xs
unfolding of_owner
own_length o [] xs = omega arith
own_length o (p ∷ ps) [] = omega arith
own_length o (p ∷ ps) (x ∷ xs) = go (eqb p o) (own_length o ps xs)
  where
    go : (t : Bool) → length (of_owner o ps xs) ≤ length xs → length (cond t (x ∷ of_owner o ps xs) (of_owner o ps xs)) ≤ suc (length xs)
    go true h = omega arith
    go false h = omega arith

-- so its total is within the block's
own_total : (b : Block) (o : ℕ) → total (alone b o) ≤ total b
own_total b o = mul-le-mul_right b.share (own_length o b.owners b.vectors)

-- One entry more, which is owner o's own
own_one : {A : Type 0} (o : ℕ) (os : List ℕ) (x : A) (xs : List A) → length (of_owner o (o ∷ os) (x ∷ xs)) ≡ suc (length (of_owner o os xs))
unfolding of_owner
own_one o os x xs = rw (eq-eqb o o refl)

-- or another's
own_none : {A : Type 0} (p o : ℕ) (os : List ℕ) (x : A) (xs : List A) → p ≢ o → length (of_owner p (o ∷ os) (x ∷ xs)) ≡ length (of_owner p os xs)
unfolding of_owner
own_none p o os x xs h = rw (ne_eqb o p (λ e. h (sym e)))

-- What holds of each entry, once one of them is set
set_each : (P : ℕ → ℕ → Type 0) (l : List ℕ) (o x : ℕ) → o < length l → P o x → ((p : ℕ) → p < length l → p ≢ o → P p (get_or l p 0))
    → (p : ℕ) → p < length l → P p (get_or (set l o x) p 0)
set_each P l o x h mine others p k = go (eqb p o) refl
  where
    go : (t : Bool) → eqb p o ≡ t → P p (get_or (set l o x) p 0)
    go true e = let same : o ≡ p = sym (eqb-true p o e) in subst (λ (q : ℕ). P q (get_or (set l o x) q 0)) same (rw (get_or-set_same l o x 0 h) mine)
    go false e = let other = eqb-false p o e in rw (get_or-set_other l o p x 0 other) (others p k other)

-- While the array is filled: D - M is still to be set aside for each of the vectors from here on
pub record Filled (b : Block) (spare : List ℕ) (os : List ℕ) (vs : List (List Row)) : Type 0 where
  pub five : length spare ≡ spare_places
  pub each : (o : ℕ) → o < spare_places
      → get_or spare o 0 + length (of_owner o os vs) * (b.share - b.streams) ≡ length (of_owner o b.owners b.vectors) * (b.share - b.streams)

pub filled_none : (b : Block) → Filled b (replicate spare_places 0) b.owners b.vectors
filled_none b = record {
  five = length-replicate {A = ℕ} spare_places 0;
  each = λ o h. omega (arith, get_or-replicate {A = ℕ} spare_places o 0 0 h);
}

module _ (b : Block) (spare : List ℕ) (o : ℕ) (os : List ℕ) (rows : List Row) (vs : List (List Row)) (small : o < spare_places)
    (s : Filled b spare (o ∷ os) (rows ∷ vs)) where
  -- so much for one vector
  abbrev more : ℕ
  more = b.share - b.streams

  filled_mine : get_or spare o 0 + more + length (of_owner o os vs) * more ≡ length (of_owner o b.owners b.vectors) * more
  filled_mine =
      let left = length (of_owner o os vs) in
      let now : get_or spare o 0 + suc left * more ≡ length (of_owner o b.owners b.vectors) * more =
      rw (← own_one o os rows vs) (s.each o small) in
      omega (arith, suc-mul left more)

  -- The sum is at most N × D
  pub filled_most : get_or spare o 0 + more ≤ total b
  filled_most =
      let n = length (of_owner o b.owners b.vectors) in
      let le : n * more ≤ n * b.share = mul-le-mul_left n (omega arith) in
      omega (arith, filled_mine, own_total b o)

  pub filled_more : Filled b (set spare o (get_or spare o 0 + more)) os vs
  filled_more = record {
    five = length-set spare o _ ∙ s.five;
    each = λ p k.
        set_each (λ (p x : ℕ). x + length (of_owner p os vs) * more ≡ length (of_owner p b.owners b.vectors) * more) spare o
        (get_or spare o 0 + more) (omega (arith, s.five)) filled_mine
        (λ q l other. rw (← own_none q o os rows vs other) (s.each q (omega (arith, s.five)))) p (omega (arith, s.five));
  }

-- Before the first vector nothing is spent
pub filled_all : (b : Block) (spare : List ℕ) → b.streams ≤ b.share → Filled b spare [] [] → Spares b spare (λ o. 0) b.owners b.vectors
unfolding of_owner
filled_all b spare reserve s = record {
  five = s.five;
  each = λ o k.
      let n = length (of_owner o b.owners b.vectors) in
      let whole : b.share - b.streams + b.streams ≡ b.share = omega arith in
      omega (arith, s.each o k, ap (λ (x : ℕ). n * x) whole, mul-add n (b.share - b.streams) b.streams);
}

module _ (b : Block) (spare : List ℕ) (spent : ℕ → ℕ) (o : ℕ) (os : List ℕ) (rows : List Row) (vs : List (List Row))
    (small : o < spare_places) (s : Spares b spare spent (o ∷ os) (rows ∷ vs)) where
  mine : get_or spare o 0 + b.streams + (spent o + length (of_owner o os vs) * b.streams) ≡ total (alone b o)
  mine =
      let left = length (of_owner o os vs) in
      let now : get_or spare o 0 + (spent o + suc left * b.streams) ≡ total (alone b o) = rw (← own_one o os rows vs) (s.each o small) in
      omega (arith, suc-mul left b.streams)

  -- The next vector's allowance
  pub spare_allowed : allowance (alone b o) (spent o) (length (of_owner o os vs)) ≡ get_or spare o 0 + b.streams
  spare_allowed = omega (arith, mine)

  -- is at most N × D
  pub spare_most : get_or spare o 0 + b.streams ≤ total b
  spare_most = omega (arith, mine, own_total b o)

  -- What is spare after it walked c nodes of these
  pub spare_next : (c : ℕ) → c ≤ get_or spare o 0 + b.streams
      → Spares b (set spare o (get_or spare o 0 + b.streams - c)) (charged spent o c) os vs
  spare_next c h = record {
    five = length-set spare o _ ∙ s.five;
    each = λ p k.
        set_each (λ (p x : ℕ). x + (charged spent o c p + length (of_owner p os vs) * b.streams) ≡ total (alone b p)) spare o
        (get_or spare o 0 + b.streams - c) (omega (arith, s.five)) (rw (eq-eqb o o refl) (omega (arith, mine)))
        (λ q l other. rw (ne_eqb o q (λ e. other (sym e)), ← own_none q o os rows vs other) (s.each q (omega (arith, s.five))))
        p (omega (arith, s.five));
  }
