-- The picked label and the least metrics of a list of labels, by membership: the picked one is in the list and at or before each
-- other, a least metric is one member's and at most each one's; and both when a label is added at the end.
use Prim.Native.Nat.{ℕ, ◌≤◌, min}
use mathlib.Core.Path.{◌≡◌, refl, sym, ◌∙◌, ap, subst}
use mathlib.Core.Bool.{Bool, true, false, cond, beq}
use mathlib.Core.Logic.{◌⊎◌, inl, inr}
use mathlib.Core.List.Memᴰ
use mathlib.Core.List.{List, [], ◌∷◌, ◌++◌, foldl, foldl-append}
use native.Mathlib.Nat.{le_refl, le_antisymm}
use native.Mathlib.Omega.{arith}
use lib.Dec.{leb}
use borrow.Author.Tests.{leb-true, leb-false}
use Rattle.model.specs.Constellation.{Bits}
use Rattle.model.specs.Metric.{Vector, metric_of, bit_at}
use Rattle.model.specs.Order.{earlier, rank}
use Rattle.model.specs.Soft.{Least, infinite, finite, lesser, least_of, those, has_bit, least_with, better, pick}
use Rattle.model.specs.Block.{◌∈◌}
use Rattle.model.proofs.Ranks.{AtOrBefore, order_refl, order_trans, order_head, earlier_true, earlier_false}
use Rattle.model.proofs.Lists.{in_those, of_those, those_snoc}

-- A least metric is finite and at most d
abbrev pub AtMost : Least → ℕ → Type 0
AtMost infinite d = ⊥
AtMost (finite u) d = u ≤ d

pub beq_refl : (a : Bool) → beq a a ≡ true
beq_refl true = refl
beq_refl false = refl

pub beq_eq : (a b : Bool) → beq a b ≡ true → a ≡ b
beq_eq true true e = refl
beq_eq true false e = sym e
beq_eq false true e = e
beq_eq false false e = refl

pub has_bit_lem : (i : ℕ) (x : Bool) (l : Bits) → bit_at i l ≡ x → has_bit i x l ≡ true
has_bit_lem i x l e = ap (λ (b : Bool). beq b x) e ∙ beq_refl x

module _ (v : Vector) where
  abbrev pub rank_of : Bits → List ℕ
  rank_of l = rank v.width v.rows l

  -- a is at or before b in the order of labels
  abbrev pub Lex : Bits → Bits → Type 0
  Lex a b = AtOrBefore (rank_of a) (rank_of b)

  -- The better of two is one of them, and at or before both
  record Better (a b r : Bits) : Type 0 where
    either : (r ≡ a) ⊎ (r ≡ b)
    first : Lex r a
    second : Lex r b

  better_is : (a b : Bits) → Better a b (better v a b)
  better_is a b = go (earlier (rank_of b) (rank_of a)) refl
    where
      go : (t : Bool) → earlier (rank_of b) (rank_of a) ≡ t → Better a b (cond t b a)
      go true e = record { either = inr refl; first = earlier_true (rank_of b) (rank_of a) e; second = order_refl (rank_of b) }
      go false e = record { either = inl refl; first = order_refl (rank_of a); second = earlier_false (rank_of b) (rank_of a) refl e }

  -- The fold that picks: its result is in the list and at or before each member
  record Picked (l : Bits) (ls : List Bits) (r : Bits) : Type 0 where
    member : r ∈ l ∷ ls
    least : (x : Bits) → x ∈ l ∷ ls → Lex r x

  fold_picked : (l : Bits) (ls : List Bits) → Picked l ls (foldl (better v) l ls)
  fold_picked l [] = record { member = Memᴰ.head refl; least = λ x h. alone x (Memᴰ.cases_cons h) }
    where
      alone : (x : Bits) → (x ≡ l) ⊎ (x ∈ []) → Lex l x
      alone x (inl e) = subst (Lex l) (sym e) (order_refl (rank_of l))
      alone x (inr h) = absurd (Memᴰ.not-nil h)
  fold_picked l (y ∷ ys) = step (better_is l y) (fold_picked (better v l y) ys)
    where
      step : {w r : Bits} → Better l y w → Picked w ys r → Picked l (y ∷ ys) r
      step {w} {r} b h = record { member = where_from b.either (Memᴰ.cases_cons h.member); least = λ x k. smaller x (Memᴰ.cases_cons k) }
        where
          where_from : (w ≡ l) ⊎ (w ≡ y) → (r ≡ w) ⊎ (r ∈ ys) → r ∈ l ∷ y ∷ ys
          where_from (inl e) (inl f) = Memᴰ.head (f ∙ e)
          where_from (inr e) (inl f) = Memᴰ.tail (Memᴰ.head (f ∙ e))
          where_from e (inr k) = Memᴰ.tail (Memᴰ.tail k)

          r≤w : Lex r w
          r≤w = h.least w (Memᴰ.head refl)

          among : (x : Bits) → (x ≡ y) ⊎ (x ∈ ys) → Lex r x
          among x (inl e) = subst (Lex r) (sym e) (order_trans (rank_of r) (rank_of w) (rank_of y) r≤w b.second)
          among x (inr k) = h.least x (Memᴰ.tail k)

          smaller : (x : Bits) → (x ≡ l) ⊎ (x ∈ y ∷ ys) → Lex r x
          smaller x (inl e) = subst (Lex r) (sym e) (order_trans (rank_of r) (rank_of w) (rank_of l) r≤w b.first)
          smaller x (inr k) = among x (Memᴰ.cases_cons k)

  -- The picked label is one of the list's, and at or before each of them
  pub pick_in : {x : Bits} (ls : List Bits) → x ∈ ls → pick v ls ∈ ls
  unfolding pick
  pick_in [] h = absurd (Memᴰ.not-nil h)
  pick_in (l ∷ ls) h = (fold_picked l ls).member

  pub pick_least : {x : Bits} (ls : List Bits) → x ∈ ls → Lex (pick v ls) x
  unfolding pick
  pick_least [] h = absurd (Memᴰ.not-nil h)
  pick_least {x} (l ∷ ls) h = (fold_picked l ls).least x h

  -- A least metric is at most each member's, and is one's
  lesser_left : (d : ℕ) (u : Least) → AtMost (lesser d u) d
  lesser_left d infinite = le_refl d
  lesser_left d (finite e) = omega arith

  lesser_right : (d e : ℕ) (u : Least) → AtMost u e → AtMost (lesser d u) e
  lesser_right d e infinite h = absurd h
  lesser_right d e (finite u) h = omega arith

  least_of-le : (ls : List Bits) (l : Bits) → l ∈ ls → AtMost (least_of v ls) (metric_of v l)
  unfolding least_of
  least_of-le [] l h = absurd (Memᴰ.not-nil h)
  least_of-le (y ∷ ys) l h = go (Memᴰ.cases_cons h) (least_of-le ys l)
    where
      go : (l ≡ y) ⊎ (l ∈ ys) → (l ∈ ys → AtMost (least_of v ys) (metric_of v l)) → AtMost (lesser (metric_of v y) (least_of v ys)) (metric_of v l)
      go (inl p) ih = subst (λ (z : Bits). AtMost (lesser (metric_of v y) (least_of v ys)) (metric_of v z)) (sym p) (lesser_left _ (least_of v ys))
      go (inr k) ih = lesser_right _ _ (least_of v ys) (ih k)

  -- A member of metric d
  record Having (ls : List Bits) (d : ℕ) : Type 0 where
    label : Bits
    member : label ∈ ls
    value : metric_of v label ≡ d

  least_of-in : (ls : List Bits) (d : ℕ) → least_of v ls ≡ finite d → Having ls d
  unfolding least_of
  least_of-in [] d e = let z : ◌≡◌ {A = ℕ} 0 1 = cc in absurd (omega arith)
  least_of-in (y ∷ ys) d e = go (least_of v ys) (λ u f. longer (least_of-in ys u f)) e
    where
      longer : {u : ℕ} → Having ys u → Having (y ∷ ys) u
      longer a = record { label = a.label; member = Memᴰ.tail a.member; value = a.value }

      here : metric_of v y ≡ d → Having (y ∷ ys) d
      here f = record { label = y; member = Memᴰ.head refl; value = f }

      by_order : (u : ℕ) (c : Bool) → leb (metric_of v y) u ≡ c → Having (y ∷ ys) u → min (metric_of v y) u ≡ d → Having (y ∷ ys) d
      by_order u true g a f = here (omega (arith, leb-true))
      by_order u false g a f = record { label = a.label; member = a.member; value = omega (arith, leb-false, a.value) }

      go : (u : Least) → ((n : ℕ) → u ≡ finite n → Having (y ∷ ys) n) → lesser (metric_of v y) u ≡ finite d → Having (y ∷ ys) d
      go infinite ih f = here (cc)
      go (finite u) ih f = by_order u (leb (metric_of v y) u) refl (ih u refl) (cc)

  -- The picked label's metric is the least
  pub pick_metric : {x : Bits} (ls : List Bits) → x ∈ ls → least_of v ls ≡ finite (metric_of v (pick v ls))
  pick_metric ls h = go (least_of v ls) refl (least_of-le ls (pick v ls) (pick_in ls h))
    where
      go : (u : Least) → least_of v ls ≡ u → AtMost u (metric_of v (pick v ls)) → u ≡ finite (metric_of v (pick v ls))
      go infinite e a = absurd a
      go (finite u) e a =
          let f : Having ls u = least_of-in ls u e in
          ap finite (le_antisymm a (subst (λ (n : ℕ). metric_of v (pick v ls) ≤ n) f.value (order_head (pick_least ls f.member))))

  -- The same of the labels with bit i equal to x
  pub least_le : (i : ℕ) (x : Bool) (ls : List Bits) (l : Bits) → l ∈ ls → bit_at i l ≡ x → AtMost (least_with v i x ls) (metric_of v l)
  least_le i x ls l h e = least_of-le (those (has_bit i x) ls) l (in_those (has_bit i x) l ls h (has_bit_lem i x l e))

  -- A label of the list whose bit i is x and whose metric is d
  pub record Attained (i : ℕ) (x : Bool) (ls : List Bits) (d : ℕ) : Type 0 where
    pub label : Bits
    pub member : label ∈ ls
    pub bit : bit_at i label ≡ x
    pub value : metric_of v label ≡ d

  pub least_in : (i : ℕ) (x : Bool) (ls : List Bits) (d : ℕ) → least_with v i x ls ≡ finite d → Attained i x ls d
  least_in i x ls d e =
      let a = least_of-in (those (has_bit i x) ls) d e in
      let k = of_those (has_bit i x) a.label ls a.member in
      record { label = a.label; member = k.0; bit = beq_eq _ _ k.1; value = a.value }

  -- One more label at the end
  pub pick_snoc : (l x : Bits) (ls : List Bits) → pick v (l ∷ ls ++ x ∷ []) ≡ better v (pick v (l ∷ ls)) x
  unfolding pick
  pick_snoc l x ls = foldl-append (better v) l ls (x ∷ [])

  lesser_swap : (d e : ℕ) (u : Least) → lesser d (lesser e u) ≡ lesser e (lesser d u)
  lesser_swap d e infinite = ap finite (omega arith)
  lesser_swap d e (finite u) = ap finite (omega arith)

  pub least_of-snoc : (ls : List Bits) (x : Bits) → least_of v (ls ++ x ∷ []) ≡ lesser (metric_of v x) (least_of v ls)
  unfolding least_of
  least_of-snoc [] x = refl
  least_of-snoc (y ∷ ys) x = ap (lesser (metric_of v y)) (least_of-snoc ys x) ∙ lesser_swap (metric_of v y) (metric_of v x) (least_of v ys)

  pub least_snoc : (i : ℕ) (b : Bool) (ls : List Bits) (x : Bits)
      → least_with v i b (ls ++ x ∷ []) ≡ cond (has_bit i b x) (lesser (metric_of v x) (least_with v i b ls)) (least_with v i b ls)
  least_snoc i b ls x = rw (those_snoc (has_bit i b) ls x) (go (has_bit i b x))
    where
      go : (t : Bool) → least_of v (cond t (those (has_bit i b) ls ++ x ∷ []) (those (has_bit i b) ls)) ≡ cond t (lesser (metric_of v x) (least_with v i b ls)) (least_with v i b ls)
      go true = least_of-snoc (those (has_bit i b) ls) x
      go false = refl
