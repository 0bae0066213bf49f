-- What one owner is answered does not depend on the others.
use Prim.Native.Nat.{ℕ, zero, suc, ◌<◌}
use mathlib.Core.Path.{◌≡◌, refl, sym, ◌∙◌, ap, ap₂}
use mathlib.Core.Bool.{Bool, true, false, cond}
use mathlib.Core.Logic.{◌↔◌}
use mathlib.Core.List.{List, [], ◌∷◌}
use native.Mathlib.Omega.{arith}
use borrow.Author.Tests.{eqb-true, eqb-false, eq-eqb, ne_eqb}
use lib.Dec.{eqb}
use lib.ListN.{length, get_or}
use Rattle.model.specs.Block.{Block, Answer, answers}
use Rattle.owners.specs.Owners.{of_owner, alone, shared_answers, AgreeFor}
use Rattle.owners.proofs.Owners.{own_answers, answers_many}

-- Which of owner o's vectors the k-th is, from 0
unfoldable pub rank : ℕ → List ℕ → ℕ → ℕ
rank o [] k = 0
rank o (p ∷ ps) zero = 0
rank o (p ∷ ps) (suc k) = cond (eqb p o) (suc (rank o ps k)) (rank o ps k)

-- What stands beside the k-th owner, o, stands in o's own list at its rank
pub own_at : {A : Type 0} (o : ℕ) (os : List ℕ) (xs : List A) (k : ℕ) (d : A) → length os ≡ length xs → k < length xs → get_or os k 0 ≡ o
    → get_or (of_owner o os xs) (rank o os k) d ≡ get_or xs k d
unfolding of_owner rank
own_at o [] xs k d e h f = absurd (omega arith)
own_at o (p ∷ ps) [] k d e h f = absurd (omega arith)
own_at o (p ∷ ps) (x ∷ xs) zero d e h f = rw (eq-eqb p o f)
own_at o (p ∷ ps) (x ∷ xs) (suc k) d e h f = go (eqb p o) (own_at o ps xs k d (omega arith) (omega arith) f)
  where
    go : (t : Bool) → get_or (of_owner o ps xs) (rank o ps k) d ≡ get_or xs k d
        → get_or (cond t (x ∷ of_owner o ps xs) (of_owner o ps xs)) (cond t (suc (rank o ps k)) (rank o ps k)) d ≡ get_or xs k d
    go true ih = ih
    go false ih = ih

-- which has such a place
pub own_inside : {A : Type 0} (o : ℕ) (os : List ℕ) (xs : List A) (k : ℕ) → length os ≡ length xs → k < length xs → get_or os k 0 ≡ o
    → rank o os k < length (of_owner o os xs)
unfolding of_owner rank
own_inside o [] xs k e h f = absurd (omega arith)
own_inside o (p ∷ ps) [] k e h f = absurd (omega arith)
own_inside o (p ∷ ps) (x ∷ xs) zero e h f = rw (eq-eqb p o f) (omega arith)
own_inside o (p ∷ ps) (x ∷ xs) (suc k) e h f = go (eqb p o) (own_inside o ps xs k (omega arith) (omega arith) f)
  where
    go : (t : Bool) → rank o ps k < length (of_owner o ps xs)
        → cond t (suc (rank o ps k)) (rank o ps k) < length (cond t (x ∷ of_owner o ps xs) (of_owner o ps xs))
    go true ih = omega arith
    go false ih = ih

-- Both are owner o's, or neither
same_test : (o p q : ℕ) → ((p ≡ o) ↔ (q ≡ o)) → eqb p o ≡ eqb q o
same_test o p q h = go (eqb p o) refl
  where
    go : (t : Bool) → eqb p o ≡ t → eqb p o ≡ eqb q o
    go true e = e ∙ sym (eq-eqb q o (h.0 (eqb-true p o e)))
    go false e = e ∙ sym (ne_eqb q o (λ f. eqb-false p o e (h.1 f)))

-- Owners that have o at equal positions
abbrev Same : ℕ → ℕ → List ℕ → List ℕ → Type 0
Same o n ps qs = (k : ℕ) → k < n → (get_or ps k 0 ≡ o) ↔ (get_or qs k 0 ≡ o)

same_rank : (o : ℕ) (ps qs : List ℕ) (k : ℕ) → length ps ≡ length qs → Same o (length ps) ps qs → rank o ps k ≡ rank o qs k
unfolding rank
same_rank o [] [] k e h = refl
same_rank o [] (q ∷ qs) k e h = absurd (omega arith)
same_rank o (p ∷ ps) [] k e h = absurd (omega arith)
same_rank o (p ∷ ps) (q ∷ qs) zero e h = refl
same_rank o (p ∷ ps) (q ∷ qs) (suc k) e h =
    ap₂ (λ (t : Bool) (n : ℕ). cond t (suc n) n) (same_test o p q (h 0 (omega arith)))
    (same_rank o ps qs k (omega arith) (λ i l. h (suc i) (omega arith)))

own_none : {A : Type 0} (o : ℕ) (qs : List ℕ) (ys : List A) → length ys ≡ 0 → of_owner o qs ys ≡ []
unfolding of_owner
own_none o [] ys l = refl
own_none o (q ∷ qs) [] l = refl
own_none o (q ∷ qs) (y ∷ ys) l = absurd (omega arith)

-- and equal contents there
same_own : {A : Type 0} (d : A) (o : ℕ) (ps qs : List ℕ) (xs ys : List A) → length ps ≡ length xs → length qs ≡ length ys → length xs ≡ length ys
    → Same o (length xs) ps qs → ((k : ℕ) → k < length xs → get_or ps k 0 ≡ o → get_or xs k d ≡ get_or ys k d) → of_owner o ps xs ≡ of_owner o qs ys
unfolding of_owner
same_own d o [] qs [] ys e f g h c = sym (own_none o qs ys (omega arith))
same_own d o [] qs (x ∷ xs) ys e f g h c = absurd (omega arith)
same_own d o (p ∷ ps) qs [] ys e f g h c = absurd (omega arith)
same_own d o (p ∷ ps) [] (x ∷ xs) ys e f g h c = absurd (omega arith)
same_own d o (p ∷ ps) (q ∷ qs) (x ∷ xs) [] e f g h c = absurd (omega arith)
same_own d o (p ∷ ps) (q ∷ qs) (x ∷ xs) (y ∷ ys) e f g h c =
    go (eqb p o) refl (same_own d o ps qs xs ys (omega arith) (omega arith) (omega arith) (λ k l. h (suc k) (omega arith)) (λ k l. c (suc k) (omega arith)))
    ∙ ap (λ (t : Bool). cond t (y ∷ of_owner o qs ys) (of_owner o qs ys)) (same_test o p q (h 0 (omega arith)))
  where
    go : (t : Bool) → eqb p o ≡ t → of_owner o ps xs ≡ of_owner o qs ys
        → cond t (x ∷ of_owner o ps xs) (of_owner o ps xs) ≡ cond t (y ∷ of_owner o qs ys) (of_owner o qs ys)
    go true t ih = ap₂ ◌∷◌ (c 0 (omega arith) (eqb-true p o t)) ih
    go false t ih = ih

module _ (o : ℕ) (b c : Block) (many : length b.owners ≡ length b.vectors) (many' : length c.owners ≡ length c.vectors)
    (a : AgreeFor o b c) where
  -- Owner o's own list is the same
  alone_same : alone b o ≡ alone c o
  alone_same =
      let os = same_own 0 o b.owners c.owners b.owners c.owners refl refl (many ∙ a.vectors ∙ sym many')
      (λ k l. a.positions k (omega (arith, many)))
      (λ k l e. e ∙ sym ((a.positions k (omega (arith, many))).0 e)) in
      let vs = same_own [] o b.owners c.owners b.vectors c.vectors many many' a.vectors a.positions a.contents in
      λ j. record {
        streams = a.streams j;
        width = a.width j;
        clip = a.clip j;
        weak = a.weak j;
        share = a.share j;
        owners = os j;
        vectors = vs j;
      }

  -- so are its answers in record order,
  pub isolated : of_owner o b.owners (shared_answers b) ≡ of_owner o c.owners (shared_answers c)
  isolated = own_answers b o ∙ ap answers alone_same ∙ sym (own_answers c o)

  -- and each of them by its place in the record
  pub isolated_at : (k : ℕ) (d : Answer) → k < length b.vectors → get_or b.owners k 0 ≡ o
      → get_or (shared_answers b) k d ≡ get_or (shared_answers c) k d
  isolated_at k d h e =
      let n = answers_many b many in
      let m = answers_many c many' in
      let positions : Same o (length b.owners) b.owners c.owners = λ i l. a.positions i (omega (arith, many)) in
      sym (own_at o b.owners (shared_answers b) k d (many ∙ sym n) (omega arith) e)
      ∙ ap₂ (λ (l : List Answer) (i : ℕ). get_or l i d) isolated (same_rank o b.owners c.owners k (many ∙ a.vectors ∙ sym many') positions)
      ∙ own_at o c.owners (shared_answers c) k d (many' ∙ sym m) (omega (arith, a.vectors)) ((a.positions k h).0 e)
