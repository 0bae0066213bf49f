-- The search that keeps minima gives document 01's answer, under any allowance: after each step it keeps what the walk's first n nodes
-- give, and it is stopped exactly when there are more.
use Prim.Native.Nat.{ℕ, suc, ◌≤◌, ◌<◌}
use mathlib.Core.Path.{◌≡◌, refl, sym, ◌∙◌, ap, ap₂}
use mathlib.Core.Bool.{Bool, true, false, not, cond, ◌&&◌, ◌||◌}
use mathlib.Core.List.Memᴰ
use mathlib.Core.List.{List, [], ◌∷◌, ◌++◌, map, foldl, reverse}
use native.Mathlib.Omega.{arith}
use lib.Dec.{leb, ltb}
use borrow.Author.Tests.{ltb-true, ltb-false, lt-ltb, le-ltb}
use lib.ListN.{length, get_or, take, length-append}
use lib.Seq.{take_all, take-append-le, take_at}
use lib.IntN.{pos}
use lib.Signed.{lt_z}
use Rattle.model.specs.Constellation.{Bits, number}
use Rattle.model.specs.Metric.{Row, Vector, metric, metric_of, label_bits, bit_at, prior_at}
use Rattle.model.specs.Soft.{Least, infinite, finite, lesser, least_of, those, has_bit, least_with, pick, soft_value, soft_at, places}
use Rattle.model.specs.Walk.{is_leaf, leaves, limit, is_open, passes, passes_after, children, Progress, with_walked, with_cut, visit, walk_below, walk}
use Rattle.model.specs.Block.{is_stopped, empty_side, answer}
use Rattle.model.specs.Search.{Search, start, admits, best_after, updated, enter, attempt, search_below, search, value_at, search_answer}
use Rattle.model.proofs.Lists.{map-up_from, any-up_from, get_or-places, those_snoc}
use Rattle.model.proofs.Least.{pick_snoc, pick_metric, least_of-snoc, least_snoc}
use Rattle.model.proofs.Tree.{Extends, fold_extends, visit_extends}

module _ (v : Vector) where
  -- The pass test looks at U only at the label's bits
  pub passes_same : (b : Least) (m : Bits) (u u' : ℕ → Least) → ((i : ℕ) → i < label_bits v → u i ≡ u' i) → (d : ℕ) (node : Bits) → passes v b m u d node ≡ passes v b m u' d node
  unfolding passes
  passes_same infinite m u u' h d node = refl
  passes_same (finite b) m u u' h d node =
      ap (λ (t : Bool). leb d b || t)
      (any-up_from _ _ 0 (label_bits v) (λ i k. ap (λ (w : Least). is_open v m node i && lt_z (pos d) (limit v b m w i)) (h i (omega arith))))

  -- The least metrics of all bits with one value
  abbrev sides : Bool → List Bits → List Least
  sides x ls = map (λ i. least_with v i x ls) (places v)

  side_at : (x : Bool) (ls : List Bits) (i : ℕ) → i < label_bits v → get_or (sides x ls) i infinite ≡ least_with v i x ls
  side_at x ls i h = get_or-places (λ j. least_with v j x ls) infinite (label_bits v) i h

  -- What a search keeps of a list of leaves, and of walked nodes
  abbrev kept_of : ℕ → Bool → List Bits → Search
  kept_of n t ls = record { count = n; stopped = t; best = pick v ls; least = least_of v ls; zeros = sides false ls; ones = sides true ls }

  abbrev pub kept : Bool → List Bits → Search
  kept t w = kept_of (length w) t (leaves v w)

  admits_kept : (t : Bool) (w : List Bits) (d : ℕ) (node : Bits) → admits v (kept t w) d node ≡ passes_after v (leaves v w) d node
  admits_kept t w d node = passes_same (least_of v ls) (pick v ls) _ _ (λ i h. other i h (bit_at i (pick v ls))) d node
    where
      ls : List Bits
      ls = leaves v w

      other : (i : ℕ) → i < label_bits v → (x : Bool) → get_or (cond x (sides false ls) (sides true ls)) i infinite ≡ least_with v i (not x) ls
      other i h true = side_at false ls i h
      other i h false = side_at true ls i h

  updated_sides : (x : Bool) (ls : List Bits) (l : Bits) → updated v x (sides x ls) l ≡ sides x (ls ++ l ∷ [])
  updated_sides x ls l =
      map-up_from _ _ 0 (label_bits v)
      (λ i h. ap (λ (u : Least). cond (has_bit i x l) (lesser (metric_of v l) u) u) (side_at x ls i (omega arith)) ∙ sym (least_snoc v i x ls l))

  best_snoc : (ls : List Bits) (c : Bits) → best_after v (least_of v ls) (pick v ls) c ≡ pick v (ls ++ c ∷ [])
  best_snoc [] c = unfold least_of pick in refl
  best_snoc (l ∷ ls) c = rw (pick_metric v (l ∷ ls) (Memᴰ.head refl)) (sym (pick_snoc v l c ls))

  -- A node entered is a node more
  enter_kept : (w : List Bits) (c : Bits) → enter v (kept false w) c ≡ kept false (w ++ c ∷ [])
  unfolding enter
  enter_kept w c = go (is_leaf v c) ∙ sym (ap (kept_of (length (w ++ c ∷ [])) false) (those_snoc (is_leaf v) w c))
    where
      ls : List Bits
      ls = leaves v w

      more : suc (length w) ≡ length (w ++ c ∷ [])
      more = omega (arith, length-append w (c ∷ []))

      go : (b : Bool)
          → cond b
          (record { count = suc (length w); stopped = false; best = best_after v (least_of v ls) (pick v ls) c; least = lesser (metric_of v c) (least_of v ls); zeros = updated v false (sides false ls) c; ones = updated v true (sides true ls) c })
          (kept_of (suc (length w)) false ls)
          ≡ kept_of (length (w ++ c ∷ [])) false (cond b (ls ++ c ∷ []) ls)
      go true = λ j. record { count = more j; stopped = false; best = best_snoc ls c j; least = sym (least_of-snoc v ls c) j; zeros = updated_sides false ls c j; ones = updated_sides true ls c j }
      go false = λ j. kept_of (more j) false ls

  -- After the first n nodes, stopped if there are more
  abbrev pub first : ℕ → List Bits → Search
  first n w = kept (ltb n (length w)) (take n w)

  first_all : (n : ℕ) (w : List Bits) → length w ≤ n → first n w ≡ kept false w
  first_all n w h = ap₂ kept (le-ltb n (length w) h) (take_all n w h)

  first_more : (n : ℕ) (w new : List Bits) → n < length w → first n (w ++ new) ≡ kept true (take n w)
  first_more n w new h = ap₂ kept (lt-ltb n (length (w ++ new)) (omega (arith, length-append w new))) (take-append-le n w new (omega arith))

  -- Children tried one after the other, by the walk (f) and by the search (g)
  module _ (n : ℕ) (f : Progress → Bits → Progress) (g : Search → Bits → Search)
      (adds : (p : Progress) (c : Bits) → Extends p (f p c))
      (step : (p : Progress) (c : Bits) → length p.walked ≤ n → g (kept false p.walked) c ≡ first n (f p c).walked)
      (stay : (w : List Bits) (c : Bits) → g (kept true w) c ≡ kept true w) where
    fold_stay : (cs w : List Bits) → foldl g (kept true w) cs ≡ kept true w
    fold_stay [] w = refl
    fold_stay (c ∷ cs) w = ap (λ (s : Search). foldl g s cs) (stay w c) ∙ fold_stay cs w

    fold_first : (cs : List Bits) (p : Progress) → length p.walked ≤ n → foldl g (kept false p.walked) cs ≡ first n (foldl f p cs).walked
    fold_first [] p h = sym (first_all n p.walked h)
    fold_first (c ∷ cs) p h = ap (λ (s : Search). foldl g s cs) (step p c h) ∙ go (ltb n (length (f p c).walked)) refl (fold_first cs (f p c))
      where
        w : List Bits
        w = (f p c).walked

        go : (b : Bool) → ltb n (length w) ≡ b → (length w ≤ n → foldl g (kept false w) cs ≡ first n (foldl f (f p c) cs).walked) → foldl g (first n w) cs ≡ first n (foldl f (f p c) cs).walked
        go false e ih = ap (λ (s : Search). foldl g s cs) (first_all n w (ltb-false _ _ e)) ∙ ih (ltb-false _ _ e)
        go true e ih =
            let b = fold_extends f adds cs (f p c) in
            ap (λ (t : Bool). foldl g (kept t (take n w)) cs) e ∙ fold_stay cs (take n w) ∙ sym (ap (first n) b.1 ∙ first_more n w b.0 (ltb-true _ _ e))

  -- One child, by the walk and by the search
  attempt_first : (n : ℕ) (rows : List Row) (f : Bits → Progress → Progress) (g : Bits → Search → Search) → ((c : Bits) (p : Progress) → Extends p (f c p))
      → ((c : Bits) (p : Progress) → length p.walked ≤ n → g c (kept false p.walked) ≡ first n (f c p).walked)
      → (p : Progress) (c : Bits) → length p.walked ≤ n → attempt v n rows g (kept false p.walked) c ≡ first n (visit v rows f p c).walked
  attempt_first n rows f g adds ih p c h =
      ap (λ (b : Bool). cond b (cond (ltb (length w) n) (g c (enter v (kept false w) c)) (kept true w)) (kept false w)) (admits_kept false w (metric v.width rows c) c)
      ∙ go (passes_after v (leaves v w) (metric v.width rows c) c) (ltb (length w) n) refl
    where
      w : List Bits
      w = p.walked

      go : (b t : Bool) → ltb (length w) n ≡ t → cond b (cond t (g c (enter v (kept false w) c)) (kept true w)) (kept false w) ≡ first n (cond b (f c (with_walked p c)) (with_cut p c)).walked
      go false t e = sym (first_all n w h)
      go true true e = ap (g c) (enter_kept w c) ∙ ih c (with_walked p c) (omega (arith, ltb-true (length w) n e, length-append w (c ∷ [])))
      go true false e = sym (ap (first n) a.1 ∙ first_more n (w ++ c ∷ []) a.0 (omega (arith, len, length-append w (c ∷ []))) ∙ ap (kept true) (take_at w (c ∷ []) n len))
        where
          a : Extends (with_walked p c) (f c (with_walked p c))
          a = adds c (with_walked p c)

          len : length w ≡ n
          len = omega (arith, ltb-false (length w) n e)

module _ (v : Vector) (q : 0 < v.width) (n : ℕ) where
  below_extends : (todo done : List Row) (node : Bits) (p : Progress) → Extends p (walk_below v todo done node p)
  unfolding walk_below
  below_extends [] done node p = ([], sym (mathlib.Core.List.append-nil p.walked))
  below_extends (r ∷ todo) done node p = fold_extends _ (visit_extends v q todo done r) (children v.width (r ∷ done) node) p

  below_first : (todo done : List Row) (node : Bits) (p : Progress) → length p.walked ≤ n → search_below v n todo done node (kept v false p.walked) ≡ first v n (walk_below v todo done node p).walked
  unfolding search_below walk_below
  below_first [] done node p h = sym (first_all v n p.walked h)
  below_first (r ∷ todo) done node p h =
      fold_first v n (visit v (r ∷ done) (walk_below v todo (r ∷ done))) (attempt v n (r ∷ done) (search_below v n todo (r ∷ done)))
      (visit_extends v q todo done r)
      (attempt_first v n (r ∷ done) (walk_below v todo (r ∷ done)) (search_below v n todo (r ∷ done)) (below_extends todo (r ∷ done)) (below_first todo (r ∷ done)))
      (λ w c. refl)
      (children v.width (r ∷ done) node) p h

  -- The search under an allowance keeps what the walk's first n nodes give
  pub search_is : search v n ≡ first v n (walk v)
  unfolding start least_of pick those
  search_is = below_first (reverse v.rows) [] [] (record { walked = []; cut = [] }) (omega arith)

  -- The search's outcome is the answer, whatever W is
  pub search_answers : (weak : ℕ) → search_answer v weak (search v n) ≡ answer v weak n
  unfolding search_answer answer
  search_answers weak = ap (search_answer v weak) search_is ∙ (λ j. record { stopped = is_stopped v n; count = length (take n (walk v)); result = record { label = number (pick v ls); soft = values j } })
    where
      ls : List Bits
      ls = leaves v (take n (walk v))

      empty : ℕ
      empty = empty_side (is_stopped v n) weak v.clip

      values : map (value_at v empty (first v n (walk v))) (places v) ≡ map (soft_at v empty ls) (places v)
      values = map-up_from _ _ 0 (label_bits v) (λ i h. ap₂ (soft_value v.clip empty (prior_at v i)) (side_at v true ls i (omega arith)) (side_at v false ls i (omega arith)))
