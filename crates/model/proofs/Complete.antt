-- In a walk that no allowance stops each label is walked or cut, so pruning is exact: a child that does not pass leaves every label below
-- it worse than the best leaf and at or above its limits, since going down the tree no metric falls, and what is cut stays cut.
use Prim.Native.Nat.{ℕ, suc, ◌+◌, ◌-◌, ◌*◌, ◌≤◌, ◌<◌}
use mathlib.Core.Path.{◌≡◌, refl, sym, ◌∙◌, ap, subst}
use mathlib.Core.Bool.{Bool, true, false, not, cond, ◌&&◌, ◌||◌, beq, true≢false}
use mathlib.Core.Logic.{◌⊎◌, inl, inr}
use mathlib.Core.List.Memᴰ
use mathlib.Core.List.{List, [], ◌∷◌, ◌++◌, foldl, reverse, reverse_aux, append_assoc, append-nil, reverse-reverse}
use native.Mathlib.Nat.{le_refl, le_trans}
use native.Mathlib.Omega.{arith}
use lib.Dec.{T, leb, ltb, le→leb}
use borrow.Author.Tests.{leb-false, ltb-false, eqb-true, eq-eqb}
use lib.ListN.{length, take, drop, get_or, length-append, length-take, length-drop, take-append-drop, length-reverse, replicate, length-replicate}
use lib.Seq.{get_or-append-add, drop_at}
use lib.IntN.{ℤ, pos}
use lib.Signed.{le_z, lt_z, lt_z_no}
use Rattle.model.specs.Constellation.{Bits}
use Rattle.model.specs.Metric.{Row, Vector, metric, increment, metric_of, label_bits, bit_at}
use Rattle.model.specs.Soft.{Least, infinite, finite, least_of, pick, report, places}
use Rattle.model.specs.Walk.{is_leaf, leaves, smaller, limit, is_open, any_of, passes, opposite, passes_after, children, Progress, with_walked, with_cut, visit, walk_below, walk_whole, walk}
use Rattle.model.specs.Block.{◌∈◌}
use Rattle.model.specs.Demand.{InCutSubtree, WalkedAndCut}
use Rattle.integers.proofs.Order.{le_z-trans}
use Rattle.model.proofs.Lists.{or_left, or_right, any_false, in-up_from, in_those, of_those}
use Rattle.model.proofs.Least.{AtMost, pick_in, pick_metric}
use Rattle.model.proofs.Cut.{◌⊆◌, Cut, Beyond, best_limit, cut_mono, exact_report}
use Rattle.model.proofs.Tree.{children_in, BelowOne, Adds, visit_adds, walk_adds, cut_not_walked}

-- The bits above a node are those above its child and the child's symbol
pub record Split (n q : ℕ) (front : Bits) : Type 0 where
  pub upper : Bits
  pub symbol : Bits
  pub joined : (node : Bits) → upper ++ (symbol ++ node) ≡ front ++ node
  pub upper_length : length upper ≡ n * q
  pub symbol_length : length symbol ≡ q

pub split : (n q : ℕ) (front : Bits) → length front ≡ suc n * q → Split n q front
split n q front e = record {
  upper = take (n * q) front;
  symbol = drop (n * q) front;
  joined = λ node. sym (append_assoc (take (n * q) front) (drop (n * q) front) node) ∙ ap (λ (l : Bits). l ++ node) (take-append-drop (n * q) front);
  upper_length = simp length-take (omega arith);
  symbol_length = simp length-drop (omega arith);
}

-- Going down the tree no metric falls
pub metric_below : (q : ℕ) (todo done : List Row) (front node : Bits) → length front ≡ length todo * q
    → metric q done node ≤ metric q (reverse_aux todo done) (front ++ node)
unfolding metric
metric_below q [] done [] node e = le_refl _
metric_below q [] done (b ∷ front) node e = absurd (omega arith)
metric_below q (r ∷ todo) done front node e =
    le_trans here
    (subst (λ (l : Bits). metric q (r ∷ done) (sp.symbol ++ node) ≤ metric q (reverse_aux todo (r ∷ done)) l) (sp.joined node)
    (metric_below q todo (r ∷ done) sp.upper (sp.symbol ++ node) sp.upper_length))
  where
    sp : Split (length todo) q front
    sp = split (length todo) q front e

    here : metric q done node ≤ increment q r (sp.symbol ++ node) + metric q done (drop q (sp.symbol ++ node))
    here = rw (drop_at sp.symbol node q sp.symbol_length) (omega arith)

-- Not below the smaller of two is at or above one of them
not_below : (d : ℕ) (z : ℤ) → lt_z (pos d) z ≡ false → T (le_z z (pos d))
not_below d z f = (lt_z_no {a = pos d} {b = z} (subst (λ (b : Bool). T (not b)) (sym f) tt)).le

beyond_smaller : (d : ℕ) (u : Least) (z : ℤ) → lt_z (pos d) (smaller u z) ≡ false → AtMost u d ⊎ T (le_z z (pos d))
beyond_smaller d infinite z f = inr (not_below d z f)
beyond_smaller d (finite u) z f = go (le_z (pos u) z) f
  where
    go : (b : Bool) → lt_z (pos d) (cond b (pos u) z) ≡ false → (u ≤ d) ⊎ T (le_z z (pos d))
    go true g = inl (ltb-false d u g)
    go false g = inr (not_below d z g)

-- A later progress has all that was walked and cut
record Later (p r : Progress) : Type 0 where
  walked : p.walked ⊆ r.walked
  cut : p.cut ⊆ r.cut

later : {n : ℕ} {P : Bits → Type 0} {p r : Progress} → Adds n P p r → Later p r
later a = record {
  walked = λ x h. subst (◌∈◌ x) (sym a.walks) (Memᴰ.append_left a.new h);
  cut = λ x h. subst (◌∈◌ x) (sym a.cuts) (Memᴰ.append_left a.failed h);
}

fold_later : (f : Progress → Bits → Progress) → ((p : Progress) (c : Bits) → Later p (f p c)) → (cs : List Bits) (p : Progress) → Later p (foldl f p cs)
fold_later f g [] p = record { walked = λ x h. h; cut = λ x h. h }
fold_later f g (c ∷ cs) p =
    let a = g p c in
    let b = fold_later f g cs (f p c) in
    record { walked = λ x h. b.walked x (a.walked x h); cut = λ x h. b.cut x (a.cut x h) }

-- What one step establishes and nothing undoes holds after all steps
fold_holds : (P : Progress → Type 0) → ((p r : Progress) → Later p r → P p → P r) → (f : Progress → Bits → Progress)
    → ((p : Progress) (c : Bits) → Later p (f p c)) → (cs : List Bits) (p : Progress) (c : Bits) → c ∈ cs → ((p : Progress) → P (f p c)) → P (foldl f p cs)
fold_holds P up f g [] p c h k = absurd (Memᴰ.not-nil h)
fold_holds P up f g (y ∷ ys) p c h k = go (Memᴰ.cases_cons h) (λ (m : c ∈ ys). fold_holds P up f g ys (f p y) c m k)
  where
    go : (c ≡ y) ⊎ (c ∈ ys) → (c ∈ ys → P (foldl f (f p y) ys)) → P (foldl f (f p y) ys)
    go (inl e) ih = up (f p y) _ (fold_later f g ys (f p y)) (subst (λ (z : Bits). P (f p z)) e (k p))
    go (inr m) ih = ih m

module _ (v : Vector) where
  -- The leaves among nodes
  pub leaves_in : (ns : List Bits) (n : Bits) → n ∈ ns → length n ≡ label_bits v → n ∈ leaves v ns
  leaves_in ns n h e = in_those (is_leaf v) n ns h (eq-eqb (length n) (label_bits v) e)

  pub leaves_of : (ns : List Bits) (n : Bits) → n ∈ leaves v ns → (n ∈ ns) × (length n ≡ label_bits v)
  leaves_of ns n h = let k = of_those (is_leaf v) n ns h in (k.0, eqb-true (length n) (label_bits v) k.1)

  leaves_mono : (s t : List Bits) → s ⊆ t → leaves v s ⊆ leaves v t
  leaves_mono s t sub x h = leaves_in t x (sub x (leaves_of s x h).0) (leaves_of s x h).1

  -- A bit in which a label below c differs from m is open at c
  open_below : (m c front : Bits) (i : ℕ) → length (front ++ c) ≡ label_bits v → bit_at i (front ++ c) ≡ not (bit_at i m) → is_open v m c i ≡ true
  open_below m c front i len f = by_place (ltb i free) refl
    where
      free : ℕ
      free = label_bits v - length c

      differ : (a b : Bool) → a ≡ not b → not (beq a b) ≡ true
      differ true true p = absurd (true≢false p)
      differ true false p = refl
      differ false true p = refl
      differ false false p = absurd (true≢false (sym p))

      by_place : (b : Bool) → ltb i free ≡ b → (b || not (beq (bit_at (i - free) c) (bit_at i m))) ≡ true
      by_place true g = refl
      by_place false g =
          differ (bit_at (i - free) c) (bit_at i m)
          (sym (get_or-append-add front c (i - free) false) ∙ ap (λ (n : ℕ). get_or (front ++ c) n false) at_i ∙ f)
        where
          at_i : length front + (i - free) ≡ i
          at_i = omega (arith, ltb-false i free g, len, length-append front c)

  -- A child that does not pass leaves each label below it cut
  no_pass : (ls : List Bits) (d : ℕ) (c front : Bits) → passes_after v ls d c ≡ false → length (front ++ c) ≡ label_bits v
      → d ≤ metric_of v (front ++ c) → Cut v ls (front ++ c)
  unfolding passes
  no_pass [] d c front e len low = absurd (true≢false (unfold least_of in e))
  no_pass (x ∷ xs) d c front e len low = record {
    some = pick_in v ls (Memᴰ.head refl);
    worse = let k : metric_of v m < d = leb-false _ _ (or_left _ _ failed) in omega arith;
    far = λ i h f. far i (beyond_smaller d (opposite v ls m i) (best_limit v m i) (at_limit i h f));
  }
    where
      ls : List Bits
      ls = x ∷ xs

      m : Bits
      m = pick v ls

      test : ℕ → Bool
      test j = is_open v m c j && lt_z (pos d) (limit v (metric_of v m) m (opposite v ls m j) j)

      failed : (leb d (metric_of v m) || any_of test (places v)) ≡ false
      failed = subst (λ (b : Least). passes v b m (opposite v ls m) d c ≡ false) (pick_metric v ls (Memᴰ.head refl)) e

      and_right : (a b : Bool) → a ≡ true → (a && b) ≡ false → b ≡ false
      and_right true b p k = k
      and_right false b p k = absurd (true≢false (sym p))

      at_limit : (i : ℕ) → i < label_bits v → bit_at i (front ++ c) ≡ not (bit_at i m) → lt_z (pos d) (limit v (metric_of v m) m (opposite v ls m i) i) ≡ false
      at_limit i h f =
          and_right (is_open v m c i) _ (open_below m c front i len f)
          (any_false test (places v) i (or_right (leb d (metric_of v m)) _ failed) (in-up_from 0 (label_bits v) i (omega arith) (omega arith)))

      lower : (u : Least) → AtMost u d → AtMost u (metric_of v (front ++ c))
      lower infinite k = k
      lower (finite u) k = le_trans k low

      far : (i : ℕ) → AtMost (opposite v ls m i) d ⊎ T (le_z (best_limit v m i) (pos d)) → Beyond v ls i (front ++ c)
      far i (inl k) = inl (lower (opposite v ls m i) k)
      far i (inr k) = inr (le_z-trans (best_limit v m i) (pos d) (pos (metric_of v (front ++ c))) k (le→leb _ _ low))

module _ (v : Vector) (q : 0 < v.width) where
  -- A label is among the walked leaves, or cut after them and at or below a cut child
  abbrev Seen : Progress → Bits → Type 0
  Seen p l = (l ∈ leaves v p.walked) ⊎ (Cut v (leaves v p.walked) l × BelowOne p.cut l)

  seen_later : (l : Bits) (p r : Progress) → Later p r → Seen p l → Seen r l
  seen_later l p r t (inl h) = inl (leaves_mono v p.walked r.walked t.walked l h)
  seen_later l p r t (inr k) =
      inr (
        cut_mono v (leaves v p.walked) (leaves v r.walked) (leaves_mono v p.walked r.walked t.walked) l k.0,
        (k.1.0, t.cut k.1.0 k.1.1, k.1.2),
      )

  -- A node at the bottom is walked already
  abbrev AtBottom : List Row → Bits → Progress → Type 0
  AtBottom [] node p = node ∈ p.walked
  AtBottom (r ∷ todo) node p = Unit {0}

  entered : (todo : List Row) (c : Bits) (p : Progress) → AtBottom todo c (with_walked p c)
  entered [] c p = Memᴰ.append_right p.walked (Memᴰ.head refl)
  entered (r ∷ todo) c p = tt

  -- When the subtree below a node is finished, each label below the node is seen
  seen_below : (todo done : List Row) → reverse_aux todo done ≡ v.rows → (node : Bits) (p : Progress) → AtBottom todo node p
      → (front : Bits) → length front ≡ length todo * v.width → length (front ++ node) ≡ label_bits v → Seen (walk_below v todo done node p) (front ++ node)
  unfolding walk_below
  seen_below [] done rows node p at [] e len = inl (leaves_in v p.walked node at len)
  seen_below [] done rows node p at (b ∷ front) e len = absurd (omega arith)
  seen_below (r ∷ todo) done rows node p at front e len =
      subst (Seen _) (sp.joined node)
      (fold_holds (λ (p : Progress). Seen p l) (seen_later l) (visit v (r ∷ done) below)
      (λ p c. later (visit_adds v q _ (r ∷ done) below (walk_adds v q todo (r ∷ done)) p c))
      (children v.width (r ∷ done) node) p child (children_in v.width (r ∷ done) node sp.symbol sp.symbol_length)
      (λ p. tried p (λ p'. seen_below todo (r ∷ done) rows child p')))
    where
      sp : Split (length todo) v.width front
      sp = split (length todo) v.width front e

      child : Bits
      child = sp.symbol ++ node

      l : Bits
      l = sp.upper ++ child

      below : Bits → Progress → Progress
      below = walk_below v todo (r ∷ done)

      d : ℕ
      d = metric v.width (r ∷ done) child

      l_length : length l ≡ label_bits v
      l_length = ap length (sp.joined node) ∙ len

      low : d ≤ metric_of v l
      low = subst (λ (rows : List Row). d ≤ metric v.width rows l) rows (metric_below v.width todo (r ∷ done) sp.upper child sp.upper_length)

      tried : (p : Progress)
          → ((p' : Progress) → AtBottom todo child p' → (front : Bits) → length front ≡ length todo * v.width → length (front ++ child) ≡ label_bits v → Seen (below child p') (front ++ child))
          → Seen (visit v (r ∷ done) below p child) l
      tried p ih = go (passes_after v (leaves v p.walked) d child) refl
        where
          cut_here : passes_after v (leaves v p.walked) d child ≡ false → Cut v (leaves v p.walked) l × BelowOne (p.cut ++ child ∷ []) l
          cut_here f = (no_pass v (leaves v p.walked) d child sp.upper f l_length low, (child, Memᴰ.append_right p.cut (Memᴰ.head refl), (sp.upper, refl)))

          go : (b : Bool) → passes_after v (leaves v p.walked) d child ≡ b → Seen (cond b (below child (with_walked p child)) (with_cut p child)) l
          go true f = ih (with_walked p child) (entered todo child p) sp.upper sp.upper_length l_length
          go false f = inr (cut_here f)

  -- In a vector's walk each label is walked or cut
  seen : 0 < length v.rows → (l : Bits) → length l ≡ label_bits v → Seen (walk_whole v) l
  seen some-row l len =
      subst (Seen (walk_whole v)) (append-nil l)
      (seen_below (reverse v.rows) [] (reverse-reverse v.rows) [] start (root (reverse v.rows) (rw length-reverse some-row)) l
      (rw length-reverse len) (rw append-nil len))
    where
      start : Progress
      start = record { walked = []; cut = [] }

      root : (t : List Row) → 0 < length t → AtBottom t [] start
      root [] h = absurd (omega arith)
      root (r ∷ t) h = tt

  -- Walked and cut labels together are all labels
  pub walked_or_cut : 0 < length v.rows → (l : Bits) → length l ≡ label_bits v → (l ∈ leaves v (walk v)) ⊎ InCutSubtree v l
  walked_or_cut some-row l len = go (seen some-row l len)
    where
      go : Seen (walk_whole v) l → (l ∈ leaves v (walk v)) ⊎ InCutSubtree v l
      go (inl h) = inl h
      go (inr k) = inr (record { whole = len; child = k.1.0; cut = k.1.1; above = k.1.2.0; joined = k.1.2.1 })

  -- No label is both walked and cut
  pub not_both : (l : Bits) → l ∈ leaves v (walk v) → InCutSubtree v l → ⊥
  not_both l h c = cut_not_walked v q l c.child (leaves_of v (walk v) l h).0 c.cut (c.above, c.joined)

  -- Over any labels that take in the walked ones, label and soft values are those over the walked ones
  pub exact : 0 < length v.rows → (s : List Bits) → leaves v (walk v) ⊆ s → ((l : Bits) → l ∈ s → length l ≡ label_bits v)
      → report v v.clip s ≡ report v v.clip (leaves v (walk v))
  exact some-row s sub labels =
      exact_report v (leaves v (walk v)) s
      (record { best = best (seen some-row label (length-replicate (label_bits v) false)); within = sub; rest = λ l h. as_cut (seen some-row l (labels l h)) })
    where
      label : Bits
      label = replicate (label_bits v) false

      best : Seen (walk_whole v) label → pick v (leaves v (walk v)) ∈ leaves v (walk v)
      best (inl h) = pick_in v (leaves v (walk v)) h
      best (inr k) = k.0.some

      as_cut : {l : Bits} → Seen (walk_whole v) l → (l ∈ leaves v (walk v)) ⊎ Cut v (leaves v (walk v)) l
      as_cut (inl h) = inl h
      as_cut (inr k) = inr k.0

  -- Pruning is exact: over the walked labels and whichever labels of cut subtrees, label and soft values are those over the walked ones
  pub pruning_exact : 0 < length v.rows → (s : List Bits) → WalkedAndCut v s → report v v.clip s ≡ report v v.clip (leaves v (walk v))
  pruning_exact some-row s x = exact some-row s x.every (λ l h. is_label (x.only l h))
    where
      is_label : {l : Bits} → (l ∈ leaves v (walk v)) ⊎ InCutSubtree v l → length l ≡ label_bits v
      is_label {l} (inl k) = (leaves_of v (walk v) l k).1
      is_label {l} (inr k) = k.whole
