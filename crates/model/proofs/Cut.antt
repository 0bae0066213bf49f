-- What it means that a label was cut, that this lasts as more leaves are walked, and that cut labels change no answer: a cut label is
-- worse than the best leaf, and at or above the limit of each bit in which it differs from it. A new best leaf only lowers limits, and
-- where it flips a bit, that bit's U is at most the old B.
use Prim.Native.Nat.{ℕ, ◌+◌, ◌≤◌, ◌<◌}
use mathlib.Core.Path.{◌≡◌, refl, sym, ◌∙◌, ap, ap₂, subst}
use mathlib.Core.Bool.{Bool, true, false, not, cond, not-not, true≢false}
use mathlib.Core.Logic.{◌⊎◌, inl, inr}
use mathlib.Core.List.{List}
use native.Mathlib.Nat.{le_refl, le_trans, le_antisymm, lt_of_le_of_lt}
use native.Mathlib.Omega.{arith}
use lib.Dec.{T, le→leb}
use lib.IntN.{ℤ, pos, neg_ℤ, ◌+ℤ◌, ◌-ℤ◌}
use lib.Signed.{le_z}
use Rattle.model.specs.Constellation.{Bits, number}
use Rattle.model.specs.Metric.{Vector, metric_of, bit_at, prior_at, label_bits}
use Rattle.model.specs.Soft.{Least, infinite, finite, pick, least_with, soft_value, soft_at, report}
use Rattle.model.specs.Walk.{clip_limit, opposite}
use Rattle.model.specs.Block.{◌∈◌}
use Rattle.integers.proofs.Order.{le_z-add, le_z-trans}
use Rattle.model.proofs.Clip.{limit_high, limit_low, clip_high, clip_low}
use Rattle.model.proofs.Lists.{map-up_from}
use Rattle.model.proofs.Ranks.{rank_number, order_head, order_antisym}
use Rattle.model.proofs.Least.{AtMost, rank_of, Lex, pick_in, pick_least, least_le, least_in, Attained}

-- The members of one list are members of another
infix 40 ◌⊆◌
abbrev pub ◌⊆◌ : List Bits → List Bits → Type 0
s ⊆ t = (x : Bits) → x ∈ s → x ∈ t

-- The clip limit of bit i with m the best leaf
abbrev pub best_limit : Vector → Bits → ℕ → ℤ
best_limit v m i = clip_limit v (metric_of v m) m i

module _ (v : Vector) where
  -- l is at or above bit i's limit after the leaves ls
  abbrev pub Beyond : List Bits → ℕ → Bits → Type 0
  Beyond ls i l = AtMost (opposite v ls (pick v ls) i) (metric_of v l) ⊎ T (le_z (best_limit v (pick v ls) i) (pos (metric_of v l)))

  -- After the leaves ls, l can change no answer: it is worse than the best leaf, and at or above the limit of each bit that it has opposite to the best leaf's
  pub record Cut (ls : List Bits) (l : Bits) : Type 0 where
    pub some : pick v ls ∈ ls
    pub worse : metric_of v (pick v ls) < metric_of v l
    pub far : (i : ℕ) → i < label_bits v → bit_at i l ≡ not (bit_at i (pick v ls)) → Beyond ls i l

  same_or_not : (a b : Bool) → (a ≡ b) ⊎ (a ≡ not b)
  same_or_not true true = inl refl
  same_or_not true false = inr refl
  same_or_not false true = inr refl
  same_or_not false false = inl refl

  AtMost-trans : (u : Least) {d e : ℕ} → AtMost u d → d ≤ e → AtMost u e
  AtMost-trans infinite h k = absurd h
  AtMost-trans (finite u) h k = le_trans h k

  -- A longer list has no greater least metric
  least_mono : (i : ℕ) (x : Bool) (s t : List Bits) → s ⊆ t → (d : ℕ) → AtMost (least_with v i x s) d → AtMost (least_with v i x t) d
  least_mono i x s t sub d h = go (least_with v i x s) refl h
    where
      go : (u : Least) → least_with v i x s ≡ u → AtMost u d → AtMost (least_with v i x t) d
      go infinite e k = absurd k
      go (finite u) e k =
          let a : Attained v i x s u = least_in v i x s u e in
          AtMost-trans (least_with v i x t) (least_le v i x t a.label (sub _ a.member) a.bit) (subst (λ (n : ℕ). n ≤ d) (sym a.value) k)

  -- A better best leaf with the same bit has no higher clip limit
  limit_mono : (m m' : Bits) (i : ℕ) → metric_of v m' ≤ metric_of v m → bit_at i m' ≡ bit_at i m → T (le_z (best_limit v m' i) (best_limit v m i))
  limit_mono m m' i h e = go (bit_at i m) (bit_at i m') e
    where
      step : T (le_z (pos (metric_of v m' + v.clip)) (pos (metric_of v m + v.clip)))
      step = le→leb (metric_of v m' + v.clip) (metric_of v m + v.clip) (omega arith)

      go : (x y : Bool) → y ≡ x → T (le_z (cond y (pos (metric_of v m' + v.clip) -ℤ prior_at v i) (pos (metric_of v m' + v.clip) +ℤ prior_at v i)) (cond x (pos (metric_of v m + v.clip) -ℤ prior_at v i) (pos (metric_of v m + v.clip) +ℤ prior_at v i)))
      go true true f = subst T (sym (le_z-add (neg_ℤ (prior_at v i)) (pos (metric_of v m' + v.clip)) (pos (metric_of v m + v.clip)))) step
      go false false f = subst T (sym (le_z-add (prior_at v i) (pos (metric_of v m' + v.clip)) (pos (metric_of v m + v.clip)))) step
      go true false f = absurd (true≢false (sym f))
      go false true f = absurd (true≢false f)

  -- What is cut stays cut as more leaves are walked
  pub cut_mono : (s t : List Bits) → s ⊆ t → (l : Bits) → Cut s l → Cut t l
  cut_mono s t sub l c = record {
    some = pick_in v t best_in;
    worse = lt_of_le_of_lt lower c.worse;
    far = λ i h e. by_bit i h e (same_or_not (bit_at i (pick v t)) (bit_at i (pick v s)));
  }
    where
      best_in : pick v s ∈ t
      best_in = sub _ c.some

      lower : metric_of v (pick v t) ≤ metric_of v (pick v s)
      lower = order_head (pick_least v t best_in)

      by_bit : (i : ℕ) → i < label_bits v → bit_at i l ≡ not (bit_at i (pick v t)) → (bit_at i (pick v t) ≡ bit_at i (pick v s)) ⊎ (bit_at i (pick v t) ≡ not (bit_at i (pick v s))) → Beyond t i l
      by_bit i h e (inl same) = nearer (c.far i h (e ∙ ap not same))
        where
          nearer : Beyond s i l → Beyond t i l
          nearer (inl k) = inl (least_mono i _ s t sub _ (subst (λ (x : Bool). AtMost (least_with v i (not x) s) (metric_of v l)) (sym same) k))
          nearer (inr k) = inr (le_z-trans (best_limit v (pick v t) i) (best_limit v (pick v s) i) (pos (metric_of v l)) (limit_mono (pick v s) (pick v t) i lower same) k)
      by_bit i h e (inr other) = inl (AtMost-trans (least_with v i (not (bit_at i (pick v t))) t) (least_le v i _ t (pick v s) best_in (sym (not-not (bit_at i (pick v s))) ∙ ap not (sym other))) (omega (arith, c.worse)))

  -- The labels of s beyond those of w are cut after the leaves w
  pub record Covers (w s : List Bits) : Type 0 where
    pub best : pick v w ∈ w
    pub within : w ⊆ s
    pub rest : (l : Bits) → l ∈ s → (l ∈ w) ⊎ Cut w l

  module _ (w s : List Bits) (c : Covers w s) where
    best_le : (l : Bits) → (l ∈ w) ⊎ Cut w l → metric_of v (pick v w) ≤ metric_of v l
    best_le l (inl h) = order_head (pick_least v w h)
    best_le l (inr k) = omega (arith, k.worse)

    -- The same label is picked
    pub exact_label : number (pick v s) ≡ number (pick v w)
    exact_label = go (c.rest _ (pick_in v s (c.within _ c.best)))
      where
        back : Lex v (pick v s) (pick v w)
        back = pick_least v s (c.within _ c.best)

        go : (pick v s ∈ w) ⊎ Cut w (pick v s) → number (pick v s) ≡ number (pick v w)
        go (inl h) = rank_number v.width v.rows (pick v s) (pick v w) (order_antisym (rank_of v (pick v s)) (rank_of v (pick v w)) back (pick_least v w h))
        go (inr k) = let b : metric_of v (pick v s) ≤ metric_of v (pick v w) = order_head back in omega (arith, k.worse)

    -- A least metric at which the value is at the clip
    Far : ℕ → Least → Type 0
    Far i infinite = Unit {0}
    Far i (finite a) = T (le_z (best_limit v (pick v w) i) (pos a))

    side_best : (i : ℕ) (t : List Bits) → pick v w ∈ t → ((l : Bits) → l ∈ t → metric_of v (pick v w) ≤ metric_of v l) → least_with v i (bit_at i (pick v w)) t ≡ finite (metric_of v (pick v w))
    side_best i t h k = go (least_with v i (bit_at i (pick v w)) t) refl (least_le v i _ t (pick v w) h refl)
      where
        go : (u : Least) → least_with v i (bit_at i (pick v w)) t ≡ u → AtMost u (metric_of v (pick v w)) → u ≡ finite (metric_of v (pick v w))
        go infinite e a = absurd a
        go (finite u) e a =
            let f : Attained v i (bit_at i (pick v w)) t u = least_in v i _ t u e in
            ap finite (le_antisymm a (subst (λ (n : ℕ). metric_of v (pick v w) ≤ n) f.value (k _ f.member)))

    side_other : (i : ℕ) → i < label_bits v → (U₁ U₂ : Least) → least_with v i (not (bit_at i (pick v w))) s ≡ U₁ → least_with v i (not (bit_at i (pick v w))) w ≡ U₂ → (U₁ ≡ U₂) ⊎ (Far i U₁ × Far i U₂)
    unfolding Far
    side_other i h infinite infinite e f = inl refl
    side_other i h infinite (finite b) e f =
        absurd (subst (λ (u : Least). AtMost u b) e (least_mono i _ w s c.within b (subst (λ (u : Least). AtMost u b) (sym f) (le_refl b))))
    side_other i h (finite a) U₂ e f = go (c.rest at.label at.member)
      where
        x : Bool
        x = not (bit_at i (pick v w))

        at : Attained v i x s a
        at = least_in v i x s a e

        as_low : (U : Least) → least_with v i x w ≡ U → AtMost U a → finite a ≡ U
        as_low infinite g k = absurd k
        as_low (finite b) g k = ap finite (le_antisymm (subst (λ (u : Least). AtMost u b) e (least_mono i x w s c.within b (subst (λ (u : Least). AtMost u b) (sym g) (le_refl b)))) k)

        as_far : (U : Least) → least_with v i x w ≡ U → T (le_z (best_limit v (pick v w) i) (pos a)) → Far i U
        as_far infinite g k = tt
        as_far (finite b) g k = le_z-trans (best_limit v (pick v w) i) (pos a) (pos b) k (le→leb a b (subst (λ (u : Least). AtMost u b) e (least_mono i x w s c.within b (subst (λ (u : Least). AtMost u b) (sym g) (le_refl b)))))

        near : AtMost (least_with v i x w) (metric_of v at.label) → finite a ≡ U₂
        near k = as_low U₂ f (subst (λ (u : Least). AtMost u a) f (subst (AtMost (least_with v i x w)) at.value k))

        beyond : Beyond w i at.label → (finite a ≡ U₂) ⊎ (T (le_z (best_limit v (pick v w) i) (pos a)) × Far i U₂)
        beyond (inl k) = inl (near k)
        beyond (inr k) = let k' : T (le_z (best_limit v (pick v w) i) (pos a)) = subst (λ (n : ℕ). T (le_z (best_limit v (pick v w) i) (pos n))) at.value k in inr (k', as_far U₂ f k')

        go : (at.label ∈ w) ⊎ Cut w at.label → (finite a ≡ U₂) ⊎ (T (le_z (best_limit v (pick v w) i) (pos a)) × Far i U₂)
        go (inl k) = inl (near (least_le v i x w at.label k at.bit))
        go (inr k) = beyond (k.far i h at.bit)

    -- Beyond m's limit the value is at the clip
    value_low : (i : ℕ) → bit_at i (pick v w) ≡ true → (U : Least) → Far i U → soft_value v.clip v.clip (prior_at v i) (finite (metric_of v (pick v w))) U ≡ neg_ℤ (pos v.clip)
    unfolding Far
    value_low i e infinite k = refl
    value_low i e (finite a) k = clip_low v.clip (pos (metric_of v (pick v w)) -ℤ pos a -ℤ prior_at v i) (limit_low (metric_of v (pick v w)) v.clip a (prior_at v i) (rw e at k))

    value_high : (i : ℕ) → bit_at i (pick v w) ≡ false → (U : Least) → Far i U → soft_value v.clip v.clip (prior_at v i) U (finite (metric_of v (pick v w))) ≡ pos v.clip
    unfolding Far
    value_high i e infinite k = refl
    value_high i e (finite a) k = clip_high v.clip (pos a -ℤ pos (metric_of v (pick v w)) -ℤ prior_at v i) (limit_high (metric_of v (pick v w)) v.clip a (prior_at v i) (rw e at k))

    -- The same soft value
    pub exact_soft : (i : ℕ) → i < label_bits v → soft_at v v.clip s i ≡ soft_at v v.clip w i
    exact_soft i h = go (bit_at i (pick v w)) refl
      where
        over_s : least_with v i (bit_at i (pick v w)) s ≡ finite (metric_of v (pick v w))
        over_s = side_best i s (c.within _ c.best) (λ l k. best_le l (c.rest l k))

        over_w : least_with v i (bit_at i (pick v w)) w ≡ finite (metric_of v (pick v w))
        over_w = side_best i w c.best (λ l k. best_le l (inl k))

        go : (x : Bool) → bit_at i (pick v w) ≡ x → soft_at v v.clip s i ≡ soft_at v v.clip w i
        go true e = last (side_other i h (least_with v i false s) (least_with v i false w) (ap (λ (x : Bool). least_with v i (not x) s) e) (ap (λ (x : Bool). least_with v i (not x) w) e))
          where
            s₁ : least_with v i true s ≡ finite (metric_of v (pick v w))
            s₁ = rw e at over_s

            w₁ : least_with v i true w ≡ finite (metric_of v (pick v w))
            w₁ = rw e at over_w

            last : (least_with v i false s ≡ least_with v i false w) ⊎ (Far i (least_with v i false s) × Far i (least_with v i false w)) → soft_at v v.clip s i ≡ soft_at v v.clip w i
            last (inl f) = ap₂ (soft_value v.clip v.clip (prior_at v i)) (s₁ ∙ sym w₁) f
            last (inr k) = rw (s₁, w₁) (value_low i e _ k.0 ∙ sym (value_low i e _ k.1))
        go false e = last (side_other i h (least_with v i true s) (least_with v i true w) (ap (λ (x : Bool). least_with v i (not x) s) e) (ap (λ (x : Bool). least_with v i (not x) w) e))
          where
            s₀ : least_with v i false s ≡ finite (metric_of v (pick v w))
            s₀ = rw e at over_s

            w₀ : least_with v i false w ≡ finite (metric_of v (pick v w))
            w₀ = rw e at over_w

            last : (least_with v i true s ≡ least_with v i true w) ⊎ (Far i (least_with v i true s) × Far i (least_with v i true w)) → soft_at v v.clip s i ≡ soft_at v v.clip w i
            last (inl f) = ap₂ (soft_value v.clip v.clip (prior_at v i)) f (s₀ ∙ sym w₀)
            last (inr k) = rw (s₀, w₀) (value_high i e _ k.0 ∙ sym (value_high i e _ k.1))

    -- The whole report
    pub exact_report : report v v.clip s ≡ report v v.clip w
    exact_report = λ j. record { label = exact_label j; soft = map-up_from (soft_at v v.clip s) (soft_at v v.clip w) 0 (label_bits v) (λ i h. exact_soft i (omega arith)) j }
