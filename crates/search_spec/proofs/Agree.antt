-- What the program keeps agrees with what the model's search keeps: the same count and mark, the label as a number, least metrics with
-- the sentinel decoded. Then the pass tests are one, and they still agree after a node is counted and after a leaf is taken.
use Prim.Native.Nat.{ℕ, suc, ◌+◌, ◌-◌, ◌/◌, ◌%◌, ◌^◌, ◌≤◌, ◌<◌, min}
use mathlib.Core.Path.{◌≡◌, refl, sym, ◌∙◌, ap, ap₂, subst}
use mathlib.Core.Bool.{Bool, true, false, not, cond, ◌&&◌, ◌||◌, beq}
use mathlib.Core.List.{List, [], ◌∷◌, map}
use native.Mathlib.Decide.{dec_lt}
use native.Mathlib.Omega.{arith}
use lib.Dec.{leb, ltb, eqb}
use borrow.Author.Tests.{ltb-true, ltb-false, leb-true, leb-false, eqb-true, lt-ltb, le-leb, eq-eqb, ne_eqb}
use lib.ListN.{length, get_or, replicate, get_or-replicate, length-replicate}
use lib.IntN.{ℤ, pos, negsuc}
use lib.Signed.{lt_z}
use Rattle.model.specs.Constellation.{Bits, number, bits_of}
use Rattle.model.specs.Metric.{Vector, metric_of, cost_of, label_bits, bit_at, prior_at}
use Rattle.model.specs.Order.{earlier, is_before}
use Rattle.model.specs.Soft.{Least, infinite, finite, lesser, has_bit, places}
use Rattle.model.specs.Walk.{clip_limit, smaller, limit, is_open, passes}
use Rattle.model.specs.Search.{Search, start, opposite_of, admits, best_after, updated, enter, stop}
use Rattle.model.proofs.Lists.{any-up_from, get_or-places}
use Rattle.model.proofs.Numbers.{bit_of_number, bits_of-number}
use Rattle.model.proofs.Ranks.{order_head, earlier_true, earlier_false, cons_first}
use Rattle.search_spec.specs.Program.{above, side_of, Taken, Kept, taken_of, kept_of, fresh}
use Rattle.metric.specs.Parts.{bit_of}
use Rattle.search_spec.specs.Program.{opens, reach_of, reaches, lets, passing, lowered_at, lowered, cost_at, sooner, noted}
use Rattle.metric.proofs.Filled.{filled_at, filled_length}

-- d is below a least metric
abbrev pub below_least : ℕ → Least → Bool
below_least d infinite = true
below_least d (finite u) = ltb d u

-- Below the smaller of two is below both
pub below_smaller : (d : ℕ) (u : Least) (z : ℤ) → lt_z (pos d) (smaller u z) ≡ (below_least d u && lt_z (pos d) z)
below_smaller d infinite z = refl
below_smaller d (finite u) (negsuc n) = shut (ltb d u)
  where
    shut : (b : Bool) → false ≡ (b && false)
    shut true = refl
    shut false = refl
below_smaller d (finite u) (pos n) = go (leb u n) (ltb d u) (ltb d n) refl refl refl
  where
    go : (a b c : Bool) → leb u n ≡ a → ltb d u ≡ b → ltb d n ≡ c → lt_z (pos d) (cond a (pos u) (pos n)) ≡ (b && c)
    go true true true e f g = f
    go true true false e f g = absurd (omega (arith, leb-true u n e, ltb-true d u f, ltb-false d n g))
    go true false c e f g = f
    go false true c e f g = g
    go false false true e f g = absurd (omega (arith, leb-false u n e, ltb-false d u f, ltb-true d n g))
    go false false false e f g = g

-- The sentinel decoded: what holds of it as infinite, and of each number as finite, holds of every kept number
pub side_ind : (P : ℕ → Least → Type 0) → P above infinite → ((u : ℕ) → P u (finite u)) → (u : ℕ) → P u (side_of u)
unfolding side_of
side_ind P none some u = go (eqb u above) refl
  where
    go : (b : Bool) → eqb u above ≡ b → P u (cond b infinite (finite u))
    go true e = subst (λ (w : ℕ). P w infinite) (sym (eqb-true u above e)) none
    go false e = some u

-- What is not the sentinel is itself
pub side_finite : (u : ℕ) → (u ≡ above → ⊥) → side_of u ≡ finite u
side_finite = side_ind (λ u l. (u ≡ above → ⊥) → l ≡ finite u) (λ h. absurd (h refl)) (λ u h. refl)

side_below : (d u : ℕ) → d < above → ltb d u ≡ below_least d (side_of u)
side_below d u h = side_ind (λ w l. ltb d w ≡ below_least d l) (lt-ltb d above h) (λ w. refl) u

side_lesser : (d u : ℕ) → d < above → side_of (min d u) ≡ lesser d (side_of u)
side_lesser d u h =
    side_finite (min d u) (λ e. omega arith) ∙ side_ind (λ w l. finite (min d w) ≡ lesser d l) (ap finite (omega arith)) (λ w. refl) u

-- The smaller metric is that of the label that comes before
pub sooner_min : (v : Vector) (d node best label : ℕ) (t : Bool) → sooner v d node best label ≡ t → min d best ≡ cond t d best
sooner_min v d node best label true e = let h : d ≤ best = order_head (earlier_true _ _ e) in omega arith
sooner_min v d node best label false e = let h : best ≤ d = order_head (earlier_false _ _ refl e) in omega arith

-- The order by the prior costs that are kept: before the first leaf none is looked at
pub sooner_kept : (v : Vector) (d c node best cost label : ℕ) → d < above → c ≡ cost_at v node → (best < above → cost ≡ cost_at v label)
    → earlier (d ∷ c ∷ node ∷ []) (best ∷ cost ∷ label ∷ []) ≡ sooner v d node best label
sooner_kept v d c node best cost label low own kept = go (dec_lt best above)
  where
    go : Dec (best < above) → earlier (d ∷ c ∷ node ∷ []) (best ∷ cost ∷ label ∷ []) ≡ sooner v d node best label
    go (yes h) = ap₂ (λ (x y : ℕ). earlier (d ∷ x ∷ node ∷ []) (best ∷ y ∷ label ∷ [])) own (kept h)
    go (no h) = cons_first d best _ _ (omega arith) ∙ sym (cons_first d best _ _ (omega arith))

-- A bit of a label's number
pub bit_is : (n : ℕ) (l : Bits) (i : ℕ) → length l ≡ n → i < n → bit_of n (number l) i ≡ bit_at i l
unfolding bit_of
bit_is n l i e h = ap (λ (k : ℕ). eqb k 1) digit ∙ one (bit_at i l)
  where
    digit : number l / 2 ^ (n - suc i) % 2 ≡ cond (bit_at i l) 1 0
    digit = rw (← e) (bit_of_number l i (omega arith))

    one : (b : Bool) → eqb (cond b 1 0) 1 ≡ b
    one true = refl
    one false = refl

-- A label's prior cost by its number
pub cost_is : (v : Vector) (l : Bits) → length l ≡ label_bits v → cost_at v (number l) ≡ cost_of v l
cost_is v l e = ap (cost_of v) (ap (λ (n : ℕ). bits_of n (number l)) (sym e) ∙ bits_of-number l)

-- A bit of a node's number, by its place in the label, of which the first `free` bits are not chosen
pub node_bit : (n free : ℕ) (l : Bits) (i : ℕ) → length l + free ≡ n → free ≤ i → i < n → bit_of n (number l) i ≡ bit_at (i - free) l
unfolding bit_of
node_bit n free l i e f h =
    let place : n - suc i ≡ length l - suc (i - free) = omega arith in
    ap (λ (k : ℕ). eqb (number l / 2 ^ k % 2) 1) place ∙ bit_is (length l) l (i - free) refl (omega arith)

module _ (v : Vector) where
  -- m is a label and B its metric, once there is a leaf
  abbrev pub Best : Least → Bits → Type 0
  Best infinite m = Unit {0}
  Best (finite b) m = (length m ≡ label_bits v) × (metric_of v m ≡ b)

  -- The least metrics of all bits, with the sentinel and without
  pub record Sides (us : List ℕ) (ls : List Least) : Type 0 where
    pub wide : label_bits v ≤ length us
    pub each : (i : ℕ) → i < label_bits v → side_of (get_or us i 0) ≡ get_or ls i infinite

  -- What the program keeps is what the model's search keeps
  pub record Agrees (s : Search) (k : Kept) : Type 0 where
    pub count : k.count ≡ s.count
    pub stopped : k.stopped ≡ s.stopped
    pub label : k.taken.label ≡ number s.best
    pub least : side_of k.taken.best ≡ s.least
    pub best : Best s.least s.best
    pub zeros : Sides k.taken.zeros s.zeros
    pub ones : Sides k.taken.ones s.ones

  module _ {s : Search} {k : Kept} (g : Agrees s k) where
    -- The pass test of a child of which `free` bits are not chosen
    module _ (d free : ℕ) (child : Bits) (low : d < above) (size : length child + free ≡ label_bits v) where
      module _ (b : ℕ) (some : Best (finite b) s.best) (i : ℕ) (h : i < label_bits v) where
        the_bit : bit_of (label_bits v) k.taken.label i ≡ bit_at i s.best
        the_bit = ap (λ (l : ℕ). bit_of (label_bits v) l i) g.label ∙ bit_is (label_bits v) s.best i some.0 h

        side : (x : Bool)
            → ltb d (get_or (cond x k.taken.zeros k.taken.ones) i 0) ≡ below_least d (get_or (cond x s.zeros s.ones) i infinite)
        side true = side_below d (get_or k.taken.zeros i 0) low ∙ ap (below_least d) (g.zeros.each i h)
        side false = side_below d (get_or k.taken.ones i 0) low ∙ ap (below_least d) (g.ones.each i h)

        reaches_is : reaches v (taken_of k.taken.label b k.taken.zeros k.taken.ones) d i
            ≡ lt_z (pos d) (limit v b s.best (opposite_of s i) i)
        unfolding reaches reach_of
        reaches_is =
            ap (λ (x : Bool). ltb d (get_or (cond x k.taken.zeros k.taken.ones) i 0) && lt_z (pos d) (far x)) the_bit
            ∙ ap (λ (x : Bool). x && lt_z (pos d) (clip_limit v b s.best i)) (side (bit_at i s.best))
            ∙ sym (below_smaller d (opposite_of s i) (clip_limit v b s.best i))
          where
            far : Bool → ℤ
            far x = reach_of x (b + v.clip) (prior_at v i)

        opens_is : opens (label_bits v) k.taken.label free (number child) i ≡ is_open v s.best child i
        unfolding opens
        opens_is =
            ap (λ (x : Bool). ltb i free || not (beq (bit_of (label_bits v) (number child) i) x)) the_bit
            ∙ chosen_bit (ltb i free) refl
            ∙ ap (λ (f : ℕ). ltb i f || not (beq (bit_at (i - f) child) (bit_at i s.best))) (omega arith)
          where
            against : Bool → Bool
            against x = not (beq x (bit_at i s.best))

            chosen_bit : (t : Bool) → ltb i free ≡ t
                → (t || against (bit_of (label_bits v) (number child) i)) ≡ (t || against (bit_at (i - free) child))
            chosen_bit true e = refl
            chosen_bit false e = ap against (node_bit (label_bits v) free child i size (ltb-false i free e) h)

      -- is the model's
      pub passing_is : passing v k.taken d free (number child) ≡ admits v s d child
      unfolding passing passes lets
      passing_is = subst (Same-test k.taken.best) g.least (side_ind Same-test none some k.taken.best) g.best
        where
          with_best : ℕ → Taken
          with_best w = taken_of k.taken.label w k.taken.zeros k.taken.ones

          Same-test : ℕ → Least → Type 0
          Same-test w l = Best l s.best → passing v (with_best w) d free (number child) ≡ passes v l s.best (opposite_of s) d child

          none : Same-test above infinite
          none h = rw (le-leb d above (omega arith))

          some : (b : ℕ) → Same-test b (finite b)
          some b f =
              ap (λ (x : Bool). leb d b || x)
              (any-up_from _ _ 0 (label_bits v) (λ i h. ap₂ ◌&&◌ (opens_is b f i (omega arith)) (reaches_is b f i (omega arith))))

    -- A node that is no leaf is counted
    pub entered : (child : Bits) → (length child ≡ label_bits v → ⊥)
        → Agrees (enter v s child) (kept_of (k.count + 1) k.stopped k.taken)
    unfolding enter
    entered child h = rw (ne_eqb (length child) (label_bits v) h) (record {
      count = omega (arith, g.count);
      stopped = g.stopped;
      label = g.label;
      least = g.least;
      best = g.best;
      zeros = g.zeros;
      ones = g.ones;
    })

    -- A leaf, of number c and metric d
    module _ (child : Bits) (leaf : length child ≡ label_bits v) (low : metric_of v child < above) where
      abbrev c : ℕ
      c = number child

      abbrev d : ℕ
      d = metric_of v child

      lowered_is : (x : Bool) (us : List ℕ) (ls : List Least) → Sides us ls → Sides (lowered (label_bits v) x c d us) (updated v x ls child)
      unfolding lowered_at
      lowered_is x us ls e = record {
        wide = omega (arith, e.wide, filled_length (lowered_at (label_bits v) x c d us) (label_bits v) us);
        each = λ i h. ap side_of (filled_at (lowered_at (label_bits v) x c d us) (label_bits v) us i 0 h e.wide
            ∙ ap (λ (b : Bool). cond (beq b x) (min d (get_or us i 0)) (get_or us i 0)) (bit_is (label_bits v) child i leaf h))
            ∙ lesser_side (has_bit i x child) (get_or us i 0)
            ∙ ap (after i) (e.each i h)
            ∙ sym (get_or-places (λ j. after j (get_or ls j infinite)) infinite (label_bits v) i h);
      }
        where
          after : ℕ → Least → Least
          after i u = cond (has_bit i x child) (lesser (metric_of v child) u) u

          lesser_side : (b : Bool) (u : ℕ)
              → side_of (cond b (min (metric_of v child) u) u) ≡ cond b (lesser (metric_of v child) (side_of u)) (side_of u)
          lesser_side true u = side_lesser (metric_of v child) u low
          lesser_side false u = refl

      -- The leaf comes before m, where B is w
      first : ℕ → Bool
      first w = sooner v d c w k.taken.label

      -- m and B after it, from B before it
      record Chosen (w : ℕ) (l : Least) : Type 0 where
        label : cond (first w) c k.taken.label ≡ number (best_after v l s.best child)
        best : Best (lesser d l) (best_after v l s.best child)

      chosen_none : Chosen above infinite
      unfolding first
      chosen_none = record { label = rw (cons_first d above (cost_at v c ∷ c ∷ []) (cost_at v k.taken.label ∷ k.taken.label ∷ []) low); best = (leaf, refl) }

      chosen_some : (b : ℕ) → Best (finite b) s.best → Chosen b (finite b)
      unfolding first
      chosen_some b f = go (first b) refl
        where
          other : cost_of v s.best ≡ cost_at v k.taken.label
          other = sym (ap (cost_at v) g.label ∙ cost_is v s.best f.0)

          test : is_before v.width v.rows child s.best ≡ first b
          test = λ j. earlier (d ∷ sym (cost_is v child leaf) j ∷ c ∷ []) (f.1 j ∷ other j ∷ sym g.label j ∷ [])

          go : (t : Bool) → first b ≡ t → Chosen b (finite b)
          go true e =
              let same : min d b ≡ d = sooner_min v d c b k.taken.label true e in
              record { label = rw (e, test ∙ e); best = rw (test ∙ e) (leaf, sym same) }
          go false e =
              let same : min d b ≡ b = sooner_min v d c b k.taken.label false e in
              record { label = rw (e, test ∙ e) g.label; best = rw (test ∙ e) (f.0, f.1 ∙ sym same) }

      chosen_is : Chosen k.taken.best s.least
      chosen_is =
          subst (λ (l : Least). Best l s.best → Chosen k.taken.best l) g.least
          (side_ind (λ w l. Best l s.best → Chosen w l) (λ none. chosen_none) chosen_some k.taken.best) g.best

      -- It is counted and taken
      pub noted_is : Agrees (enter v s child) (kept_of (k.count + 1) k.stopped (noted v (number child) (metric_of v child) k.taken))
      unfolding enter noted first
      noted_is = rw (eq-eqb (length child) (label_bits v) leaf) (record {
        count = omega (arith, g.count);
        stopped = g.stopped;
        label = chosen_is.label;
        least = side_lesser d k.taken.best low ∙ ap (lesser d) g.least;
        best = chosen_is.best;
        zeros = lowered_is false k.taken.zeros s.zeros g.zeros;
        ones = lowered_is true k.taken.ones s.ones g.ones;
      })

    -- The search stops
    pub stopped_is : Agrees (stop s) (kept_of k.count true k.taken)
    stopped_is = record {
      count = g.count;
      stopped = refl;
      label = g.label;
      least = g.least;
      best = g.best;
      zeros = g.zeros;
      ones = g.ones;
    }

  -- Before the first node
  pub fresh_is : (room : ℕ) → label_bits v ≤ room → Agrees (start v) (fresh room)
  unfolding start number side_of
  fresh_is room h = record { count = refl; stopped = refl; label = refl; least = refl; best = tt; zeros = none; ones = none }
    where
      none : Sides (replicate room above) (map (λ j. infinite) (places v))
      none = record {
        wide = omega (arith, length-replicate room above);
        each = λ i k. ap side_of (get_or-replicate room i above 0 (omega arith))
            ∙ sym (get_or-places (λ j. infinite) infinite (label_bits v) i k);
      }
