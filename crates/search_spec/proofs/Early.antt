-- Siblings may end early. A bit that is open at a child is open at its parent, and raising a partial metric lets nothing pass that did not;
-- so where the parent would not pass at the least key left, none of the children that are left does. And a node whose children all fail
-- the test may be left before the first of them.
use Prim.Native.Nat.{ℕ, zero, suc, ◌+◌, ◌-◌, ◌*◌, ◌^◌, ◌≤◌, ◌<◌}
use mathlib.Core.Path.{◌≡◌, refl, sym, ◌∙◌, ap, ap₂}
use mathlib.Core.Bool.{Bool, true, false, cond, not, ◌&&◌, ◌||◌, true≢false, beq}
use mathlib.Core.List.{List}
use native.Mathlib.Decide.{dec_lt}
use native.Mathlib.Nat.{add-mul, le_of_eq}
use native.Mathlib.Omega.{arith}
use lib.Dec.{leb, ltb}
use borrow.Author.Tests.{ltb-true, leb-false, lt-ltb, le-ltb, lt-leb}
use lib.ListN.{length, get_or, set}
use lib.IntN.{ℤ, pos, negsuc}
use lib.Signed.{lt_z}
use lib.Pow.{pow_pos}
use Rattle.model.specs.Metric.{Vector, label_bits, prior_at}
use Rattle.model.specs.Soft.{up_from}
use Rattle.model.specs.Walk.{any_of}
use Rattle.model.proofs.Lists.{or_left, or_right, any_false, in-up_from, get_or-places}
use Rattle.metric.specs.Parts.{bit_of}
use Rattle.search_spec.specs.Arrays.{least_first}
use Rattle.metric.specs.Keys.{cost_room, metric_in}
use Rattle.search_spec.specs.Program.{above, tried, Taken, Kept, opens, reach_of, reaches, lets, passing}
use Rattle.search_spec.specs.Program.{chosen, partial_of, symbol_cost, key_of, keys_of, child_in, siblings, test_of, below, rest_of}
use Rattle.search_spec.proofs.Arrays.{least_below, least_le, set_each}
use Rattle.metric.proofs.Keys.{key_metric, metric_rises}
use Rattle.search_spec.proofs.Keys.{key_low}
use Rattle.search_spec.proofs.Reach.{child_bit}

-- Where a test holds, a weaker one does
and_rises : (a b c d : Bool) → (c ≡ true → a ≡ true) → (d ≡ true → b ≡ true) → (c && d) ≡ true → (a && b) ≡ true
and_rises a b true true f g e = ap₂ ◌&&◌ (f refl) (g refl)
and_rises a b true false f g e = absurd (true≢false (sym e))
and_rises a b false d f g e = absurd (true≢false (sym e))

-- and where that fails, so does the first
falls : (a c : Bool) → (c ≡ true → a ≡ true) → a ≡ false → c ≡ false
falls a true f e = sym (f refl) ∙ e
falls a false f e = refl

lt_z-falls : (d e : ℕ) (z : ℤ) → d ≤ e → lt_z (pos e) z ≡ true → lt_z (pos d) z ≡ true
lt_z-falls d e (pos n) h k = lt-ltb d n (omega (arith, ltb-true e n k))
lt_z-falls d e (negsuc n) h k = absurd (true≢false (sym k))

none-up_from : (f : ℕ → Bool) (a n : ℕ) → ((i : ℕ) → a ≤ i → i < a + n → f i ≡ false) → any_of f (up_from a n) ≡ false
unfolding up_from
none-up_from f a zero h = refl
none-up_from f a (suc n) h = ap₂ ◌||◌ (h a (omega arith) (omega arith)) (none-up_from f (suc a) n (λ i k l. h i (omega arith) (omega arith)))

-- A bit that is open at a child is open at its parent
opens_child : (n label c s node free outer i : ℕ) → node < 2 ^ c → n ≡ outer + c → free ≤ outer → i < n
    → opens n label free (s * 2 ^ c + node) i ≡ true → opens n label outer node i ≡ true
unfolding opens
opens_child n label c s node free outer i placed en h inside e = go (dec_lt i outer)
  where
    go : Dec (i < outer) → (ltb i outer || not (beq (bit_of n node i) (bit_of n label i))) ≡ true
    go (yes l) = rw (lt-ltb i outer l)
    go (no l) =
        let shut : ltb i free ≡ false = le-ltb i free (omega arith) in
        rw (le-ltb i outer (omega arith), ← child_bit n c s node i placed (omega arith)) (rw shut at e)

module _ (v : Vector) (t : Taken) where
  reaches_rises : (d e i : ℕ) → d ≤ e → reaches v t e i ≡ true → reaches v t d i ≡ true
  unfolding reaches
  reaches_rises d e i h =
      let b = bit_of (label_bits v) t.label i in
      and_rises _ _ _ _ (lt_z-falls d e (pos (get_or (cond b t.zeros t.ones) i 0)) h)
      (lt_z-falls d e (reach_of b (t.best + v.clip) (prior_at v i)) h)

  -- Where a node does not pass at d, none with no other bits open does at d or more
  pub passing_falls : (d e outer node free child : ℕ) → d ≤ e
      → ((i : ℕ) → i < label_bits v → opens (label_bits v) t.label free child i ≡ true → opens (label_bits v) t.label outer node i ≡ true)
      → passing v t d outer node ≡ false → passing v t e free child ≡ false
  unfolding passing lets
  passing_falls d e outer node free child h narrow fails =
      ap₂ ◌||◌ (lt-leb e t.best (omega (arith, leb-false d t.best (or_left _ _ fails)))) (none-up_from _ 0 (label_bits v) shut)
    where
      shut : (i : ℕ) → 0 ≤ i → i < 0 + label_bits v → (opens (label_bits v) t.label free child i && reaches v t e i) ≡ false
      shut i k l =
          falls (opens (label_bits v) t.label outer node i && reaches v t d i) _
          (and_rises _ _ _ _ (narrow i (omega arith)) (reaches_rises d e i h))
          (any_false (λ j. opens (label_bits v) t.label outer node j && reaches v t d j) (up_from 0 (label_bits v)) i
          (or_right (leb d t.best) _ fails) (in-up_from 0 (label_bits v) i k l))

-- Where each child is cut at its floor or more, nothing changes
module _ (test : ℕ → ℕ → Taken → Bool) (sub : ℕ → ℕ → Kept → Kept) (n allowance : ℕ) (floor : ℕ → ℕ) (k : Kept) (some : 0 < n)
    (low : (s : ℕ) → s < n → floor s ≤ tried) (cut : (s e : ℕ) → s < n → floor s ≤ e → test s e k.taken ≡ false) where
  siblings_end : (fuel : ℕ) (keys : List ℕ) → ((i : ℕ) → i < n → floor i ≤ get_or keys i 0) → siblings test sub n allowance fuel keys k ≡ k
  unfolding siblings
  siblings_end zero keys all = refl
  siblings_end (suc fuel) keys all =
      let s = least_first keys n in
      let inside = least_below keys n some in
      rw (cut s (get_or keys s 0) inside (all s inside))
      (siblings_end fuel (set keys s tried) (λ i l. set_each (λ (x : ℕ). floor i ≤ x) keys s tried i (low i l) (all i l)))

-- The loop over siblings may end where the node itself would not pass at the least key left
pub rest_beyond : (v : Vector) (allowance node level fuel : ℕ) (keys : List ℕ) (k : Kept) → suc level ≤ length v.rows
    → node < 2 ^ chosen v (suc level)
    → get_or keys (least_first keys (2 ^ v.width)) 0 ≤ tried
    → false ≡ passing v k.taken (metric_in (get_or keys (least_first keys (2 ^ v.width)) 0)) (suc level * v.width) node
    → rest_of v allowance level node fuel keys k ≡ k
unfolding rest_of chosen
rest_beyond v allowance node level fuel keys k inside placed low far =
    siblings_end (test_of v level node) (λ x key. below v allowance level (child_in v level node x) (metric_in key)) (2 ^ v.width) allowance (λ _. d) k
    (pow_pos v.width) (λ _ _. low) cut fuel keys (least_le keys (2 ^ v.width))
  where
    d : ℕ
    d = get_or keys (least_first keys (2 ^ v.width)) 0

    bits : label_bits v ≡ suc level * v.width + (length v.rows - suc level) * v.width
    bits =
        let e : length v.rows ≡ suc level + (length v.rows - suc level) = omega arith in
        ap (λ (m : ℕ). m * v.width) e ∙ add-mul (suc level) (length v.rows - suc level) v.width

    cut : (s e : ℕ) → s < 2 ^ v.width → d ≤ e → test_of v level node s e k.taken ≡ false
    cut s e l h =
        passing_falls v k.taken (metric_in d) (metric_in e) (suc level * v.width) node (level * v.width) (child_in v level node s)
        (metric_rises d e h)
        (λ i l. opens_child (label_bits v) k.taken.label ((length v.rows - suc level) * v.width) s node (level * v.width)
        (suc level * v.width) i placed bits (omega (arith, add-mul level 1 v.width)) l) (sym far)

-- A node whose children all fail the test is left as it was found
pub below_shut : (v : Vector) (allowance level node d : ℕ) (k : Kept)
    → ((s : ℕ) → s < 2 ^ v.width → (partial_of v level node d s < above) × (symbol_cost v level s < cost_room))
    → ((s : ℕ) → s < 2 ^ v.width → passing v k.taken (partial_of v level node d s) (level * v.width) (child_in v level node s) ≡ false)
    → below v allowance (suc level) node d k ≡ k
unfolding below
below_shut v allowance level node d k low shut =
    siblings_end (test_of v level node) (λ x key. below v allowance level (child_in v level node x) (metric_in key)) (2 ^ v.width) allowance
    (key_of v level node d) k (pow_pos v.width) inside cut (2 ^ v.width) (keys_of v level node d)
    (λ i l. le_of_eq (sym (get_or-places (key_of v level node d) 0 (2 ^ v.width) i l)))
  where
    inside : (s : ℕ) → s < 2 ^ v.width → key_of v level node d s ≤ tried
    inside s l = omega (arith, key_low (partial_of v level node d s) (symbol_cost v level s) (low s l).0 (low s l).1)

    cut : (s e : ℕ) → s < 2 ^ v.width → key_of v level node d s ≤ e → test_of v level node s e k.taken ≡ false
    cut s e l h =
        passing_falls v k.taken (partial_of v level node d s) (metric_in e) (level * v.width) (child_in v level node s) (level * v.width)
        (child_in v level node s)
        (rw (key_metric (partial_of v level node d s) (symbol_cost v level s) (low s l).1) at (metric_rises (key_of v level node d s) e h))
        (λ i m o. o) (shut s l)
