-- The recursion and the loop over siblings, by their turns: what is left to do below a node is one turn and what is left after it. The
-- keys may stand in any array that has room for them.
use Prim.Native.Nat.{ℕ, zero, suc, ◌+◌, ◌-◌, ◌*◌, ◌^◌, ◌≤◌, ◌<◌}
use mathlib.Core.Path.{◌≡◌, refl, sym, ◌∙◌, ap, ap₂, fun_ext}
use mathlib.Core.Bool.{Bool, true, false, cond}
use mathlib.Core.List.{List}
use native.Mathlib.Nat.{le_of_eq}
use native.Mathlib.Omega.{arith}
use lib.Dec.{ltb}
use borrow.Author.Tests.{lt-ltb, le-ltb}
use lib.ListN.{length, get_or, set}
use lib.Pow.{pow_pos}
use Rattle.model.specs.Metric.{Vector}
use Rattle.model.proofs.Lists.{length-up_from, get_or-places}
use Rattle.search_spec.specs.Arrays.{least_first}
use Rattle.metric.specs.Keys.{metric_in}
use Rattle.search_spec.specs.Program.{tried, Taken, Kept, kept_of, passing}
use Rattle.search_spec.specs.Program.{key_of, child_in, keys_of, onward, siblings, test_of, below, rest_of}
use Rattle.search_spec.proofs.Arrays.{least_below, Same, least_same, same_set}

-- Only the first n keys decide
module _ (test : ℕ → ℕ → Taken → Bool) (sub : ℕ → ℕ → Kept → Kept) (n allowance : ℕ) (some : 0 < n) where
  step : Kept → ℕ → ℕ → (Kept → Kept) → Kept
  step k s d further =
      cond (test s d k.taken)
      (cond (ltb k.count allowance)
      (let w = sub s d (kept_of (k.count + 1) k.stopped k.taken) in onward w.stopped w (further w))
      (kept_of k.count true k.taken))
      (further k)

  siblings_same : (fuel : ℕ) {a b : List ℕ} → Same n a b → (k : Kept)
      → siblings test sub n allowance fuel a k ≡ siblings test sub n allowance fuel b k
  unfolding siblings step
  siblings_same zero h k = refl
  siblings_same (suc fuel) {a} {b} h k =
      ap₂ (λ (s d : ℕ). step k s d (siblings test sub n allowance fuel (set a s tried))) (least_same h some)
      (ap (λ (s : ℕ). get_or a s 0) (least_same h some) ∙ h.keys (least_first b n) (least_below b n some))
      ∙ ap (step k (least_first b n) (get_or b (least_first b n) 0)) (fun_ext (siblings_same fuel (same_set h (least_first b n) tried)))

module _ (v : Vector) (n : ℕ) (en : n ≡ 2 ^ v.width) (allowance node level : ℕ) where
  -- Another level: the keys of its children, in an array with room for them
  pub rest_start : (inner : level ≡ 0 → ⊥) (d : ℕ) (keys : List ℕ) → 2 ^ v.width ≤ length keys
      → ((s : ℕ) → s < 2 ^ v.width → get_or keys s 0 ≡ key_of v (level - 1) node d s) → (k : Kept)
      → below v allowance level node d k ≡ rest_of v allowance (level - 1) node (n - 0) keys k
  unfolding below rest_of
  rest_start inner d keys w each k =
      let up : level ≡ suc (level - 1) = omega arith in
      let fuel : n - 0 ≡ 2 ^ v.width = omega arith in
      ap (λ (l : ℕ). below v allowance l node d k) up
      ∙ rw fuel (siblings_same test sub (2 ^ v.width) allowance (pow_pos v.width) (2 ^ v.width) same k)
    where
      key : ℕ → ℕ
      key = key_of v (level - 1) node d

      test : ℕ → ℕ → Taken → Bool
      test = test_of v (level - 1) node

      sub : ℕ → ℕ → Kept → Kept
      sub s x = below v allowance (level - 1) (child_in v (level - 1) node s) (metric_in x)

      same : Same (2 ^ v.width) (keys_of v (level - 1) node d) keys
      same = record {
        wide_a = le_of_eq (sym (length-up_from key 0 (2 ^ v.width)));
        wide_b = w;
        keys = λ i l. get_or-places key 0 (2 ^ v.width) i l ∙ sym (each i l);
      }

  -- Only the children's keys matter
  pub rest_same : {a b : List ℕ} → Same (2 ^ v.width) a b → (fuel : ℕ) (k : Kept)
      → rest_of v allowance level node fuel a k ≡ rest_of v allowance level node fuel b k
  unfolding rest_of
  rest_same h fuel k = siblings_same _ _ (2 ^ v.width) allowance (pow_pos v.width) fuel h k

  module _ (turns : ℕ) (keys : List ℕ) (k : Kept) where
    -- No child is left
    pub rest_done : n ≤ turns → rest_of v allowance level node (n - turns) keys k ≡ k
    unfolding rest_of siblings
    rest_done h = let e : n - turns ≡ 0 = omega arith in rw e

    -- The child with the first smallest key is tried
    module _ (more : turns < n) (s : ℕ) (es : s ≡ least_first keys n) (child : ℕ) (ec : child ≡ child_in v level node s) where
      abbrev searched : Kept
      searched = below v allowance level child (metric_in (get_or keys s 0)) (kept_of (k.count + 1) k.stopped k.taken)

      abbrev further : Kept → Kept
      further = rest_of v allowance level node (n - (turns + 1)) (set keys s tried)

      turn : rest_of v allowance level node (n - turns) keys k
          ≡ cond (passing v k.taken (metric_in (get_or keys s 0)) (level * v.width) child)
          (cond (ltb k.count allowance) (onward searched.stopped searched (further searched)) (kept_of k.count true k.taken))
          (further k)
      unfolding rest_of siblings
      turn =
          let f : n - turns ≡ suc (n - (turns + 1)) = omega arith in
          let g : least_first keys (2 ^ v.width) ≡ s = ap (least_first keys) (sym en) ∙ sym es in
          rw (f, g, ← ec)

      -- It is cut
      pub rest_cut : false ≡ passing v k.taken (metric_in (get_or keys s 0)) (level * v.width) child
          → rest_of v allowance level node (n - turns) keys k ≡ rest_of v allowance level node (n - (turns + 1)) (set keys s tried) k
      rest_cut e = turn ∙ rw (← e)

      module _ (e : true ≡ passing v k.taken (metric_in (get_or keys s 0)) (level * v.width) child) where
        -- It passes, and the allowance is used up
        pub rest_halted : allowance ≤ k.count → kept_of k.count true k.taken ≡ rest_of v allowance level node (n - turns) keys k
        rest_halted h = sym (turn ∙ rw (← e, le-ltb k.count allowance h))

        -- It passes and is searched
        module _ (running : k.stopped ≡ false) (h : k.count < allowance) (w : Kept)
            (is : w ≡ below v allowance level child (metric_in (get_or keys s 0)) (kept_of (k.count + 1) false k.taken)) where
          found : w ≡ searched
          found = is ∙ ap (λ (x : Bool). below v allowance level child (metric_in (get_or keys s 0)) (kept_of (k.count + 1) x k.taken)) (sym running)

          -- to the end of the allowance
          pub rest_stopped : w.stopped ≡ true → w ≡ rest_of v allowance level node (n - turns) keys k
          rest_stopped f = sym (turn ∙ rw (← e, lt-ltb k.count allowance h, ← found, f))

          -- or its subtree is finished
          pub rest_onward : w.stopped ≡ false
              → rest_of v allowance level node (n - turns) keys k ≡ rest_of v allowance level node (n - (turns + 1)) (set keys s tried) w
          rest_onward f = turn ∙ rw (← e, lt-ltb k.count allowance h, ← found, f)
