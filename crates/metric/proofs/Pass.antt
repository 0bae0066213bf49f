-- Document 02, Point 3: "after its first k children, for every k, those k have their whole increment and the others' places are as before
-- the pass".
use Prim.Native.Nat.{ℕ, ◌+◌, ◌*◌, ◌^◌, ◌≤◌, ◌<◌}
use mathlib.Core.Path.{◌≡◌, refl, sym, ◌∙◌, ap}
use mathlib.Core.List.{List}
use native.Mathlib.Nat.{le_refl}
use native.Mathlib.Omega.{arith}
use lib.IntN.{ℤ}
use lib.ListN.{length, get_or, set}
use Rattle.model.specs.Metric.{increment}
use Rattle.metric.specs.Keys.{cost_room, metric_in}
use Rattle.metric.specs.Parts.{child_metric, real_in, imaginary_in, measured_to, filled}
use Rattle.metric.specs.Rows.{row_at, child_bits, child_of, child_key, Measured}
use Rattle.metric.proofs.Filled.{filled_more, filled_length, filled_rest, filled_at}
use Rattle.metric.proofs.Keys.{key_metric}

module _ (q shared : ℕ) (axes keys : List ℕ) where
  -- Before the first child nothing is changed
  pub pass_none : measured_to q shared axes 0 keys ≡ keys
  unfolding measured_to filled
  pass_none = refl

  pub pass_length : (k : ℕ) → length (measured_to q shared axes k keys) ≡ length keys
  unfolding measured_to
  pass_length k = filled_length _ k keys

  -- After the first k children the others' places are as before the pass
  pub pass_others : (k s : ℕ) → k ≤ s → get_or (measured_to q shared axes k keys) s 0 ≡ get_or keys s 0
  unfolding measured_to
  pass_others k s h = filled_rest _ k keys s 0 h

  -- and theirs hold what is shared and the parts of their axis labels
  pub pass_sums : (k s : ℕ) → s < k → k ≤ length keys
      → get_or (measured_to q shared axes k keys) s 0 ≡ child_metric q shared (real_in axes) (imaginary_in axes) s
  unfolding measured_to
  pass_sums k s h room = filled_at _ k keys s 0 h room

-- At a node of partial metric d whose parts the array has
module _ (q d : ℕ) (axes keys : List ℕ) (m : ℕ) (numbers : List ℤ) (level node : ℕ) (measured : Measured m q numbers level node axes) where
  abbrev after : ℕ → List ℕ
  after k = measured_to q (d * cost_room) axes k keys

  -- One child more writes that child's key to its place, and no other
  pub pass_next : (k : ℕ) → k < 2 ^ q → after (k + 1) ≡ set (after k) k (child_key m q numbers level node d k)
  unfolding measured_to
  pass_next k h = sym (filled_more _ k keys) ∙ ap (set (filled _ k keys) k) (sym (measured.child d k h))

  module _ (room : 2 ^ q ≤ length keys) where
    -- After the first k children each of these has its key,
    pub pass_keyed : (k s : ℕ) → k ≤ 2 ^ q → s < k → get_or (after k) s 0 ≡ child_key m q numbers level node d s
    pass_keyed k s few h = pass_sums q (d * cost_room) axes keys k s h (omega arith) ∙ sym (measured.child d s (omega arith))

    -- and in it d and its whole increment
    pub pass_measured : (k s : ℕ) → k ≤ 2 ^ q → s < k
        → metric_in (get_or (after k) s 0) ≡ d + increment q (row_at m q numbers level) (child_bits m q level node s)
    unfolding child_of
    pass_measured k s few h = ap metric_in (pass_keyed k s few h) ∙ key_metric _ _ (measured.cheap s (omega arith))

    -- After all children each has its key, and the places behind them are as before the pass
    pub pass_all : (all : List ℕ) → all ≡ after (2 ^ q)
        → ((s : ℕ) → s < 2 ^ q → get_or all s 0 ≡ child_key m q numbers level node d s)
        × ((s : ℕ) → 2 ^ q ≤ s → get_or all s 0 ≡ get_or keys s 0)
    pass_all all e = rw e (λ s h. pass_keyed (2 ^ q) s (le_refl _) h, λ s h. pass_others q (d * cost_room) axes keys (2 ^ q) s h)
