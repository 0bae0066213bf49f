-- The best label's own side of each bit stays low: a leaf that becomes the best label lowers its own sides, and another raises none.
use Prim.Native.Nat.{ℕ, ◌≤◌, ◌<◌, min}
use mathlib.Core.Path.{◌≡◌, refl, sym, ◌∙◌, ap, subst}
use mathlib.Core.Bool.{Bool, true, false, cond, not, beq, true≢false}
use mathlib.Core.List.{List}
use native.Mathlib.Omega.{arith}
use lib.Bits.{bit_xor}
use lib.ListN.{length, get_or, drop, length-drop}
use lib.Seq.{length-take-le}
use Rattle.model.specs.Metric.{Vector, label_bits}
use Rattle.model.specs.Block.{most_bits}
use Rattle.metric.specs.Parts.{bit_of}
use Rattle.metric.proofs.Filled.{filled_at}
use Rattle.metric.proofs.Opposite.{xor_opposite}
use Rattle.search_spec.specs.Program.{taken_in, zeros_of, ones_of, lowered_at}
use Rattle.search_spec.proofs.Minima.{zero_at, one_at}
use Rattle.hypotheses.specs.Limits.{minima_size, minimum_place, NotedTo, LowBeside, OwnLow}

-- A label of metric d, taken into the minima
module _ {n node d : ℕ} {old mid : List ℕ} (few : n ≤ most_bits) (whole : length old ≡ minima_size) (noted : NotedTo n node d n old mid) where
  -- Its bits of a side lower the minima of that side
  pub zero_falls : (i : ℕ) → i < n → get_or (zeros_of mid) i 0 ≡ lowered_at n false node d (zeros_of old) i
  zero_falls i h =
      ap (λ (l : List ℕ). get_or l i 0) noted.zeros
      ∙ filled_at _ n (zeros_of old) i 0 h (omega (arith, length-take-le most_bits old (omega arith)))

  pub one_falls : (i : ℕ) → i < n → get_or (ones_of mid) i 0 ≡ lowered_at n true node d (ones_of old) i
  one_falls i h =
      ap (λ (l : List ℕ). get_or l i 0) noted.ones
      ∙ filled_at _ n (ones_of old) i 0 h
      (omega (arith, length-take-le most_bits (drop most_bits old) (omega (arith, length-drop most_bits old))))

  -- Each side is where it was, or lower
  side_falls : (b : Bool) (i : ℕ) → i < n
      → get_or (cond b (ones_of mid) (zeros_of mid)) i 0 ≤ get_or (cond b (ones_of old) (zeros_of old)) i 0
  unfolding lowered_at
  side_falls true i h = rw (one_falls i h) (below (beq (bit_of n node i) true) (get_or (ones_of old) i 0))
    where
      below : (x : Bool) (u : ℕ) → cond x (min d u) u ≤ u
      below true u = omega arith
      below false u = omega arith
  side_falls false i h = rw (zero_falls i h) (below (beq (bit_of n node i) false) (get_or (zeros_of old) i 0))
    where
      below : (x : Bool) (u : ℕ) → cond x (min d u) u ≤ u
      below true u = omega arith
      below false u = omega arith

  -- and the label's own side is at its metric, or lower
  own_side : (b : Bool) (i : ℕ) → i < n → bit_of n node i ≡ b → get_or (cond b (ones_of mid) (zeros_of mid)) i 0 ≤ d
  unfolding lowered_at
  own_side true i h e = rw (one_falls i h, e) (omega arith)
  own_side false i h e = rw (zero_falls i h, e) (omega arith)

  module _ (v : Vector) (bits : n ≡ label_bits v) where
    -- The label becomes the best one
    pub own_new : OwnLow v (taken_in node d mid)
    own_new i h = own_side (bit_of (label_bits v) node i) i (omega arith) (ap (λ (k : ℕ). bit_of k node i) bits)

    -- or another one stays it
    pub own_kept : (label best : ℕ) → OwnLow v (taken_in label best old) → OwnLow v (taken_in label best mid)
    own_kept label best own i h = omega (arith, side_falls (bit_of (label_bits v) label i) i (omega arith), own i h)

-- Bits that are not opposite are the same
not_opposite : (x y : Bool) → not (beq x y) ≡ false → x ≡ y
not_opposite true true e = refl
not_opposite true false e = absurd (true≢false e)
not_opposite false true e = absurd (true≢false e)
not_opposite false false e = refl

-- Where a leaf has the best label's bits its sides are that label's own
pub low_beside : (v : Vector) (n : ℕ) → n ≡ label_bits v → n ≤ most_bits → (label best node d : ℕ) (minima : List ℕ)
    → OwnLow v (taken_in label best minima) → best ≤ d → LowBeside n node (bit_xor node label) d minima
low_beside v n bits few label best node d minima own low i h e = go (bit_of n node i) refl
  where
    same : bit_of n node i ≡ bit_of (label_bits v) label i
    same =
        not_opposite (bit_of n node i) (bit_of n label i) (sym (xor_opposite n node label i) ∙ e)
        ∙ ap (λ (k : ℕ). bit_of k label i) bits

    side : (b : Bool) → bit_of n node i ≡ b → get_or (cond b (ones_of minima) (zeros_of minima)) i 0 ≤ best
    side b f = subst (λ (x : Bool). get_or (cond x (ones_of minima) (zeros_of minima)) i 0 ≤ best) (sym same ∙ f) (own i (omega arith))

    go : (b : Bool) → bit_of n node i ≡ b → get_or minima (minimum_place b i) 0 ≤ d
    go true f = omega (arith, one_at minima i (omega arith), side true f)
    go false f = omega (arith, zero_at minima i (omega arith), side false f)
