-- The soft values that code writes are those of what is kept.
use Prim.Native.Nat.{ℕ, ◌+◌, ◌*◌}
use mathlib.Core.Path.{◌≡◌, sym, ◌∙◌, ap, ap₂}
use mathlib.Core.List.{List}
use lib.IntN.{ℤ}
use lib.ListN.{get_or, set}
use Rattle.model.specs.Metric.{Vector, label_bits, prior_at}
use Rattle.model.specs.Soft.{soft_value}
use Rattle.block.proofs.Places.{rows_count}
use Rattle.metric.specs.Parts.{filled}
use Rattle.metric.proofs.Filled.{filled_more}
use Rattle.search_spec.specs.Program.{side_of, Taken, taken_of, value_of}
use Rattle.hypotheses.specs.Limits.{vector_at}

-- M rows of Q bits make the label's bits
pub bits_are : (m q clip : ℕ) (numbers : List ℤ) → m * q ≡ label_bits (vector_at m q clip numbers)
bits_are m q clip numbers = ap (λ (n : ℕ). n * q) (sym (rows_count m q numbers))

-- By what an empty side gives
module _ (v : Vector) (empty : ℕ) where
  -- A soft value does not depend on the best label
  pub value_same : (t u : Taken) → t.zeros ≡ u.zeros → t.ones ≡ u.ones → (i : ℕ) → value_of v empty t i ≡ value_of v empty u i
  unfolding value_of
  value_same t u ez eo i = λ j. soft_value v.clip empty (prior_at v i) (side_of (get_or (eo j) i 0)) (side_of (get_or (ez j) i 0))

  -- A soft value from the prior that was read
  pub soft_by : (zeros ones : List ℕ) (i : ℕ) (prior r : ℤ) → prior ≡ prior_at v i
      → r ≡ soft_value v.clip empty prior (side_of (get_or ones i 0)) (side_of (get_or zeros i 0))
      → r ≡ value_of v empty (taken_of 0 0 zeros ones) i
  unfolding value_of
  soft_by zeros ones i prior r e f =
      f ∙ ap (λ (p : ℤ). soft_value v.clip empty p (side_of (get_or ones i 0)) (side_of (get_or zeros i 0))) e

  -- One soft value more is written
  pub write_more : (zeros ones : List ℕ) (i : ℕ) (before now : List ℤ) (r : ℤ)
      → now ≡ filled (value_of v empty (taken_of 0 0 zeros ones)) i before → r ≡ value_of v empty (taken_of 0 0 zeros ones) i
      → set now i r ≡ filled (value_of v empty (taken_of 0 0 zeros ones)) (i + 1) before
  write_more zeros ones i before now r e f =
      ap₂ (λ (l : List ℤ) (z : ℤ). set l i z) e f ∙ filled_more (value_of v empty (taken_of 0 0 zeros ones)) i before
