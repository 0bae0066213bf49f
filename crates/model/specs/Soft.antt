-- Demand 2's label and soft values, over any list of labels in place of all labels.
use Rattle.std.specs.Prelude.{ℕ, zero, suc, min, Bool, true, false, cond, ℤ, pos, neg_ℤ, ◌-ℤ◌}
use Rattle.std.specs.Bool.{beq}
use mathlib.Core.List.{List, [], ◌∷◌, map, foldl}
use Rattle.integers.specs.Clip.{clipped}
use Rattle.model.specs.Constellation.{Bits, number}
use Rattle.model.specs.Metric.{Vector, metric_of, label_bits, bit_at, prior_at}
use Rattle.model.specs.Order.{is_before}

-- A least metric: "a side on which the set has no label is infinite"
pub data Least : Type 0 where
  infinite : Least
  finite : ℕ → Least

-- The lesser of a metric and a least metric
abbrev pub lesser : ℕ → Least → Least
lesser d infinite = finite d
lesser d (finite e) = finite (min d e)

-- The least metric of a list of labels
unfoldable pub least_of : Vector → List Bits → Least
least_of v [] = infinite
least_of v (l ∷ ls) = lesser (metric_of v l) (least_of v ls)

-- The members of a list that meet a test
unfoldable pub those : {A : Type 0} → (A → Bool) → List A → List A
those f [] = []
those f (x ∷ xs) = cond (f x) (x ∷ those f xs) (those f xs)

-- The label's bit i is x
abbrev pub has_bit : ℕ → Bool → Bits → Bool
has_bit i x l = beq (bit_at i l) x

-- The least metric over the labels of a list with bit i equal to x
abbrev pub least_with : Vector → ℕ → Bool → List Bits → Least
least_with v i x ls = least_of v (those (has_bit i x) ls)

-- The better of two labels
abbrev pub better : Vector → Bits → Bits → Bits
better v a b = cond (is_before v.width v.rows b a) b a

-- The label that demand 2 picks from a list: "the least metric of all labels", of equal ones the first by `rank`
unfoldable pub pick : Vector → List Bits → Bits
pick v [] = []
pick v (l ∷ ls) = foldl (better v) l ls

-- The soft value: "least metric over labels with the bit 1, less the least with it 0, less the prior, clipped". An empty side has a
-- value of its own: "no leaf with bit 1 gives" plus it, "none with bit 0" minus it
abbrev pub soft_value : ℕ → ℕ → ℤ → Least → Least → ℤ
soft_value c empty prior infinite with0 = pos empty
soft_value c empty prior (finite with1) infinite = neg_ℤ (pos empty)
soft_value c empty prior (finite with1) (finite with0) = clipped c (pos with1 -ℤ pos with0 -ℤ prior)

-- The soft value of bit i over a list of labels
abbrev pub soft_at : Vector → ℕ → List Bits → ℕ → ℤ
soft_at v empty ls i = soft_value v.clip empty (prior_at v i) (least_with v i true ls) (least_with v i false ls)

-- n numbers from i on
unfoldable pub up_from : ℕ → ℕ → List ℕ
up_from i zero = []
up_from i (suc n) = i ∷ up_from (suc i) n

-- The places of a label's bits
abbrev pub places : Vector → List ℕ
places v = up_from 0 (label_bits v)

-- What a reply says of a vector: the label and its bits' soft values in label order
pub record Report : Type 0 where
  pub label : ℕ
  pub soft : List ℤ

-- "Over a set of labels, label and soft values are demand 2's with that set in place of all labels"
abbrev pub report : Vector → ℕ → List Bits → Report
report v empty ls = record { label = number (pick v ls); soft = map (soft_at v empty ls) (places v) }
