-- An axis's labels: a run of them grown by one, the least of its parts, and the run in turn.
use Prim.Native.Nat.{ℕ, zero, suc, ◌+◌, ◌*◌, ◌%◌, ◌^◌, ◌≤◌, ◌<◌, min}
use mathlib.Core.Bool.{Bool, ◌||◌}
use mathlib.Core.Path.{◌≡◌, refl, ap, ◌∙◌}
use mathlib.Core.List.{List}
use mathlib.Core.Logic.{⊎_elim}
use native.Mathlib.Nat.{eq-or-lt_of_le, add-zero}
use native.Mathlib.Numerals.{add-one}
use native.Mathlib.Omega.{arith}
use lib.Bits.{bit_xor}
use lib.ListN.{get_or}
use lib.Pow.{pow_pos, pow_mono}
use Rattle.std.specs.List.{list_any, range_with_len, fold}
use Rattle.model.specs.Soft.{up_from}
use Rattle.model.specs.Walk.{any_of}
use Rattle.metric.specs.Parts.{axis_width, span}
use Rattle.metric.proofs.Shifts.{one_shifted}
use Rattle.bounding.specs.Answers.{least_part}

-- No part, with what is added, is below the widest limit of the bits in which its label differs from `own`
abbrev pub NoneOver : List ℕ → ℕ → ℕ → (ℕ → ℕ) → ℕ → ℕ → Type 0
NoneOver entries from n part other own = (g : ℕ) → g < n → get_or entries (from + bit_xor g own) 0 ≤ other + part g

-- None of the parts of n labels is below the least, and it is small too
pub record LeastOf (part : ℕ → ℕ) (n least : ℕ) : Type 0 where
  pub low : least < 2 ^ 62
  pub least_le : (g : ℕ) → g < n → least ≤ part g

-- What the first g labels and label g have, the first g + 1 have
pub one_more : (P : ℕ → Type 0) (g : ℕ) → ((i : ℕ) → i < g → P i) → P g → (i : ℕ) → i < g + 1 → P i
one_more P g first last i h =
    let k : i ≤ g = omega arith in
    ⊎_elim (λ (e : i ≡ g). rw e last) (λ (lt : i < g). first i lt) (eq-or-lt_of_le k)

-- The least of one part more: at most the least before, and at most the new part
pub least_more : {part : ℕ → ℕ} {g least : ℕ} → LeastOf part g least → (new : ℕ) → new ≤ least → new ≤ part g → LeastOf part (g + 1) new
least_more {part} {g} was new le last = record {
  low = omega (arith, was.low);
  least_le = one_more (λ (i : ℕ). new ≤ part i) g (λ i h. omega (arith, was.least_le i h)) last;
}

-- The number of an axis's labels, as it is made by a shift: there are some, and not more than its entries
pub labels_few : (w : ℕ) → w ≤ axis_width → (1 * 2 ^ w % 2 ^ 64 ≡ 2 ^ w) × (1 ≤ 2 ^ w) × (2 ^ w ≤ span)
labels_few w h = (one_shifted w (omega arith), pow_pos w, pow_mono h)

-- The labels in turn, as a chain over a range asks them,
pub any_over : (test : ℕ → Bool) (a n : ℕ) → list_any test (range_with_len a n) ≡ any_of test (up_from a n)
unfolding up_from
any_over test a zero = refl
any_over test a (suc n) = rw add-one (ap (λ (t : Bool). test a || t) (any_over test (suc a) n))

-- or takes the least of their parts
pub least_over : (part : ℕ → ℕ) (a n : ℕ) → fold (λ (m g : ℕ). min m (part g)) (least_part part a) (range_with_len (a + 1) n) ≡ least_part part (a + n)
unfolding least_part
least_over part a zero = rw add-zero refl
least_over part a (suc n) =
    let e : suc a + n ≡ a + suc n = omega arith in
    rw (add-one a) (least_over part (suc a) n) ∙ ap (least_part part) e
