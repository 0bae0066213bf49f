-- The prior cost of an axis label, bit by bit, and the cost of one bit by the prior's sign; and the costs of an axis's labels,
-- doubled by one bit more.
use Prim.Native.Nat.{ℕ, zero, suc, ◌+◌, ◌-◌, ◌*◌, ◌^◌, ◌≤◌, ◌<◌}
use mathlib.Core.Path.{◌≡◌, refl, sym, ap, ap₂, ◌∙◌}
use mathlib.Core.Bool.{Bool, true, false, cond, beq}
use mathlib.Core.List.{List, [], ◌∷◌}
use native.Mathlib.Nat.{div-eq_of_lt, pow-suc, zero-div}
use native.Mathlib.Numerals.{add-one}
use native.Mathlib.Omega.{arith}
use borrow.Author.Tests.{le-ltb}
use lib.IntN.{ℤ, pos, negsuc, nat_abs, ◌+ℤ◌}
use lib.ListN.{length, get_or, drop}
use lib.Seq.{drop-cons}
use mir.Syntax.{w32}
use mir.Val.{SFits}
use Rattle.std.proofs.lemmas.List.{get_or_default}
use Rattle.integers.proofs.Fits.{sfits_abs}
use Rattle.std.specs.List.{sum_by}
use Rattle.std.proofs.lemmas.List.Sums.{sum_by-cons}
use lib.Signed.{lt_z}
use lib.Pow.{pow_mono, high, low}
use Rattle.model.specs.Constellation.{bits_of}
use Rattle.model.specs.Metric.{bit_cost, prior_cost}
use Rattle.model.proofs.Bounds.{prior_cost_bound}
use Rattle.model.proofs.Numbers.{low_bits, length-bits_of}
use Rattle.metric.specs.Parts.{bit_of, axis_cost, filled, filled_from}
use Rattle.axes.specs.Tables.{label_cost, PriorsAsked}
use Rattle.metric.proofs.Filled.{filled_length, filled_at, from_same, from_join}

-- A prior's cost, by its sign
pub cost_by : (z : ℤ) (b : Bool) → bit_cost z b ≡ cond (beq (lt_z z (pos 0)) b) 0 (nat_abs z)
cost_by (pos n) true = rw (le-ltb n 0 (omega arith))
cost_by (pos n) false = rw (le-ltb n 0 (omega arith))
cost_by (negsuc n) true = refl
cost_by (negsuc n) false = refl

-- It is at most the prior's magnitude
pub cost_most : (z : ℤ) (b : Bool) → bit_cost z b ≤ nat_abs z
cost_most (pos n) true = omega arith
cost_most (pos n) false = omega arith
cost_most (negsuc n) true = omega arith
cost_most (negsuc n) false = omega arith

-- The label whose bits are all 0 costs what a 0 does at each
pub cost_zeros : (priors : List ℤ) → axis_cost priors (length priors) 0 ≡ sum_by (λ p. bit_cost p false) priors
unfolding prior_cost bits_of
cost_zeros [] = refl
cost_zeros (p ∷ ps) =
    rw (zero-div, sum_by-cons (λ (z : ℤ). bit_cost z false) p ps) (ap (λ (n : ℕ). bit_cost p false + n) (cost_zeros ps))

-- The cost of the bits from i on
module _ (priors : List ℤ) (g i : ℕ) where
  abbrev cost_from : ℕ
  cost_from = prior_cost (drop i priors) (bits_of (length priors - i) g)

cost_more : (priors : List ℤ) (g i : ℕ) → i < length priors
    → cost_from priors g i ≡ bit_cost (get_or priors i (pos 0)) (bit_of (length priors) g i) + cost_from priors g (i + 1)
unfolding prior_cost bits_of bit_of
cost_more priors g i h =
    let e : length priors - i ≡ suc (length priors - suc i) = omega arith in
    rw (add-one, e, drop-cons priors i (pos 0))

cost_all : (priors : List ℤ) (g : ℕ) → axis_cost priors (length priors) g ≡ cost_from priors g 0
cost_all priors g = let e : length priors - 0 ≡ length priors = omega arith in rw e

-- What a 1 in place of a 0 adds to a cost is the prior with its sign
one_adds : (p : ℤ) (x y : ℕ) → y + bit_cost p false ≡ x + bit_cost p true → pos y ≡ pos x +ℤ p
one_adds (pos n) x y e = let f : y ≡ x + n = omega arith in ap pos f
one_adds (negsuc n) x y e =
    let h : suc n ≤ x = omega arith in
    let f : y ≡ x - suc n = omega arith in
    rw (le-ltb x (suc n) h) (ap pos f)

-- Two labels, g and 2^b + g: they differ in one bit, which is the first 1 of the larger label
module _ (priors : List ℤ) (b g : ℕ) (left : b < length priors) (small : g < 2 ^ b) where
  abbrev w : ℕ
  w = length priors

  abbrev prior : ℤ
  prior = get_or priors (w - 1 - b) (pos 0)

  -- The bits before that one are 0 in both
  before : (i : ℕ) → suc i ≤ w - 1 - b → bit_of w (1 * 2 ^ b + g) i ≡ bit_of w g i
  unfolding bit_of
  before i h =
      let m : suc b ≤ w - suc i = omega arith in
      let more : 1 * 2 ^ b + g < 2 ^ (w - suc i) = omega (arith, pow-suc 2 b, pow_mono m) in
      let less : g < 2 ^ (w - suc i) = omega (arith, pow-suc 2 b, pow_mono m) in
      rw (div-eq_of_lt more, div-eq_of_lt less)

  -- the bit itself is 1 in the larger and 0 in the other
  there : (i : ℕ) → i ≡ w - 1 - b → (bit_of w (1 * 2 ^ b + g) i ≡ true) × (bit_of w g i ≡ false)
  unfolding bit_of
  there i e =
      let f : w - suc i ≡ b = omega arith in
      rw f (rw (high 1 b small) refl, rw (div-eq_of_lt small) refl)

  -- and those after it the same
  after : (i : ℕ) → i ≡ w - 1 - b → cost_from priors (1 * 2 ^ b + g) (i + 1) ≡ cost_from priors g (i + 1)
  after i d =
      let e : w - (i + 1) ≡ b = omega arith in
      let same : bits_of b (1 * 2 ^ b + g) ≡ bits_of b g =
      sym (low_bits b (1 * 2 ^ b + g)) ∙ ap (bits_of b) (low 1 b small) in
      rw (e, same)

  -- So the costs of the bits from any earlier bit on differ by that bit's
  raised : (k i : ℕ) → i + k ≡ w - 1 - b
      → cost_from priors (1 * 2 ^ b + g) i + bit_cost prior false ≡ cost_from priors g i + bit_cost prior true
  raised zero i e =
      let d : i ≡ w - 1 - b = omega arith in
      omega (
        arith,
        cost_more priors (1 * 2 ^ b + g) i (omega arith),
        cost_more priors g i (omega arith),
        ap₂ (λ (j : ℕ) (x : Bool). bit_cost (get_or priors j (pos 0)) x) d (there i d).0,
        ap₂ (λ (j : ℕ) (x : Bool). bit_cost (get_or priors j (pos 0)) x) d (there i d).1,
        after i d,
      )
  raised (suc k) i e =
      omega (
        arith,
        cost_more priors (1 * 2 ^ b + g) i (omega arith),
        cost_more priors g i (omega arith),
        ap (bit_cost (get_or priors i (pos 0))) (before i (omega arith)),
        raised k (i + 1) (omega arith),
      )

  -- and the whole costs by its prior
  pub cost_raised : label_cost priors w (2 ^ b + g) ≡ label_cost priors w g +ℤ prior
  unfolding label_cost
  cost_raised =
      let e : 2 ^ b + g ≡ 1 * 2 ^ b + g = omega arith in
      rw e (one_adds prior _ _ (omega (
        arith,
        cost_all priors g,
        cost_all priors (1 * 2 ^ b + g),
        raised (w - 1 - b) 0 (omega arith),
      )))

-- A cost fits 32 bits
pub cost_small : (priors : List ℤ) (g : ℕ) → PriorsAsked priors → nat_abs (label_cost priors (length priors) g) < 2 ^ 31
unfolding label_cost
cost_small priors g asked =
    omega (arith, asked.bits, prior_cost_bound priors (bits_of (length priors) g) asked.range, length-bits_of (length priors) g)

-- The costs of the first 2^b labels are doubled
module _ (priors old : List ℤ) {now : List ℤ} {b : ℕ} (left : b < length priors) (room : 2 ^ length priors ≤ length now)
    (so_far : now ≡ filled (label_cost priors (length priors)) (2 ^ b) old) where
  abbrev cost_of : ℕ → ℤ
  cost_of = label_cost priors (length priors)

  abbrev prior_of : ℤ
  prior_of = get_or priors (length priors - 1 - b) (pos 0)

  -- What stands behind them are the costs of the next 2^b labels
  pub raised_is : (g : ℕ) → g < 2 ^ b → get_or now g (pos 0) +ℤ prior_of ≡ cost_of (2 ^ b + g)
  raised_is g h =
      ap (λ (z : ℤ). z +ℤ prior_of)
      (ap (λ (l : List ℤ). get_or l g (pos 0)) so_far
      ∙ filled_at cost_of (2 ^ b) old g (pos 0) h (omega (arith, ap length so_far, filled_length cost_of (2 ^ b) old, pow_mono left)))
      ∙ sym (cost_raised priors b g left h)

  -- which fit 32 bits,
  pub raised_fits : PriorsAsked priors → (g : ℕ) (d : ℤ) → g < 2 ^ b → SFits w32 (get_or now g d +ℤ prior_of)
  raised_fits asked g d h =
      let room' : g < length now = omega (arith, pow_mono left) in
      rw (get_or_default now g d (pos 0) room', raised_is g h) (sfits_abs _ (cost_small priors (2 ^ b + g) asked))

  -- and so the costs of twice as many labels are there
  pub raised_all : (new : List ℤ) → new ≡ filled_from (2 ^ b) (λ g. get_or now g (pos 0) +ℤ prior_of) (2 ^ b) now → new ≡ filled cost_of (2 ^ (b + 1)) old
  raised_all new e =
      let d : 2 ^ b + 2 ^ b ≡ 2 ^ (b + 1) = omega (arith, pow-suc 2 b, ap (λ (k : ℕ). 2 ^ k) (add-one b)) in
      e ∙ from_same (2 ^ b) _ (λ g. cost_of (2 ^ b + g)) (2 ^ b) now raised_is
      ∙ ap (filled_from (2 ^ b) (λ g. cost_of (2 ^ b + g)) (2 ^ b)) so_far
      ∙ from_join (2 ^ b) (λ g. cost_of (2 ^ b + g)) cost_of (2 ^ b) old (λ g h. refl) ∙ ap (λ (k : ℕ). filled cost_of k old) d
