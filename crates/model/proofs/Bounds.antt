-- The sizes of numbers. A point's parts are bounded by the width, an entry times a point by that and the entry's range, and so
-- on to the metric; the bounds rise with the width and the number of rows, so they are computed at the two largest pairs of these: four
-- streams of 6 bits and three of 8 (documents 01 and 02).
use Prim.Native.Nat.{ℕ, zero, suc, ◌+◌, ◌-◌, ◌*◌, ◌/◌, ◌^◌, ◌≤◌, ◌<◌}
use mathlib.Core.Path.{◌≡◌, refl, ap}
use mathlib.Core.Bool.{Bool, true, false}
use mathlib.Core.Logic.{◌⊎◌, inl, inr, ⊎_elim}
use mathlib.Core.List.Memᴰ
use mathlib.Core.List.{List, [], ◌∷◌}
use native.Mathlib.Nat.{le_refl, eq-or-lt_of_le, mul-le-mul, add-le-add, suc-mul}
use native.Mathlib.Omega.{arith}
use lib.Pow.{pow_mono}
use lib.ListN.{length, take, drop, length-take, length-drop}
use lib.IntN.{ℤ, pos, negsuc, nat_abs, ◌*ℤ◌}
use Rattle.model.specs.Constellation.{Complex, Bits, real, ◌⊕◌, ◌⊖◌, ◌⊗◌, point, real_bits, amplitude}
use Rattle.model.specs.Metric.{Row, dot, residual, squared_distance, bit_cost, prior_cost, increment, metric}
use Rattle.model.specs.Walk.{tree_nodes}
use Rattle.model.specs.Block.{Block, total, allowance, ◌∈◌, Every, Within, BothWithin, RowInRange, RowsInRange, InRange, Shaped}
use Rattle.model.specs.Block.{widths, most_streams, most_width, most_bits, most_share, most_entry, most_received, most_prior}
use Rattle.integers.proofs.Magnitudes.{nat_abs-add, nat_abs-sub, nat_abs-mul_le}
use Rattle.model.proofs.Gray.{amplitude_below}

-- The largest amplitude of a symbol of q bits
unfoldable pub largest_amplitude : ℕ → ℕ
largest_amplitude q = 2 ^ (q - q / 2) - 1

-- The largest magnitude of an entry's part times an amplitude
unfoldable pub largest_term : ℕ → ℕ
largest_term q = most_entry * largest_amplitude q

-- The largest magnitude of a residual's part, in a row with `later` rows below it: the diagonal is real, the other entries are complex
unfoldable pub largest_residual : ℕ → ℕ → ℕ
largest_residual q later = most_received + (largest_term q + later * (2 * largest_term q))

-- The largest increment of such a row
unfoldable pub largest_increment : ℕ → ℕ → ℕ
largest_increment q later = 2 * (largest_residual q later * largest_residual q later) + q * most_prior

-- The largest metric of m rows
unfoldable pub largest_metric : ℕ → ℕ → ℕ
largest_metric q zero = 0
largest_metric q (suc later) = largest_increment q later + largest_metric q later

module _ {m n : ℕ} {a b : Complex} (h : BothWithin m a) (k : BothWithin n b) where
  -- A sum of complex numbers
  pub sum_bound : BothWithin (m + n) (a ⊕ b)
  sum_bound = omega (arith, nat_abs-add a.re b.re, nat_abs-add a.im b.im)

  -- A difference
  pub difference_bound : BothWithin (m + n) (a ⊖ b)
  difference_bound = omega (arith, nat_abs-sub a.re b.re, nat_abs-sub a.im b.im)

-- A product, with a range for each part of the first factor
pub product_bound : (a : Complex) {b : Complex} {m k n : ℕ} → Within m a.re → Within k a.im → BothWithin n b
    → BothWithin (m * n + k * n) (a ⊗ b)
product_bound a {b} h i j =
    let re-re = nat_abs-mul_le a.re b.re h j.re in
    let re-im = nat_abs-mul_le a.re b.im h j.im in
    let im-re = nat_abs-mul_le a.im b.re i j.re in
    let im-im = nat_abs-mul_le a.im b.im i j.im in
    omega (arith, nat_abs-sub (a.re *ℤ b.re) (a.im *ℤ b.im), nat_abs-add (a.re *ℤ b.im) (a.im *ℤ b.re))

-- A symbol's point
pub point_bound : (q : ℕ) (s : Bits) → length s ≤ q → BothWithin (largest_amplitude q) (point s)
unfolding largest_amplitude point
point_bound q s h = record {
  re = axis (take (real_bits s) s) (omega (arith, length-take (real_bits s) s));
  im = axis (drop (real_bits s) s) (omega (arith, length-drop (real_bits s) s));
}
  where
    axis : (t : Bits) → length t ≤ q - q / 2 → nat_abs (amplitude t) ≤ 2 ^ (q - q / 2) - 1
    axis t k = omega (arith, amplitude_below t, pow_mono k)

symbol_bound : (q : ℕ) (bits : Bits) → BothWithin (largest_amplitude q) (point (take q bits))
symbol_bound q bits = point_bound q (take q bits) (omega (arith, length-take q bits))

-- The sum of R's entries right of the diagonal times the points
pub dot_bound : (q : ℕ) (es : List Complex) (bits : Bits) → Every (BothWithin most_entry) es
    → BothWithin (length es * (2 * largest_term q)) (dot q es bits)
unfolding dot largest_term
dot_bound q [] bits h = omega arith
dot_bound q (e ∷ es) bits h =
    let s = sum_bound (product_bound e h.0.re h.0.im (symbol_bound q bits)) (dot_bound q es (drop q bits) h.1) in
    omega (arith, suc-mul (length es) (2 * largest_term q))

-- Each part of a row's residual
pub residual_bound : {q later : ℕ} {r : Row} → RowInRange q later r → (bits : Bits)
    → BothWithin (largest_residual q later) (residual q r bits)
unfolding residual dot largest_residual largest_term
residual_bound {q} {later} {r} h bits =
    let first = product_bound (real r.diagonal) h.diagonal (le_refl 0) (symbol_bound q bits) in
    let all = difference_bound h.received (sum_bound first (dot_bound q r.right (drop q bits) h.right)) in
    rw (← h.entries) (omega arith)

-- A row's squared distance
pub squared_distance_bound : {q later : ℕ} {r : Row} → RowInRange q later r → (bits : Bits)
    → squared_distance q r bits ≤ 2 * (largest_residual q later * largest_residual q later)
squared_distance_bound h bits = let b = residual_bound h bits in omega (arith, mul-le-mul b.re b.re, mul-le-mul b.im b.im)

bit_cost_bound : (p : ℤ) (b : Bool) → bit_cost p b ≤ nat_abs p
bit_cost_bound (pos n) true = le_refl n
bit_cost_bound (pos n) false = omega arith
bit_cost_bound (negsuc n) true = omega arith
bit_cost_bound (negsuc n) false = le_refl (suc n)

-- A symbol's prior cost
pub prior_cost_bound : (ps : List ℤ) (bits : Bits) → Every (Within most_prior) ps → prior_cost ps bits ≤ length bits * most_prior
unfolding prior_cost
prior_cost_bound [] bits h = omega arith
prior_cost_bound (p ∷ ps) [] h = omega arith
prior_cost_bound (p ∷ ps) (b ∷ bits) h = omega (arith, bit_cost_bound p b, prior_cost_bound ps bits h.1)

-- A row's increment
pub increment_bound : {q later : ℕ} {r : Row} → RowInRange q later r → (bits : Bits) → increment q r bits ≤ largest_increment q later
unfolding increment largest_increment
increment_bound {q} {later} {r} h bits =
    let cost = prior_cost_bound r.priors (take q bits) h.priors in
    omega (arith, squared_distance_bound h bits, length-take q bits)

-- The metric of a vector's rows, or of its last rows (a partial metric)
pub metric_bound : (q : ℕ) (rows : List Row) → RowsInRange q rows → (bits : Bits) → metric q rows bits ≤ largest_metric q (length rows)
unfolding metric largest_metric
metric_bound q [] h bits = le_refl 0
metric_bound q (r ∷ rows) h bits = add-le-add (increment_bound h.0 bits) (metric_bound q rows h.1 (drop q bits))

module _ {q q' : ℕ} (h : q ≤ q') where
  term_rises : largest_term q ≤ largest_term q'
  unfolding largest_term largest_amplitude
  term_rises = let k : q - q / 2 ≤ q' - q' / 2 = omega arith in omega (arith, pow_mono k)

  -- The largest residual rises with the width and with the number of rows below
  pub residual_rises : {m m' : ℕ} → m ≤ m' → largest_residual q m ≤ largest_residual q' m'
  unfolding largest_residual
  residual_rises k = let t : 2 * largest_term q ≤ 2 * largest_term q' = omega (arith, term_rises) in omega (arith, mul-le-mul k t)

  -- So does the largest increment
  pub increment_rises : {m m' : ℕ} → m ≤ m' → largest_increment q m ≤ largest_increment q' m'
  unfolding largest_increment
  increment_rises k = let r = residual_rises k in omega (arith, mul-le-mul r r)

  -- The largest metric rises with the width and with the number of rows
  pub largest_rises : (m m' : ℕ) → m ≤ m' → largest_metric q m ≤ largest_metric q' m'
  unfolding largest_metric
  largest_rises zero m' k = omega arith
  largest_rises (suc m) zero k = absurd (omega arith)
  largest_rises (suc m) (suc m') k = let j : m ≤ m' = omega arith in add-le-add (increment_rises j) (largest_rises m m' j)

  -- So does a tree's number of nodes
  pub tree_rises : (m m' : ℕ) → m ≤ m' → tree_nodes q m ≤ tree_nodes q' m'
  unfolding tree_nodes
  tree_rises zero m' k = omega arith
  tree_rises (suc m) zero k = absurd (omega arith)
  tree_rises (suc m) (suc m') k = add-le-add (pow_mono (mul-le-mul h k)) (tree_rises m m' (omega arith))

-- The largest metric of 4 streams with 6 bits each, and of 3 with 8
pub metric_of_four : largest_metric 6 4 ≡ 292155269592
unfolding largest_metric largest_increment largest_residual largest_term largest_amplitude
metric_of_four = refl

pub metric_of_three : largest_metric 8 3 ≡ 313981861776
unfolding largest_metric largest_increment largest_residual largest_term largest_amplitude
metric_of_three = refl

-- The tree of 4 streams with 6 bits each, and of 3 with 8
pub tree_of_four : tree_nodes 6 4 ≡ 17043520
unfolding tree_nodes
tree_of_four = refl

pub tree_of_three : tree_nodes 8 3 ≡ 16843008
unfolding tree_nodes
tree_of_three = refl

-- A width and a number of streams with a label of at most 24 bits are within one of the two largest pairs
pub largest_pair : (q m : ℕ) → q ≤ most_width → m ≤ most_streams → m * q ≤ most_bits → ((q ≤ 6) × (m ≤ 4)) ⊎ ((q ≤ 8) × (m ≤ 3))
largest_pair q m h k few =
    ⊎_elim (λ e. inl ((omega (arith, ap (λ (n : ℕ). n * q) e)), k)) (λ (l : m < 4). inr (h, (omega arith))) (eq-or-lt_of_le k)

module _ (q m : ℕ) (h : q ≤ most_width) (k : m ≤ most_streams) (few : m * q ≤ most_bits) where
  -- The largest metric of all
  pub metric_largest : largest_metric q m ≤ 313981861776
  metric_largest =
      ⊎_elim
      (λ p. omega (arith, largest_rises p.0 m 4 p.1, metric_of_four))
      (λ p. omega (arith, largest_rises p.0 m 3 p.1, metric_of_three)) (largest_pair q m h k few)

  -- The largest tree
  pub tree_largest : tree_nodes q m ≤ 17043520
  tree_largest =
      ⊎_elim
      (λ p. omega (arith, tree_rises p.0 m 4 p.1, tree_of_four))
      (λ p. omega (arith, tree_rises p.0 m 3 p.1, tree_of_three)) (largest_pair q m h k few)

-- A member of a list has what every member has
pub of_every : {A : Type 0} (P : A → Type 0) (xs : List A) {x : A} → Every P xs → x ∈ xs → P x
of_every P [] h k = absurd (Memᴰ.not-nil k)
of_every P (y ∷ ys) h k = ⊎_elim (λ e. rw e h.0) (of_every P ys h.1) (Memᴰ.cases_cons k)

-- What every member has, and what follows from it
pub every_map : {A : Type 0} {P Q : A → Type 0} → ((x : A) → P x → Q x) → (xs : List A) → Every P xs → Every Q xs
every_map f [] h = tt
every_map f (x ∷ xs) h = (f x h.0, every_map f xs h.1)

-- A symbol has at most 8 bits
pub width_small : (q : ℕ) → q ∈ widths → q ≤ most_width
width_small q h = of_every (λ (w : ℕ). w ≤ most_width) widths (omega arith) h

-- A symbol has a bit
pub width_positive : (q : ℕ) → q ∈ widths → 0 < q
width_positive q h = of_every (λ (w : ℕ). 0 < w) widths (omega arith) h

module _ (b : Block) (ranged : InRange b) where
  -- Every metric and every partial metric of a block's vectors fits 39 bits
  pub metric_small : (rows : List Row) → RowsInRange b.width rows → length rows ≤ b.streams → (bits : Bits)
      → metric b.width rows bits < 2 ^ 39
  metric_small rows h k bits =
      let rise = largest_rises (le_refl b.width) (length rows) b.streams k in
      let most = metric_largest b.width b.streams (width_small b.width ranged.width) ranged.streams ranged.label in
      omega (arith, metric_bound b.width rows h bits)

  -- N x D fits 32 bits
  pub total_small : total b < 2 ^ 32
  total_small = omega (arith, mul-le-mul ranged.vectors ranged.share)

  -- Every allowance fits 32 bits
  pub allowance_small : (spent after : ℕ) → allowance b spent after < 2 ^ 32
  allowance_small spent after = omega (arith, total_small)

  -- No tree has more nodes than the most that D may be
  pub tree_small : tree_nodes b.width b.streams ≤ most_share
  tree_small = tree_largest b.width b.streams (width_small b.width ranged.width) ranged.streams ranged.label

  -- A block in range has the shape that the search needs
  pub shaped : Shaped b
  shaped = record {
    stream = ranged.stream;
    bit = width_positive b.width ranged.width;
    reserve = ranged.reserve;
    rows = every_map (λ rows v. v.streams) b.vectors ranged.each;
  }
