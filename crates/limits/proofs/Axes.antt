-- The entries of an axis: one bit more doubles them.
use Prim.Native.Nat.{ℕ, zero, suc, ◌+◌, ◌-◌, ◌*◌, ◌/◌, ◌%◌, ◌^◌, ◌≤◌, ◌<◌, max}
use mathlib.Core.Path.{◌≡◌, refl, sym, ◌∙◌, ap, ap₂}
use mathlib.Core.Bool.{Bool, true, cond}
use mathlib.Core.List.{List}
use native.Mathlib.Nat.{div-eq_of_lt, pow-suc}
use native.Mathlib.Numerals.{add-one}
use native.Mathlib.Omega.{arith}
use lib.Dec.{eqb}
use lib.ListN.{length, get_or}
use lib.Pow.{high, ones_split, ones_lt, pow_pos, pow_mono}
use Rattle.metric.specs.Parts.{bit_of, filled, filled_from}
use Rattle.metric.proofs.Filled.{filled_length, filled_at, filled_same, from_same, from_join}
use Rattle.search_spec.specs.Reach.{widest_of}
use Rattle.search_spec.proofs.Reach.{widest_split, widest_same, real_bit, imaginary_bit, child_bit}
use Rattle.limits.specs.Reach.{limit_in, axis_reach}

-- Only the limits of an axis's bits decide
pub axis_same : (limit limit' : ℕ → ℕ) (at w g : ℕ) → ((i : ℕ) → at ≤ i → i < at + w → limit i ≡ limit' i)
    → axis_reach limit at w g ≡ axis_reach limit' at w g
unfolding axis_reach
axis_same limit limit' at w g h =
    widest_same _ _ limit limit' at w (λ i k l. ap (λ (x : ℕ). cond (bit_of w g (i - at)) x 0) (h i k l))

-- Labels with the same bits reach as wide
bits_same : (limit : ℕ → ℕ) (at w g g' : ℕ) → ((r : ℕ) → r < w → bit_of w g r ≡ bit_of w g' r)
    → axis_reach limit at w g ≡ axis_reach limit at w g'
unfolding axis_reach
bits_same limit at w g g' h =
    widest_same _ _ limit limit at w (λ i k l. ap (λ (b : Bool). cond b (limit i) 0) (h (i - at) (omega arith)))

-- An axis label's first bit and the others
axis_first : (limit : ℕ → ℕ) (at b g : ℕ)
    → axis_reach limit at (suc b) g ≡ max (cond (eqb (g / 2 ^ b % 2) 1) (limit at) 0) (axis_reach limit (suc at) b g)
unfolding axis_reach widest_of bit_of
axis_first limit at b g =
    let e : suc b - suc (at - at) ≡ b = omega arith in
    ap₂ max (ap (λ (n : ℕ). cond (eqb (g / 2 ^ n % 2) 1) (limit at) 0) e)
    (widest_same (λ i. bit_of (suc b) g (i - at)) (λ i. bit_of b g (i - suc at)) limit limit (suc at) b
    (λ i k l.
    let f : suc b - suc (i - at) ≡ b - suc (i - suc at) = omega arith in
    ap (λ (n : ℕ). cond (eqb (g / 2 ^ n % 2) 1) (limit i) 0) f))

-- It is 0 in the first half of the labels and 1 in the others
axis_low : (limit : ℕ → ℕ) (at b g : ℕ) → g < 2 ^ b → axis_reach limit at (suc b) g ≡ axis_reach limit (suc at) b g
axis_low limit at b g h =
    axis_first limit at b g
    ∙ ap (λ (y : ℕ). max (cond (eqb (y % 2) 1) (limit at) 0) (axis_reach limit (suc at) b g)) (div-eq_of_lt h)
    ∙ omega arith

axis_high : (limit : ℕ → ℕ) (at b g : ℕ) → g < 2 ^ b
    → axis_reach limit at (suc b) (1 * 2 ^ b + g) ≡ max (axis_reach limit (suc at) b g) (limit at)
axis_high limit at b g h =
    axis_first limit at b (1 * 2 ^ b + g)
    ∙ ap₂ (λ (y x : ℕ). max (cond (eqb (y % 2) 1) (limit at) 0) x) (high 1 b h)
    (bits_same limit (suc at) b (1 * 2 ^ b + g) g (λ r k. child_bit b b 1 g r h (omega arith)))
    ∙ omega arith

-- The label with all bits 1 has the widest limit of all
bit_one : (w r : ℕ) → r < w → bit_of w (2 ^ w - 1) r ≡ true
unfolding bit_of
bit_one w r h =
    let e = w - suc r in
    let f : w ≡ suc r + e = omega arith in
    let d : (2 ^ w - 1) / 2 ^ e ≡ 2 ^ suc r - 1 =
    ap (λ (n : ℕ). (2 ^ n - 1) / 2 ^ e) f ∙ ap (λ (y : ℕ). y / 2 ^ e) (ones_split (suc r) e) ∙ high (2 ^ suc r - 1) e (ones_lt e) in
    let p : (2 ^ suc r - 1) % 2 ≡ 1 = omega (arith, pow-suc 2 r, pow_pos r) in
    ap (λ (y : ℕ). eqb y 1) (ap (λ (y : ℕ). y % 2) d ∙ p)

pub all_ones : (limit : ℕ → ℕ) (at w : ℕ) → axis_reach limit at w (2 ^ w - 1) ≡ widest_of (λ _. true) limit at w
unfolding axis_reach
all_ones limit at w =
    widest_same _ (λ _. true) limit limit at w (λ i k l. ap (λ (b : Bool). cond b (limit i) 0) (bit_one w (i - at) (omega arith)))

-- A symbol reaches as wide as its two halves
pub halves : (limit : ℕ → ℕ) (at q s : ℕ)
    → max (axis_reach limit at (q - q / 2) (s / 2 ^ (q / 2))) (axis_reach limit (at + (q - q / 2)) (q / 2) (s % 2 ^ (q / 2)))
    ≡ axis_reach limit at q s
unfolding axis_reach
halves limit at q s =
    let w = q - q / 2 in
    let e : w + q / 2 ≡ q = omega arith in
    ap₂ max
    (widest_same _ (λ i. bit_of q s (i - at)) limit limit at w
    (λ i k l. ap (λ (b : Bool). cond b (limit i) 0) (sym (real_bit q s (i - at) (omega arith)))))
    (widest_same _ (λ i. bit_of q s (i - at)) limit limit (at + w) (q / 2)
    (λ i k l.
    let f : i - at ≡ w + (i - (at + w)) = omega arith in
    ap (λ (b : Bool). cond b (limit i) 0) (sym (ap (bit_of q s) f ∙ imaginary_bit q s (i - (at + w)) (omega arith)))))
    ∙ sym (widest_split (λ i. bit_of q s (i - at)) limit at w (q / 2)) ∙ ap (widest_of (λ i. bit_of q s (i - at)) limit at) e

-- The limits of an axis's bits by themselves, and where they stand among others
widest_shift : (pick : ℕ → Bool) (limit : ℕ → ℕ) (at a n : ℕ)
    → widest_of (λ i. pick (at + i)) (λ i. limit (at + i)) a n ≡ widest_of pick limit (at + a) n
unfolding widest_of
widest_shift pick limit at a zero = refl
widest_shift pick limit at a (suc n) =
    let e : at + suc a ≡ suc (at + a) = omega arith in
    ap (max (cond (pick (at + a)) (limit (at + a)) 0))
    (widest_shift pick limit at (suc a) n ∙ ap (λ (i : ℕ). widest_of pick limit i n) e)

pub axis_shift : (limit limit' : ℕ → ℕ) (at w g : ℕ) → ((i : ℕ) → i < w → limit' i ≡ limit (at + i))
    → axis_reach limit' 0 w g ≡ axis_reach limit at w g
unfolding axis_reach
axis_shift limit limit' at w g h =
    let e : at + 0 ≡ at = omega arith in
    widest_same (λ i. bit_of w g (i - 0)) (λ i. bit_of w g (at + i - at)) limit' (λ i. limit (at + i)) 0 w
    (λ i k l.
    let f : i - 0 ≡ at + i - at = omega arith in
    ap₂ (λ (r x : ℕ). cond (bit_of w g r) x 0) f (h i (omega arith)))
    ∙ widest_shift (λ i. bit_of w g (i - at)) limit at 0 w ∙ ap (λ (i : ℕ). widest_of (λ k. bit_of w g (k - at)) limit i w) e

-- What the last b of an axis's bits give to a label of b bits
abbrev pub last_reach : List ℕ → ℕ → ℕ → ℕ
last_reach own b = axis_reach (limit_in own) (length own - b) b

-- One bit more doubles them
module _ (own old : List ℕ) {now : List ℕ} {b : ℕ} (left : b < length own) (room : 2 ^ length own ≤ length now)
    (so_far : now ≡ filled (last_reach own b) (2 ^ b) old) where
  abbrev limit_of : ℕ
  limit_of = get_or own (length own - 1 - b) 0

  abbrev next : ℕ → ℕ
  next = last_reach own (suc b)

  behind : (g : ℕ) → g < 2 ^ b → max (get_or now g 0) limit_of ≡ next (2 ^ b + g)
  behind g h =
      let at = length own - suc b in
      let e : length own - b ≡ suc at = omega arith in
      let f : length own - 1 - b ≡ at = omega arith in
      let d : 2 ^ b + g ≡ 1 * 2 ^ b + g = omega arith in
      ap₂ max
      (ap (λ (l : List ℕ). get_or l g 0) so_far
      ∙ filled_at (last_reach own b) (2 ^ b) old g 0 h (omega (arith, ap length so_far, filled_length (last_reach own b) (2 ^ b) old, pow_mono left))
      ∙ ap (λ (i : ℕ). axis_reach (limit_in own) i b g) e)
      (ap (limit_in own) f)
      ∙ sym (axis_high (limit_in own) at b g h) ∙ ap next (sym d)

  before : (g : ℕ) → g < 2 ^ b → last_reach own b g ≡ next g
  before g h =
      let e : length own - b ≡ suc (length own - suc b) = omega arith in
      ap (λ (i : ℕ). axis_reach (limit_in own) i b g) e ∙ sym (axis_low (limit_in own) (length own - suc b) b g h)

  pub axis_more : (new : List ℕ) → new ≡ filled_from (2 ^ b) (λ g. max (get_or now g 0) limit_of) (2 ^ b) now
      → new ≡ filled (last_reach own (b + 1)) (2 ^ (b + 1)) old
  axis_more new e =
      let d : 2 ^ b + 2 ^ b ≡ 2 ^ suc b = omega (arith, pow-suc 2 b) in
      rw add-one
      (e ∙ from_same (2 ^ b) _ (λ g. next (2 ^ b + g)) (2 ^ b) now behind
      ∙ ap (filled_from (2 ^ b) (λ g. next (2 ^ b + g)) (2 ^ b)) (so_far ∙ filled_same (last_reach own b) next (2 ^ b) old before)
      ∙ from_join (2 ^ b) (λ g. next (2 ^ b + g)) next (2 ^ b) old (λ g h. refl) ∙ ap (λ (n : ℕ). filled next n old) d)
