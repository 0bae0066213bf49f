-- Laws of the widest limit of some bits, and of the bits of a label by its symbols and their axes.
use Prim.Native.Nat.{ℕ, zero, suc, ◌+◌, ◌-◌, ◌*◌, ◌/◌, ◌%◌, ◌^◌, ◌≤◌, ◌<◌, max}
use mathlib.Core.Path.{◌≡◌, refl, sym, ◌∙◌, ap, ap₂}
use mathlib.Core.Bool.{Bool, true, false, cond, ◌&&◌, ◌||◌}
use native.Mathlib.Decide.{ℕ_discrete}
use native.Mathlib.Nat.{add-mul}
use native.Mathlib.Omega.{arith}
use lib.Dec.{ltb, eqb}
use lib.Pow.{shr-shr, field, mod-mod-pow, low}
use borrow.Author.Tests.{lt-ltb, le-ltb, ltb-true, ltb-false}
use Rattle.model.specs.Soft.{up_from}
use Rattle.model.specs.Walk.{any_of}
use Rattle.metric.specs.Parts.{bit_of}
use Rattle.search_spec.specs.Reach.{widest_of}

-- Below the larger is below one of the two
pub ltb_max : (d a b : ℕ) → ltb d (max a b) ≡ (ltb d a || ltb d b)
ltb_max d a b = go (ltb d a) refl (ltb d b) refl
  where
    go : (x : Bool) → ltb d a ≡ x → (y : Bool) → ltb d b ≡ y → ltb d (max a b) ≡ (x || y)
    go true e y f = lt-ltb d (max a b) (omega (arith, ltb-true d a e))
    go false e true f = lt-ltb d (max a b) (omega (arith, ltb-true d b f))
    go false e false f = le-ltb d (max a b) (omega (arith, ltb-false d a e, ltb-false d b f))

module _ (pick : ℕ → Bool) (limit : ℕ → ℕ) where
  picked : (d : ℕ) (b : Bool) (x : ℕ) → (b && ltb d x) ≡ ltb d (cond b x 0)
  picked d true x = refl
  picked d false x = sym (le-ltb d 0 (omega arith))

  -- Below one of the limits is below the widest
  pub any_widest : (d a n : ℕ) → any_of (λ i. pick i && ltb d (limit i)) (up_from a n) ≡ ltb d (widest_of pick limit a n)
  unfolding up_from widest_of
  any_widest d a zero = sym (le-ltb d 0 (omega arith))
  any_widest d a (suc n) =
      ap₂ ◌||◌ (picked d (pick a) (limit a)) (any_widest d (suc a) n) ∙ sym (ltb_max d (cond (pick a) (limit a) 0) (widest_of pick limit (suc a) n))

  -- None of them is wider
  pub widest_ge : (a n i : ℕ) → a ≤ i → i < a + n → pick i ≡ true → limit i ≤ widest_of pick limit a n
  unfolding widest_of
  widest_ge a zero i h k e = absurd (omega arith)
  widest_ge a (suc n) i h k e = go (ℕ_discrete i a) (λ later. widest_ge (suc a) n i later (omega arith) e)
    where
      go : Dec (i ≡ a) → (suc a ≤ i → limit i ≤ widest_of pick limit (suc a) n)
          → limit i ≤ max (cond (pick a) (limit a) 0) (widest_of pick limit (suc a) n)
      go (yes f) ih = rw (← f, e) (omega arith)
      go (no f) ih = omega (arith, ih (omega arith))

  -- The widest of two runs
  pub widest_split : (a n k : ℕ) → widest_of pick limit a (n + k) ≡ max (widest_of pick limit a n) (widest_of pick limit (a + n) k)
  unfolding widest_of
  widest_split a zero k = let e : a + 0 ≡ a = omega arith in let f : 0 + k ≡ k = omega arith in rw (e, f) (omega arith)
  widest_split a (suc n) k =
      let e : suc n + k ≡ suc (n + k) = omega arith in
      let f : suc a + n ≡ a + suc n = omega arith in
      rw (e, widest_split (suc a) n k, f) (omega arith)

  -- One more
  pub widest_more : (a n : ℕ) → widest_of pick limit a (n + 1) ≡ max (widest_of pick limit a n) (cond (pick (a + n)) (limit (a + n)) 0)
  unfolding widest_of
  widest_more a n = widest_split a n 1 ∙ ap (max (widest_of pick limit a n)) (omega arith)

-- Only the picked bits' limits decide
pub widest_same : (pick pick' : ℕ → Bool) (limit limit' : ℕ → ℕ) (a n : ℕ)
    → ((i : ℕ) → a ≤ i → i < a + n → cond (pick i) (limit i) 0 ≡ cond (pick' i) (limit' i) 0)
    → widest_of pick limit a n ≡ widest_of pick' limit' a n
unfolding widest_of
widest_same pick pick' limit limit' a zero h = refl
widest_same pick pick' limit limit' a (suc n) h =
    ap₂ max (h a (omega arith) (omega arith)) (widest_same pick pick' limit limit' (suc a) n (λ i k l. h i (omega arith) (omega arith)))

-- A bit of what a mask leaves, and of what a shift and a mask do
low_bit : (x c e : ℕ) → e < c → x % 2 ^ c / 2 ^ e % 2 ≡ x / 2 ^ e % 2
low_bit x c e h =
    let f : c ≡ (c - e) + e = omega arith in
    let g : c - e ≡ (c - suc e) + 1 = omega arith in
    ap (λ (k : ℕ). x % 2 ^ k / 2 ^ e % 2) f ∙ ap (λ (y : ℕ). y % 2) (field x (c - e) e)
    ∙ ap (λ (k : ℕ). x / 2 ^ e % 2 ^ k % 2) g ∙ mod-mod-pow (x / 2 ^ e) (c - suc e) 1

field_bit : (x p w e : ℕ) → e < w → x / 2 ^ p % 2 ^ w / 2 ^ e % 2 ≡ x / 2 ^ (p + e) % 2
field_bit x p w e h = low_bit (x / 2 ^ p) w e h ∙ ap (λ (y : ℕ). y % 2) (shr-shr x p e)

-- Bit r of symbol j of a label of m symbols
pub symbol_bit : (m q x j r : ℕ) → j < m → r < q → bit_of (m * q) x (j * q + r) ≡ bit_of q (x / 2 ^ ((m - suc j) * q) % 2 ^ q) r
unfolding bit_of
symbol_bit m q x j r h k =
    let p = (m - suc j) * q in
    let e : m ≡ (j + 1) + (m - suc j) = omega arith in
    let f : m * q ≡ j * q + q + p = ap (λ (y : ℕ). y * q) e ∙ add-mul (j + 1) (m - suc j) q ∙ omega (arith, add-mul j 1 q) in
    let g : m * q - suc (j * q + r) ≡ p + (q - suc r) = omega (arith, f) in
    ap (λ (y : ℕ). eqb y 1) (ap (λ (y : ℕ). x / 2 ^ y % 2) g ∙ sym (field_bit x p q (q - suc r) (omega arith)))

-- A symbol's bits by its two halves
pub real_bit : (q s r : ℕ) → r < q - q / 2 → bit_of q s r ≡ bit_of (q - q / 2) (s / 2 ^ (q / 2)) r
unfolding bit_of
real_bit q s r h =
    let g : q - suc r ≡ q / 2 + ((q - q / 2) - suc r) = omega arith in
    ap (λ (y : ℕ). eqb (y % 2) 1) (ap (λ (y : ℕ). s / 2 ^ y) g ∙ sym (shr-shr s (q / 2) ((q - q / 2) - suc r)))

pub imaginary_bit : (q s r : ℕ) → r < q / 2 → bit_of q s (q - q / 2 + r) ≡ bit_of (q / 2) (s % 2 ^ (q / 2)) r
unfolding bit_of
imaginary_bit q s r h =
    let g : q - suc (q - q / 2 + r) ≡ q / 2 - suc r = omega arith in
    ap (λ (y : ℕ). eqb y 1) (ap (λ (y : ℕ). s / 2 ^ y % 2) g ∙ sym (low_bit s (q / 2) (q / 2 - suc r) (omega arith)))

-- A node's bits stay behind one more symbol
pub child_bit : (n c s node i : ℕ) → node < 2 ^ c → n - suc i < c → bit_of n (s * 2 ^ c + node) i ≡ bit_of n node i
unfolding bit_of
child_bit n c s node i h k =
    let e = n - suc i in
    ap (λ (y : ℕ). eqb y 1) (sym (low_bit (s * 2 ^ c + node) c e k) ∙ ap (λ (y : ℕ). y / 2 ^ e % 2) (low s c h))
