-- Bits and numbers, for any width. The first bit counts for more than all the others together, so a number below 2 ^ w and a string of
-- w bits determine each other, and shift and mask read off a bit.
use Prim.Native.Nat.{ℕ, zero, suc, ◌+◌, ◌-◌, ◌*◌, ◌/◌, ◌%◌, ◌^◌, ◌<◌}
use mathlib.Core.Path.{◌≡◌, refl, sym, ◌∙◌, ap, ap₂, subst}
use mathlib.Core.Logic.{◌↔◌}
use mathlib.Core.Bool.{Bool, true, false, cond}
use mathlib.Core.List.{List, [], ◌∷◌, ◌++◌, map, map-map, map-append}
use mathlib.Core.List.Memᴰ
use native.Mathlib.Nat.{two-pow-succ, zero-add, add-zero, suc-add, add-suc, add_comm, mod-lt, mod-eq_of_lt, mul-lt-mul_of_pos_right, lt_of_mul-lt-mul_right}
use native.Mathlib.Omega.{arith}
use lib.ListN.{length, take, drop, length-append, length-drop}
use lib.Pow.{pow-add, pow_pos, high, mod-pow-add, shr_lt, shr-shr}
use lib.Dec.{eqb}
use lib.Seq.{split_at}
use Rattle.model.specs.Constellation.{Bits, number, bits_of, symbols}
use Rattle.model.specs.Metric.{bit_at}
use Rattle.model.specs.Soft.{up_from}
use Rattle.model.specs.Block.{◌∈◌}
use Rattle.model.proofs.Lists.{symbols_length}

-- A number of w bits is below 2 ^ w
pub number_below : (s : Bits) → number s < 2 ^ length s
unfolding number
number_below [] = omega arith
number_below (true ∷ s) = omega (arith, two-pow-succ (length s), number_below s)
number_below (false ∷ s) = omega (arith, two-pow-succ (length s), number_below s)

same_weight : (s t : Bits) → suc (length s) ≡ suc (length t) → 2 ^ length s ≡ 2 ^ length t
same_weight s t e = let same : length s ≡ length t = omega arith in ap (λ (n : ℕ). 2 ^ n) same

-- Different strings have different numbers
pub number_injective : (s t : Bits) → length s ≡ length t → number s ≡ number t → s ≡ t
unfolding number
number_injective [] [] e h = refl
number_injective [] (b ∷ t) e h = absurd (omega arith)
number_injective (a ∷ s) [] e h = absurd (omega arith)
number_injective (false ∷ s) (false ∷ t) e h = ap (◌∷◌ false) (number_injective s t (omega arith) (omega arith))
number_injective (false ∷ s) (true ∷ t) e h = absurd (omega (arith, number_below s, same_weight s t e))
number_injective (true ∷ s) (false ∷ t) e h = absurd (omega (arith, number_below t, same_weight s t e))
number_injective (true ∷ s) (true ∷ t) e h = ap (◌∷◌ true) (number_injective s t (omega arith) (omega (arith, same_weight s t e)))

-- The number of joined bits
pub number_append : (s t : Bits) → number (s ++ t) ≡ number s * 2 ^ length t + number t
unfolding number
number_append [] t = omega arith
number_append (true ∷ s) t = omega (arith, number_append s t, ap (λ (n : ℕ). 2 ^ n) (length-append s t) ∙ pow-add 2 (length s) (length t))
number_append (false ∷ s) t = omega (arith, number_append s t)

-- Siblings are ordered by their symbols' numbers
pub siblings : (s t node : Bits) → (number (s ++ node) < number (t ++ node)) ↔ (number s < number t)
siblings s t node = rw (number_append s node, number_append t node) (
  (λ h. let k : number s * 2 ^ length node < number t * 2 ^ length node = omega arith in lt_of_mul-lt-mul_right (2 ^ length node) k),
  (λ h. let k = mul-lt-mul_of_pos_right h (pow_pos (length node)) in omega arith),
)

-- As many bits as asked for
pub length-bits_of : (w n : ℕ) → length (bits_of w n) ≡ w
unfolding bits_of
length-bits_of zero n = refl
length-bits_of (suc w) n = ap suc (length-bits_of w n)

-- The number of a number's w bits is what is left of it below 2 ^ w
pub number-bits_of-mod : (w n : ℕ) → number (bits_of w n) ≡ n % 2 ^ w
unfolding number bits_of
number-bits_of-mod zero n = omega arith
number-bits_of-mod (suc w) n =
    ap₂ ◌+◌ (ap (λ (k : ℕ). cond (eqb top 1) (2 ^ k) 0) (length-bits_of w n) ∙ weight top (omega arith)) (number-bits_of-mod w n)
    ∙ sym (ap (λ (k : ℕ). n % 2 ^ k) (omega arith) ∙ mod-pow-add n 1 w)
  where
    top : ℕ
    top = n / 2 ^ w % 2

    weight : (d : ℕ) → d < 2 → cond (eqb d 1) (2 ^ w) 0 ≡ d * 2 ^ w
    weight zero h = omega arith
    weight (suc zero) h = omega arith
    weight (suc (suc d)) h = absurd (omega arith)

-- A number to bits and back
pub number-bits_of : (w n : ℕ) → n < 2 ^ w → number (bits_of w n) ≡ n
number-bits_of w n h = number-bits_of-mod w n ∙ mod-eq_of_lt h

-- Bits to a number and back
pub bits_of-number : (s : Bits) → bits_of (length s) (number s) ≡ s
bits_of-number s = number_injective _ s (length-bits_of (length s) (number s)) (number-bits_of (length s) (number s) (number_below s))

-- The bit between s and t, by a shift and a mask
bit_between : (s t : Bits) (b : Bool) → number (s ++ b ∷ t) / 2 ^ length t % 2 ≡ cond b 1 0
unfolding number
bit_between s t b = rw (digits b, high (number s * 2 + cond b 1 0) (length t) (number_below t)) (low b)
  where
    digits : (b : Bool) → number (s ++ b ∷ t) ≡ (number s * 2 + cond b 1 0) * 2 ^ length t + number t
    digits true = omega (arith, number_append s (true ∷ t), ap (λ (n : ℕ). number s * n) (two-pow-succ (length t)))
    digits false = omega (arith, number_append s (false ∷ t), ap (λ (n : ℕ). number s * n) (two-pow-succ (length t)))

    low : (b : Bool) → (number s * 2 + cond b 1 0) % 2 ≡ cond b 1 0
    low true = omega arith
    low false = omega arith

-- Bit i of a label, counted from its first, is bit (length - 1 - i) of its number
pub bit_of_number : (l : Bits) (i : ℕ) → i < length l → number l / 2 ^ (length l - suc i) % 2 ≡ cond (bit_at i l) 1 0
bit_of_number l i h = rw (← length-drop (suc i) l)
    (ap (λ (x : Bits). number x / 2 ^ length (drop (suc i) l) % 2) (split_at l i false h)
    ∙ bit_between (take i l) (drop (suc i) l) (bit_at i l))

map_in : (f g : Bits → ℕ) (xs : List Bits) → ((x : Bits) → x ∈ xs → f x ≡ g x) → map f xs ≡ map g xs
map_in f g [] h = refl
map_in f g (x ∷ xs) h = ap₂ ◌∷◌ (h x (Memᴰ.head refl)) (map_in f g xs (λ y k. h y (Memᴰ.tail k)))

pub up_from-append : (a m n : ℕ) → up_from a (m + n) ≡ up_from a m ++ up_from (a + m) n
unfolding up_from
up_from-append a zero n = rw (zero-add, add-zero)
up_from-append a (suc m) n = rw (suc-add, add-suc, ← suc-add) (ap (◌∷◌ a) (up_from-append (suc a) m n))

symbols_from : (q a : ℕ) → map (λ s. a + number s) (symbols q) ≡ up_from a (2 ^ q)
unfolding symbols number up_from
symbols_from zero a = ap (λ (n : ℕ). n ∷ []) (add-zero a)
symbols_from (suc q) a =
    map-append (λ s. a + number s) (map (◌∷◌ false) (symbols q)) (map (◌∷◌ true) (symbols q))
    ∙ ap₂ ◌++◌ (rw (add-zero a) at (half false ∙ symbols_from q (a + 0))) (half true ∙ symbols_from q (a + 2 ^ q))
    ∙ sym (up_from-append a (2 ^ q) (2 ^ q)) ∙ ap (up_from a) (sym (two-pow-succ q))
  where
    half : (b : Bool) → map (λ s. a + number s) (map (◌∷◌ b) (symbols q)) ≡ map (λ s. a + cond b (2 ^ q) 0 + number s) (symbols q)
    half b = map-map (λ s. a + number s) (◌∷◌ b) (symbols q) ∙ map_in _ _ (symbols q) (λ s h. rw (symbols_length q s h) (omega arith))

-- The symbols of q bits have the numbers from 0 to 2 ^ q - 1, in this order
pub symbols_numbers : (q : ℕ) → map number (symbols q) ≡ up_from 0 (2 ^ q)
symbols_numbers q = map_in number (λ s. 0 + number s) (symbols q) (λ s h. omega arith) ∙ symbols_from q 0

-- The first a bits of a number, and the last b: what a shift and a mask read off it
pub take_bits : (a b n : ℕ) → take a (bits_of (a + b) n) ≡ bits_of a (n / 2 ^ b)
unfolding bits_of
take_bits zero b n = refl
take_bits (suc a) b n =
    rw suc-add
    (ap₂ ◌∷◌ (ap (λ (x : ℕ). eqb (x % 2) 1) (sym (shr-shr n b a ∙ ap (λ (x : ℕ). n / 2 ^ x) (add_comm b a)))) (take_bits a b n))

pub drop_bits : (a b n : ℕ) → drop a (bits_of (a + b) n) ≡ bits_of b n
unfolding bits_of
drop_bits zero b n = let e : 0 + b ≡ b = omega arith in rw e
drop_bits (suc a) b n = rw suc-add (drop_bits a b n)

pub low_bits : (b n : ℕ) → bits_of b (n % 2 ^ b) ≡ bits_of b n
low_bits b n = number_injective _ _ (length-bits_of b (n % 2 ^ b) ∙ sym (length-bits_of b n)) (number-bits_of b (n % 2 ^ b) (mod-lt n (pow_pos b)) ∙ sym (number-bits_of-mod b n))

-- The first half of a symbol's label is a label of that many bits
pub first_half : (q s : ℕ) → s < 2 ^ q → s / 2 ^ (q / 2) < 2 ^ (q - q / 2)
first_half q s h = let e : q ≡ q - q / 2 + q / 2 = omega arith in shr_lt (q - q / 2) (q / 2) (subst (λ (n : ℕ). s < 2 ^ n) e h)
