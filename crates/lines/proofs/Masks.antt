-- The count of ones of the label under the priors' sign and non-zero masks is the number of bits that go against, for any width.
use Prim.Native.Nat.{ℕ, zero, suc, ◌+◌, ◌*◌, ◌/◌, ◌%◌, ◌^◌, ◌<◌, ◌≤◌}
use mathlib.Core.Path.{◌≡◌, refl, sym, ◌∙◌, ap, ap₂, subst}
use mathlib.Core.Bool.{Bool, true, false, not, cond}
use mathlib.Core.List.{List, [], ◌∷◌, ◌++◌}
use native.Mathlib.Nat.{mod-lt, two-pow-succ}
use native.Mathlib.Numerals.{add-one}
use native.Mathlib.Omega.{arith}
use borrow.Author.Tests.{eqb-true, le-ltb}
use lib.IntN.{ℤ, pos, negsuc, nat_abs}
use lib.ListN.{length, get_or, take, length-append}
use lib.Bits.{bit_and, bit_or, bit_xor, or_shifted, and_block, xor_block, and_mask, and_zero_r, xor_zero_r, xor_mod, and_lt, xor_lt}
use lib.Count.{ones, ones_cat}
use lib.Dec.{eqb}
use Rattle.std.specs.Int.{from_bool}
use Rattle.std.proofs.Common.{SFits, w32, to_z, of_z, to_z-of_z}
use lib.Pow.{pow_pos, split, shl_exact}
use lib.Signed.{lt_z}
use lib.Seq.{take-suc, take_all, length-take-le}
use Rattle.model.specs.Constellation.{bits_of}
use Rattle.model.proofs.Numbers.{low_bits}
use Rattle.lines.specs.Against.{goes_against, against_in, against, negative_mark, nonzero_mark}

-- The priors' marks as bits of one number, the first prior's highest
unfoldable pub mask : (ℤ → ℕ) → List ℤ → ℕ
mask f [] = 0
mask f (p ∷ ps) = f p * 2 ^ length ps + mask f ps

-- A mark is a bit
abbrev pub Mark : (ℤ → ℕ) → Type 0
Mark f = (p : ℤ) → f p < 2

pub negative_mark_lem : Mark negative_mark
negative_mark_lem (pos n) = omega arith
negative_mark_lem (negsuc n) = omega arith

pub nonzero_mark_lem : Mark nonzero_mark
nonzero_mark_lem (pos zero) = omega arith
nonzero_mark_lem (pos (suc n)) = omega arith
nonzero_mark_lem (negsuc n) = omega arith

-- The tests of a prior, each as what it counts for, are its marks
pub negative_is : (p : ℤ) → from_bool (lt_z p (pos 0)) ≡ negative_mark p
negative_is (pos n) = ap from_bool (le-ltb n 0 (omega arith))
negative_is (negsuc n) = refl

pub nonzero_is : (p : ℤ) → SFits w32 p → from_bool (not (eqb (of_z w32 p) 0)) ≡ nonzero_mark p
nonzero_is p f = go p (eqb (of_z w32 p) 0) (λ e. sym (to_z-of_z {w = w32} f) ∙ ap (to_z w32) (eqb-true (of_z w32 p) 0 e)) refl
  where
    go : (q : ℤ) (t : Bool) → (t ≡ true → q ≡ pos 0) → eqb (of_z w32 q) 0 ≡ t → from_bool (not t) ≡ nonzero_mark q
    go (pos zero) t z e = ap (λ (b : Bool). from_bool (not b)) (sym e)
    go (pos (suc n)) true z e = absurd (omega (arith, ap nat_abs (z refl)))
    go (pos (suc n)) false z e = refl
    go (negsuc n) true z e = absurd (omega (arith, ap nat_abs (z refl)))
    go (negsuc n) false z e = refl

-- A mask has as many bits as there are priors
pub mask_below : (f : ℤ → ℕ) → Mark f → (ps : List ℤ) → mask f ps < 2 ^ length ps
unfolding mask
mask_below f h [] = omega arith
mask_below f h (p ∷ ps) = go (f p) (h p) (mask_below f h ps)
  where
    go : (d : ℕ) → d < 2 → mask f ps < 2 ^ length ps → d * 2 ^ length ps + mask f ps < 2 ^ suc (length ps)
    go zero k below = omega (arith, two-pow-succ (length ps))
    go (suc zero) k below = omega (arith, two-pow-succ (length ps))
    go (suc (suc d)) k below = absurd (omega arith)

-- One more prior: the mask is shifted, and its mark stands lowest
mask_more : (f : ℤ → ℕ) (ps : List ℤ) (p : ℤ) → mask f (ps ++ p ∷ []) ≡ mask f ps * 2 + f p
unfolding mask
mask_more f [] p = omega arith
mask_more f (x ∷ ps) p =
    let long : length (ps ++ p ∷ []) ≡ suc (length ps) = omega (arith, length-append ps (p ∷ [])) in
    rw (long, two-pow-succ (length ps)) (omega (arith, mask_more f ps p))

-- A label's bits that differ from the sign mask, where the non-zero mask is set
abbrev pub masked : ℕ → ℕ → ℕ → ℕ
masked label negative nonzero = bit_and (bit_xor label negative) nonzero

-- The first bit and the others are apart
masked_block : (k a b c r s t : ℕ) → r < 2 ^ k → s < 2 ^ k → t < 2 ^ k
    → masked (a * 2 ^ k + r) (b * 2 ^ k + s) (c * 2 ^ k + t) ≡ masked a b c * 2 ^ k + masked r s t
masked_block k a b c r s t h i j =
    ap (λ (x : ℕ). bit_and x (c * 2 ^ k + t)) (xor_block k a b r s h i)
    ∙ and_block k (bit_xor a b) c (bit_xor r s) t (xor_lt k r s h i) j

-- One bit: d is the label's
one_bit : (d : ℕ) → d < 2 → ones d ≡ cond (eqb d 1) 1 0
unfolding ones
one_bit zero h = refl
one_bit (suc zero) h = refl
one_bit (suc (suc d)) h = absurd (omega arith)

other_bit : (d : ℕ) → d < 2 → ones (bit_xor d 1) ≡ cond (not (eqb d 1)) 1 0
unfolding ones
other_bit zero h = refl
other_bit (suc zero) h = refl
other_bit (suc (suc d)) h = absurd (omega arith)

first_bit : (n : ℕ) (p : ℤ) → ones (masked n (negative_mark p) (nonzero_mark p)) ≡ cond (goes_against p (eqb (n % 2) 1)) 1 0
unfolding ones
first_bit n (pos zero) = ap ones (and_zero_r (bit_xor n 0))
first_bit n (pos (suc m)) =
    ap (λ (x : ℕ). ones (bit_and x 1)) (xor_zero_r n) ∙ ap ones (and_mask n 1) ∙ one_bit (n % 2) (omega arith)
first_bit n (negsuc m) = ap ones (and_mask (bit_xor n 1) 1 ∙ xor_mod n 1 1) ∙ other_bit (n % 2) (omega arith)

-- The count of ones under the two masks is the number of bits that go against
pub ones_against : (ps : List ℤ) (label : ℕ) → ones (masked label (mask negative_mark ps) (mask nonzero_mark ps)) ≡ against ps label
unfolding mask against_in bits_of ones
ones_against [] label = ap ones (and_zero_r (bit_xor label 0))
ones_against (p ∷ ps) label =
    let k = length ps in
    let top = label / 2 ^ k in
    let low = label % 2 ^ k in
    let n = mask negative_mark ps in
    let z = mask nonzero_mark ps in
    let small : low < 2 ^ k = mod-lt label (pow_pos k) in
    let few : n < 2 ^ k = mask_below negative_mark negative_mark_lem ps in
    let less : z < 2 ^ k = mask_below nonzero_mark nonzero_mark_lem ps in
    let below : masked low n z < 2 ^ k = and_lt k (bit_xor low n) z (xor_lt k low n small few) less in
    ap (λ (x : ℕ). ones (masked x (mask negative_mark (p ∷ ps)) (mask nonzero_mark (p ∷ ps)))) (sym (split label k))
    ∙ ap ones (masked_block k top (negative_mark p) (nonzero_mark p) low n z small few less)
    ∙ ones_cat k (masked top (negative_mark p) (nonzero_mark p)) (masked low n z) below
    ∙ ap₂ ◌+◌ (first_bit top p) (ones_against ps low ∙ ap (against_in ps) (low_bits k label))

-- The first priors, one by one
abbrev pub mask_to : (ℤ → ℕ) → List ℤ → ℕ → ℕ
mask_to f ps i = mask f (take i ps)

module _ (f : ℤ → ℕ) (mark : Mark f) (ps : List ℤ) (i : ℕ) where
  mask_short : i ≤ length ps → mask_to f ps i < 2 ^ i
  mask_short h = subst (λ (k : ℕ). mask_to f ps i < 2 ^ k) (length-take-le i ps h) (mask_below f mark (take i ps))

  -- The i-th mark is shifted in
  pub mask_next : i < length ps → length ps ≤ 32
      → bit_or (mask_to f ps i * 2 ^ 1 % 2 ^ 32) (f (get_or ps i (pos 0))) ≡ mask_to f ps (i + 1)
  mask_next h few =
      let below = mask_short (omega arith) in
      ap (λ (x : ℕ). bit_or x (f (get_or ps i (pos 0)))) (shl_exact {a = mask_to f ps i} i 1 32 below (omega arith))
      ∙ or_shifted (mask_to f ps i) 1 (f (get_or ps i (pos 0))) (mark (get_or ps i (pos 0)))
      ∙ sym (ap (mask f) (ap (λ (k : ℕ). take k ps) (add-one i) ∙ take-suc ps i (pos 0) h) ∙ mask_more f (take i ps) (get_or ps i (pos 0)))

pub mask_none : (f : ℤ → ℕ) (ps : List ℤ) → mask_to f ps 0 ≡ 0
unfolding mask
mask_none f ps = refl

pub mask_all : (f : ℤ → ℕ) (ps : List ℤ) (i : ℕ) → length ps ≤ i → mask_to f ps i ≡ mask f ps
mask_all f ps i h = ap (mask f) (take_all i ps h)
