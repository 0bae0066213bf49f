-- No amplitude of an axis, times the diagonal, is nearer than the folded distance. Two magnitudes are never further apart than the numbers
-- themselves, so signs may be forgotten; and with one bit more an amplitude's magnitude is the middle, 2 ^ w, more or less the one before.
use Prim.Native.Nat.{ℕ, zero, suc, ◌+◌, ◌-◌, ◌*◌, ◌^◌, ◌≤◌, ◌<◌}
use mathlib.Core.Path.{◌≡◌, refl, ◌∙◌, ap, subst}
use mathlib.Core.Bool.{Bool, true, false, cond}
use mathlib.Core.List.{[], ◌∷◌}
use mathlib.Core.Logic.{◌⊎◌, inl, inr}
use native.Mathlib.Nat.{mul-add, mul-zero, mul-le-mul, le_refl}
use native.Mathlib.Omega.{arith}
use borrow.Author.Tests.{ltb-true}
use lib.Dec.{T}
use lib.ListN.{length}
use lib.IntN.{ℤ, pos, negsuc, neg_ℤ, nat_abs, ◌+ℤ◌, ◌-ℤ◌, ◌*ℤ◌, neg_ℤ-neg_ℤ}
use lib.Signed.{lt_z}
use Rattle.std.proofs.lemmas.Int.{ints}
use Rattle.integers.proofs.Magnitudes.{nat_abs_mul}
use Rattle.model.specs.Constellation.{Bits, amplitude}
use Rattle.model.proofs.Gray.{amplitude_below}
use Rattle.metric.specs.Parts.{apart, nearest_of}

-- |a - b| = |b - a|
swapped : (a b : ℤ) → nat_abs (a -ℤ b) ≡ nat_abs (b -ℤ a)
swapped a b = omega (arith, ints)

-- ||a| - |b|| ≤ |a - b|
magnitudes_apart : (a b : ℤ) → apart (nat_abs a) (nat_abs b) ≤ nat_abs (a -ℤ b)
magnitudes_apart a b = omega (arith, ints)

-- x is n more y, or n less y
Around : ℕ → ℕ → ℕ → Type 0
Around n y x = (x ≡ n + y) ⊎ (x + y ≡ n)

around : (n : ℕ) (a : ℤ) → nat_abs a < n → Around n (nat_abs a) (nat_abs (pos n -ℤ a))
unfolding Around
around n (pos k) h = inr (omega (arith, ints))
around n (negsuc k) h = inl (omega (arith, ints))

amplitude_around : (b : Bool) (s : Bits) → Around (2 ^ length s) (nat_abs (amplitude s)) (nat_abs (amplitude (b ∷ s)))
unfolding amplitude
amplitude_around true s = around (2 ^ length s) (amplitude s) (amplitude_below s)
amplitude_around false s =
    rw (swapped (amplitude s) (pos (2 ^ length s))) (around (2 ^ length s) (amplitude s) (amplitude_below s))

-- A fold at n does not bring anything further away
fold_le : (diagonal d n y x : ℕ) → Around n y x → apart (apart d (diagonal * n)) (diagonal * y) ≤ apart d (diagonal * x)
unfolding Around
fold_le diagonal d n y x (inl e) = omega (arith, ap (◌*◌ diagonal) e, mul-add diagonal n y)
fold_le diagonal d n y x (inr e) = omega (arith, ap (◌*◌ diagonal) e, mul-add diagonal x y)

-- The folded distance, without signs and with them
nearest_apart : (diagonal d : ℕ) (s : Bits) → nearest_of diagonal (length s) d ≤ apart d (diagonal * nat_abs (amplitude s))
unfolding nearest_of
nearest_apart diagonal d [] = unfold amplitude in omega (arith, mul-zero diagonal)
nearest_apart diagonal d (b ∷ s) =
    omega (
      arith,
      nearest_apart diagonal (apart d (diagonal * 2 ^ length s)) s,
      fold_le diagonal d (2 ^ length s) _ _ (amplitude_around b s),
    )

pub nearest_le : (e diagonal : ℤ) (s : Bits)
    → nearest_of (nat_abs diagonal) (length s) (nat_abs e) ≤ nat_abs (e -ℤ diagonal *ℤ amplitude s)
nearest_le e diagonal s =
    omega (
      arith,
      nearest_apart (nat_abs diagonal) (nat_abs e) s,
      ap (apart (nat_abs e)) (nat_abs_mul diagonal (amplitude s)),
      magnitudes_apart e (diagonal *ℤ amplitude s),
    )

-- A turn of the folding loop, and its end
pub fold_more : (diagonal k d : ℕ) → 0 < k → nearest_of diagonal (k - 1) (apart d (diagonal * 2 ^ (k - 1))) ≡ nearest_of diagonal k d
unfolding nearest_of
fold_more diagonal zero d h = absurd (omega arith)
fold_more diagonal (suc k) d h = let e : suc k - 1 ≡ k = omega arith in rw e

pub fold_none : (diagonal k d : ℕ) → k ≡ 0 → nearest_of diagonal k d ≡ d
unfolding nearest_of
fold_none diagonal k d e = rw e

-- How far apart two natural numbers are
pub pos_apart : (a b : ℕ) → nat_abs (pos a -ℤ pos b) ≡ apart a b
pos_apart a b = omega (arith, ints)

-- What is left of n after a number of smaller magnitude is above 0, and so is its product
turned : (diagonal n : ℕ) (a : ℤ) → nat_abs a < n → pos (diagonal * n) -ℤ pos diagonal *ℤ a ≡ pos (diagonal * nat_abs (pos n -ℤ a))
turned diagonal n (pos k) h =
    let e : nat_abs (pos n -ℤ pos k) ≡ n - k = pos_apart n k ∙ omega arith in
    let f : n ≡ n - k + k = omega arith in
    let g = ap (◌*◌ diagonal) f ∙ mul-add diagonal (n - k) k in
    omega (arith, ints, ap (◌*◌ diagonal) e)
turned diagonal n (negsuc k) h =
    ap (◌+ℤ◌ (pos (diagonal * n))) (neg_ℤ-neg_ℤ (pos (diagonal * suc k))) ∙ ap pos (omega (arith, mul-add diagonal n (suc k)))

-- The magnitude of an amplitude is what is left of the middle after the one without its first bit
folded_amplitude : (b : Bool) (s : Bits) → nat_abs (amplitude (b ∷ s)) ≡ nat_abs (pos (2 ^ length s) -ℤ amplitude s)
unfolding amplitude
folded_amplitude true s = refl
folded_amplitude false s = swapped (amplitude s) (pos (2 ^ length s))

-- A fold of the axis with its signs: at 0, and then the other way round from the middle. It brings no label further away
pub fold_nearer : (diagonal : ℕ) (x : ℤ) (b : Bool) (s : Bits)
    → nat_abs (pos (diagonal * 2 ^ length s) -ℤ pos (nat_abs x) -ℤ pos diagonal *ℤ amplitude s)
    ≤ nat_abs (x -ℤ pos diagonal *ℤ amplitude (b ∷ s))
fold_nearer diagonal x b s =
    omega (
      arith,
      ap nat_abs exchanged,
      ap (λ (z : ℤ). nat_abs (z -ℤ pos (nat_abs x))) (turned diagonal (2 ^ length s) (amplitude s) (amplitude_below s)),
      pos_apart (diagonal * nat_abs (pos (2 ^ length s) -ℤ amplitude s)) (nat_abs x),
      ap (λ (n : ℕ). apart (nat_abs x) (diagonal * n)) (folded_amplitude b s),
      ap (apart (nat_abs x)) (nat_abs_mul (pos diagonal) (amplitude (b ∷ s))),
      magnitudes_apart x (pos diagonal *ℤ amplitude (b ∷ s)),
    )
  where
    middle : ℤ
    middle = pos (diagonal * 2 ^ length s)

    product : ℤ
    product = pos diagonal *ℤ amplitude s

    exchanged : middle -ℤ pos (nat_abs x) -ℤ product ≡ middle -ℤ product -ℤ pos (nat_abs x)
    exchanged = omega (arith, ints)

-- A number below 0 with another taken away, and one that is not with one below 0 taken away
below_less : (n m : ℕ) → nat_abs (negsuc n -ℤ pos m) ≡ suc n + m
below_less n m = omega (arith, ints)

above_less : (n diagonal : ℕ) (m : ℕ) → nat_abs (pos n -ℤ pos diagonal *ℤ neg_ℤ (pos m)) ≡ n + diagonal * m
above_less n diagonal zero = pos_apart n (diagonal * 0) ∙ omega (arith, mul-zero diagonal)
above_less n diagonal (suc m) = ap (λ (z : ℤ). nat_abs (pos n +ℤ z)) (neg_ℤ-neg_ℤ (pos (diagonal * suc m)))

-- What is left of n after a number of smaller magnitude is above 0
left_above : (n : ℕ) (a : ℤ) → nat_abs a < n → pos n -ℤ a ≡ pos (nat_abs (pos n -ℤ a))
left_above n a h = omega (arith, ints)

left_some : (n m : ℕ) (a : ℤ) → nat_abs a < n → Around n (nat_abs a) m → 1 ≤ m
unfolding Around
left_some n m a h (inl e) = omega arith
left_some n m a h (inr e) = omega arith

-- A label on the other side of 0 is at least the diagonal further away than 0 is
pub beyond_fold : (diagonal : ℕ) (x : ℤ) (b : Bool) (s : Bits) → lt_z x (pos 0) ≡ b
    → nat_abs x + diagonal ≤ nat_abs (x -ℤ pos diagonal *ℤ amplitude (b ∷ s))
unfolding amplitude
beyond_fold diagonal x b s side = go x b side
  where
    n : ℕ
    n = 2 ^ length s

    least : ℕ
    least = nat_abs (pos n -ℤ amplitude s)

    some : diagonal * 1 ≤ diagonal * least
    some = mul-le-mul (le_refl diagonal) (left_some n least (amplitude s) (amplitude_below s) (around n (amplitude s) (amplitude_below s)))

    upper : pos n -ℤ amplitude s ≡ pos least
    upper = left_above n (amplitude s) (amplitude_below s)

    lower : amplitude s -ℤ pos n ≡ neg_ℤ (pos least)
    lower = omega (arith, ints, upper)

    go : (x : ℤ) (b : Bool) → lt_z x (pos 0) ≡ b
        → nat_abs x + diagonal ≤ nat_abs (x -ℤ pos diagonal *ℤ cond b (pos n -ℤ amplitude s) (amplitude s -ℤ pos n))
    go (pos k) true e = absurd (omega (arith, ltb-true k 0 e))
    go (pos k) false e = rw lower (omega (arith, above_less k diagonal least, some))
    go (negsuc k) true e = rw upper (omega (arith, below_less k (diagonal * least), some))
    go (negsuc k) false e = absurd (subst T e tt)
