-- An axis of any number of bits. A string's place on its axis counts from the lowest amplitude, and amplitudes lie 2 apart. A first bit 1
-- takes the places of the remaining bits from the other end, so where the two halves meet the remaining bits are the same.
use Prim.Native.Nat.{ℕ, suc, ◌+◌, ◌-◌, ◌*◌, ◌^◌, ◌<◌}
use mathlib.Core.Path.{◌≡◌, refl, sym, ◌∙◌, ap, ap₂}
use mathlib.Core.Bool.{true, false}
use mathlib.Core.List.{[], ◌∷◌}
use native.Mathlib.Nat.{two-pow-succ}
use native.Mathlib.Omega.{arith}
use lib.ListN.{length}
use lib.IntN.{ℤ, pos, nat_abs, ◌+ℤ◌, ◌-ℤ◌, +ℤ_idr, +ℤ_comm, +ℤ_assoc, -ℤ-+ℤ_cancel}
use Rattle.model.specs.Constellation.{Bits, amplitude, differences}
use Rattle.integers.proofs.Magnitudes.{nat_abs-sub}

-- A string's place on its axis, from 0 at the lowest amplitude
unfoldable pub position : Bits → ℕ
position [] = 0
position (false ∷ s) = position s
position (true ∷ s) = 2 ^ suc (length s) - 1 - position s

-- An axis of w bits has 2 ^ w places
pub position_below : (s : Bits) → position s < 2 ^ length s
unfolding position
position_below [] = omega arith
position_below (false ∷ s) = omega (arith, two-pow-succ (length s), position_below s)
position_below (true ∷ s) = omega (arith, two-pow-succ (length s), position_below s)

-- With n places, and one bit more: a first bit 0 leaves the place, a first bit 1 counts it from the other end
record Halves (n : ℕ) (s : Bits) : Type 0 where
  below : position s < n
  lower : position (false ∷ s) ≡ position s
  upper : position (true ∷ s) + suc (position s) ≡ n + n

halves : (s : Bits) → Halves (2 ^ length s) s
unfolding position
halves s = record {
  below = position_below s;
  lower = refl;
  upper = omega (arith, two-pow-succ (length s), position_below s);
}

-- (a - n) + 2 n = a + n
lowered : (a : ℤ) (n : ℕ) → a -ℤ pos n +ℤ pos (n + n) ≡ a +ℤ pos n
lowered a n = sym (+ℤ_assoc (a -ℤ pos n) (pos n) (pos n)) ∙ ap (λ (z : ℤ). z +ℤ pos n) (-ℤ-+ℤ_cancel a (pos n))

-- (n - a) + m = 2 n, if a + n = m
raised : (a : ℤ) (n m : ℕ) → a +ℤ pos n ≡ pos m → pos n -ℤ a +ℤ pos m ≡ pos (n + n)
raised a n m e =
    ap (λ (z : ℤ). pos n -ℤ a +ℤ z) (sym e)
    ∙ sym (+ℤ_assoc (pos n -ℤ a) a (pos n)) ∙ ap (λ (z : ℤ). z +ℤ pos n) (-ℤ-+ℤ_cancel (pos n) a)

-- The amplitudes of w bits are the odd numbers from 1 - 2 ^ w on, in the order of the places: at each place 2 more than at the one before
pub amplitude_position : (s : Bits) → amplitude s +ℤ pos (2 ^ length s) ≡ pos (2 * position s + 1)
unfolding amplitude
amplitude_position [] = unfold position in refl
amplitude_position (false ∷ s) = rw (two-pow-succ, (halves s).lower) (lowered (amplitude s) (2 ^ length s) ∙ amplitude_position s)
amplitude_position (true ∷ s) =
    ap (λ (k : ℕ). pos n -ℤ amplitude s +ℤ pos k) size ∙ sym (+ℤ_assoc (pos n -ℤ amplitude s) (pos (2 * position s + 1)) (pos rest))
    ∙ ap (λ (z : ℤ). z +ℤ pos rest) (raised (amplitude s) n _ (amplitude_position s)) ∙ ap pos place
  where
    n : ℕ
    n = 2 ^ length s

    rest : ℕ
    rest = position (true ∷ s) - position s

    size : 2 ^ suc (length s) ≡ 2 * position s + 1 + rest
    size = omega (arith, two-pow-succ (length s), halves s)

    place : n + n + rest ≡ 2 * position (true ∷ s) + 1
    place = omega (arith, halves s)

-- Every amplitude of w bits is between - 2 ^ w and 2 ^ w
pub amplitude_below : (s : Bits) → nat_abs (amplitude s) < 2 ^ length s
unfolding amplitude
amplitude_below [] = omega arith
amplitude_below (false ∷ s) = omega (arith, two-pow-succ (length s), amplitude_below s, nat_abs-sub (amplitude s) (pos (2 ^ length s)))
amplitude_below (true ∷ s) = omega (arith, two-pow-succ (length s), amplitude_below s, nat_abs-sub (pos (2 ^ length s)) (amplitude s))

-- Two amplitudes are twice as far apart as their places
pub distance : (s t : Bits) (d : ℕ) → length s ≡ length t → amplitude t ≡ amplitude s +ℤ pos d → 2 * position t ≡ 2 * position s + d
distance s t d e h = omega (arith, ap nat_abs shifted)
  where
    n : ℤ
    n = pos (2 ^ length s)

    shifted : pos (2 * position t + 1) ≡ pos (2 * position s + 1 + d)
    shifted =
        sym (amplitude_position t) ∙ ap₂ (λ (z : ℤ) (w : ℕ). z +ℤ pos (2 ^ w)) h (sym e)
        ∙ +ℤ_assoc (amplitude s) (pos d) n ∙ ap (◌+ℤ◌ (amplitude s)) (+ℤ_comm (pos d) n) ∙ sym (+ℤ_assoc (amplitude s) n (pos d))
        ∙ ap (λ (z : ℤ). z +ℤ pos d) (amplitude_position s)

both : (s t : Bits) → suc (length s) ≡ suc (length t) → Halves (2 ^ length s) s × Halves (2 ^ length s) t
both s t e = let same : length s ≡ length t = omega arith in (halves s, rw same (halves t))

-- Different strings have different places
pub position_injective : (s t : Bits) → length s ≡ length t → position s ≡ position t → s ≡ t
position_injective [] [] e h = refl
position_injective [] (b ∷ t) e h = absurd (omega arith)
position_injective (a ∷ s) [] e h = absurd (omega arith)
position_injective (false ∷ s) (false ∷ t) e h = let c = both s t e in ap (◌∷◌ false) (position_injective s t (omega arith) (omega arith))
position_injective (false ∷ s) (true ∷ t) e h = let c = both s t e in absurd (omega arith)
position_injective (true ∷ s) (false ∷ t) e h = let c = both s t e in absurd (omega arith)
position_injective (true ∷ s) (true ∷ t) e h = let c = both s t e in ap (◌∷◌ true) (position_injective s t (omega arith) (omega arith))

-- A string does not differ from itself
pub differences_none : (s : Bits) → differences s s ≡ 0
unfolding differences
differences_none [] = refl
differences_none (false ∷ s) = omega (arith, differences_none s)
differences_none (true ∷ s) = omega (arith, differences_none s)

-- Strings at neighbouring places, either one the lower, differ in just one bit
pub neighbours : (s t : Bits) → length s ≡ length t → (position s - position t) + (position t - position s) ≡ 1 → differences s t ≡ 1
unfolding differences
neighbours [] [] e h = absurd (omega arith)
neighbours [] (b ∷ t) e h = absurd (omega arith)
neighbours (a ∷ s) [] e h = absurd (omega arith)
neighbours (false ∷ s) (false ∷ t) e h = let c = both s t e in omega (arith, neighbours s t (omega arith) (omega arith))
neighbours (false ∷ s) (true ∷ t) e h =
    let c = both s t e in rw (position_injective s t (omega arith) (omega arith)) (omega (arith, differences_none t))
neighbours (true ∷ s) (false ∷ t) e h =
    let c = both s t e in rw (position_injective s t (omega arith) (omega arith)) (omega (arith, differences_none t))
neighbours (true ∷ s) (true ∷ t) e h = let c = both s t e in omega (arith, neighbours s t (omega arith) (omega arith))

-- Different labels have different amplitudes
pub amplitude_injective : (s t : Bits) → length s ≡ length t → amplitude s ≡ amplitude t → s ≡ t
amplitude_injective s t e h = position_injective s t e (omega (arith, distance s t 0 e (sym h ∙ sym (+ℤ_idr (amplitude s)))))

-- Amplitudes that are neighbours on their axis, 2 apart, belong to labels that differ in just one bit
pub gray_neighbours : (s t : Bits) → length s ≡ length t → amplitude t ≡ amplitude s +ℤ pos 2 → differences s t ≡ 1
gray_neighbours s t e h = let next = distance s t 2 e h in neighbours s t e (omega arith)
