-- The digits that io::decimal makes are those of the text.
use Prim.Native.Nat.{ℕ, zero, suc, ◌+◌, ◌-◌, ◌*◌, ◌/◌, ◌%◌, ◌^◌, ◌≤◌, ◌<◌}
use mathlib.Core.Path.{◌≡◌, ◌∙◌, ap, ap₂, subst}
use mathlib.Core.Bool.{Bool, true, false, cond}
use mathlib.Core.List.{List, [], ◌∷◌, ◌++◌}
use native.Mathlib.Nat.{pow-suc}
use native.Mathlib.Omega.{arith}
use borrow.Author.Tests.{lt-ltb, le-ltb}
use lib.Dec.{ltb}
use lib.ListN.{length, length-append}
use Rattle.io.specs.Digits.{hex_digit_ascii, last_digits, IsDigitCount}
use Rattle.lines.specs.Text.{decimals, decimal_of}

-- A digit's byte
glyph_is : (n : ℕ) → hex_digit_ascii (n % 10) ≡ 48 + n % 10
glyph_is n = rw (lt-ltb (n % 10) 10 (omega arith))

-- A power of ten with one more factor
ten_more : (k : ℕ) → 10 ^ suc k ≡ 10 ^ k * 10
ten_more k = pow-suc 10 k

ten_most : (k : ℕ) → 10 ≤ 10 ^ suc k
ten_most zero = omega arith
ten_most (suc k) = omega (arith, ten_most k, ten_more (suc k))

less : (k : ℕ) → suc k - 1 ≡ k
less k = omega arith

-- A number of more than one digit
at_least : (n k : ℕ) → IsDigitCount 10 1 n (suc (suc k)) → 10 ^ suc k ≤ n
at_least n k f = subst (λ (x : ℕ). 10 ^ x ≤ n) (less (suc k)) (f.2 (omega arith))

digits_are : (most n k : ℕ) → n ≤ most → IsDigitCount 10 1 n k → last_digits 10 k n ≡ decimals most n
unfolding decimals
digits_are most n zero h f = absurd (omega (arith, f.0))
digits_are zero n (suc zero) h f = ap (λ (x : ℕ). x ∷ []) (glyph_is n)
digits_are (suc most) n (suc zero) h f =
    let small : n < 10 = omega (arith, f.1) in
    let e : n % 10 ≡ n = omega arith in
    rw (lt-ltb n 10 small) (ap (λ (x : ℕ). x ∷ []) (glyph_is n ∙ ap (λ (x : ℕ). 48 + x) e))
digits_are zero n (suc (suc k)) h f =
    let large = at_least n k f in
    absurd (omega (arith, ten_most k))
digits_are (suc most) n (suc (suc k)) h f =
    let large = at_least n k f in
    let least = ten_most k in
    let fewest : IsDigitCount 10 1 (n / 10) (suc k) =
    (omega arith, omega (arith, f.1, ten_more (suc k)), λ more. rw (less k) (omega (arith, large, ten_more k))) in
    rw (le-ltb n 10 (omega arith))
    (ap₂ (λ (l : List ℕ) (x : ℕ). l ++ x ∷ []) (digits_are most (n / 10) (suc k) (omega arith) fewest) (glyph_is n))

pub decimal_is : (n k : ℕ) → IsDigitCount 10 1 n k → last_digits 10 k n ≡ decimal_of n
unfolding decimal_of
decimal_is n k f = digits_are n n k (omega arith) f

-- A number below 10 to the m has at most m digits
decimals_most : (most m n : ℕ) → n < 10 ^ suc m → length (decimals most n) ≤ suc m
unfolding decimals
decimals_most zero m n h = omega arith
decimals_most (suc most) zero n h = rw (lt-ltb n 10 (omega arith)) (omega arith)
decimals_most (suc most) (suc m) n h = go (ltb n 10) (decimals_most most m (n / 10) (omega (arith, ten_more (suc m))))
  where
    go : (t : Bool) → length (decimals most (n / 10)) ≤ suc m
        → length (cond t ((48 + n) ∷ []) (decimals most (n / 10) ++ (48 + n % 10) ∷ [])) ≤ suc (suc m)
    go true k = omega arith
    go false k = omega (arith, length-append (decimals most (n / 10)) ((48 + n % 10) ∷ []))

pub decimal_most : (m n : ℕ) → n < 10 ^ suc m → length (decimal_of n) ≤ suc m
unfolding decimal_of
decimal_most m n h = decimals_most n m n h
