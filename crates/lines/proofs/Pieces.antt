-- The listing written piece by piece.
use Rattle.std.proofs.Common.{ℕ, ◌+◌, ◌<◌, ◌≡◌, refl, subst, List, [], ◌++◌, true, false, ℤ, pos, negsuc, length, get_or, drop, add-one, drop-cons}
use native.Mathlib.Nat.{not-suc-le-zero}
use borrow.Author.Tests.{ltb-true}
use lib.Dec.{T}
use lib.IntN.{nat_abs}
use lib.Signed.{lt_z}
use lib.Seq.{drop-length}
use Rattle.wire.specs.Writer.{Writes}
use Rattle.wire.specs.declared.buffer.Writer.{Writer}
use Rattle.wire.proofs.Runs.{writes_then}
use Rattle.lines.specs.Text.{decimal_of, field, blank, minus, value_text, soft_text}

-- A word and a number
pub writes_field : (word : List ℕ) (n : ℕ) {w v u : Writer} → Writes w word v → Writes v (decimal_of n) u → Writes w (field word n) u
unfolding field
writes_field word n h k = writes_then h k

-- A value by its sign
pub value_negative : (z : ℤ) → lt_z z (pos 0) ≡ true → value_text z ≡ field minus (nat_abs z)
unfolding value_text
value_negative (pos n) t = absurd (not-suc-le-zero (ltb-true n 0 t))
value_negative (negsuc n) t = refl

pub value_other : (z : ℤ) → lt_z z (pos 0) ≡ false → value_text z ≡ field blank (nat_abs z)
unfolding value_text
value_other (pos n) t = refl
value_other (negsuc n) t = absurd (subst T t tt)

-- The soft values from the i-th on
abbrev pub soft_left : List ℤ → ℕ → List ℕ
soft_left soft i = soft_text (drop i soft)

-- The i-th and those behind it
pub soft_more : (soft : List ℤ) (i : ℕ) → i < length soft → soft_left soft i ≡ value_text (get_or soft i (pos 0)) ++ soft_left soft (i + 1)
unfolding soft_text
soft_more soft i h = rw (drop-cons soft i (pos 0), add-one)

pub soft_none : (soft : List ℤ) (i : ℕ) → i ≡ length soft → soft_left soft i ≡ []
unfolding soft_text
soft_none soft i e = rw (e, drop-length)
