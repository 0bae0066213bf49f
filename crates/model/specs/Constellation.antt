-- Document 01, "Streams and labels": bits, labels as numbers, axis amplitudes and constellation points, for any number of bits.
use Rattle.std.specs.Prelude.{ℕ, zero, suc, ◌+◌, ◌-◌, ◌*◌, ◌/◌, ◌%◌, ◌^◌, Bool, true, false, cond, List, [], ◌∷◌, ◌++◌, map, eqb, length, take, drop, ℤ, pos, ◌+ℤ◌, ◌-ℤ◌, ◌*ℤ◌, nat_abs}
use Rattle.std.specs.Bool.{beq}

-- A complex number whose parts are whole numbers
pub record Complex : Type 0 where
  pub re : ℤ
  pub im : ℤ

abbrev pub real : ℕ → Complex
real n = record { re = pos n; im = pos 0 }

infixl 6 ◌⊕◌ ◌⊖◌
infixl 7 ◌⊗◌
abbrev pub ◌⊕◌ : Complex → Complex → Complex
a ⊕ b = record { re = a.re +ℤ b.re; im = a.im +ℤ b.im }

abbrev pub ◌⊖◌ : Complex → Complex → Complex
a ⊖ b = record { re = a.re -ℤ b.re; im = a.im -ℤ b.im }

abbrev pub ◌⊗◌ : Complex → Complex → Complex
a ⊗ b = record { re = a.re *ℤ b.re -ℤ a.im *ℤ b.im; im = a.re *ℤ b.im +ℤ a.im *ℤ b.re }

-- |a| squared
abbrev pub square : Complex → ℕ
square a = nat_abs a.re * nat_abs a.re + nat_abs a.im * nat_abs a.im

-- Bits in label order: "stream 1 first, each stream's first bit highest"
abbrev pub Bits : Type 0
Bits = List Bool

-- "A label is all M × Q bits read as one number"
unfoldable pub number : Bits → ℕ
number [] = 0
number (b ∷ bs) = cond b (2 ^ length bs) 0 + number bs

-- The other way: the w bits of a number
unfoldable pub bits_of : ℕ → ℕ → Bits
bits_of zero n = []
bits_of (suc w) n = eqb (n / 2 ^ w % 2) 1 ∷ bits_of w n

-- All strings of w bits by rising number: a stream's symbols for w = Q, all labels for w = M × Q
unfoldable pub symbols : ℕ → List Bits
symbols zero = [] ∷ []
symbols (suc w) = map (◌∷◌ false) (symbols w) ++ map (◌∷◌ true) (symbols w)

-- One axis by the reflected Gray rule ("000, 001, 011, 010, 110, 111, 101, 100 are -7, -5, -3, -1, +1, +3, +5, +7", and so for any
-- number of bits): a first bit 0 gives the lower half, the remaining bits in their order, a first bit 1 the upper half, in the opposite order
unfoldable pub amplitude : Bits → ℤ
amplitude [] = pos 0
amplitude (b ∷ bs) = cond b (pos (2 ^ length bs) -ℤ amplitude bs) (amplitude bs -ℤ pos (2 ^ length bs))

-- How many of a symbol's bits give the real amplitude: "the first half"; with Q = 1 the single bit, so that "the imaginary amplitude is 0"
abbrev pub real_bits : Bits → ℕ
real_bits s = length s - length s / 2

-- A symbol's point in the constellation: "the first half of a stream's bits gives the real amplitude, the second half the imaginary"
unfoldable pub point : Bits → Complex
point s = record { re = amplitude (take (real_bits s) s); im = amplitude (drop (real_bits s) s) }

-- In how many places two strings of bits differ
unfoldable pub differences : Bits → Bits → ℕ
differences [] t = 0
differences (a ∷ s) [] = 0
differences (a ∷ s) (b ∷ t) = cond (beq a b) 0 1 + differences s t
