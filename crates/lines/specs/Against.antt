-- Document 01, "Bench readings": "the number of label bits that go against the sign of their prior (a prior of 0 has none)".
use Rattle.std.specs.Prelude.{ℕ, zero, suc, ◌+◌, Bool, false, not, cond, List, [], ◌∷◌, ℤ, pos, negsuc, length}
use Rattle.model.specs.Constellation.{Bits, bits_of}

-- A bit goes against the sign of its prior: "positive favours 0", "a prior of 0 has none"
abbrev pub goes_against : ℤ → Bool → Bool
goes_against (pos zero) b = false
goes_against (pos (suc n)) b = b
goes_against (negsuc n) b = not b

-- How many of some bits do, each with its prior
unfoldable pub against_in : List ℤ → Bits → ℕ
against_in [] bits = 0
against_in (p ∷ ps) [] = 0
against_in (p ∷ ps) (b ∷ bits) = cond (goes_against p b) 1 0 + against_in ps bits

-- How many bits of a label do: it has as many bits as there are priors
abbrev pub against : List ℤ → ℕ → ℕ
against priors label = against_in priors (bits_of (length priors) label)

-- The marks of a prior in the two masks: it is negative, it is not 0
abbrev pub negative_mark : ℤ → ℕ
negative_mark (pos n) = 0
negative_mark (negsuc n) = 1

abbrev pub nonzero_mark : ℤ → ℕ
nonzero_mark (pos zero) = 0
nonzero_mark (pos (suc n)) = 1
nonzero_mark (negsuc n) = 1
