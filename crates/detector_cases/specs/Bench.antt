-- What the program's own functions answer.
use Rattle.std.specs.Prelude.{ℕ, ◌+◌, Bool, cond, ltb, List, [], ◌∷◌, eqb, Ok, Err, Result}
use Rattle.std.specs.List.{list_all}
use Rattle.cases.specs.Cases.{length_at}
use Rattle.cases.specs.declared.CutOff.{CutOff}

-- A digit of base sixteen as text, in upper case
abbrev pub hex_digit : ℕ → ℕ
hex_digit d = cond (ltb d 10) (48 + d) (55 + d)

-- Whether every byte is the one that the buffer is filled with
abbrev pub all_fill : List ℕ → Bool
all_fill = list_all (λ b. eqb b 0xAA)

-- The number in an item of two bytes; any other is bad framing
abbrev pub two_bytes : List ℕ → Result ℕ CutOff
two_bytes (low ∷ high ∷ []) = Ok (length_at (low ∷ high ∷ []) 0)
two_bytes _ = Err (record {})
