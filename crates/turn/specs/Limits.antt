-- The tests that the limits decide.
use Rattle.std.specs.Prelude.{ℕ, Bool, ◌||◌, List, leb, ltb, get_or}
use Rattle.std.specs.Int.Bits.{bit_xor}
use Rattle.limits.specs.Reach.{first_place, stream_reach, symbol_of, chosen_reach}

-- The pass test of a node of partial metric d with `level` streams to choose: d is at most B, or below the widest limit of the bits that are
-- not chosen, or below `chosen`, that of the chosen ones that are opposite to m's
unfoldable pub passes_at : ℕ → List ℕ → ℕ → ℕ → ℕ → Bool
passes_at best limits chosen d level = leb d best || (ltb d (get_or limits (first_place level) 0) || ltb d chosen)

-- The widest limit of a node's chosen bits that are opposite to those of the best label
abbrev pub opposite : ℕ → ℕ → List ℕ → ℕ → ℕ → ℕ → ℕ
opposite m q limits label level bits = chosen_reach m q limits level (bit_xor bits label)

-- The same of the bits of symbol s at stream j
abbrev pub opposite_reach : ℕ → ℕ → ℕ → List ℕ → ℕ → ℕ → ℕ
opposite_reach m q label limits j s = stream_reach q limits j (bit_xor s (symbol_of m q label j))

-- The pass test with a node's limit looked up
abbrev pub passes_by : ℕ → ℕ → ℕ → ℕ → List ℕ → ℕ → ℕ → ℕ → Bool
passes_by m q label best limits d level bits = passes_at best limits (opposite m q limits label level bits) d level
