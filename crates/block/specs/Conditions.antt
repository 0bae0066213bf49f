-- Demand 1, from document 01, "Where a record is turned back", and Points 1, 4 and 7 of document 02: the table's conditions, row by row.
use Rattle.std.specs.Prelude.{ℕ, ◌+◌, ◌<◌, ◌≡◌, true, false, cond, List, [], ◌∷◌, ◌++◌, leb, length, get_or, take, ℤ, pos, Ok}
use Rattle.model.specs.Block.{widths}
use Rattle.wire.specs.Reading.{number_at, number_refusal}
use Rattle.refusals.specs.Table.{refusal_number, one_of, allowed}
use Rattle.block.specs.Reading.{opening, whole_of, numbers_at, starts_with, stages}
use Rattle.refusals.specs.declared.Kind.{Kind}
use Rattle.refusals.specs.declared.Kind.TheVariants.{StreamCount, SymbolWidth, VectorCount, ClipLevel, WeakLevel, NodeShare, OwnerNumber, DiagonalEntry, RightPart, ReceivedPart, BitPrior}
use Rattle.refusals.specs.declared.Refusal.{Refusal}
use Rattle.refusals.specs.declared.Refusal.TheVariants.{Opening, Ends, Malformed, Streams, Width, Vectors, Clip, Share, Diagonal, Entry, Received, Prior, Trailing, Buffer, Crowded, Weak, Owner}
use Rattle.block.specs.declared.Layout.{Layout}

-- The kinds that numbers call for, as far as they tell: each stage's, once all numbers before it are there. So many these are
unfoldable pub called_by : List (List ℤ → List Kind) → ℕ → List ℤ → List Kind
called_by [] before numbers = []
called_by (s ∷ later) before numbers =
    let kinds = s (take before numbers) in
    cond (leb before (length numbers)) (kinds ++ called_by later (before + length kinds) numbers) []

-- The kinds of the numbers that a record calls for, as far as its first numbers tell
abbrev pub called_for : Layout → List ℤ → List Kind
called_for layout numbers = called_by (stages layout) 0 numbers

-- A record's first checks are passed: its opening, and each of its first numbers, "read, then ranged, before the next", up to a place
pub record Passed (bytes : List ℕ) (layout : Layout) (numbers : List ℤ) (at : ℕ) : Type 0 where
  pub opens : starts_with (opening layout) bytes ≡ true
  pub each : numbers_at (take (length numbers) (called_for layout numbers)) bytes 4 ≡ record { numbers = numbers; read = Ok at }

-- and a number of some kind comes next
pub record Next (bytes : List ℕ) (k : Kind) (at : ℕ) : Type 0 where
  pub layout : Layout
  pub numbers : List ℤ
  pub passed : Passed bytes layout numbers at
  pub more : length numbers < length (called_for layout numbers)
  pub kind : get_or (called_for layout numbers) (length numbers) StreamCount ≡ k

-- and it is read as a whole number that meets a condition
pub record NextIs (bytes : List ℕ) (k : Kind) (Holds : ℤ → Type 0) : Type 0 where
  pub at : ℕ
  pub next : Next bytes k at
  pub n : ℕ
  pub after : ℕ
  pub value : number_at bytes at ≡ Ok (n, after)
  pub holds : Holds (whole_of k n)

-- as that of being out of its range
abbrev pub OutOfRange : List ℕ → Kind → Type 0
OutOfRange bytes k = NextIs bytes k (λ (z : ℤ). allowed k z ≡ false)

-- or no number can be read there, by one of the two refusals of "any number"
abbrev pub Unreadable : List ℕ → ℕ → Type 0
Unreadable bytes refusal = (k : Kind) × (at : ℕ) × Next bytes k at × (number_refusal (number_at bytes at) ≡ refusal)

-- or all numbers are passed
pub record Whole (bytes : List ℕ) (at : ℕ) : Type 0 where
  pub layout : Layout
  pub numbers : List ℤ
  pub passed : Passed bytes layout numbers at
  pub all : length numbers ≡ length (called_for layout numbers)

-- The table's conditions but the reply buffer's, the checks before each one being passed: "The first that fails decides"
abbrev pub TurnedBack : List ℕ → Refusal → Type 0
-- "first four bytes missing or different" from every opening
TurnedBack bytes Opening = (layout : Layout) → starts_with (opening layout) bytes ≡ false
-- "record ends before its last group"
TurnedBack bytes Ends = Unreadable bytes (refusal_number Ends)
-- "four groups all with the high bit, or a last group of 0 after another"
TurnedBack bytes Malformed = Unreadable bytes (refusal_number Malformed)
-- "not 1 to 4"
TurnedBack bytes Streams = OutOfRange bytes StreamCount
-- "not 1, 2, 4, 6", nor document 02's 8, whatever M is
TurnedBack bytes Width = (m : ℤ) × NextIs bytes (SymbolWidth m) (λ (q : ℤ). one_of widths q ≡ false)
-- "not 1 to 64"
TurnedBack bytes Vectors = OutOfRange bytes VectorCount
-- "above range"
TurnedBack bytes Clip = OutOfRange bytes ClipLevel
-- "outside 0 to C", document 02's 16, "checked after 7"
TurnedBack bytes Weak = (c : ℤ) × OutOfRange bytes (WeakLevel c)
-- "outside range", which begins at M
TurnedBack bytes Share = (m : ℤ) × OutOfRange bytes (NodeShare m)
-- "outside 1 to 4", document 02's 17, "checked as it is read"
TurnedBack bytes Owner = OutOfRange bytes OwnerNumber
-- "outside range"
TurnedBack bytes Diagonal = OutOfRange bytes DiagonalEntry
TurnedBack bytes Entry = OutOfRange bytes RightPart
TurnedBack bytes Received = OutOfRange bytes ReceivedPart
TurnedBack bytes Prior = OutOfRange bytes BitPrior
-- "bytes follow the last prior"
TurnedBack bytes Trailing = (at : ℕ) × Whole bytes at × (at < length bytes)
-- the reply buffer is no matter of the record's
TurnedBack bytes Buffer = ⊥
-- "when Q is 8 and M is 4", document 02's 15
TurnedBack bytes Crowded = NextIs bytes (SymbolWidth (pos 4)) (λ (q : ℤ). q ≡ pos 8)
