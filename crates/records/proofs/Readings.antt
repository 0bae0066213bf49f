-- Computed readings, as one theorem: document 01's listing record from its numbers and back, and which refusal decides where a list or a
-- record has several faults. The bytes are document 01's, the refusals the table's and document 02's, worked out by hand.
use Prim.Native.Nat.{ℕ}
use mathlib.Core.Path.{◌≡◌, refl}
use mathlib.Core.List.{List, [], ◌∷◌, ◌++◌, map}
use lib.IntN.{ℤ, pos, negsuc}
use Rattle.wire.specs.Reading.{number_at, groups, above_digits, last_group}
use Rattle.wire.specs.Writing.{groups_of, bytes_of}
use Rattle.wire.specs.Folding.{folded, unfolded}
use Rattle.block.specs.Reading.{by_number, numbers_at, kinds_of, runs_of, matrix_runs, vector_kinds, starts_with, layout_of, stages_at}
use Rattle.block.specs.Reading.{read_record, read_whole}
use Rattle.block.specs.Conditions.{called_by}
use Rattle.refusals.specs.Filling.{Filling, refused, filled, fitted}
use Rattle.refusals.specs.declared.Refusal.TheVariants.{Opening, Ends, Malformed, Streams, Width, Vectors, Clip, Share, Diagonal}
use Rattle.refusals.specs.declared.Refusal.TheVariants.{Entry, Received, Prior, Trailing, Buffer, Crowded, Weak, Owner}
use Rattle.block.proofs.Readings.{listing_record, weakened_record, owned_record}
use Rattle.records.specs.Writing.{checked, bytes_for, record_of, writing_in, writing, reading}

-- "That vector twice, C = 10, D = 3": R rows (1, 1), (0, 1), y = (1, -1), priors 0
abbrev vector : List ℤ
vector = pos 1 ∷ pos 1 ∷ pos 0 ∷ pos 1 ∷ pos 1 ∷ pos 0 ∷ negsuc 0 ∷ pos 0 ∷ pos 0 ∷ pos 0 ∷ []

abbrev listing : List ℤ
listing = pos 2 ∷ pos 1 ∷ pos 2 ∷ pos 10 ∷ pos 3 ∷ vector ++ vector

-- One stream of one bit up to its prior: C = 5, D = 2, R = 1, y = 2
abbrev one : List ℤ
one = pos 1 ∷ pos 1 ∷ pos 1 ∷ pos 5 ∷ pos 2 ∷ pos 1 ∷ pos 2 ∷ pos 0 ∷ []

-- The pair's vector once, with C = 10, W = 7 and D = 4
abbrev weakened : List ℤ
weakened = pos 2 ∷ pos 1 ∷ pos 1 ∷ pos 10 ∷ pos 7 ∷ pos 4 ∷ vector

-- One stream of one bit of owner 4: C = 5, W = 3, D = 1, R = 1, y = 2, prior 10
abbrev limits : List ℤ
limits = pos 1 ∷ pos 1 ∷ pos 1 ∷ pos 5 ∷ pos 3 ∷ pos 1 ∷ []

abbrev owned : List ℤ
owned = limits ++ pos 4 ∷ pos 1 ∷ pos 2 ∷ pos 0 ∷ pos 10 ∷ []

-- The number that tells the opening, a list, the bytes that are lent, and what the call comes to
pub record Writing : Type 0 where
  pub told : ℕ
  pub given : List ℤ
  pub room : ℕ
  pub comes : Filling ℕ

abbrev tell : ℕ → List ℤ → ℕ → Filling ℕ → Writing
tell told given room comes = record { told = told; given = given; room = room; comes = comes }

abbrev case : List ℤ → ℕ → Filling ℕ → Writing
case given room comes = tell 1 given room comes

-- A record, the places that are lent, and what the call comes to
pub record Reading : Type 0 where
  pub given : List ℕ
  pub room : ℕ
  pub comes : Filling ℤ

abbrev read : List ℕ → ℕ → Filling ℤ → Reading
read given room comes = record { given = given; room = room; comes = comes }

unfoldable pub lists : List Writing
lists =
    case listing 29 (filled listing_record)
    ∷ case listing 28 (refused Buffer)
    ∷ case [] 0 (refused Ends)
    ∷ case (pos 5 ∷ pos 8 ∷ []) 0 (refused Streams)
    ∷ case (pos 4 ∷ pos 9 ∷ []) 0 (refused Width)
    ∷ case (pos 4 ∷ pos 8 ∷ pos 0 ∷ []) 0 (refused Crowded)
    ∷ case (pos 3 ∷ pos 8 ∷ pos 0 ∷ []) 0 (refused Vectors)
    ∷ case (pos 2 ∷ pos 1 ∷ pos 1 ∷ negsuc 0 ∷ []) 0 (refused Clip)
    ∷ case (pos 2 ∷ pos 1 ∷ pos 1 ∷ pos 10 ∷ pos 1 ∷ []) 0 (refused Share)
    ∷ case (pos 2 ∷ pos 1 ∷ pos 1 ∷ pos 10 ∷ pos 2 ∷ pos 0 ∷ []) 0 (refused Diagonal)
    ∷ case (pos 2 ∷ pos 1 ∷ pos 1 ∷ pos 10 ∷ pos 2 ∷ pos 1 ∷ pos 2048 ∷ []) 0 (refused Entry)
    ∷ case (pos 1 ∷ pos 1 ∷ pos 1 ∷ pos 5 ∷ pos 2 ∷ pos 1 ∷ negsuc 131071 ∷ []) 0 (refused Received)
    ∷ case one 0 (refused Ends)
    -- "13 where it goes on" comes after a range, and before 14
    ∷ case (one ++ pos 1048576 ∷ pos 0 ∷ []) 0 (refused Prior)
    ∷ case (one ++ pos 0 ∷ pos 1048576 ∷ []) 0 (refused Trailing)
    ∷ case (one ++ negsuc 64 ∷ []) 13 (refused Buffer)
    ∷ case (one ++ negsuc 64 ∷ []) 14
    (filled (0x43 ∷ 0x42 ∷ 0x52 ∷ 0x31 ∷ 0x01 ∷ 0x01 ∷ 0x01 ∷ 0x05 ∷ 0x02 ∷ 0x01 ∷ 0x04 ∷ 0x00 ∷ 0x81 ∷ 0x01 ∷ []))
    -- document 02's opening: W behind C, 16 after 7 and before D is there
    ∷ tell 2 weakened 20 (filled weakened_record)
    ∷ tell 1 weakened 20 (refused Diagonal)
    ∷ tell 2 listing 29 (refused Share)
    ∷ tell 2 (pos 1 ∷ pos 1 ∷ pos 1 ∷ pos 5 ∷ []) 0 (refused Ends)
    ∷ tell 2 (pos 1 ∷ pos 1 ∷ pos 1 ∷ pos 5 ∷ pos 6 ∷ []) 0 (refused Weak)
    ∷ tell 2 (pos 1 ∷ pos 1 ∷ pos 1 ∷ pos 5 ∷ negsuc 0 ∷ pos 0 ∷ []) 0 (refused Weak)
    ∷ tell 2 (pos 1 ∷ pos 1 ∷ pos 1 ∷ pos 0 ∷ pos 0 ∷ pos 0 ∷ []) 0 (refused Share)
    ∷ tell 2 (pos 1 ∷ pos 1 ∷ pos 1 ∷ pos 16777216 ∷ pos 16777217 ∷ []) 0 (refused Clip)
    -- owners: one before each vector, plain, 17 before that vector's R
    ∷ tell 3 owned 15 (filled owned_record)
    ∷ tell 3 owned 14 (refused Buffer)
    ∷ tell 3 limits 0 (refused Ends)
    ∷ tell 3 (limits ++ pos 0 ∷ pos 0 ∷ []) 0 (refused Owner)
    ∷ tell 3 (limits ++ pos 5 ∷ pos 0 ∷ []) 0 (refused Owner)
    ∷ tell 3 (limits ++ negsuc 0 ∷ []) 0 (refused Owner)
    ∷ tell 3 (limits ++ pos 4 ∷ pos 0 ∷ []) 0 (refused Diagonal)
    ∷ tell 2 owned 15 (refused Trailing)
    -- an unknown one, whatever the list and the buffer are
    ∷ tell 0 listing 29 (refused Opening)
    ∷ tell 4 [] 0 (refused Opening)
    ∷ tell 4294967295 (pos 5 ∷ []) 0 (refused Opening)
    ∷ []

unfoldable pub records : List Reading
records =
    read listing_record 25 (filled listing)
    ∷ read listing_record 24 (refused Buffer)
    ∷ read (listing_record ++ 0x00 ∷ []) 24 (refused Trailing)
    ∷ read (0x43 ∷ 0x42 ∷ 0x52 ∷ 0x31 ∷ 0x04 ∷ 0x08 ∷ []) 0 (refused Crowded)
    ∷ read weakened_record 16 (filled weakened)
    ∷ read owned_record 11 (filled owned)
    ∷ read owned_record 10 (refused Buffer)
    ∷ read (0x43 ∷ 0x42 ∷ 0x52 ∷ 0x34 ∷ 0x04 ∷ 0x08 ∷ []) 0 (refused Opening)
    -- a last group of 0 behind another, before W's range
    ∷ read (0x43 ∷ 0x42 ∷ 0x52 ∷ 0x32 ∷ 0x01 ∷ 0x01 ∷ 0x01 ∷ 0x05 ∷ 0x85 ∷ 0x00 ∷ []) 0 (refused Malformed)
    ∷ []

pub all_readings : (map (λ c. writing c.told c.given c.room) lists ≡ map (λ c. c.comes) lists)
    × (map (λ c. reading c.given c.room) records ≡ map (λ c. c.comes) records)
unfolding lists records writing checked bytes_for record_of writing_in called_by vector_kinds kinds_of runs_of matrix_runs folded bytes_of groups_of fitted reading
    read_whole read_record layout_of stages_at numbers_at by_number number_at groups above_digits last_group unfolded starts_with
all_readings = (refl, refl)
