-- Computed readings: document 01's listing record says its block, a record with W and one with owners say theirs, where W and an owner are
-- turned back, and where each number of a vector of three rows belongs.
use Prim.Native.Nat.{ℕ}
use mathlib.Core.Path.{◌≡◌, refl}
use mathlib.Core.List.{List, [], ◌∷◌, ◌++◌, map}
use lib.IntN.{ℤ, pos, negsuc}
use Rattle.model.specs.Constellation.{Complex}
use Rattle.model.specs.Metric.{Row}
use Rattle.model.specs.Soft.{up_from}
use Rattle.model.specs.Block.{Block}
use Rattle.block.specs.Reading.{Read, by_number, numbers_at, kinds_of, runs_of, matrix_runs, vector_kinds, starts_with, layout_of, stages_at, read_record}
use Rattle.std.specs.Prelude.{Err}
use Rattle.refusals.specs.declared.Refusal.TheVariants.{Ends, Malformed, Weak, Clip, Share, Owner, Diagonal, Prior}
use Rattle.wire.specs.Reading.{number_at, groups, above_digits, last_group}
use Rattle.wire.specs.Folding.{unfolded}
use Rattle.block.specs.Contents.{complexes, rows_from, rows_of, block_of}

-- A complex number
abbrev c : ℤ → ℤ → Complex
c a b = record { re = a; im = b }

-- Document 01's listing record: "43 42 52 31 02 01 02 0A 03, then twice 01 02 00 01 02 00 01 00 00 00"
abbrev pub listing_record : List ℕ
listing_record =
    0x43 ∷ 0x42 ∷ 0x52 ∷ 0x31 ∷ 0x02 ∷ 0x01 ∷ 0x02 ∷ 0x0A ∷ 0x03 ∷ 0x01 ∷ 0x02 ∷ 0x00 ∷ 0x01 ∷ 0x02 ∷ 0x00 ∷ 0x01 ∷ 0x00 ∷ 0x00 ∷ 0x00
    ∷ 0x01 ∷ 0x02 ∷ 0x00 ∷ 0x01 ∷ 0x02 ∷ 0x00 ∷ 0x01 ∷ 0x00 ∷ 0x00 ∷ 0x00 ∷ []

-- "R rows (1, 1), (0, 1), y = (1, -1), priors 0"
abbrev rows : List Row
rows =
    record { diagonal = 1; right = c (pos 1) (pos 0) ∷ []; received = c (pos 1) (pos 0); priors = pos 0 ∷ [] }
    ∷ record { diagonal = 1; right = []; received = c (negsuc 0) (pos 0); priors = pos 0 ∷ [] }
    ∷ []

-- What bytes say, if they are a record
abbrev said : List ℕ → Block
said bytes = block_of (layout_of bytes) (read_record bytes).numbers

-- The listing record says this block
pub listing_block : said listing_record ≡ record { streams = 2; width = 1; clip = 10; weak = 10; share = 3; owners = 1 ∷ 1 ∷ []; vectors = rows ∷ rows ∷ [] }
unfolding block_of read_record layout_of stages_at vector_kinds numbers_at kinds_of runs_of matrix_runs by_number number_at groups above_digits
    last_group unfolded starts_with rows_of rows_from complexes up_from
listing_block = refl

-- The same vector once in document 02's layout, with C = 10, W = 7 and D = 4
abbrev pub weakened_record : List ℕ
weakened_record =
    0x43 ∷ 0x42 ∷ 0x52 ∷ 0x32 ∷ 0x02 ∷ 0x01 ∷ 0x01 ∷ 0x0A ∷ 0x07 ∷ 0x04 ∷ 0x01 ∷ 0x02 ∷ 0x00 ∷ 0x01 ∷ 0x02 ∷ 0x00 ∷ 0x01 ∷ 0x00 ∷ 0x00 ∷ 0x00 ∷ []

pub weakened_block : said weakened_record ≡ record { streams = 2; width = 1; clip = 10; weak = 7; share = 4; owners = 1 ∷ []; vectors = rows ∷ [] }
unfolding block_of read_record layout_of stages_at vector_kinds numbers_at kinds_of runs_of matrix_runs by_number number_at groups above_digits
    last_group unfolded starts_with rows_of rows_from complexes up_from
weakened_block = refl

-- With W = 11 it is refused by 16, before D is looked at; with C above its range by 7, though W is out of its range too
abbrev header : List ℕ
header = 0x43 ∷ 0x42 ∷ 0x52 ∷ 0x32 ∷ 0x02 ∷ 0x01 ∷ 0x01 ∷ []

pub weak_refused : (read_record (header ++ 0x0A ∷ 0x0B ∷ 0x00 ∷ [])).read ≡ Err Weak
unfolding read_record layout_of stages_at vector_kinds numbers_at kinds_of runs_of matrix_runs by_number number_at groups above_digits
    last_group unfolded starts_with
weak_refused = refl

pub clip_first : (read_record (header ++ 0x80 ∷ 0x80 ∷ 0x80 ∷ 0x08 ∷ 0x81 ∷ 0x80 ∷ 0x80 ∷ 0x08 ∷ [])).read ≡ Err Clip
unfolding read_record layout_of stages_at vector_kinds numbers_at kinds_of runs_of matrix_runs by_number number_at groups above_digits
    last_group unfolded starts_with
clip_first = refl

-- The same vector of owners 3 and 1, with C = 10, W = 7 and D = 4
abbrev pub vector_bytes : List ℕ
vector_bytes = 0x01 ∷ 0x02 ∷ 0x00 ∷ 0x01 ∷ 0x02 ∷ 0x00 ∷ 0x01 ∷ 0x00 ∷ 0x00 ∷ 0x00 ∷ []

abbrev owned_header : List ℕ
owned_header = 0x43 ∷ 0x42 ∷ 0x52 ∷ 0x33 ∷ 0x02 ∷ 0x01 ∷ 0x02 ∷ 0x0A ∷ 0x07 ∷ 0x04 ∷ []

pub owned_block : said (owned_header ++ (0x03 ∷ vector_bytes) ++ 0x01 ∷ vector_bytes)
    ≡ record { streams = 2; width = 1; clip = 10; weak = 7; share = 4; owners = 3 ∷ 1 ∷ []; vectors = rows ∷ rows ∷ [] }
unfolding block_of read_record layout_of stages_at vector_kinds numbers_at kinds_of runs_of matrix_runs by_number number_at groups above_digits
    last_group unfolded starts_with rows_of rows_from complexes up_from
owned_block = refl

-- One stream of one bit of owner 4: C = 5, W = 3, D = 1, R = 1, y = 2, prior 10
abbrev pub owned_record : List ℕ
owned_record =
    0x43 ∷ 0x42 ∷ 0x52 ∷ 0x33 ∷ 0x01 ∷ 0x01 ∷ 0x01 ∷ 0x05 ∷ 0x03 ∷ 0x01 ∷ 0x04 ∷ 0x01 ∷ 0x04 ∷ 0x00 ∷ 0x14 ∷ []

-- An owner of 5, of 0, and 128 in two groups are refused by 17, though the diagonal behind it is 0; one that is missing by 2, and 4 in two
-- groups by 3; of 1 to 4 the diagonal is. A share below M comes first, and so does a prior of the vector before
unfoldable pub refused_by : List ℕ → Read
unfolding read_record layout_of stages_at vector_kinds numbers_at kinds_of runs_of matrix_runs by_number number_at groups above_digits last_group unfolded starts_with
refused_by behind = (read_record (0x43 ∷ 0x42 ∷ 0x52 ∷ 0x33 ∷ 0x01 ∷ 0x01 ∷ 0x02 ∷ 0x05 ∷ 0x03 ∷ behind)).read

unfoldable pub behind_clips : List (List ℕ)
behind_clips =
    (0x01 ∷ 0x05 ∷ 0x00 ∷ [])
    ∷ (0x01 ∷ 0x00 ∷ 0x00 ∷ [])
    ∷ (0x01 ∷ 0x80 ∷ 0x01 ∷ 0x00 ∷ [])
    ∷ (0x01 ∷ [])
    ∷ (0x01 ∷ 0x84 ∷ 0x00 ∷ [])
    ∷ (0x01 ∷ 0x04 ∷ 0x00 ∷ [])
    ∷ (0x00 ∷ 0x05 ∷ [])
    ∷ (0x01 ∷ 0x04 ∷ 0x01 ∷ 0x00 ∷ 0x00 ∷ 0xFF ∷ 0xFF ∷ 0xFF ∷ 0x01 ∷ 0x05 ∷ [])
    ∷ (0x01 ∷ 0x04 ∷ 0x01 ∷ 0x00 ∷ 0x00 ∷ 0x00 ∷ 0x05 ∷ [])
    ∷ []

pub owners_refused : map refused_by behind_clips
    ≡ map Err (Owner ∷ Owner ∷ Owner ∷ Ends ∷ Malformed ∷ Diagonal ∷ Share ∷ Prior ∷ Owner ∷ [])
unfolding refused_by behind_clips
owners_refused = refl

abbrev numbers : List ℤ
numbers =
    pos 1 ∷ pos 2 ∷ pos 3 ∷ pos 4 ∷ pos 5 ∷ pos 6 ∷ pos 7 ∷ pos 8 ∷ pos 9 ∷ pos 11 ∷ pos 12 ∷ pos 13 ∷ pos 14 ∷ pos 15 ∷ pos 16
    ∷ pos 21 ∷ pos 22 ∷ pos 23 ∷ pos 24 ∷ pos 25 ∷ pos 26 ∷ []

-- A vector of three rows, two bits a symbol: each number has a value of its own
pub three_rows : rows_of 3 2 numbers
    ≡ record { diagonal = 1; right = c (pos 2) (pos 3) ∷ c (pos 4) (pos 5) ∷ []; received = c (pos 11) (pos 12); priors = pos 21 ∷ pos 22 ∷ [] }
    ∷ record { diagonal = 6; right = c (pos 7) (pos 8) ∷ []; received = c (pos 13) (pos 14); priors = pos 23 ∷ pos 24 ∷ [] }
    ∷ record { diagonal = 9; right = []; received = c (pos 15) (pos 16); priors = pos 25 ∷ pos 26 ∷ [] }
    ∷ []
unfolding rows_of rows_from complexes
three_rows = refl
