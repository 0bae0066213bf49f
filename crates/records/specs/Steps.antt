-- What the steps of writing and reading ask and give.
use Rattle.std.specs.Prelude.{ℕ, ◌*◌, ◌≤◌, ◌<◌, ◌≡◌, true, List, ltb, length, get_or, ℤ, pos, Result, Ok, Err}
use Rattle.model.specs.Block.{most_streams, most_width, most_bits, most_vectors}
use Rattle.refusals.specs.Table.{allowed}
use Rattle.refusals.specs.Filling.{Filling, refused, filled, buffer_after}
use Rattle.block.specs.Reading.{header_size, count_at, most_numbers, Read}
use Rattle.block.specs.Contents.{vector_start}
use Rattle.block.specs.Conditions.{called_for}
use Rattle.refusals.specs.declared.Kind.{Kind}
use Rattle.refusals.specs.declared.Refusal.{Refusal}
use Rattle.refusals.specs.declared.Kind.TheVariants.{StreamCount}
use Rattle.block.specs.declared.Layout.{Layout}
use Rattle.records.specs.Writing.{Verdict, fine, turned, checked, record_of}

-- The kind that a list calls for at a place
abbrev pub kind_at : Layout → List ℤ → ℕ → Kind
kind_at layout numbers i = get_or (called_for layout numbers) i StreamCount

-- A list's first numbers are in their ranges
abbrev pub FirstAllowed : Layout → List ℤ → ℕ → Type 0
FirstAllowed layout numbers i = (j : ℕ) → j < i → allowed (kind_at layout numbers j) (get_or numbers j (pos 0)) ≡ true

-- A number that is called for, those before it being in their ranges
pub record Asked (layout : Layout) (numbers : List ℤ) (i : ℕ) : Type 0 where
  pub inside : i < length numbers
  pub called : i < length (called_for layout numbers)
  pub before : FirstAllowed layout numbers i

-- M, Q and N in a list's front, within their ranges
pub record Sized (layout : Layout) (numbers : List ℤ) : Type 0 where
  pub header : header_size layout ≤ length numbers
  pub stream : 1 ≤ count_at 0 numbers
  pub streams : count_at 0 numbers ≤ most_streams
  pub width : count_at 1 numbers ≤ most_width
  pub label : count_at 0 numbers * count_at 1 numbers ≤ most_bits
  pub vectors : count_at 2 numbers ≤ most_vectors

-- The numbers of a record by its own M, Q and N: all before where vector N would begin, from 0
abbrev pub number_count : Layout → List ℤ → ℕ
number_count layout numbers = vector_start layout numbers (count_at 2 numbers)

-- A bound tells of a place, as what the list calls for does, whether a number is called for there; it is no more than any record has
pub record Called (layout : Layout) (numbers : List ℤ) (i end : ℕ) : Type 0 where
  pub tells : ltb i end ≡ ltb i (length (called_for layout numbers))
  pub most : end ≤ most_numbers

-- A verdict with the record's length
abbrev pub as_read : ℕ → Verdict → Read
as_read size fine = Ok size
as_read size (turned r) = Err r

-- What writing a list asks: it was checked, and the buffer has room for its record
pub record WriteAsked (layout : Layout) (numbers : List ℤ) (room : ℕ) : Type 0 where
  pub fine_is : checked (called_for layout numbers) numbers ≡ fine
  pub buffer : length (record_of layout numbers) ≤ room
