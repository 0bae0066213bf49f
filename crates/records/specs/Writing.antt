-- Document 02, Points 2, 4 and 7: "a list of the record's whole numbers, unfolded, in; record bytes out", and the way back. "The writer is now
-- told the opening (1 if unknown)".
use Rattle.std.specs.Prelude.{ℕ, cond, List, [], ◌∷◌, ◌++◌, ℤ, nat_abs, Result, Ok, Err}
use Rattle.wire.specs.Writing.{bytes_of}
use Rattle.wire.specs.Folding.{folded}
use Rattle.refusals.specs.Table.{allowed, is_folded, refusal_of}
use Rattle.block.specs.Reading.{opening, read_whole, Read}
pub use Rattle.block.specs.Reading.{opening_number, told_by}
use Rattle.block.specs.Conditions.{called_for}
use Rattle.refusals.specs.Filling.{Filling, refused, fitted}
use Rattle.refusals.specs.declared.Kind.{Kind}
use Rattle.refusals.specs.declared.Refusal.{Refusal}
use Rattle.block.specs.declared.Layout.{Layout}
use Rattle.refusals.specs.declared.Refusal.TheVariants.{Ends, Trailing}

-- A list may be written, or is turned back
pub data Verdict : Type 0 where
  fine : Verdict
  turned : Refusal → Verdict

-- A list's numbers, one after the other, against the kinds that are called for: "4 to 12 and 15", with Points 4 and 7's 16 and 17, "in record
-- order, 2 where the list ends early, 13 where it goes on". The first check that fails decides
unfoldable pub checked : List Kind → List ℤ → Verdict
checked [] [] = fine
checked [] (z ∷ zs) = turned Trailing
checked (k ∷ ks) [] = turned Ends
checked (k ∷ ks) (z ∷ zs) = cond (allowed k z) (checked ks zs) (turned (refusal_of k z))

-- The plain number that a whole number is written as: "folded" where its kind is
abbrev pub plain_of : Kind → ℤ → ℕ
plain_of k z = cond (is_folded k) (folded z) (nat_abs z)

-- Numbers of some kinds, each in its groups
unfoldable pub bytes_for : List Kind → List ℤ → List ℕ
bytes_for [] zs = []
bytes_for (k ∷ ks) [] = []
bytes_for (k ∷ ks) (z ∷ zs) = bytes_of (plain_of k z) ++ bytes_for ks zs

-- The record of a list in a layout: the opening, and each number as the kind that the list's own first numbers call for there
unfoldable pub record_of : Layout → List ℤ → List ℕ
record_of layout numbers = opening layout ++ bytes_for (called_for layout numbers) numbers

-- "then 14 when the record is longer than the lent buffer"
abbrev pub by_verdict : ℕ → List ℕ → Verdict → Filling ℕ
by_verdict room bytes fine = fitted room bytes
by_verdict room bytes (turned r) = refused r

-- Writing any list in a layout into a lent buffer of `room` bytes
unfoldable pub writing_in : Layout → List ℤ → ℕ → Filling ℕ
writing_in layout numbers room = by_verdict room (record_of layout numbers) (checked (called_for layout numbers) numbers)

-- "(1 if unknown)", whatever the list and the buffer are
abbrev pub by_told : List ℤ → ℕ → Result Layout Refusal → Filling ℕ
by_told numbers room (Ok layout) = writing_in layout numbers room
by_told numbers room (Err r) = refused r

-- Writing any list, by the number that tells the opening, into a lent buffer of `room` bytes
unfoldable pub writing : ℕ → List ℤ → ℕ → Filling ℕ
writing told numbers room = by_told numbers room (told_by told)

-- Of a record that is read: its numbers, 14 where they are more than the lent list has places
abbrev pub numbers_read : ℕ → List ℤ → Read → Filling ℤ
numbers_read room numbers (Ok at) = fitted room numbers
numbers_read room numbers (Err r) = refused r

-- Reading any bytes into a lent list of `room` numbers: refused as a record is, then by 14
unfoldable pub reading : List ℕ → ℕ → Filling ℤ
reading bytes room = numbers_read room (read_whole bytes).numbers (read_whole bytes).read
