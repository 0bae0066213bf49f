-- Document 01, "The record": reading a block record from any list of bytes. "Checks follow the record's order; each number is read, then
-- ranged, before the next. The first that fails decides."
use Rattle.std.specs.Prelude.{ℕ, zero, suc, ◌+◌, ◌*◌, ◌<◌, ◌≤◌, ◌≡◌, Bool, true, false, cond, ◌&&◌, List, [], ◌∷◌, ◌++◌, ltb, eqb, length, get_or, replicate, ℤ, pos, nat_abs, Result, Ok, Err}
use Rattle.std.proofs.lemmas.List.Edits.{sets}
use Rattle.model.specs.Block.{most_streams, most_width, most_bits}
use Rattle.wire.specs.Folding.{unfolded}
use Rattle.wire.specs.Reading.{Number, number_at}
use Rattle.refusals.specs.Table.{allowed, is_folded, refusal_of, unreadable}
use Rattle.refusals.specs.declared.Kind.{Kind}
use Rattle.refusals.specs.declared.Kind.TheVariants.{StreamCount, SymbolWidth, VectorCount, ClipLevel, WeakLevel, NodeShare, OwnerNumber, DiagonalEntry, RightPart, ReceivedPart, BitPrior}
use Rattle.refusals.specs.declared.Refusal.{Refusal}
use Rattle.refusals.specs.declared.Refusal.TheVariants.{Opening, Trailing}
use Rattle.block.specs.declared.Run.{Run}
use Rattle.block.specs.declared.Part.{Part}
use Rattle.block.specs.declared.Part.TheVariants.{First, Sizes, Limits, Vector}
use Rattle.block.specs.declared.Layout.{Layout}
use Rattle.block.specs.declared.Layout.TheVariants.{Base, Weakened, Owned}

-- The openings: document 01's, and document 02's two: with the first a record carries W, with the second W and owners
abbrev pub opening : Layout → List ℕ
opening Base = 0x43 ∷ 0x42 ∷ 0x52 ∷ 0x31 ∷ []
opening Weakened = 0x43 ∷ 0x42 ∷ 0x52 ∷ 0x32 ∷ []
opening Owned = 0x43 ∷ 0x42 ∷ 0x52 ∷ 0x33 ∷ []

-- The number that tells an opening: its last byte less 0x30
abbrev pub opening_number : Layout → ℕ
opening_number Base = 1
opening_number Weakened = 2
opening_number Owned = 3

-- The layout that a number tells: "(1 if unknown)"
abbrev pub told_by : ℕ → Result Layout Refusal
told_by number =
    cond (eqb number (opening_number Base)) (Ok Base)
    (cond (eqb number (opening_number Weakened)) (Ok Weakened) (cond (eqb number (opening_number Owned)) (Ok Owned) (Err Opening)))

-- How many numbers W stand "directly after C"
abbrev pub weak_count : Layout → ℕ
weak_count Base = 0
weak_count Weakened = 1
weak_count Owned = 1

-- How many owner numbers stand "before each vector"
abbrev pub own_count : Layout → ℕ
own_count Base = 0
own_count Weakened = 0
own_count Owned = 1

-- Where W stands among a record's numbers: behind C, or where "an older record has W = C", in C's own place
abbrev pub weak_place : Layout → ℕ
weak_place layout = 3 + weak_count layout

-- Where D stands
abbrev pub share_place : Layout → ℕ
share_place layout = 4 + weak_count layout

-- How many numbers stand before the first vector
abbrev pub header_size : Layout → ℕ
header_size layout = 5 + weak_count layout

-- A number taken and the place after it, or why the record is turned back there
abbrev pub One : Type 0
One = Result (ℤ × ℕ) Refusal

-- The place where the numbers ended, or why the record is turned back
abbrev pub Read : Type 0
Read = Result ℕ Refusal

-- A number that was read, unfolded where its kind is folded
abbrev pub whole_of : Kind → ℕ → ℤ
whole_of k n = cond (is_folded k) (unfolded n) (pos n)

-- and ranged
unfoldable pub by_number : Kind → Number → One
by_number k (Ok (n, next)) = cond (allowed k (whole_of k n)) (Ok (whole_of k n, next)) (Err (refusal_of k (whole_of k n)))
by_number k (Err e) = Err (unreadable e)

-- One number of a kind at a place: "each number is read, then ranged"
abbrev pub one_at : Kind → List ℕ → ℕ → One
one_at k bytes at = by_number k (number_at bytes at)

-- Below a bound, a number of a kind is folded and in its range
pub record Sure (k : Kind) (bound : ℕ) : Type 0 where
  pub taken : (n next : ℕ) → n < bound → by_number k (Ok (n, next)) ≡ Ok (unfolded n, next)

-- What was read: the whole numbers taken, and how it ended
pub record Parse : Type 0 where
  pub numbers : List ℤ
  pub read : Read

abbrev pub by_one : (ℕ → Parse) → One → Parse
by_one further (Ok (z, next)) = record { numbers = z ∷ (further next).numbers; read = (further next).read }
by_one further (Err r) = record { numbers = []; read = Err r }

-- Numbers of some kinds, one after the other, from a place on
unfoldable pub numbers_at : List Kind → List ℕ → ℕ → Parse
numbers_at [] bytes at = record { numbers = []; read = Ok at }
numbers_at (k ∷ ks) bytes at = by_one (numbers_at ks bytes) (one_at k bytes at)

-- Some numbers and, unless they were turned back, what they call for
abbrev pub by_read : List ℤ → (List ℤ → ℕ → Parse) → Read → Parse
by_read numbers further (Ok at) = record { numbers = numbers ++ (further numbers at).numbers; read = (further numbers at).read }
by_read numbers further (Err r) = record { numbers = numbers; read = Err r }

abbrev pub and_then : Parse → (List ℤ → ℕ → Parse) → Parse
and_then p further = by_read p.numbers further p.read

-- Numbers of one kind side by side
abbrev pub run : Kind → ℕ → Run
run k n = record { kind = k; count = n }

-- What stands for a run beyond the last
abbrev pub no_run : Run
no_run = run StreamCount 0

-- The kinds of a list of runs, number by number
unfoldable pub kinds_of : List Run → List Kind
kinds_of [] = []
kinds_of (r ∷ rs) = replicate r.count r.kind ++ kinds_of rs

-- "R by rows, the diagonal plain, each entry right of it as folded real and imaginary": the rows of an m by m matrix
unfoldable pub matrix_runs : ℕ → List Run
matrix_runs zero = []
matrix_runs (suc later) = run DiagonalEntry 1 ∷ run RightPart (2 * later) ∷ matrix_runs later

-- "R .. y, row 1 first, as folded real, imaginary .. M × Q folded priors"
abbrev pub vector_runs : ℕ → ℕ → List Run
vector_runs m q = matrix_runs m ++ run ReceivedPart (2 * m) ∷ run BitPrior (m * q) ∷ []

-- A part of a record: M; Q, N and C, of which Q is ranged by M; so many numbers W, ranged by C, and D, ranged by M; "then for each vector"
-- so many owner numbers and, behind them, its own
unfoldable pub runs_of : Part → List Run
runs_of First = run StreamCount 1 ∷ []
runs_of (Sizes m) = run (SymbolWidth m) 1 ∷ run VectorCount 1 ∷ run ClipLevel 1 ∷ []
runs_of (Limits n m c) = run (WeakLevel c) n ∷ run (NodeShare m) 1 ∷ []
runs_of (Vector n m q) = run OwnerNumber n ∷ vector_runs m q

-- A vector's M and Q, and the bits of its label, are within their ranges
abbrev pub Small : Part → Type 0
Small First = Unit {0}
Small (Sizes m) = Unit {0}
Small (Limits n m c) = Unit {0}
Small (Vector n m q) = (m ≤ most_streams) × (q ≤ most_width) × (m * q ≤ most_bits)

abbrev pub part_kinds : Part → List Kind
part_kinds p = kinds_of (runs_of p)

abbrev pub part_at : Part → List ℕ → ℕ → Parse
part_at p bytes at = numbers_at (part_kinds p) bytes at

-- How many numbers a record has at most: M, Q, N, C, W and D, and 49 for each of 64 vectors
abbrev pub most_numbers : ℕ
most_numbers = 3142

-- How many bytes a record has at most: four streams of 6 bits, 64 vectors, each number in its most groups
abbrev pub longest_record : ℕ
longest_record = 8275

-- How many numbers a vector has, without its owner's
abbrev pub vector_size : ℕ → ℕ → ℕ
vector_size m q = m * m + 2 * m + m * q

-- and with so many owner numbers
abbrev pub owned_size : ℕ → ℕ → ℕ → ℕ
owned_size own m q = own + vector_size m q

-- The kinds of a vector's numbers, without its owner's
abbrev pub kinds_of_vector : ℕ → ℕ → List Kind
kinds_of_vector m q = kinds_of (vector_runs m q)

-- The kinds of the numbers of n vectors, each with so many owner numbers before it
unfoldable pub vector_kinds : ℕ → ℕ → ℕ → ℕ → List Kind
vector_kinds zero own m q = []
vector_kinds (suc n) own m q = part_kinds (Vector own m q) ++ vector_kinds n own m q

unfoldable pub starts_with : List ℕ → List ℕ → Bool
starts_with [] l = true
starts_with (x ∷ p) [] = false
starts_with (x ∷ p) (y ∷ l) = eqb x y && starts_with p l

-- The layout of a record, by its opening: where it starts with neither "43 42 52 33" nor "43 42 52 32" it is document 01's, if any
unfoldable pub layout_of : List ℕ → Layout
layout_of bytes = cond (starts_with (opening Owned) bytes) Owned (cond (starts_with (opening Weakened) bytes) Weakened Base)

-- A record's i-th number, where it is a count
abbrev pub count_at : ℕ → List ℤ → ℕ
count_at i numbers = nat_abs (get_or numbers i (pos 0))

-- A record's numbers come in stages, the kinds of each of which the numbers before it tell: M; Q, N and C; W, if the layout has it, and D;
-- then N vectors, each behind its owner, if the layout has owners
abbrev pub stream_stage : List ℤ → List Kind
stream_stage known = part_kinds First

abbrev pub size_stage : List ℤ → List Kind
size_stage known = part_kinds (Sizes (get_or known 0 (pos 0)))

abbrev pub limit_stage : Layout → List ℤ → List Kind
limit_stage layout known = part_kinds (Limits (weak_count layout) (get_or known 0 (pos 0)) (get_or known 3 (pos 0)))

abbrev pub vector_stage : Layout → List ℤ → List Kind
vector_stage layout known = vector_kinds (count_at 2 known) (own_count layout) (count_at 0 known) (count_at 1 known)

abbrev pub stages : Layout → List (List ℤ → List Kind)
stages layout = stream_stage ∷ size_stage ∷ limit_stage layout ∷ vector_stage layout ∷ []

-- The numbers of some stages, behind those that are known
unfoldable pub stages_at : List (List ℤ → List Kind) → List ℤ → List ℕ → ℕ → Parse
stages_at [] known bytes at = record { numbers = []; read = Ok at }
stages_at (s ∷ later) known bytes at =
    and_then (numbers_at (s known) bytes at) (λ numbers next. stages_at later (known ++ numbers) bytes next)

-- A record: the opening, "first four bytes missing or different" being refused, and its numbers. It says where the record ended
unfoldable pub read_record : List ℕ → Parse
read_record bytes =
    let layout = layout_of bytes in
    cond (starts_with (opening layout) bytes) (stages_at (stages layout) [] bytes 4) (record { numbers = []; read = Err Opening })

-- "bytes follow the last prior"
abbrev pub at_end : ℕ → Read → Read
at_end n (Ok at) = cond (ltb at n) (Err Trailing) (Ok at)
at_end n (Err r) = Err r

-- A record that is the whole of its bytes
unfoldable pub read_whole : List ℕ → Parse
read_whole bytes = record { numbers = (read_record bytes).numbers; read = at_end (length bytes) (read_record bytes).read }

-- How it ended, and the lent list with the numbers taken in it from a place on
pub record Got : Type 0 where
  pub read : Read
  pub list : List ℤ

abbrev pub got : Read → List ℤ → Got
got r list = record { read = r; list = list }

-- What was read, stored from a place on
abbrev pub into : ℕ → Parse → List ℤ → Got
into from p list = got p.read (sets list from p.numbers)

-- M stands in front of the lent list, in its range
pub record StreamsStored (list : List ℤ) : Type 0 where
  pub room : length list ≡ most_numbers
  pub streams : allowed StreamCount (get_or list 0 (pos 0)) ≡ true

-- and Q and N behind it
pub record SizesStored (list : List ℤ) : Type 0 where
  pub stored : StreamsStored list
  pub width : allowed (SymbolWidth (get_or list 0 (pos 0))) (get_or list 1 (pos 0)) ≡ true
  pub vectors : allowed VectorCount (get_or list 2 (pos 0)) ≡ true
