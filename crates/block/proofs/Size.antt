-- How long an accepted record can be. A number of each kind has at most so many groups; their sum over a record's kinds rises with M, the
-- label's bits and N, so it is computed once, at the largest of each.
use Prim.Native.Nat.{ℕ, zero, suc, ◌+◌, ◌*◌, ◌^◌, ◌≤◌, ◌<◌}
use mathlib.Core.Path.{◌≡◌}
use mathlib.Core.Bool.{true}
use mathlib.Core.List.{List, [], ◌∷◌, ◌++◌}
use native.Mathlib.Omega.{arith}
use native.Mathlib.Nat.{suc-mul, mul-suc, mul-le-mul}
use lib.ListN.{length, get_or}
use lib.IntN.{ℤ, pos, neg_ℤ}
use Rattle.wire.specs.Writing.{bytes_of}
use Rattle.wire.specs.Folding.{unfolded}
use Rattle.wire.proofs.Writing.{bytes_of-short, bytes_of-most}
use Rattle.wire.proofs.RoundTrip.{unfolded_below, read_ends}
use Rattle.model.specs.Block.{most_streams, most_bits, most_vectors, most_entry, most_received, most_prior, most_owner}
use Rattle.refusals.specs.Table.{between, allowed}
use Rattle.block.specs.Reading.{weak_count, own_count, whole_of, one_at, numbers_at, run, kinds_of, matrix_runs, vector_runs, runs_of, part_kinds, vector_kinds, count_at, layout_of, read_record, longest_record}
use Rattle.block.specs.Contents.{header_kinds, block_of, record_kinds}
use Rattle.block.specs.declared.Layout.{Layout}
use Rattle.refusals.specs.declared.Kind.{Kind}
use Rattle.refusals.specs.declared.Kind.TheVariants.{StreamCount, SymbolWidth, VectorCount, ClipLevel, WeakLevel, NodeShare, OwnerNumber}
use Rattle.refusals.specs.declared.Kind.TheVariants.{DiagonalEntry, RightPart, ReceivedPart, BitPrior}
use Rattle.std.specs.Prelude.{Ok}
use Rattle.block.specs.declared.Run.{Run}
use Rattle.block.specs.declared.Part.TheVariants.{Vector}
use Rattle.block.proofs.Ranges.{between_plain, between_signed, allowed_width}
use Rattle.block.proofs.Reading.{one_found, numbers_keep}
use Rattle.block.proofs.Parts.{weak_few, own_few, plain_most, width_most}
use Rattle.block.proofs.Places.{vectors_count}
use Rattle.block.proofs.Flat.{accepted_ends}
use Rattle.block.proofs.Accepted.{accepted_in_range}

-- The most bytes that a number of a kind has
abbrev pub most_bytes : Kind → ℕ
most_bytes StreamCount = 1
most_bytes (SymbolWidth m) = 1
most_bytes VectorCount = 1
most_bytes ClipLevel = 4
most_bytes (WeakLevel c) = 4
most_bytes (NodeShare m) = 4
most_bytes OwnerNumber = 1
most_bytes DiagonalEntry = 2
most_bytes RightPart = 2
most_bytes ReceivedPart = 3
most_bytes BitPrior = 3

-- A plain number up to b, and a folded one from -b to b, in g groups
module _ (g b n : ℕ) (some : 1 ≤ g) where
  plain_bytes : (a : ℕ) → b < 2 ^ (7 * g) → between (pos a) (pos b) (pos n) ≡ true → length (bytes_of n) ≤ g
  plain_bytes a h e = let most = plain_most (between_plain a b (pos n) e) in bytes_of-short g n some (omega arith)

  folded_bytes : 2 * b < 2 ^ (7 * g) → between (neg_ℤ (pos b)) (pos b) (unfolded n) ≡ true → length (bytes_of n) ≤ g
  folded_bytes h e = let most = unfolded_below n b (between_signed b (unfolded n) e) in bytes_of-short g n some (omega arith)

-- A number in range has no more bytes than its kind
kind_bytes : (k : Kind) (n : ℕ) → allowed k (whole_of k n) ≡ true → length (bytes_of n) ≤ most_bytes k
kind_bytes StreamCount n e = plain_bytes 1 most_streams n (omega arith) 1 (omega arith) e
kind_bytes (SymbolWidth m) n e = let most = width_most (allowed_width m (pos n) e) in bytes_of-short 1 n (omega arith) (omega arith)
kind_bytes VectorCount n e = plain_bytes 1 most_vectors n (omega arith) 1 (omega arith) e
kind_bytes ClipLevel n e = bytes_of-most n
kind_bytes (WeakLevel c) n e = bytes_of-most n
kind_bytes (NodeShare m) n e = bytes_of-most n
kind_bytes OwnerNumber n e = plain_bytes 1 most_owner n (omega arith) 1 (omega arith) e
kind_bytes DiagonalEntry n e = plain_bytes 2 most_entry n (omega arith) 1 (omega arith) e
kind_bytes RightPart n e = folded_bytes 2 most_entry n (omega arith) (omega arith) e
kind_bytes ReceivedPart n e = folded_bytes 3 most_received n (omega arith) (omega arith) e
kind_bytes BitPrior n e = folded_bytes 3 most_prior n (omega arith) (omega arith) e

-- One number that was taken
one_size : (k : Kind) (bytes : List ℕ) (at next : ℕ) (z : ℤ) → one_at k bytes at ≡ Ok (z, next) → next ≤ at + most_bytes k
one_size k bytes at next z e =
    let f = one_found k bytes at z next e in omega (arith, read_ends bytes at f.n next f.value, kind_bytes k f.n f.ranged)

-- The most bytes of numbers of some kinds
unfoldable pub most_of : List Kind → ℕ
most_of [] = 0
most_of (k ∷ ks) = most_bytes k + most_of ks

-- Numbers that were read whole
pub numbers_size : (ks : List Kind) (bytes : List ℕ) (at next : ℕ) → (numbers_at ks bytes at).read ≡ Ok next → next ≤ at + most_of ks
unfolding most_of
numbers_size ks bytes at next e =
    let end = numbers_keep (λ l place. place + most_of l ≤ at + most_of ks) bytes
    (λ k l here there z t h. omega (arith, one_size k bytes here there z t)) ks at next (omega arith) e in
    omega arith

-- The most bytes of two lists, of a run, of R, of a vector, of n vectors, of a record behind the opening
most_append : (a b : List Kind) → most_of (a ++ b) ≡ most_of a + most_of b
unfolding most_of
most_append [] b = omega arith
most_append (k ∷ a) b = omega (arith, most_append a b)

most_run : (k : Kind) (n : ℕ) (rs : List Run) → most_of (kinds_of (run k n ∷ rs)) ≡ n * most_bytes k + most_of (kinds_of rs)
unfolding most_of kinds_of
most_run k zero rs = omega arith
most_run k (suc n) rs = omega (arith, most_run k n rs, suc-mul n (most_bytes k))

most_matrix : (m : ℕ) (rest : List Run) → most_of (kinds_of (matrix_runs m ++ rest)) ≡ 2 * (m * m) + most_of (kinds_of rest)
unfolding matrix_runs
most_matrix zero rest = omega arith
most_matrix (suc m) rest =
    let below = matrix_runs m ++ rest in
    let row = most_run DiagonalEntry 1 (run RightPart (2 * m) ∷ below) in
    omega (arith, most_run RightPart (2 * m) below, most_matrix m rest, suc-mul m (suc m), mul-suc m m)

abbrev vector_bytes : ℕ → ℕ → ℕ → ℕ
vector_bytes own m q = own + 2 * (m * m) + 3 * (2 * m) + 3 * (m * q)

most_vector : (own m q : ℕ) → most_of (part_kinds (Vector own m q)) ≡ vector_bytes own m q
unfolding runs_of kinds_of most_of
most_vector own m q =
    let priors = run BitPrior (m * q) ∷ [] in
    let y = most_run ReceivedPart (2 * m) priors in
    omega (
      arith,
      most_run OwnerNumber own (vector_runs m q),
      most_matrix m (run ReceivedPart (2 * m) ∷ priors),
      most_run BitPrior (m * q) [],
    )

most_vectors_lem : (n own m q : ℕ) → most_of (vector_kinds n own m q) ≡ n * vector_bytes own m q
unfolding vector_kinds most_of
most_vectors_lem zero own m q = omega arith
most_vectors_lem (suc n) own m q =
    let both = most_append (part_kinds (Vector own m q)) (vector_kinds n own m q) in
    omega (arith, most_vector own m q, most_vectors_lem n own m q, suc-mul n (vector_bytes own m q))

most_header : (o : Layout) (m c : ℤ) → most_of (header_kinds o m c) ≡ 11 + 4 * weak_count o
unfolding runs_of most_of kinds_of
most_header o m c = omega (arith, most_run (WeakLevel c) (weak_count o) (run (NodeShare m) 1 ∷ []))

most_record : (o : Layout) (numbers : List ℤ)
    → most_of (record_kinds o numbers) ≡ 11 + 4 * weak_count o + count_at 2 numbers * vector_bytes (own_count o) (count_at 0 numbers) (count_at 1 numbers)
unfolding record_kinds
most_record o numbers =
    let header = header_kinds o (get_or numbers 0 (pos 0)) (get_or numbers 3 (pos 0)) in
    let both = most_append header (vector_kinds (count_at 2 numbers) (own_count o) (count_at 0 numbers) (count_at 1 numbers)) in
    omega (
      arith,
      most_header o (get_or numbers 0 (pos 0)) (get_or numbers 3 (pos 0)),
      most_vectors_lem (count_at 2 numbers) (own_count o) (count_at 0 numbers) (count_at 1 numbers),
    )

-- An accepted record is at most 8,275 bytes
pub accepted_size : (bytes : List ℕ) (at : ℕ) → (read_record bytes).read ≡ Ok at → at ≤ longest_record
unfolding block_of
accepted_size bytes at e =
    let numbers = (read_record bytes).numbers in
    let ranged = accepted_in_range bytes at e in
    let streams : count_at 0 numbers ≤ most_streams = ranged.streams in
    let label : count_at 0 numbers * count_at 1 numbers ≤ most_bits = ranged.label in
    let vectors : count_at 2 numbers ≤ most_vectors = omega (arith, ranged.vectors, vectors_count (layout_of bytes) numbers) in
    let most : vector_bytes (own_count (layout_of bytes)) (count_at 0 numbers) (count_at 1 numbers) ≤ 129 =
    omega (arith, mul-le-mul streams streams, own_few (layout_of bytes)) in
    let size = numbers_size (record_kinds (layout_of bytes) numbers) bytes 4 at (accepted_ends bytes at e) in
    omega (arith, most_record (layout_of bytes) numbers, weak_few (layout_of bytes), mul-le-mul vectors most)
