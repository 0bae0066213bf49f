-- A vector whose numbers are each in the range of their kind is a vector in range. Row by row: the diagonal's run and the run right of it
-- stand in front, and behind them the runs of the rows below.
use Prim.Native.Nat.{ℕ, zero, suc, ◌+◌, ◌-◌, ◌*◌, ◌≤◌, ◌<◌}
use mathlib.Core.Path.{◌≡◌, refl, sym, ◌∙◌}
use mathlib.Core.Bool.{Bool, true, false}
use mathlib.Core.List.{List, [], ◌∷◌, ◌++◌}
use native.Mathlib.Omega.{arith}
use native.Mathlib.Nat.{suc-mul, mul-suc}
use lib.Dec.{ltb}
use borrow.Author.Tests.{ltb-true, ltb-false}
use lib.ListN.{length, get_or, take, drop, replicate, length-append, length-take, length-drop, length-replicate}
use lib.ListN.{get_or-replicate, get_or-append}
use lib.Seq.{get_or-drop, drop-drop}
use lib.IntN.{ℤ, pos}
use Rattle.model.specs.Block.{Every, Within, BothWithin, RowsInRange, VectorInRange, most_entry, most_received, most_prior}
use Rattle.refusals.specs.Table.{allowed}
use Rattle.block.specs.Reading.{run, kinds_of, matrix_runs, vector_size, kinds_of_vector}
use Rattle.block.specs.Contents.{complexes, rows_from, rows_of}
use Rattle.refusals.specs.declared.Kind.{Kind}
use Rattle.refusals.specs.declared.Kind.TheVariants.{DiagonalEntry, RightPart, ReceivedPart, BitPrior}
use Rattle.block.specs.declared.Run.{Run}
use Rattle.block.proofs.Ranges.{Plain, between_plain, between_signed}
use Rattle.block.proofs.Runs.{vector_numbers_lem}
use Rattle.block.proofs.Parts.{AllAllowed, allowed_at, allowed_length, plain_most}
use Rattle.block.proofs.Places.{complexes_count, rows_from_count, row_start_lem, rows_count}

-- In two parts
pub allowed_parts : (ks ls : List Kind) (zs : List ℤ) → AllAllowed (ks ++ ls) zs
    → AllAllowed ks (take (length ks) zs) × AllAllowed ls (drop (length ks) zs)
allowed_parts [] ls zs a = (tt, a)
allowed_parts (k ∷ ks) ls [] a = absurd a
allowed_parts (k ∷ ks) ls (z ∷ zs) a = let parts = allowed_parts ks ls zs a.1 in ((a.0, parts.0), parts.1)

-- A run in front, and what is behind it
module _ (k : Kind) (n : ℕ) (rs : List Run) (zs : List ℤ) (a : AllAllowed (kinds_of (run k n ∷ rs)) zs) where
  pub in_front : (i : ℕ) → i < n → allowed k (get_or zs i (pos 0)) ≡ true
  unfolding kinds_of
  in_front i h =
      let many = length-replicate n k in
      let some : i < length (replicate n k) = omega arith in
      let all : i < length (replicate n k ++ kinds_of rs) = omega (arith, length-append (replicate n k) (kinds_of rs)) in
      rw (get_or-append (replicate n k) (kinds_of rs) k i some, get_or-replicate n i k k h)
      at (allowed_at (replicate n k ++ kinds_of rs) zs a i k all)

  pub behind : AllAllowed (kinds_of rs) (drop n zs)
  unfolding kinds_of
  behind = rw length-replicate at (allowed_parts (replicate n k) (kinds_of rs) zs a).1

-- The first n numbers are from -b to b
abbrev FirstWithin : ℕ → ℕ → List ℤ → Type 0
FirstWithin b n zs = (i : ℕ) → i < n → Within b (get_or zs i (pos 0))

within_later : {b : ℕ} (n m t : ℕ) (zs : List ℤ) → n + m ≡ t → FirstWithin b t zs → FirstWithin b m (drop n zs)
within_later n m t zs e h i k = rw get_or-drop (h (n + i) (omega arith))

within_numbers : {b : ℕ} (n : ℕ) (zs : List ℤ) → FirstWithin b n zs → Every (Within b) (take n zs)
within_numbers zero zs h = tt
within_numbers (suc n) [] h = tt
within_numbers (suc n) (z ∷ zs) h = (h 0 (omega arith), within_numbers n zs (λ i k. h (suc i) (omega arith)))

within_complexes : {b : ℕ} (n : ℕ) (zs : List ℤ) → FirstWithin b (2 * n) zs → Every (BothWithin b) (complexes n zs)
unfolding complexes
within_complexes zero zs h = tt
within_complexes (suc n) zs h = (
  record { re = h 0 (omega arith); im = h 1 (omega arith) },
  within_complexes n (drop 2 zs) (within_later 2 (2 * n) (2 * suc n) zs (omega arith) h),
)

-- The first row of R, with m rows below it, and what is behind the row
module _ (rest : List Run) (m : ℕ) (zs : List ℤ) (a : AllAllowed (kinds_of (matrix_runs (suc m) ++ rest)) zs) where
  diagonal_ranged : Plain 1 most_entry (get_or zs 0 (pos 0))
  unfolding matrix_runs
  diagonal_ranged =
      between_plain 1 most_entry (get_or zs 0 (pos 0))
      (in_front DiagonalEntry 1 (run RightPart (2 * m) ∷ matrix_runs m ++ rest) zs a 0 (omega arith))

  right_allowed : AllAllowed (kinds_of (run RightPart (2 * m) ∷ matrix_runs m ++ rest)) (drop 1 zs)
  unfolding matrix_runs
  right_allowed = behind DiagonalEntry 1 (run RightPart (2 * m) ∷ matrix_runs m ++ rest) zs a

  right_ranged : FirstWithin most_entry (2 * m) (drop 1 zs)
  right_ranged i h =
      between_signed most_entry (get_or (drop 1 zs) i (pos 0))
      (in_front RightPart (2 * m) (matrix_runs m ++ rest) (drop 1 zs) right_allowed i h)

  row_behind : AllAllowed (kinds_of (matrix_runs m ++ rest)) (drop (1 + 2 * m) zs)
  row_behind = rw drop-drop at (behind RightPart (2 * m) (matrix_runs m ++ rest) (drop 1 zs) right_allowed)

-- What is behind R
matrix_behind : (rest : List Run) (m : ℕ) (zs : List ℤ) → AllAllowed (kinds_of (matrix_runs m ++ rest)) zs
    → AllAllowed (kinds_of rest) (drop (m * m) zs)
unfolding matrix_runs
matrix_behind rest zero zs a = a
matrix_behind rest (suc m) zs a =
    let e : 1 + 2 * m + m * m ≡ suc m * suc m = omega (arith, suc-mul m (suc m), mul-suc m m) in
    rw (drop-drop, e) at (matrix_behind rest m (drop (1 + 2 * m) zs) (row_behind rest m zs a))

-- The rows
rows_ranged : (rest : List Run) (m q : ℕ) (r y p : List ℤ) → AllAllowed (kinds_of (matrix_runs m ++ rest)) r
    → FirstWithin most_received (2 * m) y → FirstWithin most_prior (m * q) p → m * q ≤ length p → RowsInRange q (rows_from m q r y p)
unfolding rows_from
rows_ranged rest zero q r y p a b c l = tt
rows_ranged rest (suc m) q r y p a b c l =
    let diagonal = diagonal_ranged rest m r a in
    let more = suc-mul m q in (
      record {
        positive = rw diagonal.is diagonal.low;
        diagonal = plain_most diagonal;
        entries = complexes_count m (drop 1 r) ∙ sym (rows_from_count m q (drop (1 + 2 * m) r) (drop 2 y) (drop q p));
        right = within_complexes m (drop 1 r) (right_ranged rest m r a);
        received = record { re = b 0 (omega arith); im = b 1 (omega arith) };
        bits = length-take q p ∙ (omega arith);
        priors = within_numbers q p (λ i h. c i (omega arith));
      },
      rows_ranged rest m q (drop (1 + 2 * m) r) (drop 2 y) (drop q p)
          (row_behind rest m r a)
          (within_later 2 (2 * m) (2 * suc m) y (omega arith) b)
          (within_later q (m * q) (suc m * q) p (omega arith) c)
          (rw length-drop (omega arith)),
    )

-- R's numbers
entries_within : (rest : List Run) (m : ℕ) (zs : List ℤ) → AllAllowed (kinds_of (matrix_runs m ++ rest)) zs → FirstWithin most_entry (m * m) zs
entries_within rest zero zs a i h = absurd (omega arith)
entries_within rest (suc m) zs a zero h = plain_most (diagonal_ranged rest m zs a)
entries_within rest (suc m) zs a (suc i) h = go (ltb i (2 * m)) refl (entries_within rest m (drop (1 + 2 * m) zs) (row_behind rest m zs a))
  where
    go : (b : Bool) → ltb i (2 * m) ≡ b → FirstWithin most_entry (m * m) (drop (1 + 2 * m) zs) → Within most_entry (get_or zs (suc i) (pos 0))
    go true e later =
        let k = ltb-true i (2 * m) e in
        let place : 1 + i ≡ suc i = omega arith in
        rw (get_or-drop, place) at (right_ranged rest m zs a i k)
    go false e later =
        let k = ltb-false i (2 * m) e in
        let place : 1 + 2 * m + (i - 2 * m) ≡ suc i = omega arith in
        rw (get_or-drop, place) at (later (i - 2 * m) (omega (arith, suc-mul m (suc m), mul-suc m m)))

-- and its diagonal's, row by row
diagonal_plain : (rest : List Run) (m : ℕ) (zs : List ℤ) → AllAllowed (kinds_of (matrix_runs m ++ rest)) zs → (i : ℕ) → i < m
    → Plain 1 most_entry (get_or zs (i * (2 * m - i)) (pos 0))
diagonal_plain rest zero zs a i h = absurd (omega arith)
diagonal_plain rest (suc m) zs a zero h =
    let e : 0 * (2 * suc m - 0) ≡ 0 = omega arith in
    rw e (diagonal_ranged rest m zs a)
diagonal_plain rest (suc m) zs a (suc i) h =
    let later = diagonal_plain rest m (drop (1 + 2 * m) zs) (row_behind rest m zs a) i (omega arith) in
    rw (get_or-drop, row_start_lem m i (omega arith)) at later

-- A vector's numbers by their places: those of R, its diagonal's plain and not 0; those of y; the priors
pub record Placed (m q : ℕ) (zs : List ℤ) : Type 0 where
  pub many : length zs ≡ vector_size m q
  pub entries : (i : ℕ) → i < m * m → Within most_entry (get_or zs i (pos 0))
  pub diagonal : (i : ℕ) → i < m → Plain 1 most_entry (get_or zs (i * (2 * m - i)) (pos 0))
  pub received : (i : ℕ) → i < 2 * m → Within most_received (get_or zs (m * m + i) (pos 0))
  pub priors : (i : ℕ) → i < m * q → Within most_prior (get_or zs (m * m + 2 * m + i) (pos 0))

-- A vector
module _ (m q : ℕ) (zs : List ℤ) (a : AllAllowed (kinds_of_vector m q) zs) where
  behind_matrix : AllAllowed (kinds_of (run ReceivedPart (2 * m) ∷ run BitPrior (m * q) ∷ [])) (drop (m * m) zs)
  behind_matrix = matrix_behind (run ReceivedPart (2 * m) ∷ run BitPrior (m * q) ∷ []) m zs a

  received_within : FirstWithin most_received (2 * m) (drop (m * m) zs)
  received_within i h =
      between_signed most_received (get_or (drop (m * m) zs) i (pos 0))
      (in_front ReceivedPart (2 * m) (run BitPrior (m * q) ∷ []) (drop (m * m) zs) behind_matrix i h)

  priors_within : FirstWithin most_prior (m * q) (drop (m * m + 2 * m) zs)
  priors_within i h =
      between_signed most_prior (get_or (drop (m * m + 2 * m) zs) i (pos 0))
      (in_front BitPrior (m * q) [] (drop (m * m + 2 * m) zs)
      (rw drop-drop at (behind ReceivedPart (2 * m) (run BitPrior (m * q) ∷ []) (drop (m * m) zs) behind_matrix)) i h)

  pub vector_placed : Placed m q zs
  vector_placed = record {
    many = allowed_length (kinds_of_vector m q) zs a ∙ vector_numbers_lem m q;
    entries = entries_within (run ReceivedPart (2 * m) ∷ run BitPrior (m * q) ∷ []) m zs a;
    diagonal = diagonal_plain (run ReceivedPart (2 * m) ∷ run BitPrior (m * q) ∷ []) m zs a;
    received = λ i h. rw get_or-drop at (received_within i h);
    priors = λ i h. rw get_or-drop at (priors_within i h);
  }

  pub vector_ranged : VectorInRange m q (rows_of m q zs)
  unfolding rows_of
  vector_ranged = record {
    streams = rows_count m q zs;
    ranged =
        rows_ranged (run ReceivedPart (2 * m) ∷ run BitPrior (m * q) ∷ []) m q zs (drop (m * m) zs) (drop (m * m + 2 * m) zs) a
        received_within priors_within (rw length-drop (omega (arith, vector_placed.many)));
  }
