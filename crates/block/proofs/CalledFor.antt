-- The kind of each number by its place: a row of R has its diagonal and then two parts of each column right of it, and what is behind it is a
-- matrix with one row less; y and the priors stand behind R; the owner before them; and all vectors are alike. None of these kinds has a range below 0 but where the
-- number is folded, or above what four groups hold.
use Prim.Native.Nat.{ℕ, zero, suc, ◌+◌, ◌-◌, ◌*◌, ◌%◌, ◌≤◌, ◌<◌}
use mathlib.Core.Path.{◌≡◌, refl, sym, ◌∙◌, ap}
use mathlib.Core.Bool.{Bool, true, false}
use mathlib.Core.List.{List, [], ◌∷◌, ◌++◌, append_assoc}
use native.Mathlib.Omega.{arith}
use native.Mathlib.Nat.{suc-mul, mod-eq_of_lt, mod-eq-sub-mod}
use borrow.Author.Tests.{ltb-true, ltb-false}
use lib.Dec.{ltb}
use lib.ListN.{length, get_or, replicate}
use lib.IntN.{ℤ, pos}
use lib.Signed.{le_z}
use Rattle.model.specs.Block.{Every, most_clip}
use Rattle.block.specs.Reading.{weak_count, own_count, header_size, run, kinds_of, matrix_runs, runs_of, part_kinds, vector_size, owned_size, kinds_of_vector, vector_kinds, count_at, stages}
use Rattle.block.specs.Contents.{header_kinds, record_kinds}
use Rattle.block.specs.Conditions.{called_for}
use Rattle.refusals.specs.declared.Kind.{Kind}
use Rattle.refusals.specs.declared.Kind.TheVariants.{StreamCount, SymbolWidth, VectorCount, ClipLevel, WeakLevel, NodeShare, OwnerNumber}
use Rattle.refusals.specs.declared.Kind.TheVariants.{DiagonalEntry, RightPart, ReceivedPart, BitPrior}
use Rattle.block.specs.declared.Run.{Run}
use Rattle.block.specs.declared.Part.TheVariants.{Limits, Vector}
use Rattle.block.specs.declared.Layout.{Layout}
use Rattle.block.proofs.Runs.{kind_in, kind_in_front, kind_behind, kind_in_run, kind_behind_run, matrix_numbers, header_numbers, owned_numbers}
use Rattle.block.proofs.Stages.{called_front, called_most, called_reach}
use Rattle.block.proofs.Flat.{whole_kinds}
use Rattle.block.proofs.Accepted.{kinds_count}

-- A matrix of this many columns
module _ (columns place : ℕ) where
  pub matrix_diagonal : 1 ≤ columns → place ≡ 0 → kind_in (kinds_of (matrix_runs columns)) place ≡ DiagonalEntry
  unfolding kinds_of matrix_runs
  matrix_diagonal h e = rw e (go columns h)
    where
      go : (c : ℕ) → 1 ≤ c → kind_in (kinds_of (matrix_runs c)) 0 ≡ DiagonalEntry
      go zero h = absurd (omega arith)
      go (suc c) h = refl

  pub matrix_right : 1 ≤ place → place < 2 * columns - 1 → kind_in (kinds_of (matrix_runs columns)) place ≡ RightPart
  unfolding kinds_of matrix_runs
  matrix_right some h = go columns place some h
    where
      go : (c p : ℕ) → 1 ≤ p → p < 2 * c - 1 → kind_in (kinds_of (matrix_runs c)) p ≡ RightPart
      go zero p s h = absurd (omega arith)
      go (suc c) zero s h = absurd (omega arith)
      go (suc c) (suc p) s h = kind_in_run RightPart (2 * c) (kinds_of (matrix_runs c)) p (omega arith)

  pub matrix_below : 1 ≤ columns → 2 * columns - 1 ≤ place
      → kind_in (kinds_of (matrix_runs columns)) place ≡ kind_in (kinds_of (matrix_runs (columns - 1))) (place - (2 * columns - 1))
  unfolding kinds_of matrix_runs
  matrix_below some h = go columns place some h
    where
      go : (c p : ℕ) → 1 ≤ c → 2 * c - 1 ≤ p → kind_in (kinds_of (matrix_runs c)) p ≡ kind_in (kinds_of (matrix_runs (c - 1))) (p - (2 * c - 1))
      go zero p s h = absurd (omega arith)
      go (suc c) zero s h = absurd (omega arith)
      go (suc c) (suc p) s h =
          let one : suc c - 1 ≡ c = omega arith in
          let rest : suc p - (2 * suc c - 1) ≡ p - 2 * c = omega arith in
          rw (one, rest) (kind_behind_run RightPart (2 * c) (kinds_of (matrix_runs c)) p (omega arith))

-- Runs one after the other
kinds_join : (a b : List Run) → kinds_of (a ++ b) ≡ kinds_of a ++ kinds_of b
unfolding kinds_of
kinds_join [] b = refl
kinds_join (r ∷ rs) b = rw (kinds_join rs b) (sym (append_assoc (replicate r.count r.kind) (kinds_of rs) (kinds_of b)))

-- A vector's numbers
module _ (m q j : ℕ) where
  abbrev received : List Kind
  received = kinds_of (run ReceivedPart (2 * m) ∷ run BitPrior (m * q) ∷ [])

  vector_kinds_lem : kinds_of_vector m q ≡ kinds_of (matrix_runs m) ++ received
  vector_kinds_lem = kinds_join (matrix_runs m) (run ReceivedPart (2 * m) ∷ run BitPrior (m * q) ∷ [])

  pub kind_in_matrix : j < m * m → kind_in (kinds_of_vector m q) j ≡ kind_in (kinds_of (matrix_runs m)) j
  kind_in_matrix h = rw vector_kinds_lem (kind_in_front (kinds_of (matrix_runs m)) received j (omega (arith, matrix_numbers m)))

  behind_matrix : m * m ≤ j → kind_in (kinds_of_vector m q) j ≡ kind_in received (j - m * m)
  behind_matrix h =
      rw (vector_kinds_lem, ← matrix_numbers m) (kind_behind (kinds_of (matrix_runs m)) received j (omega (arith, matrix_numbers m)))

  pub kind_received : m * m ≤ j → j < m * m + 2 * m → kind_in (kinds_of_vector m q) j ≡ ReceivedPart
  unfolding kinds_of
  kind_received h k = behind_matrix h ∙ kind_in_run ReceivedPart (2 * m) (kinds_of (run BitPrior (m * q) ∷ [])) (j - m * m) (omega arith)

  pub kind_prior : m * m + 2 * m ≤ j → j < vector_size m q → kind_in (kinds_of_vector m q) j ≡ BitPrior
  unfolding kinds_of
  kind_prior h k =
      behind_matrix (omega arith)
      ∙ kind_behind_run ReceivedPart (2 * m) (kinds_of (run BitPrior (m * q) ∷ [])) (j - m * m) (omega arith)
      ∙ kind_in_run BitPrior (m * q) [] (j - m * m - 2 * m) (omega arith)

-- With its owner's number before them
module _ (own m q j : ℕ) where
  pub kind_owner : j < own → kind_in (part_kinds (Vector own m q)) j ≡ OwnerNumber
  unfolding runs_of kinds_of
  kind_owner h = kind_in_run OwnerNumber own (kinds_of_vector m q) j h

  pub kind_behind_owner : own ≤ j → kind_in (part_kinds (Vector own m q)) j ≡ kind_in (kinds_of_vector m q) (j - own)
  unfolding runs_of kinds_of
  kind_behind_owner h = kind_behind_run OwnerNumber own (kinds_of_vector m q) j h

-- All vectors are alike
pub kind_of_vectors : (n own m q i : ℕ) → i < n * owned_size own m q
    → kind_in (vector_kinds n own m q) i ≡ kind_in (part_kinds (Vector own m q)) (i % owned_size own m q)
unfolding vector_kinds
kind_of_vectors zero own m q i h = absurd (omega arith)
kind_of_vectors (suc n) own m q i h = go (ltb i size) refl (kind_of_vectors n own m q)
  where
    size : ℕ
    size = owned_size own m q

    kinds : List Kind
    kinds = part_kinds (Vector own m q)

    many : length kinds ≡ size
    many = owned_numbers own m q

    go : (b : Bool) → ltb i size ≡ b → ((i : ℕ) → i < n * size → kind_in (vector_kinds n own m q) i ≡ kind_in kinds (i % size))
        → kind_in (kinds ++ vector_kinds n own m q) i ≡ kind_in kinds (i % size)
    go true e ih =
        let l = ltb-true i size e in
        rw (mod-eq_of_lt l) (kind_in_front kinds (vector_kinds n own m q) i (omega (arith, many)))
    go false e ih =
        let l = ltb-false i size e in
        rw (mod-eq-sub-mod l)
        (kind_behind kinds (vector_kinds n own m q) i (omega (arith, many))
        ∙ ap (λ (s : ℕ). kind_in (vector_kinds n own m q) (i - s)) many
        ∙ ih (i - size) (omega (arith, suc-mul n size)))

-- The kinds of a whole record by their place: the header's, and behind it the vectors'
module _ (o : Layout) (numbers : List ℤ) where
  abbrev header : List Kind
  header = header_kinds o (get_or numbers 0 (pos 0)) (get_or numbers 3 (pos 0))

  abbrev vectors : List Kind
  vectors = vector_kinds (count_at 2 numbers) (own_count o) (count_at 0 numbers) (count_at 1 numbers)

  many : length header ≡ header_size o
  many = header_numbers o (get_or numbers 0 (pos 0)) (get_or numbers 3 (pos 0))

  pub record_header : (i : ℕ) → i < header_size o → kind_in (record_kinds o numbers) i ≡ kind_in header i
  unfolding record_kinds
  record_header i h = kind_in_front header vectors i (omega (arith, many))

  pub record_vector : (i : ℕ) → header_size o ≤ i → i < length (record_kinds o numbers)
      → kind_in (record_kinds o numbers) i
      ≡ kind_in (part_kinds (Vector (own_count o) (count_at 0 numbers) (count_at 1 numbers)))
      ((i - header_size o) % owned_size (own_count o) (count_at 0 numbers) (count_at 1 numbers))
  unfolding record_kinds
  record_vector i h l =
      kind_behind header vectors i (omega (arith, many))
      ∙ ap (λ (n : ℕ). kind_in vectors (i - n)) many
      ∙ kind_of_vectors (count_at 2 numbers) (own_count o) (count_at 0 numbers) (count_at 1 numbers) (i - header_size o) (omega (arith, kinds_count o numbers))

  -- What a list calls for is the front of these,
  pub called_at : (i : ℕ) → i < length (called_for o numbers) → kind_in (called_for o numbers) i ≡ kind_in (record_kinds o numbers) i
  called_at i h = called_front (stages o) 0 numbers StreamCount i h ∙ ap (λ (ks : List Kind). kind_in ks i) (whole_kinds o numbers)

  -- and goes as far, up to the number behind the last
  pub called_few : length (called_for o numbers) ≤ length (record_kinds o numbers)
  called_few = omega (arith, called_most (stages o) 0 numbers, ap length (whole_kinds o numbers))

  pub called_more : (i : ℕ) → i ≤ length numbers → i < length (record_kinds o numbers) → i < length (called_for o numbers)
  called_more i h l =
      omega (arith, called_reach (stages o) 0 numbers i (omega arith) h (omega (arith, ap length (whole_kinds o numbers))))

-- A kind whose plain numbers are none below 0 and fit their groups: W's range ends at C, the share's begins at M
abbrev pub Grounded : Kind → Type 0
Grounded StreamCount = Unit {0}
Grounded (SymbolWidth m) = Unit {0}
Grounded VectorCount = Unit {0}
Grounded ClipLevel = Unit {0}
Grounded (WeakLevel c) = le_z c (pos most_clip) ≡ true
Grounded (NodeShare m) = le_z (pos 0) m ≡ true
Grounded OwnerNumber = Unit {0}
Grounded DiagonalEntry = Unit {0}
Grounded RightPart = Unit {0}
Grounded ReceivedPart = Unit {0}
Grounded BitPrior = Unit {0}

every_join : (a b : List Kind) → Every Grounded a → Every Grounded b → Every Grounded (a ++ b)
every_join [] b h k = k
every_join (x ∷ a) b h k = (h.0, every_join a b h.1 k)

every_run : (k : Kind) (n : ℕ) (b : List Kind) → Grounded k → Every Grounded b → Every Grounded (replicate n k ++ b)
every_run k zero b h g = g
every_run k (suc n) b h g = (h, every_run k n b h g)

matrix_grounded : (m : ℕ) (rest : List Run) → Every Grounded (kinds_of rest) → Every Grounded (kinds_of (matrix_runs m ++ rest))
unfolding kinds_of matrix_runs
matrix_grounded zero rest h = h
matrix_grounded (suc m) rest h = (tt, every_run RightPart (2 * m) (kinds_of (matrix_runs m ++ rest)) tt (matrix_grounded m rest h))

vectors_grounded : (n own m q : ℕ) → Every Grounded (vector_kinds n own m q)
unfolding vector_kinds runs_of kinds_of
vectors_grounded zero own m q = tt
vectors_grounded (suc n) own m q =
    every_join (part_kinds (Vector own m q)) (vector_kinds n own m q)
    (every_run OwnerNumber own (kinds_of_vector m q) tt
    (matrix_grounded m (run ReceivedPart (2 * m) ∷ run BitPrior (m * q) ∷ [])
    (every_run ReceivedPart (2 * m) (kinds_of (run BitPrior (m * q) ∷ [])) tt (every_run BitPrior (m * q) [] tt tt))))
    (vectors_grounded n own m q)

-- by their place
every_at : (ks : List Kind) → Every Grounded ks → (i : ℕ) → i < length ks → Grounded (kind_in ks i)
every_at [] g i h = absurd (omega arith)
every_at (k ∷ ks) g zero h = g.0
every_at (k ∷ ks) g (suc i) h = every_at ks g.1 i (omega arith)

-- All kinds of a record are, behind M and C in their ranges
pub record_grounded : (o : Layout) (numbers : List ℤ) (i : ℕ) → i < length (record_kinds o numbers)
    → (1 ≤ i → le_z (pos 0) (get_or numbers 0 (pos 0)) ≡ true) → (4 ≤ i → le_z (get_or numbers 3 (pos 0)) (pos most_clip) ≡ true)
    → Grounded (kind_in (record_kinds o numbers) i)
unfolding record_kinds kinds_of runs_of
record_grounded o numbers zero l h k = tt
record_grounded o numbers (suc zero) l h k = tt
record_grounded o numbers (suc (suc zero)) l h k = tt
record_grounded o numbers (suc (suc (suc zero))) l h k = tt
record_grounded o numbers (suc (suc (suc (suc i)))) l h k =
    every_at (limits ++ vectors o numbers) behind i (omega arith)
  where
    limits : List Kind
    limits = part_kinds (Limits (weak_count o) (get_or numbers 0 (pos 0)) (get_or numbers 3 (pos 0)))

    behind : Every Grounded (limits ++ vectors o numbers)
    behind =
        every_join limits (vectors o numbers)
        (every_run (WeakLevel (get_or numbers 3 (pos 0))) (weak_count o) (NodeShare (get_or numbers 0 (pos 0)) ∷ []) (k (omega arith)) (h (omega arith), tt))
        (vectors_grounded (count_at 2 numbers) (own_count o) (count_at 0 numbers) (count_at 1 numbers))
