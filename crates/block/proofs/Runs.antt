-- The runs of a vector by their place: two for each row of R, then y, then the priors; how many numbers they make; and the kinds of numbers
-- by their place.
use Prim.Native.Nat.{ℕ, zero, suc, ◌+◌, ◌-◌, ◌*◌, ◌/◌, ◌%◌, ◌≤◌, ◌<◌}
use mathlib.Core.Path.{◌≡◌, refl, ◌∙◌, ap}
use mathlib.Core.Logic.{◌≢◌}
use mathlib.Core.List.{List, [], ◌∷◌, ◌++◌}
use native.Mathlib.Omega.{arith}
use native.Mathlib.Nat.{suc-mul, mul-suc}
use native.Mathlib.Numerals.{add-one}
use lib.ListN.{length, get_or, drop, replicate, length-append, length-replicate, get_or-replicate, drop_of_length-le, get_or-append}
use lib.Seq.{drop-cons, get_or-append-add}
use lib.IntN.{ℤ}
use Rattle.block.specs.Reading.{weak_count, share_place, header_size, run, no_run, kinds_of, matrix_runs, vector_runs, runs_of, part_kinds, vector_size, owned_size, numbers_at, got, into}
use Rattle.block.specs.Contents.{header_kinds}
use Rattle.block.proofs.Reading.{into_none, append_ended, append_refused}
use Rattle.refusals.specs.declared.Kind.{Kind}
use Rattle.refusals.specs.declared.Kind.TheVariants.{StreamCount, WeakLevel, NodeShare, OwnerNumber, DiagonalEntry, RightPart, ReceivedPart, BitPrior}
use Rattle.std.specs.Prelude.{Ok, Err}
use Rattle.refusals.specs.declared.Refusal.{Refusal}
use Rattle.block.specs.declared.Run.{Run}
use Rattle.block.specs.declared.Part.TheVariants.{First, Sizes, Limits, Vector}
use Rattle.block.specs.declared.Layout.{Layout}

matrix_count : (m : ℕ) → length (matrix_runs m) ≡ 2 * m
unfolding matrix_runs
matrix_count zero = refl
matrix_count (suc m) = omega (arith, matrix_count m)

-- Row j's two runs
row_diagonal : (m : ℕ) (rest : List Run) (j : ℕ) → j < m → get_or (matrix_runs m ++ rest) (2 * j) no_run ≡ run DiagonalEntry 1
unfolding matrix_runs
row_diagonal zero rest j h = absurd (omega arith)
row_diagonal (suc m) rest zero h = refl
row_diagonal (suc m) rest (suc j) h = let e : 2 * suc j ≡ suc (suc (2 * j)) = omega arith in rw e (row_diagonal m rest j (omega arith))

row_right : (m : ℕ) (rest : List Run) (j : ℕ) → j < m → get_or (matrix_runs m ++ rest) (suc (2 * j)) no_run ≡ run RightPart (2 * (m - 1 - j))
unfolding matrix_runs
row_right zero rest j h = absurd (omega arith)
row_right (suc m) rest zero h = let e : suc m - 1 - 0 ≡ m = omega arith in rw e
row_right (suc m) rest (suc j) h =
    let e : 2 * suc j ≡ suc (suc (2 * j)) = omega arith in
    let f : suc m - 1 - suc j ≡ m - 1 - j = omega arith in
    rw (e, f) (row_right m rest j (omega arith))

-- y and the priors behind R
abbrev behind : ℕ → ℕ → List Run
behind m q = run ReceivedPart (2 * m) ∷ run BitPrior (m * q) ∷ []

-- The i-th run of a vector
module _ (m q i : ℕ) where
  at : (j k : ℕ) → j ≡ k → get_or (matrix_runs m ++ behind m q) j no_run ≡ get_or (matrix_runs m ++ behind m q) k no_run
  at j k e = ap (λ (n : ℕ). get_or (matrix_runs m ++ behind m q) n no_run) e

  pub run_diagonal : i < 2 * m → i % 2 ≡ 0 → get_or (vector_runs m q) i no_run ≡ run DiagonalEntry 1
  run_diagonal h e = at i (2 * (i / 2)) (omega arith) ∙ row_diagonal m (behind m q) (i / 2) (omega arith)

  pub run_right : i < 2 * m → i % 2 ≢ 0 → get_or (vector_runs m q) i no_run ≡ run RightPart (2 * (m - 1 - i / 2))
  run_right h e = at i (suc (2 * (i / 2))) (omega arith) ∙ row_right m (behind m q) (i / 2) (omega arith)

  pub run_received : i ≡ 2 * m → get_or (vector_runs m q) i no_run ≡ run ReceivedPart (2 * m)
  run_received e = at i (length (matrix_runs m) + 0) (omega (arith, matrix_count m)) ∙ get_or-append-add (matrix_runs m) (behind m q) 0 no_run

  pub run_prior : i ≡ 2 * m + 1 → get_or (vector_runs m q) i no_run ≡ run BitPrior (m * q)
  run_prior e = at i (length (matrix_runs m) + 1) (omega (arith, matrix_count m)) ∙ get_or-append-add (matrix_runs m) (behind m q) 1 no_run

-- With its owner's run in front: that one, and the others
module _ (own m q i : ℕ) where
  pub run_owner : i ≡ 0 → get_or (runs_of (Vector own m q)) i no_run ≡ run OwnerNumber own
  unfolding runs_of
  run_owner e = rw e

  pub run_later : i ≢ 0 → get_or (runs_of (Vector own m q)) i no_run ≡ get_or (vector_runs m q) (i - 1) no_run
  unfolding runs_of
  run_later h = let e : i ≡ suc (i - 1) = omega arith in ap (λ (j : ℕ). get_or (run OwnerNumber own ∷ vector_runs m q) j no_run) e

-- The kind at a place of a list
abbrev pub kind_in : List Kind → ℕ → Kind
kind_in ks i = get_or ks i StreamCount

-- in front, and behind
pub kind_in_front : (a b : List Kind) (i : ℕ) → i < length a → kind_in (a ++ b) i ≡ kind_in a i
kind_in_front a b i h = get_or-append a b StreamCount i h

pub kind_behind : (a b : List Kind) (i : ℕ) → length a ≤ i → kind_in (a ++ b) i ≡ kind_in b (i - length a)
kind_behind a b i h =
    let e : i ≡ length a + (i - length a) = omega arith in
    ap (kind_in (a ++ b)) e ∙ get_or-append-add a b (i - length a) StreamCount

pub kind_in_run : (k : Kind) (n : ℕ) (b : List Kind) (i : ℕ) → i < n → kind_in (replicate n k ++ b) i ≡ k
kind_in_run k n b i h = kind_in_front (replicate n k) b i (omega (arith, length-replicate n k)) ∙ get_or-replicate n i k StreamCount h

pub kind_behind_run : (k : Kind) (n : ℕ) (b : List Kind) (i : ℕ) → n ≤ i → kind_in (replicate n k ++ b) i ≡ kind_in b (i - n)
kind_behind_run k n b i h =
    kind_behind (replicate n k) b i (omega (arith, length-replicate n k))
    ∙ ap (λ (l : ℕ). kind_in b (i - l)) (length-replicate n k)

-- How many runs, and how many numbers
pub vector_runs_lem : (own m q : ℕ) → length (runs_of (Vector own m q)) ≡ 2 * m + 3
unfolding runs_of
vector_runs_lem own m q = omega (arith, length-append (matrix_runs m) (behind m q), matrix_count m)

pub run_numbers : (k : Kind) (n : ℕ) (ks : List Kind) → length (replicate n k ++ ks) ≡ n + length ks
run_numbers k n ks = length-append (replicate n k) ks ∙ ap (λ (x : ℕ). x + length ks) (length-replicate n k)

-- The header: as many numbers as its size, W behind C where there is one, D last
module _ (o : Layout) (m c : ℤ) where
  pub header_numbers : length (header_kinds o m c) ≡ header_size o
  unfolding kinds_of runs_of
  header_numbers = omega (arith, run_numbers (WeakLevel c) (weak_count o) (NodeShare m ∷ []))

  pub weak_kind : (i : ℕ) → 4 ≤ i → i < share_place o → kind_in (header_kinds o m c) i ≡ WeakLevel c
  unfolding kinds_of runs_of
  weak_kind i h k =
      kind_behind (part_kinds First ++ part_kinds (Sizes m)) (part_kinds (Limits (weak_count o) m c)) i (omega arith)
      ∙ kind_in_run (WeakLevel c) (weak_count o) (NodeShare m ∷ []) (i - 4) (omega arith)

  pub share_kind : kind_in (header_kinds o m c) (share_place o) ≡ NodeShare m
  unfolding kinds_of runs_of
  share_kind =
      let last : share_place o - 4 - weak_count o ≡ 0 = omega arith in
      kind_behind (part_kinds First ++ part_kinds (Sizes m)) (part_kinds (Limits (weak_count o) m c)) (share_place o) (omega arith)
      ∙ kind_behind_run (WeakLevel c) (weak_count o) (NodeShare m ∷ []) (share_place o - 4) (omega arith)
      ∙ ap (kind_in (NodeShare m ∷ [])) last

kinds_append : (a b : List Run) → length (kinds_of (a ++ b)) ≡ length (kinds_of a) + length (kinds_of b)
unfolding kinds_of
kinds_append [] b = omega arith
kinds_append (r ∷ rs) b =
    omega (arith, run_numbers r.kind r.count (kinds_of (rs ++ b)), run_numbers r.kind r.count (kinds_of rs), kinds_append rs b)

pub matrix_numbers : (m : ℕ) → length (kinds_of (matrix_runs m)) ≡ m * m
unfolding kinds_of matrix_runs
matrix_numbers zero = refl
matrix_numbers (suc m) = omega (arith, run_numbers RightPart (2 * m) (kinds_of (matrix_runs m)), matrix_numbers m, suc-mul m (suc m), mul-suc m m)

pub vector_numbers_lem : (m q : ℕ) → length (kinds_of (vector_runs m q)) ≡ vector_size m q
unfolding kinds_of
vector_numbers_lem m q =
    omega (
      arith,
      kinds_append (matrix_runs m) (behind m q),
      matrix_numbers m,
      run_numbers ReceivedPart (2 * m) (kinds_of (run BitPrior (m * q) ∷ [])),
      run_numbers BitPrior (m * q) [],
    )

-- and with its owner
pub owned_numbers : (own m q : ℕ) → length (part_kinds (Vector own m q)) ≡ owned_size own m q
unfolding runs_of kinds_of
owned_numbers own m q = omega (arith, run_numbers OwnerNumber own (kinds_of (vector_runs m q)), vector_numbers_lem m q)

-- The i-th run, and those after it
pub kinds_step : (rs : List Run) (i : ℕ) → i < length rs
    → kinds_of (drop i rs) ≡ replicate (get_or rs i no_run).count (get_or rs i no_run).kind ++ kinds_of (drop (i + 1) rs)
unfolding kinds_of
kinds_step rs i h = rw (add-one, drop-cons rs i no_run)

-- A part's runs, after i of them; rn is the i-th
module _ (rs : List Run) (i : ℕ) (h : i < length rs) (rn : Run) (is : rn ≡ get_or rs i no_run) where
  step : kinds_of (drop i rs) ≡ replicate rn.count rn.kind ++ kinds_of (drop (i + 1) rs)
  step = rw is (kinds_step rs i h)

  -- It leaves room for those after it
  pub run_room : length (kinds_of (drop i rs)) ≡ rn.count + length (kinds_of (drop (i + 1) rs))
  run_room = ap length step ∙ run_numbers rn.kind rn.count (kinds_of (drop (i + 1) rs))

  -- Where it ended the next one begins; where it was turned back the part is
  module _ (bytes : List ℕ) (place to : ℕ) (list list' : List ℤ) where
    pub part_ended : (next : ℕ) → got (Ok next) list' ≡ into to (numbers_at (replicate rn.count rn.kind) bytes place) list
        → into to (numbers_at (kinds_of (drop i rs)) bytes place) list ≡ into (to + rn.count) (numbers_at (kinds_of (drop (i + 1) rs)) bytes next) list'
    part_ended next e =
        ap (λ (ks : List Kind). into to (numbers_at ks bytes place) list) step
        ∙ append_ended (kinds_of (drop (i + 1) rs)) bytes (replicate rn.count rn.kind) place to next list list' e
        ∙ ap (λ (n : ℕ). into (to + n) (numbers_at (kinds_of (drop (i + 1) rs)) bytes next) list') (length-replicate rn.count rn.kind)

    pub part_refused : (r : Refusal) → got (Err r) list' ≡ into to (numbers_at (replicate rn.count rn.kind) bytes place) list
        → into to (numbers_at (kinds_of (drop i rs)) bytes place) list ≡ got (Err r) list'
    part_refused r e =
        ap (λ (ks : List Kind). into to (numbers_at ks bytes place) list) step
        ∙ append_refused (kinds_of (drop (i + 1) rs)) bytes (replicate rn.count rn.kind) place to r list list' e

-- After the last run there is nothing more
pub part_none : (rs : List Run) (i : ℕ) (bytes : List ℕ) (place to : ℕ) (list : List ℤ) → length rs ≤ i
    → into to (numbers_at (kinds_of (drop i rs)) bytes place) list ≡ got (Ok place) list
unfolding kinds_of
part_none rs i bytes place to list h = rw (drop_of_length-le rs {i = i} h) (into_none bytes place to list)
