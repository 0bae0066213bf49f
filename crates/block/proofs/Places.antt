-- Where a record's numbers stand. Row i begins behind the rows above it, which have 2m - 1, 2m - 3, .. numbers: i * (2m - i) in all. Its
-- part of y and its priors begin behind theirs.
use Prim.Native.Nat.{ℕ, zero, suc, ◌+◌, ◌-◌, ◌*◌, ◌<◌, ◌≤◌}
use mathlib.Core.Path.{◌≡◌, refl, ◌∙◌, ap}
use mathlib.Core.List.{List, [], ◌∷◌, ◌++◌}
use native.Mathlib.Omega.{arith}
use native.Mathlib.Nat.{suc-mul, mul-suc, mul-le-mul, le_refl}
use lib.ListN.{length, get_or, take, drop, length-take, length-drop}
use lib.Seq.{get_or-take, get_or-drop, drop-drop, take-add, take-nil}
use lib.IntN.{ℤ, pos, nat_abs}
use Rattle.model.specs.Constellation.{Complex}
use Rattle.model.specs.Metric.{Row, all_priors}
use Rattle.model.proofs.Lists.{length-up_from, get_or-places}
use Rattle.block.specs.Reading.{own_count, vector_size, count_at}
use Rattle.block.specs.declared.Layout.{Layout}
use Rattle.block.specs.declared.Layout.TheVariants.{Base, Weakened, Owned}
use Rattle.block.specs.Contents.{complex_at, complexes, row_from, rows_from, rows_of, vector_start, owner_at, vector_rows, block_of}

-- Two cuts are one
pub drop_two : (n m k : ℕ) (l : List ℤ) → n + m ≡ k → drop m (drop n l) ≡ drop k l
drop_two n m k l e = drop-drop m n l ∙ ap (λ (i : ℕ). drop i l) e

-- What is behind the first numbers of a cut is a cut of what is behind them
pub drop_take : {A : Type 0} (n m : ℕ) (l : List A) → drop n (take (n + m) l) ≡ take m (drop n l)
drop_take zero m l = let e : 0 + m ≡ m = omega arith in rw e
drop_take (suc n) m [] = let e : suc n + m ≡ suc (n + m) = omega arith in rw (e, take-nil m)
drop_take (suc n) m (x ∷ l) = let e : suc n + m ≡ suc (n + m) = omega arith in rw e (drop_take n m l)

complex_drop : (n : ℕ) (zs : List ℤ) (i : ℕ) → complex_at (drop n zs) i ≡ complex_at zs (n + i)
complex_drop n zs i = let e : n + (i + 1) ≡ n + i + 1 = omega arith in simp (get_or-drop, e)

-- Complex numbers: how many, and each by its place
pub complexes_count : (n : ℕ) (zs : List ℤ) → length (complexes n zs) ≡ n
unfolding complexes
complexes_count zero zs = refl
complexes_count (suc n) zs = ap suc (complexes_count n (drop 2 zs))

complexes_at : (n : ℕ) (zs : List ℤ) (j : ℕ) (d : Complex) → j < n → get_or (complexes n zs) j d ≡ complex_at zs (2 * j)
unfolding complexes
complexes_at zero zs j d h = absurd (omega arith)
complexes_at (suc n) zs zero d h = refl
complexes_at (suc n) zs (suc j) d h =
    let e : 2 + 2 * j ≡ 2 * suc j = omega arith in
    complexes_at n (drop 2 zs) j d (omega arith) ∙ complex_drop 2 zs (2 * j) ∙ ap (complex_at zs) e

-- Rows: how many, and each by its place
pub rows_from_count : (m q : ℕ) (r y p : List ℤ) → length (rows_from m q r y p) ≡ m
unfolding rows_from
rows_from_count zero q r y p = refl
rows_from_count (suc m) q r y p = ap suc (rows_from_count m q (drop (1 + 2 * m) r) (drop 2 y) (drop q p))

-- Where row i + 1 of m + 1 rows begins
pub row_start_lem : (m i : ℕ) → i < m → 1 + 2 * m + i * (2 * m - i) ≡ suc i * (2 * suc m - suc i)
row_start_lem m i h =
    let e : 2 * suc m - suc i ≡ suc (2 * m - i) = omega arith in
    rw e (omega (arith, suc-mul i (suc (2 * m - i)), mul-suc i (2 * m - i)))

row_from_lem : (m q : ℕ) (r y p : List ℤ) (i : ℕ) (d : Row) → i < m
    → get_or (rows_from m q r y p) i d ≡ row_from (m - 1 - i) q (drop (i * (2 * m - i)) r) (drop (2 * i) y) (drop (i * q) p)
unfolding rows_from
row_from_lem zero q r y p i d h = absurd (omega arith)
row_from_lem (suc m) q r y p zero d h =
    let later : m ≡ suc m - 1 - 0 = omega arith in
    let start : 0 ≡ 0 * (2 * suc m - 0) = omega arith in
    let bit : 0 ≡ 0 * q = omega arith in
    λ j. row_from (later j) q (drop (start j) r) y (drop (bit j) p)
row_from_lem (suc m) q r y p (suc i) d h =
    let later : m - 1 - i ≡ suc m - 1 - suc i = omega arith in
    let start = drop_two (1 + 2 * m) (i * (2 * m - i)) (suc i * (2 * suc m - suc i)) r (row_start_lem m i (omega arith)) in
    let part = drop_two 2 (2 * i) (2 * suc i) y (omega arith) in
    let bit = drop_two q (i * q) (suc i * q) p (omega (arith, suc-mul i q)) in
    row_from_lem m q (drop (1 + 2 * m) r) (drop 2 y) (drop q p) i d (omega arith) ∙ (λ j. row_from (later j) q (start j) (part j) (bit j))

-- A vector has m rows
pub rows_count : (m q : ℕ) (numbers : List ℤ) → length (rows_of m q numbers) ≡ m
unfolding rows_of
rows_count m q numbers = rows_from_count m q numbers (drop (m * m) numbers) (drop (m * m + 2 * m) numbers)

-- Row i of a vector, from 0
module _ (m q : ℕ) (numbers : List ℤ) (i : ℕ) (d : Row) (h : i < m) where
  pub row_is : get_or (rows_of m q numbers) i d
      ≡ row_from (m - 1 - i) q (drop (i * (2 * m - i)) numbers) (drop (m * m + 2 * i) numbers) (drop (m * m + 2 * m + i * q) numbers)
  unfolding rows_of
  row_is = row_from_lem m q numbers (drop (m * m) numbers) (drop (m * m + 2 * m) numbers) i d h ∙ simp drop-drop

  -- Its diagonal
  pub diagonal_at : (get_or (rows_of m q numbers) i d).diagonal ≡ nat_abs (get_or numbers (i * (2 * m - i)) (pos 0))
  diagonal_at =
      let e : i * (2 * m - i) + 0 ≡ i * (2 * m - i) = omega arith in
      ap (λ (r : Row). r.diagonal) row_is ∙ rw (get_or-drop, e)

  -- The j-th entry right of it, from 0
  pub right_at : (j : ℕ) (c : Complex) → j < m - 1 - i
      → get_or (get_or (rows_of m q numbers) i d).right j c ≡ complex_at numbers (i * (2 * m - i) + 1 + 2 * j)
  right_at j c k =
      ap (λ (r : Row). get_or r.right j c) row_is
      ∙ complexes_at (m - 1 - i) (drop 1 (drop (i * (2 * m - i)) numbers)) j c k
      ∙ rw drop-drop (complex_drop (i * (2 * m - i) + 1) numbers (2 * j))

  -- Its received value
  pub received_at : (get_or (rows_of m q numbers) i d).received ≡ complex_at numbers (m * m + 2 * i)
  received_at =
      let e : m * m + 2 * i + 0 ≡ m * m + 2 * i = omega arith in
      ap (λ (r : Row). r.received) row_is ∙ complex_drop (m * m + 2 * i) numbers 0 ∙ ap (complex_at numbers) e

  -- Its b-th prior, from 0
  pub prior_at_lem : (b : ℕ) → b < q
      → get_or (get_or (rows_of m q numbers) i d).priors b (pos 0) ≡ get_or numbers (m * m + 2 * m + i * q + b) (pos 0)
  prior_at_lem b k = ap (λ (r : Row). get_or r.priors b (pos 0)) row_is ∙ rw (get_or-take, get_or-drop)

  -- How many entries right of the diagonal
  pub right_count : length (get_or (rows_of m q numbers) i d).right ≡ m - 1 - i
  right_count = ap (λ (r : Row). length r.right) row_is ∙ complexes_count (m - 1 - i) (drop 1 (drop (i * (2 * m - i)) numbers))

  -- How many priors
  pub prior_count : vector_size m q ≤ length numbers → length (get_or (rows_of m q numbers) i d).priors ≡ q
  prior_count e =
      ap (λ (r : Row). length r.priors) row_is
      ∙ simp (length-take, length-drop) (omega (arith, suc-mul i q, mul-le-mul h (le_refl q)))

priors_from : (m q : ℕ) (r y p : List ℤ) → all_priors (rows_from m q r y p) ≡ take (m * q) p
unfolding rows_from all_priors
priors_from zero q r y p = let e : 0 * q ≡ 0 = omega arith in rw e
priors_from (suc m) q r y p =
    let e : suc m * q ≡ q + m * q = omega (arith, suc-mul m q) in
    rw (e, take-add) (ap (λ (l : List ℤ). take q p ++ l) (priors_from m q (drop (1 + 2 * m) r) (drop 2 y) (drop q p)))

-- All priors "in label order" stand behind R and y
pub all_priors_lem : (m q : ℕ) (numbers : List ℤ) → all_priors (rows_of m q numbers) ≡ take (m * q) (drop (m * m + 2 * m) numbers)
unfolding rows_of
all_priors_lem m q numbers = priors_from m q numbers (drop (m * m) numbers) (drop (m * m + 2 * m) numbers)

-- That of a label's i-th bit, from 0
pub all_priors_at : (m q : ℕ) (numbers : List ℤ) (i : ℕ) → i < m * q
    → get_or (all_priors (rows_of m q numbers)) i (pos 0) ≡ get_or numbers (m * m + 2 * m + i) (pos 0)
all_priors_at m q numbers i h = rw (all_priors_lem m q numbers, get_or-take, get_or-drop)

-- A block has N vectors
pub vectors_count : (o : Layout) (numbers : List ℤ) → length (block_of o numbers).vectors ≡ count_at 2 numbers
unfolding block_of
vectors_count o numbers = length-up_from (vector_rows o numbers) 0 (count_at 2 numbers)

-- and as many owners
pub owners_count : (o : Layout) (numbers : List ℤ) → length (block_of o numbers).owners ≡ count_at 2 numbers
unfolding block_of
owners_count o numbers = length-up_from (owner_at o numbers) 0 (count_at 2 numbers)

-- An owner stands before its vector, or is 1
pub owner_told : (o : Layout) (numbers : List ℤ) (k : ℕ) (P : ℕ → Type 0) → (own_count o ≡ 0 → P 1)
    → (1 ≤ own_count o → P (count_at (vector_start o numbers k) numbers)) → P (owner_at o numbers k)
owner_told Base numbers k P one told = one refl
owner_told Weakened numbers k P one told = one refl
owner_told Owned numbers k P one told = told (omega arith)

-- In two lists it is the same if it is where it stands
pub owner_alike : (o : Layout) (a b : List ℤ) (k : ℕ) → (1 ≤ own_count o → count_at (vector_start o a k) a ≡ count_at (vector_start o b k) b)
    → owner_at o a k ≡ owner_at o b k
owner_alike Base a b k same = refl
owner_alike Weakened a b k same = refl
owner_alike Owned a b k same = same (omega arith)

-- Vector k of a block, from 0
pub vector_at_lem : (o : Layout) (numbers : List ℤ) (k : ℕ) (d : List Row) → k < count_at 2 numbers
    → get_or (block_of o numbers).vectors k d ≡ vector_rows o numbers k
unfolding block_of
vector_at_lem o numbers k d h = get_or-places (vector_rows o numbers) d (count_at 2 numbers) k h

-- and its owner
pub owner_at_lem : (o : Layout) (numbers : List ℤ) (k : ℕ) → k < count_at 2 numbers → get_or (block_of o numbers).owners k 0 ≡ owner_at o numbers k
unfolding block_of
owner_at_lem o numbers k h = get_or-places (owner_at o numbers) 0 (count_at 2 numbers) k h
