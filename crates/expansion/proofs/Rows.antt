-- The vector that a search is asked for is in range, and its keys are those that metric measures: each of its rows is the row that is
-- read off its numbers.
use Prim.Native.Nat.{ℕ, suc, ◌-◌, ◌<◌}
use mathlib.Core.Path.{◌≡◌, sym, ap, ap₂, subst}
use mathlib.Core.List.{List, [], ◌∷◌}
use native.Mathlib.Omega.{arith}
use lib.ListN.{length, get_or}
use lib.IntN.{ℤ}
use Rattle.model.specs.Constellation.{bits_of}
use Rattle.model.specs.Metric.{Row, prior_cost}
use Rattle.model.specs.Block.{RowInRange, RowsInRange}
use Rattle.block.specs.Contents.{rows_of}
use Rattle.block.proofs.Places.{rows_count}
use Rattle.metric.specs.Keys.{keyed}
use Rattle.metric.specs.Rows.{row_at, child_of, child_key, VectorAsked}
use Rattle.metric.proofs.Rows.{row_in_range}
use Rattle.metric.proofs.Link.{row_at_lem}
use Rattle.search_spec.specs.Program.{Ranged, no_row, chosen, partial_of, symbol_cost, key_of}
use Rattle.hypotheses.specs.Limits.{vector_at, SearchAsked}

-- Rows are in range where each is
rows_ranged : (q : ℕ) (rows : List Row) → ((i : ℕ) → i < length rows → RowInRange q (length rows - suc i) (get_or rows i no_row))
    → RowsInRange q rows
rows_ranged q [] h = tt
rows_ranged q (r ∷ rows) h =
    let e : length (r ∷ rows) - 1 ≡ length rows = omega arith in
    (subst (λ (x : ℕ). RowInRange q x r) e (h 0 (omega arith)), rows_ranged q rows later)
  where
    later : (i : ℕ) → i < length rows → RowInRange q (length rows - suc i) (get_or rows i no_row)
    later i l =
        let e : length (r ∷ rows) - suc (suc i) ≡ length rows - suc i = omega arith in
        subst (λ (x : ℕ). RowInRange q x (get_or rows i no_row)) e (h (suc i) (omega arith))

module _ (m q : ℕ) (numbers : List ℤ) (a : VectorAsked m q numbers) where
  -- A row of the vector
  pub row_is : (i : ℕ) (d : Row) → i < m → get_or (rows_of m q numbers) i d ≡ row_at m q numbers i
  row_is i d h = row_at_lem m q numbers a.room i d h

  each_ranged : (i : ℕ) → i < length (rows_of m q numbers)
      → RowInRange q (length (rows_of m q numbers) - suc i) (get_or (rows_of m q numbers) i no_row)
  each_ranged i h =
      let k : i < m = omega (arith, rows_count m q numbers) in
      rw (rows_count m q numbers, row_is i no_row k) (row_in_range a i k)

  -- The partial metric of a node's child
  pub partial_by : (clip level node d s : ℕ) → level < m → child_of m q numbers level node d s ≡ partial_of (vector_at m q clip numbers) level node d s
  unfolding child_of partial_of chosen
  partial_by clip level node d s h = rw (rows_count m q numbers, row_is level no_row h)

  -- and its key
  pub key_by : (clip level node d s : ℕ) → level < m → child_key m q numbers level node d s ≡ key_of (vector_at m q clip numbers) level node d s
  unfolding symbol_cost
  key_by clip level node d s h =
      ap₂ keyed (partial_by clip level node d s h) (ap (λ (r : Row). prior_cost r.priors (bits_of q s)) (sym (row_is level no_row h)))

-- The vector is in range
pub ranged : (m q clip : ℕ) (numbers : List ℤ) → SearchAsked m q clip numbers → Ranged (vector_at m q clip numbers)
ranged m q clip numbers a = record {
  bit = a.vector.bit;
  bits = a.vector.bits;
  stream = rw (rows_count m q numbers) a.stream;
  streams = rw (rows_count m q numbers) a.vector.streams;
  label = rw (rows_count m q numbers) a.vector.label;
  rows = rows_ranged q (rows_of m q numbers) (each_ranged m q numbers a.vector);
}
