-- A row by its places is the row of the vector that the numbers say: part by part, and its lists entry by entry.
use Prim.Native.Nat.{ℕ, suc, ◌+◌, ◌-◌, ◌*◌, ◌≤◌, ◌<◌}
use mathlib.Core.Path.{◌≡◌, sym, ◌∙◌}
use mathlib.Core.List.{List, map}
use native.Mathlib.Omega.{arith}
use lib.ListN.{length, get_or}
use lib.Seq.{ext_get_or}
use lib.IntN.{ℤ, pos}
use Rattle.model.specs.Constellation.{real}
use Rattle.model.specs.Metric.{Row}
use Rattle.model.specs.Soft.{up_from}
use Rattle.model.proofs.Lists.{length-up_from, get_or-places}
use Rattle.block.specs.Reading.{vector_size}
use Rattle.block.specs.Contents.{complex_at, rows_of}
use Rattle.block.proofs.Places.{diagonal_at, right_at, received_at, prior_at_lem, right_count, prior_count}
use Rattle.metric.specs.Parts.{part}
use Rattle.metric.specs.Rows.{row_start, row_at}

module _ (m q : ℕ) (numbers : List ℤ) (room : vector_size m q ≤ length numbers) (i : ℕ) (d : Row) (h : i < m) where
  abbrev row : Row
  row = get_or (rows_of m q numbers) i d

  rights : row.right ≡ map (λ j. complex_at numbers (row_start m i + 1 + 2 * j)) (up_from 0 (m - suc i))
  rights =
      let count = right_count m q numbers i d h in
      let all = length-up_from (λ j. complex_at numbers (row_start m i + 1 + 2 * j)) 0 (m - suc i) in
      ext_get_or (real 0) _ _ (omega (arith, count, all))
      (λ j l.
      right_at m q numbers i d h j (real 0) (omega (arith, count)) ∙ sym (get_or-places _ (real 0) (m - suc i) j (omega (arith, count))))

  priors : row.priors ≡ part numbers (m * m + 2 * m + i * q) q
  unfolding part
  priors =
      let count = prior_count m q numbers i d h room in
      let all = length-up_from (λ j. get_or numbers (m * m + 2 * m + i * q + j) (pos 0)) 0 q in
      ext_get_or (pos 0) _ _ (omega (arith, count, all))
      (λ b l. prior_at_lem m q numbers i d h b (omega (arith, count)) ∙ sym (get_or-places _ (pos 0) q b (omega (arith, count))))

  pub row_at_lem : row ≡ row_at m q numbers i
  unfolding row_at
  row_at_lem = λ j. record {
    diagonal = diagonal_at m q numbers i d h j;
    right = rights j;
    received = received_at m q numbers i d h j;
    priors = priors j;
  }
