-- The first of the smallest keys by rows: it is the first of the smallest in the first of the rows whose smallest key is smallest. A row's
-- smallest depends on the row's keys alone.
use Prim.Native.Nat.{ℕ, ◌+◌, ◌*◌, ◌/◌, ◌%◌, ◌^◌, ◌≤◌, ◌<◌}
use mathlib.Core.Path.{◌≡◌, refl, sym, ap, ◌∙◌}
use mathlib.Core.List.{List, ◌++◌}
use mathlib.Core.Logic.{◌≢◌}
use native.Mathlib.Decide.{ℕ_discrete}
use native.Mathlib.Nat.{div-add-mod', div-lt_iff_lt-mul, le_refl, mod-lt, suc-mul}
use native.Mathlib.Omega.{arith}
use lib.ListN.{length, get_or, take, drop, length-drop}
use lib.Seq.{get_or-drop}
use lib.Pow.{pow_pos}
use Rattle.metric.proofs.Grid.{rows_all, row_room}
use Rattle.search_spec.specs.Arrays.{least_first}
use Rattle.search_spec.proofs.Arrays.{Same, least_below, least_same, same_part}
use Rattle.enumeration.specs.Rows.{row_count, column_count, key_count, row_column, row_least, RowLeast}
use Rattle.enumeration.proofs.Least.{First, first_is, from, part_first}

-- A row's smallest key is not above any other of the row
pub row_least_le : (q : ℕ) (keys : List ℕ) → RowLeast q keys → (a b : ℕ) → a < row_count q → b < column_count q
    → get_or keys (2 ^ q + a) 0 ≤ get_or keys (a * column_count q + b) 0
row_least_le q keys h a b l m =
    rw (h.each a l) ((part_first keys (a * column_count q) (column_count q) _ (pow_pos _) refl).most b m)

-- Row by row: a has the first of the smallest rows, b the first of the smallest in it
module _ (q : ℕ) (keys : List ℕ) (a b : ℕ) (h : RowLeast q keys) (ea : a ≡ least_first (drop (2 ^ q) keys) (row_count q))
    (eb : b ≡ least_first (drop (a * column_count q) keys) (column_count q)) where
  pub row : First (from keys (2 ^ q)) (row_count q) a
  row = part_first keys (2 ^ q) (row_count q) a (pow_pos _) ea

  pub column : First (from keys (a * column_count q)) (column_count q) b
  column = part_first keys (a * column_count q) (column_count q) b (pow_pos _) eb

  head : get_or keys (2 ^ q + a) 0 ≡ get_or keys (a * column_count q + b) 0
  head = h.each a row.below ∙ ap (λ (x : ℕ). get_or keys (a * column_count q + x) 0) (sym eb)

  row_below : (i : ℕ) → i < 2 ^ q → i / column_count q < row_count q
  row_below i l = (div-lt_iff_lt-mul (pow_pos (q / 2))).1 (rw (rows_all q) l)

  -- A key is at least its row's smallest
  row_le : (i : ℕ) → i < 2 ^ q → get_or keys (2 ^ q + i / column_count q) 0 ≤ get_or keys i 0
  row_le i l =
      let r = row_least_le q keys h (i / column_count q) (i % column_count q) (row_below i l) (mod-lt i (pow_pos (q / 2))) in
      rw (div-add-mod' i (column_count q)) at r

  earlier : (i : ℕ) → i < a * column_count q + b → get_or keys (a * column_count q + b) 0 < get_or keys i 0
  earlier i l = go (ℕ_discrete (i / column_count q) a)
    where
      whole : i / column_count q * column_count q + i % column_count q ≡ i
      whole = div-add-mod' i (column_count q)

      go : Dec (i / column_count q ≡ a) → get_or keys (a * column_count q + b) 0 < get_or keys i 0
      go (yes e) =
          let w : a * column_count q + i % column_count q ≡ i = rw e at whole in
          let m = column.earlier (i % column_count q) (omega arith) in
          rw w at m
      go (no e) =
          let d : i / column_count q ≢ a = e in
          let u : i < (a + 1) * column_count q = omega (arith, column.below, suc-mul a (column_count q)) in
          let r : i / column_count q < a + 1 = (div-lt_iff_lt-mul (pow_pos (q / 2))).1 u in
          let k : i / column_count q < a = omega arith in
          omega (arith, head, row.earlier (i / column_count q) k, row_le i (omega (arith, column.below, row_room q a row.below)))

  -- Its child is the first of the smallest of all
  pub rows_first : a * column_count q + b ≡ least_first keys (2 ^ q)
  rows_first = first_is (λ i. get_or keys i 0) keys (2 ^ q) _ (λ i l. refl) (record {
    below = omega (arith, column.below, row_room q a row.below);
    most = λ i l. omega (arith, head, row.most (i / column_count q) (row_below i l), row_le i l);
    earlier = earlier;
  })

-- Arrays with the same keys in a row have the smallest one in the same column,
module _ (q a : ℕ) (x y : List ℕ) (l : a < row_count q) (wx : 2 ^ q ≤ length x) (wy : 2 ^ q ≤ length y)
    (e : (b : ℕ) → b < column_count q → get_or x (a * column_count q + b) 0 ≡ get_or y (a * column_count q + b) 0) where
  pub row_column_lem : row_column q x a ≡ row_column q y a
  row_column_lem = least_same s (pow_pos (q / 2))
    where
      s : Same (column_count q) (drop (a * column_count q) x) (drop (a * column_count q) y)
      s = record {
        wide_a = omega (arith, row_room q a l, length-drop (a * column_count q) x);
        wide_b = omega (arith, row_room q a l, length-drop (a * column_count q) y);
        keys = λ i k. rw (get_or-drop (a * column_count q) x i 0, get_or-drop (a * column_count q) y i 0) (e i k);
      }

  -- and it is the same key
  pub row_key : get_or x (row_least q x a) 0 ≡ get_or y (row_least q y a) 0
  row_key = ap (λ (k : ℕ). get_or x (a * column_count q + k) 0) row_column_lem ∙ e _ (least_below _ _ (pow_pos (q / 2)))

-- The keys behind a node's own belong to other levels
pub row_least_front : (q : ℕ) (keys tail : List ℕ) → RowLeast q keys → RowLeast q (take (key_count q) keys ++ tail)
row_least_front q keys tail h = record {
  wide = s.wide_b;
  each = λ a l. sym (s.keys (2 ^ q + a) (omega arith)) ∙ h.each a l
      ∙ row_key q a keys (take (key_count q) keys ++ tail) l (omega (arith, h.wide)) (omega (arith, s.wide_b)) (in_row a l);
  column = λ a l. sym (s.keys (2 ^ q + row_count q + a) (omega arith)) ∙ h.column a l
      ∙ row_column_lem q a keys (take (key_count q) keys ++ tail) l (omega (arith, h.wide)) (omega (arith, s.wide_b)) (in_row a l);
}
  where
    s : Same (key_count q) keys (take (key_count q) keys ++ tail)
    s = same_part (key_count q) (key_count q) keys tail (le_refl _) h.wide

    in_row : (a : ℕ) → a < row_count q → (b : ℕ) → b < column_count q
        → get_or keys (a * column_count q + b) 0 ≡ get_or (take (key_count q) keys ++ tail) (a * column_count q + b) 0
    in_row a l b m = s.keys (a * column_count q + b) (omega (arith, row_room q a l))
