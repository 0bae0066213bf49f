-- The keys of the children are filled in: a row's keys differ by their imaginary parts alone, so the column with the smallest imaginary
-- part has each row's smallest key, and stands behind these for each row.
use Prim.Native.Nat.{ℕ, zero, suc, ◌+◌, ◌-◌, ◌*◌, ◌^◌, ◌≤◌, ◌<◌}
use mathlib.Core.Path.{◌≡◌, refl, sym, ap, ◌∙◌}
use mathlib.Core.List.{List, ◌++◌}
use native.Mathlib.Omega.{arith}
use borrow.Rule.Slice.PartMut.{put_mid}
use lib.ListN.{length, get_or, set, take, drop, length-take, length-drop, take-append-drop}
use Rattle.std.proofs.lemmas.List.{set-append_left, set-append_right}
use lib.Seq.{get_or-drop}
use lib.Pow.{pow_pos}
use Rattle.metric.specs.Parts.{span, imaginary_in, real_in, row_metric, measured_to, filled_from}
use Rattle.metric.proofs.Filled.{from_at, from_before, from_length}
use Rattle.metric.proofs.Grid.{row_room, row_at_lem, children_of}
use Rattle.metric.proofs.Pass.{pass_length, pass_sums}
use Rattle.search_spec.specs.Arrays.{least_first}
use Rattle.enumeration.specs.Rows.{row_count, column_count, key_count, column_metric, same_column, row_column, keys_in, Placed}
use Rattle.enumeration.proofs.Least.{First, first_is, part_first}

-- All keys are filled in, behind them the column with the smallest imaginary part, and behind these that column for each row
module _ (q shared : ℕ) (axes keys : List ℕ) (column : ℕ) (wide : key_count q ≤ length keys)
    (e : column ≡ least_first (drop span axes) (column_count q)) where
  abbrev children : List ℕ
  children = measured_to q shared axes (2 ^ q) keys

  abbrev least : List ℕ
  least = filled_from (2 ^ q) (column_metric (shared + imaginary_in axes column) axes) (row_count q) children

  abbrev whole : List ℕ
  whole = filled_from (2 ^ q + row_count q) (same_column column) (row_count q) least

  im : First (imaginary_in axes) (column_count q) column
  im = part_first axes span (column_count q) column (pow_pos _) e

  in_row : (a : ℕ) → First (row_metric (shared + real_in axes a) axes) (column_count q) column
  unfolding row_metric
  in_row a = record { below = im.below; most = λ i l. omega (arith, im.most i l); earlier = λ i l. omega (arith, im.earlier i l) }

  least_length : length least ≡ length keys
  least_length = from_length (2 ^ q) _ (row_count q) children ∙ pass_length q shared axes keys (2 ^ q)

  whole_length : length whole ≡ length keys
  whole_length = from_length (2 ^ q + row_count q) _ (row_count q) least ∙ least_length

  -- The columns stand behind everything else
  before_columns : (s : ℕ) → s < 2 ^ q + row_count q → get_or whole s 0 ≡ get_or least s 0
  before_columns s l = from_before (2 ^ q + row_count q) _ (row_count q) least s 0 l

  child_at : (s : ℕ) → s < 2 ^ q → get_or whole s 0 ≡ children_of q shared axes s
  child_at s l =
      before_columns s (omega arith)
      ∙ from_before (2 ^ q) _ (row_count q) children s 0 l ∙ pass_sums q shared axes keys (2 ^ q) s l (omega arith)

  least_column : (a : ℕ) → a < row_count q → column ≡ row_column q whole a
  least_column a l =
      first_is _ _ _ _ (λ b m. get_or-drop (a * column_count q) whole b 0
      ∙ child_at (a * column_count q + b) (omega (arith, row_room q a l)) ∙ sym (row_at_lem q shared axes a b m)) (in_row a)

  column_at : (a : ℕ) → a < row_count q → get_or whole (2 ^ q + row_count q + a) 0 ≡ column
  unfolding same_column
  column_at a l = from_at (2 ^ q + row_count q) (same_column column) (row_count q) least a 0 l (omega (arith, least_length))

  in_column : (a : ℕ) → column_metric (shared + imaginary_in axes column) axes a ≡ children_of q shared axes (a * column_count q + column)
  unfolding column_metric row_metric
  in_column a = omega (arith, row_at_lem q shared axes a column im.below)

  whole_placed : Placed q shared axes keys whole
  whole_placed = record {
    size = whole_length;
    each = child_at;
    rows = record {
      wide = omega (arith, whole_length);
      each = λ a l.
          before_columns (2 ^ q + a) (omega arith)
          ∙ from_at (2 ^ q) _ (row_count q) children a 0 l (omega (arith, pass_length q shared axes keys (2 ^ q)))
          ∙ in_column a
          ∙ sym (child_at (a * column_count q + column) (omega (arith, im.below, row_room q a l)))
          ∙ ap (λ (x : ℕ). get_or whole (a * column_count q + x) 0) (least_column a l);
      column = λ a l. column_at a l ∙ least_column a l;
    };
  }

pub placed : {q shared : ℕ} {axes old new : List ℕ} → key_count q ≤ length old → new ≡ keys_in q shared axes old → Placed q shared axes old new
unfolding keys_in
placed {q} {shared} {axes} {old} wide e = rw e (whole_placed q shared axes old _ wide refl)

-- A part of a list is filled, and with it the list
part_filled : (front back : List ℕ) (n at : ℕ) (f : ℕ → ℕ) (k : ℕ) (part : List ℕ) → length front ≡ n → at + k ≤ length part
    → front ++ (filled_from at f k part ++ back) ≡ filled_from (n + at) f k (front ++ (part ++ back))
unfolding filled_from
part_filled front back n at f zero part e room = refl
part_filled front back n at f (suc k) part e room =
    let before = filled_from at f k part in
    let place : n + at + k - n ≡ at + k = omega arith in
    ap (λ (l : List ℕ). front ++ l) (sym (set-append_left before back (at + k) (f k) (omega (arith, from_length at f k part))))
    ∙ sym (set-append_right front (before ++ back) n (n + at + k) (f k) e (omega arith)
    ∙ ap (λ (i : ℕ). front ++ set (before ++ back) i (f k)) place)
    ∙ ap (λ (l : List ℕ). set l (n + at + k) (f k)) (part_filled front back n at f k part e (omega arith))

-- as the program fills them in: behind the children's keys each row's smallest, and behind these the columns
pub keys_in_lem : (q n rows shared : ℕ) (axes old before behind : List ℕ) (column : ℕ) → n ≡ 2 ^ q → rows ≡ row_count q → key_count q ≤ length old
    → column ≡ least_first (drop span axes) (column_count q) → before ≡ measured_to q shared axes (2 ^ q) old
    → let part = take (length before - n) (drop n before) in
    behind ≡ filled_from rows (same_column column) rows (filled_from 0 (column_metric (shared + imaginary_in axes column) axes) rows part)
    → put_mid n (length before - n) before behind ≡ keys_in q shared axes old
unfolding keys_in
keys_in_lem q n rows shared axes old before behind column en er room el eb ef =
    let m = length before - n in
    let front = take n before in
    let part = take m (drop n before) in
    let back = drop m (drop n before) in
    let least = column_metric (shared + imaginary_in axes column) axes in
    let same : length before ≡ length old = ap length eb ∙ pass_length q shared axes old (2 ^ q) in
    let first : length front ≡ n = simp length-take (omega arith) in
    let behind_it : length part ≡ length before - n = simp (length-take, length-drop) (omega arith) in
    let whole : front ++ (part ++ back) ≡ before = ap (λ (l : List ℕ). front ++ l) (take-append-drop m (drop n before)) ∙ take-append-drop n before in
    let start : n + 0 ≡ n = omega arith in
    ap (λ (l : List ℕ). front ++ (l ++ back)) ef
    ∙ part_filled front back n rows (same_column column) rows (filled_from 0 least rows part) first (omega (arith, from_length 0 least rows part))
    ∙ ap (filled_from (n + rows) (same_column column) rows) (part_filled front back n 0 least rows part first (omega arith))
    ∙ rw (whole, start, eb, en, er, el) refl
