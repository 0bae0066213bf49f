-- The next child is taken: its key is overwritten, and its row's smallest key and column with those of the smallest that is left.
use Prim.Native.Nat.{ℕ, ◌+◌, ◌-◌, ◌*◌, ◌/◌, ◌^◌, ◌≤◌, ◌<◌}
use mathlib.Core.Path.{◌≡◌, refl, sym, ap, ap₂, ◌∙◌}
use mathlib.Core.List.{List}
use mathlib.Core.Logic.{◌≢◌}
use native.Mathlib.Decide.{ℕ_discrete}
use native.Mathlib.Nat.{mul-add-div_right, div-eq_of_lt, ne_of_lt, ne_of_gt}
use native.Mathlib.Omega.{arith}
use lib.ListN.{length, get_or, set, drop, length-set}
use lib.Seq.{get_or-set_same, get_or-set_other}
use lib.Pow.{pow_pos, pow_mono}
use Rattle.metric.proofs.Grid.{row_room}
use Rattle.model.specs.Block.{most_width}
use Rattle.search_spec.specs.Arrays.{least_first}
use Rattle.search_spec.specs.Program.{tried, most_children}
use Rattle.search_spec.proofs.Arrays.{Same, least_below}
use Rattle.enumeration.specs.Rows.{row_count, column_count, row_column, row_least, keys_after, RowLeast, LeastRow, Took}
use Rattle.enumeration.proofs.Rows.{row, column, rows_first, row_column_lem, row_key}

-- The row of a child
row_of : (q a b : ℕ) → b < column_count q → (a * column_count q + b) / column_count q ≡ a
row_of q a b l = omega (arith, mul-add-div_right (pow_pos (q / 2)) a b, div-eq_of_lt l)

-- The keys after child b of row a is taken, with the smallest that is left in the row, in its column `least`, behind them, and with that
-- column
abbrev overwritten : ℕ → List ℕ → ℕ → ℕ → List ℕ
overwritten c keys a b = set keys (a * c + b) tried

abbrev with_least : ℕ → ℕ → List ℕ → ℕ → ℕ → List ℕ
with_least n c keys a least = set keys (n + a) (get_or keys (a * c + least) 0)

abbrev with_column : ℕ → ℕ → List ℕ → ℕ → ℕ → List ℕ
with_column n r keys a least = set keys (n + r + a) least

module _ (q : ℕ) (keys : List ℕ) (a b least : ℕ) (h : RowLeast q keys) (la : a < row_count q) (lb : b < column_count q)
    (e : least ≡ least_first (drop (a * column_count q) (overwritten (column_count q) keys a b)) (column_count q)) where
  abbrev mid : List ℕ
  mid = overwritten (column_count q) keys a b

  mid_length : length mid ≡ length keys
  mid_length = length-set keys (a * column_count q + b) tried

  abbrev low : List ℕ
  low = with_least (2 ^ q) (column_count q) mid a least

  low_length : length low ≡ length keys
  low_length = length-set mid (2 ^ q + a) _ ∙ mid_length

  abbrev new : List ℕ
  new = with_column (2 ^ q) (row_count q) low a least

  new_length : length new ≡ length keys
  new_length = length-set low (2 ^ q + row_count q + a) least ∙ low_length

  -- Before the columns nothing is changed but the row's smallest key,
  new_low : (s : ℕ) → s < 2 ^ q + row_count q → get_or new s 0 ≡ get_or low s 0
  new_low s l = get_or-set_other low (2 ^ q + row_count q + a) s least 0 (ne_of_lt (omega arith))

  new_child : (s : ℕ) → s < 2 ^ q → get_or new s 0 ≡ get_or mid s 0
  new_child s l = new_low s (omega arith) ∙ get_or-set_other mid (2 ^ q + a) s _ 0 (ne_of_lt (omega arith))

  new_row : (k i : ℕ) → k < row_count q → i < column_count q → get_or mid (k * column_count q + i) 0 ≡ get_or new (k * column_count q + i) 0
  new_row k i lk li = sym (new_child (k * column_count q + i) (omega (arith, row_room q k lk)))

  -- no child of another row,
  other_row : (k : ℕ) → k < row_count q → k ≢ a → (i : ℕ) → i < column_count q
      → get_or keys (k * column_count q + i) 0 ≡ get_or new (k * column_count q + i) 0
  other_row k lk p i li =
      sym (get_or-set_other keys (a * column_count q + b) (k * column_count q + i) tried 0
      (λ x. p (sym (row_of q k i li) ∙ ap (λ (y : ℕ). y / column_count q) x ∙ row_of q a b lb))) ∙ new_row k i lk li

  -- and behind the children's keys nothing by the child that is taken
  behind : (s : ℕ) → 2 ^ q ≤ s → get_or mid s 0 ≡ get_or keys s 0
  behind s l = get_or-set_other keys (a * column_count q + b) s tried 0 (ne_of_gt (omega (arith, row_room q a la)))

  new_each : (k : ℕ) → k < row_count q → get_or new (2 ^ q + k) 0 ≡ get_or new (row_least q new k) 0
  new_each k lk = new_low (2 ^ q + k) (omega arith) ∙ go (ℕ_discrete k a)
    where
      go : Dec (k ≡ a) → get_or low (2 ^ q + k) 0 ≡ get_or new (row_least q new k) 0
      go (yes p) =
          rw p
          (get_or-set_same mid (2 ^ q + a) _ 0 (omega (arith, h.wide, mid_length))
          ∙ ap (λ (x : ℕ). get_or mid (a * column_count q + x) 0) e
          ∙ row_key q a mid new la (omega (arith, h.wide, mid_length))
          (omega (arith, h.wide, new_length)) (λ i li. new_row a i la li))
      go (no p) =
          get_or-set_other mid (2 ^ q + a) (2 ^ q + k) _ 0 (λ x. p (omega arith))
          ∙ behind (2 ^ q + k) (omega arith)
          ∙ h.each k lk
          ∙ row_key q k keys new lk (omega (arith, h.wide)) (omega (arith, h.wide, new_length)) (other_row k lk p)

  new_column : (k : ℕ) → k < row_count q → get_or new (2 ^ q + row_count q + k) 0 ≡ row_column q new k
  new_column k lk = go (ℕ_discrete k a)
    where
      go : Dec (k ≡ a) → get_or new (2 ^ q + row_count q + k) 0 ≡ row_column q new k
      go (yes p) =
          rw p
          (get_or-set_same low (2 ^ q + row_count q + a) least 0 (omega (arith, h.wide, low_length))
          ∙ e
          ∙ row_column_lem q a mid new la (omega (arith, h.wide, mid_length))
          (omega (arith, h.wide, new_length)) (λ i li. new_row a i la li))
      go (no p) =
          get_or-set_other low (2 ^ q + row_count q + a) (2 ^ q + row_count q + k) least 0 (λ x. p (omega arith))
          ∙ get_or-set_other mid (2 ^ q + a) (2 ^ q + row_count q + k) _ 0 (ne_of_gt (omega arith))
          ∙ behind (2 ^ q + row_count q + k) (omega arith)
          ∙ h.column k lk
          ∙ row_column_lem q k keys new lk (omega (arith, h.wide)) (omega (arith, h.wide, new_length)) (other_row k lk p)

  new_took : a * column_count q + b ≡ least_first keys (2 ^ q)
      → Took q keys new (a * column_count q + b)
  new_took first = record {
    size = new_length;
    first = first;
    each = new_child;
    rows = record { wide = omega (arith, h.wide, new_length); each = new_each; column = new_column };
  }

-- The row of the first of the smallest keys
pub least_row : (q n r a : ℕ) (keys : List ℕ) → n ≡ 2 ^ q → r ≡ row_count q → RowLeast q keys → a ≡ least_first (drop n keys) r
    → LeastRow q keys a (get_or keys (n + a) 0)
least_row q n r a keys en er h ea =
    let fa : a ≡ least_first (drop (2 ^ q) keys) (row_count q) = ea ∙ ap₂ (λ (x y : ℕ). least_first (drop x keys) y) en er in
    record {
      first = fa;
      least = ap (λ (x : ℕ). get_or keys (x + a) 0) en ∙ h.each a (row q keys a _ h fa refl).below
          ∙ ap (λ (x : ℕ). get_or keys x 0) (rows_first q keys a _ h fa refl);
    }

-- The keys after the child of row a and column b is taken, which is the next
after_is : (q : ℕ) (keys : List ℕ) (a b : ℕ) → b < column_count q → a * column_count q + b ≡ least_first keys (2 ^ q)
    → let mid = overwritten (column_count q) keys a b in
    let least = row_column q mid a in
    with_column (2 ^ q) (row_count q) (with_least (2 ^ q) (column_count q) mid a least) a least ≡ keys_after q keys
unfolding keys_after
after_is q keys a b lb first = rw (← first, row_of q a b lb) refl

-- as the program takes it
pub taken : (q n c r : ℕ) (keys : List ℕ) (a b least : ℕ) → n ≡ 2 ^ q → c ≡ column_count q → r ≡ row_count q → RowLeast q keys
    → a ≡ least_first (drop (2 ^ q) keys) (row_count q) → b ≡ get_or keys (n + r + a) 0
    → least ≡ least_first (drop (a * c) (overwritten c keys a b)) c
    → (a * c + b ≡ least_first keys (2 ^ q))
    × (with_column n r (with_least n c (overwritten c keys a b) a least) a least ≡ keys_after q keys)
taken q n c r keys a b least en ec er h fa eb el =
    let la = (row q keys a _ h fa refl).below in
    let fb : b ≡ row_column q keys a = eb ∙ ap₂ (λ (x y : ℕ). get_or keys (x + y + a) 0) en er ∙ h.column a la in
    let lb = (column q keys a b h fa fb).below in
    let first = rows_first q keys a b h fa fb in
    rw (el, en, ec, er) (first, after_is q keys a b lb first)

-- Taking the next child
pub took : {q : ℕ} {old new : List ℕ} {symbol : ℕ} → RowLeast q old → symbol ≡ least_first old (2 ^ q) → new ≡ keys_after q old
    → Took q old new symbol
took {q} {old} {new} {symbol} h es en =
    let a = least_first (drop (2 ^ q) old) (row_count q) in
    let b = row_column q old a in
    let la = (row q old a _ h refl refl).below in
    let lb = (column q old a b h refl refl).below in
    let first = rows_first q old a b h refl refl in
    rw (es, en, ← first, ← after_is q old a b lb first) (new_took q old a b _ h la lb refl first)

-- The keys after the next child is taken, but for what stands behind them
pub took_same : {q : ℕ} {old new : List ℕ} {symbol : ℕ} → Took q old new symbol → Same (2 ^ q) (set old symbol tried) new
took_same {q} {old} {new} {symbol} t = record {
  wide_a = omega (arith, length-set old symbol tried, t.size, t.rows.wide);
  wide_b = omega (arith, t.rows.wide);
  keys = λ i l. sym (t.each i l);
}

-- The row's places are within the children's, the places of its smallest key and of that key's column are behind them, and the column that
-- is kept is one of the row
pub room : {q row n r c : ℕ} {keys : List ℕ} → n ≡ 2 ^ q → r ≡ row_count q → c ≡ column_count q
    → (q ≤ most_width) × RowLeast q keys × (row ≡ least_first (drop (2 ^ q) keys) (row_count q))
    → (1 ≤ c) × (row * c + c ≤ n) × (n ≤ most_children) × (n ≤ length keys)
    × (n + r + row < length keys) × (n + r + row ≤ 3 * most_children) × (get_or keys (n + r + row) 0 < c)
room {q} {row} {n} {r} {c} {keys} en er ec h =
    let fewer : q - q / 2 ≤ q = omega arith in
    let inside : row < row_count q = rw h.2 (least_below _ (row_count q) (pow_pos (q - q / 2))) in
    rw (en, er, ec) (
      pow_pos (q / 2),
      row_room q row inside,
      pow_mono h.0,
      omega (arith, h.1.wide),
      omega (arith, h.1.wide),
      omega (arith, pow_mono fewer, pow_mono h.0),
      rw (h.1.column row inside) (least_below _ (column_count q) (pow_pos (q / 2))),
    )
