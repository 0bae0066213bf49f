-- The keys of a node's children by the rows of the constellation: a row has one real label. Behind the keys stands each row's smallest, and
-- behind these the column of each.
use Rattle.std.specs.Prelude.{ℕ, ◌+◌, ◌-◌, ◌*◌, ◌/◌, ◌^◌, ◌≤◌, ◌<◌, ◌≡◌, List, length, get_or, set, drop}
use Rattle.metric.specs.Parts.{span, child_metric, real_in, imaginary_in, measured_to, filled_from}
use Rattle.search_spec.specs.Arrays.{least_first}
use Rattle.search_spec.specs.Program.{tried}

-- How many rows there are, and how many children a row has
abbrev pub row_count : ℕ → ℕ
row_count q = 2 ^ (q - q / 2)

abbrev pub column_count : ℕ → ℕ
column_count q = 2 ^ (q / 2)

-- The places of a node's keys: 2^Q children, and two for each row
abbrev pub key_count : ℕ → ℕ
key_count q = 2 ^ q + 2 * row_count q

-- A child's key from what its imaginary label gives and its real label's part
unfoldable pub column_metric : ℕ → List ℕ → ℕ → ℕ
column_metric base axes a = base + real_in axes a

-- The column of every row, where it is the same one
unfoldable pub same_column : ℕ → ℕ → ℕ
same_column column a = column

-- The column of the smallest key of row a, the first one of equals,
abbrev pub row_column : ℕ → List ℕ → ℕ → ℕ
row_column q keys a = least_first (drop (a * column_count q) keys) (column_count q)

-- and its place
abbrev pub row_least : ℕ → List ℕ → ℕ → ℕ
row_least q keys a = a * column_count q + row_column q keys a

-- Behind the keys stands each row's smallest, and behind these the column of each
pub record RowLeast (q : ℕ) (keys : List ℕ) : Type 0 where
  pub wide : key_count q ≤ length keys
  pub each : (a : ℕ) → a < row_count q → get_or keys (2 ^ q + a) 0 ≡ get_or keys (row_least q keys a) 0
  pub column : (a : ℕ) → a < row_count q → get_or keys (2 ^ q + row_count q + a) 0 ≡ row_column q keys a

-- The keys after all children's are filled in, the smallest of each row behind them, and its column: the one with the smallest imaginary part.
-- The other places are as before
unfoldable pub keys_in : ℕ → ℕ → List ℕ → List ℕ → List ℕ
keys_in q shared axes keys =
    let column = least_first (drop span axes) (column_count q) in
    filled_from (2 ^ q + row_count q) (same_column column) (row_count q)
    (filled_from (2 ^ q) (column_metric (shared + imaginary_in axes column) axes) (row_count q) (measured_to q shared axes (2 ^ q) keys))

-- The keys after the next child is taken, the first of the smallest: its key is that of a tried one, and its row's smallest key and column are those
-- of what is left. The other places are as before
unfoldable pub keys_after : ℕ → List ℕ → List ℕ
keys_after q keys =
    let symbol = least_first keys (2 ^ q) in
    let a = symbol / column_count q in
    let rest = set keys symbol tried in
    set (set rest (2 ^ q + a) (get_or rest (row_least q rest a) 0)) (2 ^ q + row_count q + a) (row_column q rest a)

-- The keys of all children are filled in
pub record Placed (q shared : ℕ) (axes old new : List ℕ) : Type 0 where
  pub size : length new ≡ length old
  pub each : (s : ℕ) → s < 2 ^ q → get_or new s 0 ≡ child_metric q shared (real_in axes) (imaginary_in axes) s
  pub rows : RowLeast q new

-- A row has the first of the smallest keys, and that key is told
pub record LeastRow (q : ℕ) (keys : List ℕ) (row key : ℕ) : Type 0 where
  pub first : row ≡ least_first (drop (2 ^ q) keys) (row_count q)
  pub least : key ≡ get_or keys (least_first keys (2 ^ q)) 0

-- The next child is taken: the first of the smallest keys, which is then that of a tried one
pub record Took (q : ℕ) (old new : List ℕ) (symbol : ℕ) : Type 0 where
  pub size : length new ≡ length old
  pub first : symbol ≡ least_first old (2 ^ q)
  pub each : (s : ℕ) → s < 2 ^ q → get_or new s 0 ≡ get_or (set old symbol tried) s 0
  pub rows : RowLeast q new
