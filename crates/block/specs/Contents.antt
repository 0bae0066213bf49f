-- Document 01, "The record": what the whole numbers of a record say, as the model's block, and the kinds that they have.
use Rattle.std.specs.Prelude.{ℕ, zero, suc, ◌+◌, ◌*◌, List, [], ◌∷◌, ◌++◌, map, get_or, take, drop, ℤ, pos, nat_abs}
use Rattle.model.specs.Constellation.{Complex}
use Rattle.model.specs.Metric.{Row}
use Rattle.model.specs.Soft.{up_from}
use Rattle.model.specs.Block.{Block}
use Rattle.block.specs.Reading.{weak_count, own_count, weak_place, share_place, header_size, part_kinds, vector_kinds, vector_size, owned_size, count_at}
use Rattle.refusals.specs.declared.Kind.{Kind}
use Rattle.block.specs.declared.Part.TheVariants.{First, Sizes, Limits}
use Rattle.block.specs.declared.Layout.{Layout}
use Rattle.block.specs.declared.Layout.TheVariants.{Base, Weakened, Owned}

-- The complex number at a place: "real and imaginary", side by side
abbrev pub complex_at : List ℤ → ℕ → Complex
complex_at numbers i = record { re = get_or numbers i (pos 0); im = get_or numbers (i + 1) (pos 0) }

-- The first n complex numbers
unfoldable pub complexes : ℕ → List ℤ → List Complex
complexes zero numbers = []
complexes (suc n) numbers = complex_at numbers 0 ∷ complexes n (drop 2 numbers)

-- The row in front, with `later` rows below it: "the diagonal plain, each entry right of it as folded real and imaginary"; its "y .. as
-- folded real, imaginary"; its Q priors
abbrev pub row_from : ℕ → ℕ → List ℤ → List ℤ → List ℤ → Row
row_from later q r y priors = record {
  diagonal = nat_abs (get_or r 0 (pos 0));
  right = complexes later (drop 1 r);
  received = complex_at y 0;
  priors = take q priors;
}

-- The first m rows: "R by rows", "y, row 1 first", priors "in label order"
unfoldable pub rows_from : ℕ → ℕ → List ℤ → List ℤ → List ℤ → List Row
rows_from zero q r y priors = []
rows_from (suc later) q r y priors = row_from later q r y priors ∷ rows_from later q (drop (1 + 2 * later) r) (drop 2 y) (drop q priors)

-- A vector of m rows: "R by rows .. y .. M × Q folded priors"
unfoldable pub rows_of : ℕ → ℕ → List ℤ → List Row
rows_of m q numbers = rows_from m q numbers (drop (m * m) numbers) (drop (m * m + 2 * m) numbers)

-- Where vector k begins, from 0, with its owner if the layout has owners: behind the header and the vectors before it
abbrev pub vector_start : Layout → List ℤ → ℕ → ℕ
vector_start layout numbers k = header_size layout + k * owned_size (own_count layout) (count_at 0 numbers) (count_at 1 numbers)

-- Its owner: "an owner number 1 to 4 before each vector"; all vectors of an older record have one, owner 1
abbrev pub owner_at : Layout → List ℤ → ℕ → ℕ
owner_at Base numbers k = 1
owner_at Weakened numbers k = 1
owner_at Owned numbers k = count_at (vector_start Owned numbers k) numbers

-- Its numbers, behind its owner's
abbrev pub vector_numbers : Layout → List ℤ → ℕ → List ℤ
vector_numbers layout numbers k =
    take (vector_size (count_at 0 numbers) (count_at 1 numbers)) (drop (vector_start layout numbers k + own_count layout) numbers)

-- Vector k, from 0
abbrev pub vector_rows : Layout → List ℤ → ℕ → List Row
vector_rows layout numbers k = rows_of (count_at 0 numbers) (count_at 1 numbers) (vector_numbers layout numbers k)

-- A record: "M, Q, N .., C .., D ... Then for each vector" its owner and its rows; W "directly after C", or C for it
unfoldable pub block_of : Layout → List ℤ → Block
block_of layout numbers = record {
  streams = count_at 0 numbers;
  width = count_at 1 numbers;
  clip = count_at 3 numbers;
  weak = count_at (weak_place layout) numbers;
  share = count_at (share_place layout) numbers;
  owners = map (owner_at layout numbers) (up_from 0 (count_at 2 numbers));
  vectors = map (vector_rows layout numbers) (up_from 0 (count_at 2 numbers));
}

-- The kinds of the numbers before the first vector, of which M and C tell
abbrev pub header_kinds : Layout → ℤ → ℤ → List Kind
header_kinds layout m c = part_kinds First ++ part_kinds (Sizes m) ++ part_kinds (Limits (weak_count layout) m c)

-- The kinds of a record's numbers, as its own M, Q, N and C call for them
unfoldable pub record_kinds : Layout → List ℤ → List Kind
record_kinds layout numbers =
    header_kinds layout (get_or numbers 0 (pos 0)) (get_or numbers 3 (pos 0))
    ++ vector_kinds (count_at 2 numbers) (own_count layout) (count_at 0 numbers) (count_at 1 numbers)
