-- Document 01, "Bench readings": what the listing program prints, byte by byte (ASCII), from the record's bytes alone.
use Rattle.std.specs.Prelude.{ℕ, zero, suc, ◌+◌, ◌/◌, ◌%◌, Bool, true, false, cond, List, [], ◌∷◌, ◌++◌, ltb, ℤ, pos, negsuc, length, Ok, Err}
use Rattle.model.specs.Metric.{Row, all_priors}
use Rattle.model.specs.Block.{Block, vector_of, Answer, winning_distance, total_count}
use Rattle.owners.specs.Owners.{shared_answers}
use Rattle.refusals.specs.Table.{refusal_number}
use Rattle.block.specs.Reading.{layout_of, read_whole, Read}
use Rattle.block.specs.declared.Layout.{Layout}
use Rattle.block.specs.Contents.{block_of}
use Rattle.lines.specs.Against.{against}

-- A number in decimal digits, the fewest that hold it; the first argument is how many may still stand before the last
unfoldable pub decimals : ℕ → ℕ → List ℕ
decimals zero n = (48 + n % 10) ∷ []
decimals (suc most) n = let more = decimals most (n / 10) ++ (48 + n % 10) ∷ [] in cond (ltb n 10) ((48 + n) ∷ []) more

unfoldable pub decimal_of : ℕ → List ℕ
decimal_of n = decimals n n

abbrev pub line_end : List ℕ
line_end = 10 ∷ []

abbrev pub blank : List ℕ
blank = 32 ∷ []

abbrev pub minus : List ℕ
minus = 32 ∷ 45 ∷ []

-- "streams ", " bits ", " vectors ", " clip ", " share "
abbrev pub streams_word : List ℕ
streams_word = 115 ∷ 116 ∷ 114 ∷ 101 ∷ 97 ∷ 109 ∷ 115 ∷ 32 ∷ []

abbrev pub bits_word : List ℕ
bits_word = 32 ∷ 98 ∷ 105 ∷ 116 ∷ 115 ∷ 32 ∷ []

abbrev pub vectors_word : List ℕ
vectors_word = 32 ∷ 118 ∷ 101 ∷ 99 ∷ 116 ∷ 111 ∷ 114 ∷ 115 ∷ 32 ∷ []

abbrev pub clip_word : List ℕ
clip_word = 32 ∷ 99 ∷ 108 ∷ 105 ∷ 112 ∷ 32 ∷ []

abbrev pub share_word : List ℕ
share_word = 32 ∷ 115 ∷ 104 ∷ 97 ∷ 114 ∷ 101 ∷ 32 ∷ []

-- " stopped ", " complete "
abbrev pub state_word : Bool → List ℕ
state_word true = 32 ∷ 115 ∷ 116 ∷ 111 ∷ 112 ∷ 112 ∷ 101 ∷ 100 ∷ 32 ∷ []
state_word false = 32 ∷ 99 ∷ 111 ∷ 109 ∷ 112 ∷ 108 ∷ 101 ∷ 116 ∷ 101 ∷ 32 ∷ []

-- "total ", "refused "
abbrev pub total_word : List ℕ
total_word = 116 ∷ 111 ∷ 116 ∷ 97 ∷ 108 ∷ 32 ∷ []

abbrev pub refused_word : List ℕ
refused_word = 114 ∷ 101 ∷ 102 ∷ 117 ∷ 115 ∷ 101 ∷ 100 ∷ 32 ∷ []

-- A word and a number
unfoldable pub field : List ℕ → ℕ → List ℕ
field word n = word ++ decimal_of n

-- "The first line gives M, Q, N, C and D"
unfoldable pub head_line : ℕ → ℕ → ℕ → ℕ → ℕ → List ℕ
head_line m q n c d = field streams_word m ++ field bits_word q ++ field vectors_word n ++ field clip_word c ++ field share_word d ++ line_end

-- A signed number behind a blank, "-" before a negative one
unfoldable pub value_text : ℤ → List ℕ
value_text (pos n) = field blank n
value_text (negsuc n) = field minus (suc n)

unfoldable pub soft_text : List ℤ → List ℕ
soft_text [] = []
soft_text (z ∷ zs) = value_text z ++ soft_text zs

-- "A vector's line: its number from 1, complete or stopped, nodes, label, the number of label bits that go against the sign of their
-- prior .., soft values"; "The listing's vector line ends with this distance in decimal" (document 02)
unfoldable pub vector_line : ℕ → Answer → List ℤ → ℕ → List ℕ
vector_line number a priors distance =
    decimal_of number
    ++ field (state_word a.stopped) a.count
    ++ field blank a.result.label
    ++ field blank (against priors a.result.label)
    ++ soft_text a.result.soft
    ++ field blank distance
    ++ line_end

-- The lines of a block's vectors and their answers, each with its own label's distance; the first of them has a number
unfoldable pub lines_from : Block → ℕ → List (List Row) → List Answer → List ℕ
lines_from b number [] found = []
lines_from b number (rows ∷ later) [] = []
lines_from b number (rows ∷ later) (a ∷ found) =
    vector_line number a (all_priors rows) (winning_distance (vector_of b rows) a) ++ lines_from b (suc number) later found

-- "total" and "the nodes of all vectors"
unfoldable pub total_line : ℕ → List ℕ
total_line n = field total_word n ++ line_end

-- The listing of a block
unfoldable pub block_text : Block → List ℕ
block_text b =
    head_line b.streams b.width (length b.vectors) b.clip b.share
    ++ lines_from b 1 b.vectors (shared_answers b)
    ++ total_line (total_count (shared_answers b))

-- 'A refused record prints "refused " and the number, alone'
unfoldable pub refused_line : ℕ → List ℕ
refused_line n = field refused_word n ++ line_end

abbrev pub text_read : Layout → List ℤ → Read → List ℕ
text_read layout numbers (Ok at) = block_text (block_of layout numbers)
text_read layout numbers (Err r) = refused_line (refusal_number r)

-- What is printed of any bytes
unfoldable pub listing_of : List ℕ → List ℕ
listing_of bytes = text_read (layout_of bytes) (read_whole bytes).numbers (read_whole bytes).read

-- The most bytes of a vector's line, and of a listing: a first line of at most 87, 64 vectors, a last line of at most 17
abbrev pub most_line : ℕ
most_line = 354

abbrev pub most_text : ℕ
most_text = 22760
