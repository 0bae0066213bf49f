-- Answers computed from the definitions: document 01's readings, its listing's block and its Gray tables, and blocks whose answers a
-- second reading of document 01, a program written without sight of these definitions, gave.
use Prim.Native.Nat.{ℕ}
use mathlib.Core.Path.{◌≡◌, refl}
use mathlib.Core.Bool.{true, false}
use mathlib.Core.List.{List, [], ◌∷◌, map}
use lib.IntN.{ℤ, pos, neg_ℤ}
use lib.ListN.{length, take}
use Rattle.model.specs.Constellation.{Complex, number, bits_of, symbols, amplitude, point}
use Rattle.model.specs.Metric.{Row, dot, residual, prior_cost, increment, metric, distance, cost, all_priors}
use Rattle.model.specs.Order.{earlier}
use Rattle.model.specs.Soft.{finite, least_of, those, pick, up_from, soft_value}
use Rattle.model.specs.Walk.{passes, insert, sort, children, walk_below}
use Rattle.model.specs.Block.{Block, vector_of, Answer, answer, winning_distance, allowance, answers_from, answers}
use Rattle.model.specs.Search.{start, enter, search_below, search, search_answer}

abbrev pub minus : ℕ → ℤ
minus n = neg_ℤ (pos n)

-- The complex number of a real and an imaginary part
infix 70 ◌&◌
abbrev pub ◌&◌ : ℤ → ℤ → Complex
a & b = record { re = a; im = b }

-- A row: the diagonal, the entries right of it, y and the priors
abbrev pub row : ℕ → List Complex → Complex → List ℤ → Row
row d entries y ps = record { diagonal = d; right = entries; received = y; priors = ps }

-- M, Q, C, W, D and the vectors of one owner
abbrev pub block_with : ℕ → ℕ → ℕ → ℕ → ℕ → List (List Row) → Block
block_with m q c w d vs = record { streams = m; width = q; clip = c; weak = w; share = d; owners = map (λ (v : List Row). 1) vs; vectors = vs }

-- M, Q, C, D and the vectors of an older record: it "has W = C" (document 02), as all of document 01's have
abbrev pub block : ℕ → ℕ → ℕ → ℕ → List (List Row) → Block
block m q c d vs = block_with m q c c d vs

-- Nodes walked, label, soft values
abbrev pub complete : ℕ → ℕ → List ℤ → Answer
complete n l soft = record { stopped = false; count = n; result = record { label = l; soft = soft } }

abbrev pub stopped : ℕ → ℕ → List ℤ → Answer
stopped n l soft = record { stopped = true; count = n; result = record { label = l; soft = soft } }

-- A block and its answers
pub record Reading : Type 0 where
  pub given : Block
  pub expected : List Answer

infix 70 ◌gives◌
abbrev pub ◌gives◌ : Block → List Answer → Reading
b gives l = record { given = b; expected = l }

-- What the definitions say, and what is stated
unfoldable pub found : Reading → List Answer
unfolding number symbols amplitude point dot residual prior_cost increment metric cost all_priors earlier least_of those pick up_from passes insert sort children walk_below answer answers_from
found r = answers r.given

unfoldable pub stated : Reading → List Answer
stated r = r.expected

-- M = 1, Q = 1, R = 1: y and the prior
abbrev pub lone : ℤ → ℤ → List Row
lone y prior = row 1 [] (y & pos 0) (prior ∷ []) ∷ []

-- and C and D
abbrev pub single : ℤ → ℤ → ℕ → ℕ → Block
single y prior c d = block 1 1 c d (lone y prior ∷ [])

-- M = 2, Q = 1, R rows (1, 1), (0, 1), y = (1, -1), priors 0
abbrev pub pair : List Row
pair = row 1 (pos 1 & pos 0 ∷ []) (pos 1 & pos 0) (pos 0 ∷ []) ∷ row 1 [] (minus 1 & pos 0) (pos 0 ∷ []) ∷ []

-- The ten starred bench readings
unfoldable pub readings : List Reading
readings =
    single (pos 2) (pos 0) 5 2 gives (complete 1 1 (minus 5 ∷ []) ∷ []) ∷
    single (pos 2) (pos 0) 8 2 gives (complete 1 1 (minus 8 ∷ []) ∷ []) ∷
    single (pos 2) (pos 0) 9 2 gives (complete 2 1 (minus 8 ∷ []) ∷ []) ∷
    single (pos 0) (pos 0) 5 2 gives (complete 2 0 (pos 0 ∷ []) ∷ []) ∷
    single (pos 2) (pos 10) 5 2 gives (complete 2 0 (minus 5 ∷ []) ∷ []) ∷
    single (pos 2) (pos 10) 5 1 gives (stopped 1 0 (pos 5 ∷ []) ∷ []) ∷
    block 2 1 10 5 (pair ∷ []) gives (complete 5 2 (minus 4 ∷ pos 4 ∷ []) ∷ []) ∷
    block 2 1 10 4 (pair ∷ []) gives (stopped 4 2 (minus 8 ∷ pos 10 ∷ []) ∷ []) ∷
    block 2 1 3 5 (pair ∷ []) gives (complete 2 2 (minus 3 ∷ pos 3 ∷ []) ∷ []) ∷
    block 2 1 0 5 (pair ∷ []) gives (complete 2 2 (pos 0 ∷ pos 0 ∷ []) ∷ []) ∷
    []

pub starred : map found readings ≡ map stated readings
unfolding found stated readings
starred = refl

-- Document 02, Point 6: equal metrics go to the priors
abbrev pub tied : ℕ → Answer → Reading
tied d a = single (minus 2) (minus 8) 5 d gives (a ∷ [])

unfoldable pub ties : List Reading
ties =
    -- y = -2, prior -8: label 0 is 1 + 8 and label 1 is 9 + 0, which wins, and comes first
    tied 2 (complete 2 1 (pos 5 ∷ [])) ∷
    tied 1 (stopped 1 1 (minus 5 ∷ [])) ∷
    -- Siblings of stream 2 of 1 + 8 and 9 + 0: the second comes first, and a leaf more is walked than by the number, 4 nodes and not 3
    block 2 1 1 6 ((row 1 (pos 1 & pos 0 ∷ []) (minus 3 & pos 0) (pos 0 ∷ []) ∷ row 1 [] (minus 2 & pos 0) (minus 8 ∷ []) ∷ []) ∷ [])
    gives (complete 4 0 (pos 1 ∷ pos 1 ∷ []) ∷ []) ∷
    -- and here one less, 3 nodes and not 4
    block 2 1 2 6 ((row 2 (pos 1 & minus 1 ∷ []) (pos 0 & minus 3) (minus 2 ∷ []) ∷ row 1 [] (minus 1 & pos 2) (minus 4 ∷ []) ∷ []) ∷ [])
    gives (complete 3 1 (pos 2 ∷ minus 2 ∷ []) ∷ []) ∷
    []

pub ties_decided : map found ties ≡ map stated ties
unfolding found stated ties
ties_decided = refl

-- Document 02, Point 5: the winning labels' squared distances, one of each block, "separately from" their prior costs
abbrev pub distance_first : Block → List (List Row) → List Answer → ℕ
distance_first b [] found = 0
distance_first b (rows ∷ later) [] = 0
distance_first b (rows ∷ later) (a ∷ found) = winning_distance (vector_of b rows) a

unfoldable pub apart : Reading → ℕ
unfolding number bits_of symbols amplitude point dot residual distance
apart r = distance_first r.given r.given.vectors r.expected

-- R rows (1, 3), (0, 1), y = (-4, 1), priors 0: stopped at label 1, though label 0 has the distance 4
abbrev pub stopped_short : Reading
stopped_short =
    block 2 1 9 2 ((row 1 (pos 3 & pos 0 ∷ []) (minus 4 & pos 0) (pos 0 ∷ []) ∷ row 1 [] (pos 1 & pos 0) (pos 0 ∷ []) ∷ []) ∷ [])
    gives (stopped 2 1 (pos 9 ∷ minus 9 ∷ []) ∷ [])

-- y = -2, prior -3: label 0 wins with 1 and a prior cost of 3
abbrev pub priced : Reading
priced = single (minus 2) (minus 3) 20 2 gives (complete 2 0 (pos 8 ∷ []) ∷ [])

pub distances_apart : map apart (tied 2 (complete 2 1 (pos 5 ∷ [])) ∷ priced ∷ stopped_short ∷ readings) ≡ 9 ∷ 1 ∷ 36 ∷ 1 ∷ 1 ∷ 1 ∷ 1 ∷ 9 ∷ 9 ∷ 1 ∷ 1 ∷ 1 ∷ 1 ∷ []
unfolding apart readings
distances_apart = refl

pub apart_found : map found (priced ∷ stopped_short ∷ []) ≡ map stated (priced ∷ stopped_short ∷ [])
unfolding found stated
apart_found = refl

-- The listing's block: that vector twice, C = 10, D = 3
unfoldable pub listing : Reading
listing = block 2 1 10 3 (pair ∷ pair ∷ []) gives (stopped 4 2 (minus 8 ∷ pos 10 ∷ []) ∷ stopped 2 2 (minus 10 ∷ pos 10 ∷ []) ∷ [])

pub listed : found listing ≡ stated listing
unfolding found stated listing
listed = refl

-- Document 02, Point 4: W on the empty sides of stopped vectors and nowhere else
unfoldable pub weak_readings : List Reading
weak_readings =
    -- y = 2, prior 10: label 0 is walked, with D = 1 no other; with D = 2 both are, and no side is empty
    block_with 1 1 5 2 1 (lone (pos 2) (pos 10) ∷ []) gives (stopped 1 0 (pos 2 ∷ []) ∷ []) ∷
    block_with 1 1 5 2 2 (lone (pos 2) (pos 10) ∷ []) gives (complete 2 0 (minus 5 ∷ []) ∷ []) ∷
    -- y = 2, prior 0: label 0 is cut, and the vector is complete, so that its side gives C
    block_with 1 1 5 2 2 (lone (pos 2) (pos 0) ∷ []) gives (complete 1 1 (minus 5 ∷ []) ∷ []) ∷
    -- The pair, stopped: a value with both sides is clipped by C and may pass W; and complete
    block_with 2 1 10 3 4 (pair ∷ []) gives (stopped 4 2 (minus 8 ∷ pos 3 ∷ []) ∷ []) ∷
    block_with 2 1 10 7 5 (pair ∷ []) gives (complete 5 2 (minus 4 ∷ pos 4 ∷ []) ∷ []) ∷
    []

pub weakened : map found weak_readings ≡ map stated weak_readings
unfolding found stated weak_readings
weakened = refl

-- The listing's block with W = 0
unfoldable pub weak_listing : Reading
weak_listing = block_with 2 1 10 0 3 (pair ∷ pair ∷ []) gives (stopped 4 2 (minus 8 ∷ pos 0 ∷ []) ∷ stopped 2 2 (pos 0 ∷ pos 0 ∷ []) ∷ [])

pub weak_listed : found weak_listing ≡ stated weak_listing
unfolding found stated weak_listing
weak_listed = refl

-- Document 01's example against 000's eq. 31: "Leaves 10, 12, 8, 6, the bit opposite only in 12, its prior 10 for the best one's bit, C = 3:
-- that gives -1; the right value is -3". Of the two minima
pub eq31_value : soft_value 3 3 (pos 10) (finite 12) (finite 6) ≡ minus 3
eq31_value = refl

-- and as a block. R rows (1, 1, 2), (0, 1, -1), (0, 0, 1), y = (-1, 0, 0), priors 10, 2, 0: the metrics of labels 0 to 7 are 10, 6, 8, 12, 12,
-- 24, 18 and 38, and the leaves walked are 000, 100, 010 and 001, in this order
abbrev pub eq31 : Reading
eq31 =
    block 3 1 3 10
    ((row 1 (pos 1 & pos 0 ∷ pos 2 & pos 0 ∷ []) (minus 1 & pos 0) (pos 10 ∷ []) ∷
    row 1 (minus 1 & pos 0 ∷ []) (pos 0 & pos 0) (pos 2 ∷ []) ∷
    row 1 [] (pos 0 & pos 0) (pos 0 ∷ []) ∷ []) ∷ [])
    gives (complete 10 1 (minus 3 ∷ pos 0 ∷ minus 2 ∷ []) ∷ [])

-- The same trap in two streams of two bits: better and better leaves, where clipping from below at each would show; then a tie between labels
-- goes to the one with less prior cost, 13, and not to the smaller number, 9
abbrev pub trap : Reading
trap =
    block 2 2 2 40
    ((row 1 (pos 1 & pos 2 ∷ []) (minus 3 & minus 2) (minus 2 ∷ minus 4 ∷ []) ∷
    row 2 [] (pos 3 & pos 2) (pos 23 ∷ pos 16 ∷ []) ∷ []) ∷ [])
    gives (complete 10 13 (pos 0 ∷ pos 2 ∷ minus 2 ∷ minus 2 ∷ []) ∷ [])

-- Blocks of more streams, bits and vectors, with complex R and y
unfoldable pub blocks : List Reading
blocks =
    -- Vector 2 walks all that vector 1 left and is complete all the same
    block 1 2 40 2
    ((row 2 [] (pos 5 & pos 7) (pos 11 ∷ minus 28 ∷ []) ∷ []) ∷
    (row 1 [] (minus 2 & pos 4) (minus 25 ∷ pos 21 ∷ []) ∷ []) ∷ [])
    gives (complete 1 3 (minus 40 ∷ minus 40 ∷ []) ∷
    complete 3 2 (pos 8 ∷ minus 16 ∷ []) ∷ []) ∷
    -- 16 points: a child is cut and a later sibling passes; a walk exactly as long as the allowance
    block 1 4 8 3
    ((row 1 [] (pos 3 & pos 2) (pos 14 ∷ pos 28 ∷ minus 17 ∷ pos 22 ∷ []) ∷ []) ∷ [])
    gives (complete 3 10 (minus 8 ∷ pos 2 ∷ minus 8 ∷ pos 0 ∷ []) ∷ []) ∷
    -- 64 points: a child is cut and a later sibling passes; equal siblings; a partial metric equal to U
    block 1 6 12 60
    ((row 1 [] (minus 3 & minus 1) (pos 8 ∷ pos 7 ∷ pos 4 ∷ pos 9 ∷ minus 3 ∷ minus 2 ∷ []) ∷ []) ∷ [])
    gives (complete 4 10 (pos 12 ∷ minus 4 ∷ minus 7 ∷ pos 4 ∷ minus 12 ∷ pos 4 ∷ []) ∷ []) ∷
    -- Something is left for vectors 2 and 3; vector 3 is stopped before its best leaf
    block 2 1 8 4
    ((row 1 (minus 1 & minus 2 ∷ []) (pos 1 & pos 3) (minus 1 ∷ []) ∷
    row 1 [] (pos 2 & pos 4) (pos 2 ∷ []) ∷ []) ∷
    (row 2 (pos 1 & pos 2 ∷ []) (pos 1 & pos 3) (pos 4 ∷ []) ∷
    row 1 [] (pos 3 & minus 1) (minus 9 ∷ []) ∷ []) ∷
    (row 1 (minus 1 & pos 2 ∷ []) (pos 3 & pos 4) (minus 7 ∷ []) ∷
    row 1 [] (pos 1 & pos 2) (pos 4 ∷ []) ∷ []) ∷ [])
    gives (complete 5 2 (pos 0 ∷ pos 8 ∷ []) ∷
    complete 4 1 (pos 0 ∷ minus 8 ∷ []) ∷
    stopped 3 2 (minus 8 ∷ pos 8 ∷ []) ∷ []) ∷
    -- Vector 1 is stopped with M nodes kept for vector 2, which needs no more
    block 2 2 12 3
    ((row 1 (pos 1 & pos 1 ∷ []) (pos 1 & minus 3) (pos 1 ∷ pos 0 ∷ []) ∷
    row 3 [] (minus 1 & minus 1) (pos 1 ∷ pos 1 ∷ []) ∷ []) ∷
    (row 3 (minus 1 & minus 1 ∷ []) (minus 2 & minus 5) (minus 2 ∷ minus 1 ∷ []) ∷
    row 2 [] (pos 3 & pos 2) (minus 1 ∷ pos 0 ∷ []) ∷ []) ∷ [])
    gives (stopped 4 8 (minus 4 ∷ pos 4 ∷ pos 12 ∷ pos 12 ∷ []) ∷
    complete 2 3 (pos 12 ∷ pos 12 ∷ minus 12 ∷ minus 12 ∷ []) ∷ []) ∷
    -- Priors far beyond C; something is left for vectors 2 and 3
    block 2 2 5 5
    ((row 3 (minus 3 & minus 2 ∷ []) (minus 4 & minus 3) (pos 18 ∷ minus 23 ∷ []) ∷
    row 3 [] (pos 5 & pos 2) (minus 16 ∷ pos 20 ∷ []) ∷ []) ∷
    (row 1 (minus 1 & pos 2 ∷ []) (minus 2 & pos 5) (minus 23 ∷ pos 12 ∷ []) ∷
    row 2 [] (minus 1 & pos 2) (pos 14 ∷ minus 3 ∷ []) ∷ []) ∷
    (row 2 (pos 2 & minus 1 ∷ []) (pos 3 & minus 1) (pos 30 ∷ pos 12 ∷ []) ∷
    row 2 [] (minus 2 & minus 1) (pos 9 ∷ minus 29 ∷ []) ∷ []) ∷ [])
    gives (complete 3 7 (pos 5 ∷ minus 5 ∷ minus 5 ∷ minus 5 ∷ []) ∷
    complete 8 15 (minus 4 ∷ minus 5 ∷ minus 5 ∷ minus 5 ∷ []) ∷
    stopped 4 9 (minus 5 ∷ pos 5 ∷ pos 5 ∷ minus 4 ∷ []) ∷ []) ∷
    eq31 ∷
    trap ∷
    -- The trap again on two streams of 16 points, with limits below B
    block 2 4 5 40
    ((row 2 (pos 1 & minus 2 ∷ []) (minus 5 & minus 3) (pos 2 ∷ minus 9 ∷ minus 7 ∷ pos 5 ∷ []) ∷
    row 1 [] (pos 1 & pos 3) (minus 3 ∷ pos 6 ∷ pos 1 ∷ pos 8 ∷ []) ∷ []) ∷ [])
    gives (complete 25 104 (pos 5 ∷ pos 5 ∷ pos 5 ∷ minus 2 ∷ pos 1 ∷ minus 4 ∷ pos 1 ∷ minus 5 ∷ []) ∷ []) ∷
    -- Three streams: a tie between labels goes to the one with less prior cost, 6, and not to the smaller number, 4; something is left for
    -- vectors 2 and 3
    block 3 1 8 6
    ((row 3 (minus 1 & minus 2 ∷ minus 1 & minus 3 ∷ []) (pos 4 & pos 2) (minus 3 ∷ []) ∷
    row 2 (minus 3 & minus 2 ∷ []) (pos 1 & minus 3) (minus 8 ∷ []) ∷
    row 3 [] (minus 6 & pos 3) (pos 1 ∷ []) ∷ []) ∷
    (row 3 (pos 1 & minus 3 ∷ minus 3 & minus 1 ∷ []) (minus 7 & pos 3) (pos 6 ∷ []) ∷
    row 3 (pos 1 & pos 2 ∷ []) (pos 4 & minus 5) (pos 5 ∷ []) ∷
    row 3 [] (minus 3 & pos 1) (minus 9 ∷ []) ∷ []) ∷
    (row 1 (pos 2 & minus 1 ∷ pos 2 & minus 1 ∷ []) (pos 3 & minus 1) (pos 7 ∷ []) ∷
    row 1 (pos 3 & minus 2 ∷ []) (minus 4 & minus 1) (pos 6 ∷ []) ∷
    row 1 [] (pos 4 & pos 7) (minus 3 ∷ []) ∷ []) ∷ [])
    gives (complete 5 6 (minus 8 ∷ pos 8 ∷ pos 8 ∷ []) ∷
    complete 7 2 (pos 8 ∷ minus 8 ∷ pos 8 ∷ []) ∷
    stopped 6 5 (minus 8 ∷ pos 8 ∷ minus 8 ∷ []) ∷ []) ∷
    -- Four labels of the least metric, the smallest not walked first; equal siblings; partial metrics equal to B and to U
    block 3 1 3 30
    ((row 1 (minus 1 & minus 1 ∷ pos 1 & pos 1 ∷ []) (minus 5 & pos 5) (pos 1 ∷ []) ∷
    row 1 (pos 0 & pos 0 ∷ []) (minus 1 & minus 5) (minus 2 ∷ []) ∷
    row 2 [] (pos 0 & pos 4) (pos 0 ∷ []) ∷ []) ∷
    (row 1 (pos 0 & pos 1 ∷ pos 0 & minus 1 ∷ []) (pos 0 & minus 2) (pos 0 ∷ []) ∷
    row 1 (pos 0 & minus 1 ∷ []) (pos 3 & pos 2) (pos 0 ∷ []) ∷
    row 1 [] (minus 1 & minus 5) (pos 1 ∷ []) ∷ []) ∷ [])
    gives (complete 8 0 (pos 3 ∷ pos 3 ∷ pos 2 ∷ []) ∷
    complete 10 0 (pos 0 ∷ pos 0 ∷ pos 0 ∷ []) ∷ []) ∷
    -- Ties on three streams of two bits, priors of 0 among the others
    block 3 2 2 40
    ((row 2 (pos 1 & pos 1 ∷ pos 1 & minus 1 ∷ []) (pos 2 & minus 1) (minus 2 ∷ pos 1 ∷ []) ∷
    row 1 (pos 0 & pos 0 ∷ []) (pos 1 & pos 1) (pos 0 ∷ minus 1 ∷ []) ∷
    row 2 [] (minus 1 & pos 2) (minus 1 ∷ pos 0 ∷ []) ∷ []) ∷ [])
    gives (complete 12 37 (minus 1 ∷ pos 2 ∷ pos 0 ∷ pos 0 ∷ pos 2 ∷ minus 2 ∷ []) ∷ []) ∷
    -- Vector 1 is stopped with M nodes kept for vector 2, which is stopped at its first leaf
    block 3 2 12 6
    ((row 3 (pos 2 & pos 1 ∷ minus 3 & pos 2 ∷ []) (minus 3 & minus 2) (pos 10 ∷ pos 22 ∷ []) ∷
    row 2 (pos 1 & minus 2 ∷ []) (minus 2 & minus 4) (minus 18 ∷ minus 6 ∷ []) ∷
    row 1 [] (pos 1 & minus 2) (minus 20 ∷ minus 30 ∷ []) ∷ []) ∷
    (row 2 (minus 2 & pos 3 ∷ minus 3 & minus 2 ∷ []) (minus 2 & pos 4) (minus 30 ∷ minus 21 ∷ []) ∷
    row 1 (minus 1 & minus 3 ∷ []) (minus 3 & minus 2) (pos 2 ∷ pos 10 ∷ []) ∷
    row 3 [] (minus 5 & pos 1) (pos 5 ∷ pos 23 ∷ []) ∷ []) ∷ [])
    gives (stopped 9 10 (pos 6 ∷ minus 6 ∷ pos 2 ∷ pos 12 ∷ minus 12 ∷ pos 12 ∷ []) ∷
    stopped 3 16 (pos 12 ∷ minus 12 ∷ pos 12 ∷ pos 12 ∷ pos 12 ∷ pos 12 ∷ []) ∷ []) ∷
    []

pub computed : map found blocks ≡ map stated blocks
unfolding found stated blocks
computed = refl

-- The first vector of a block, by the search as a program keeps it
abbrev pub first_of : Block → List (List Row) → List Answer
first_of b [] = []
first_of b (rows ∷ later) = search_answer (vector_of b rows) b.weak (search (vector_of b rows) (allowance b 0 (length later))) ∷ []

unfoldable pub found_first : Reading → List Answer
unfolding number symbols amplitude point dot residual prior_cost increment metric cost all_priors earlier up_from passes insert sort children start enter search_below search_answer
found_first r = first_of r.given r.given.vectors

unfoldable pub stated_first : Reading → List Answer
stated_first r = take 1 r.expected

pub searched : map found_first (eq31 ∷ trap ∷ readings) ≡ map stated_first (eq31 ∷ trap ∷ readings)
unfolding found_first stated_first readings
searched = refl

-- One axis: the amplitudes of labels of w bits
abbrev pub axis : ℕ → List ℕ → List ℤ
axis w labels = map (λ n. amplitude (bits_of w n)) labels

-- The Gray tables of 1, 2 and 3 bits, their labels in document 01's order
unfoldable pub tables : List (List ℤ)
tables =
    axis 1 (0b0 ∷ 0b1 ∷ []) ∷
    axis 2 (0b00 ∷ 0b01 ∷ 0b11 ∷ 0b10 ∷ []) ∷
    axis 3 (0b000 ∷ 0b001 ∷ 0b011 ∷ 0b010 ∷ 0b110 ∷ 0b111 ∷ 0b101 ∷ 0b100 ∷ []) ∷
    []

unfoldable pub amplitudes : List (List ℤ)
amplitudes =
    (minus 1 ∷ pos 1 ∷ []) ∷
    (minus 3 ∷ minus 1 ∷ pos 1 ∷ pos 3 ∷ []) ∷
    (minus 7 ∷ minus 5 ∷ minus 3 ∷ minus 1 ∷ pos 1 ∷ pos 3 ∷ pos 5 ∷ pos 7 ∷ []) ∷
    []

pub gray : tables ≡ amplitudes
unfolding tables amplitudes amplitude bits_of
gray = refl
