-- Document 01, "Allowance": a list of vectors searched in record order under the allowance that they share; document 02's W, "a weaker value
-- after a stop"; and the ranges of "The record". How the vectors of several owners share a block is said in the crate `owners`.
use Rattle.std.specs.Prelude.{ℕ, ◌+◌, ◌-◌, ◌*◌, ◌≤◌, ◌≡◌, Bool, cond, ltb, length, take, ℤ, nat_abs}
use mathlib.Core.List.{List, [], ◌∷◌, Memᴰ}
use Rattle.model.specs.Constellation.{Complex, Bits, bits_of}
use Rattle.model.specs.Metric.{Row, Vector, label_bits, distance_of}
use Rattle.model.specs.Soft.{Report, report}
use Rattle.model.specs.Walk.{walk, leaves}

-- What a block record holds: M, Q, C, W (what a stopped vector's empty side gives), D and, of each of its N vectors, the owner's number and
-- the rows
pub record Block : Type 0 where
  pub streams : ℕ
  pub width : ℕ
  pub clip : ℕ
  pub weak : ℕ
  pub share : ℕ
  pub owners : List ℕ
  pub vectors : List (List Row)

-- One of its vectors, with Q and C. "The walk still uses C" (document 02): walk, limits and pass test are those of a Vector, which has no W
abbrev pub vector_of : Block → List Row → Vector
vector_of b rows = record { width = b.width; clip = b.clip; rows = rows }

-- A vector's part of the reply: "0 complete or 1 stopped, nodes walked, label" and soft values
pub record Answer : Type 0 where
  pub stopped : Bool
  pub count : ℕ
  pub result : Report

-- Walked nodes (document 01's term): "the whole walk where that is no longer than the allowance, else the walk's first nodes, as many
-- as the allowance"
abbrev pub walked_nodes : Vector → ℕ → List Bits
walked_nodes v n = take n (walk v)

-- Walked labels (document 01's term): "those of the leaves among the walked nodes"
abbrev pub walked_labels : Vector → ℕ → List Bits
walked_labels v n = leaves v (walked_nodes v n)

-- "It is stopped when that many are walked and the walk would take another; else complete", of an allowance of n nodes
abbrev pub is_stopped : Vector → ℕ → Bool
is_stopped v n = ltb n (length (walk v))

-- What an empty side gives, by the mark, W and C: "in a stopped vector a bit with one empty side gets +W or -W instead of +C or -C"
-- (document 02)
abbrev pub empty_side : Bool → ℕ → ℕ → ℕ
empty_side stopped weak clip = cond stopped weak clip

-- A vector's answer by W and under an allowance of n nodes: "stopped vectors report over walked leaves", "judged by W on empty sides and by
-- C elsewhere" (document 02)
unfoldable pub answer : Vector → ℕ → ℕ → Answer
answer v weak n = record {
  stopped = is_stopped v n;
  count = length (walked_nodes v n);
  result = report v (empty_side (is_stopped v n) weak v.clip) (walked_labels v n);
}

-- "The winning label's squared distance" (document 02): that of the label that the answer shows, complete or stopped
abbrev pub winning_distance : Vector → Answer → ℕ
winning_distance v a = distance_of v (bits_of (label_bits v) a.result.label)

-- N × D, the nodes that N vectors may walk
abbrev pub total : Block → ℕ
total b = length b.vectors * b.share

-- The allowance (document 01's term), maximum-first (001, eq. 15): "N × D, less the nodes walked by vectors before k" (`spent`), "less
-- (N - k) × M", `after` being the N - k vectors behind vector k
abbrev pub allowance : Block → ℕ → ℕ → ℕ
allowance b spent after = total b - spent - after * b.streams

-- The answers of vectors in record order, each under what those before it left
unfoldable pub answers_from : Block → ℕ → List (List Row) → List Answer
answers_from b spent [] = []
answers_from b spent (rows ∷ later) =
    let a = answer (vector_of b rows) b.weak (allowance b spent (length later)) in a ∷ answers_from b (spent + a.count) later

-- The answers of a block whose vectors are one list, whoever owns them: "the first vector finds nothing spent"
abbrev pub answers : Block → List Answer
answers b = answers_from b 0 b.vectors

unfoldable pub total_count : List Answer → ℕ
total_count [] = 0
total_count (a ∷ rest) = a.count + total_count rest

-- x is one of xs
infix 40 ◌∈◌
abbrev pub ◌∈◌ : {A : Type 0} → A → List A → Type 0
x ∈ xs = Memᴰ x xs

-- Each member of a list has a property
abbrev pub Every : {A : Type 0} → (A → Type 0) → List A → Type 0
Every P [] = Unit {0}
Every P (x ∷ xs) = P x × Every P xs

-- The shape that the search needs: M and Q at least 1, D at least M, and M rows in each vector
pub record Shaped (b : Block) : Type 0 where
  pub stream : 1 ≤ b.streams
  pub bit : 1 ≤ b.width
  pub reserve : b.streams ≤ b.share
  pub rows : Every (λ (rows : List Row). length rows ≡ b.streams) b.vectors

-- A whole number from -n to n
abbrev pub Within : ℕ → ℤ → Type 0
Within n z = nat_abs z ≤ n

-- A complex number with both parts from -n to n
pub record BothWithin (n : ℕ) (z : Complex) : Type 0 where
  pub re : Within n z.re
  pub im : Within n z.im

-- The ranges of "The record", each named once
abbrev pub most_streams : ℕ
most_streams = 4

-- the most bits of a symbol
abbrev pub most_width : ℕ
most_width = 8

-- the most bits of a label: four streams of 6 bits, or three of 8
abbrev pub most_bits : ℕ
most_bits = 24

abbrev pub most_vectors : ℕ
most_vectors = 64

abbrev pub most_clip : ℕ
most_clip = 16777215

abbrev pub most_share : ℕ
most_share = 17043520

abbrev pub most_entry : ℕ
most_entry = 2047

abbrev pub most_received : ℕ
most_received = 131071

abbrev pub most_prior : ℕ
most_prior = 1048575

-- "an owner number 1 to 4" (document 02)
abbrev pub most_owner : ℕ
most_owner = 4

-- "Q bits each: 1, 2, 4 or 6", and document 02's 8, "with up to three streams"
abbrev pub widths : List ℕ
widths = 1 ∷ 2 ∷ 4 ∷ 6 ∷ 8 ∷ []

-- A row in range, with `later` rows below it: an entry right of the diagonal for each of them, Q priors
pub record RowInRange (q later : ℕ) (r : Row) : Type 0 where
  pub positive : 1 ≤ r.diagonal
  pub diagonal : r.diagonal ≤ most_entry
  pub entries : length r.right ≡ later
  pub right : Every (BothWithin most_entry) r.right
  pub received : BothWithin most_received r.received
  pub bits : length r.priors ≡ q
  pub priors : Every (Within most_prior) r.priors

-- The rows of a vector, or its last rows, in range
abbrev pub RowsInRange : ℕ → List Row → Type 0
RowsInRange q [] = Unit {0}
RowsInRange q (r ∷ rs) = RowInRange q (length rs) r × RowsInRange q rs

-- A vector of m rows in range
pub record VectorInRange (m q : ℕ) (rows : List Row) : Type 0 where
  pub streams : length rows ≡ m
  pub ranged : RowsInRange q rows

-- A block in range, as every accepted record's is
pub record InRange (b : Block) : Type 0 where
  pub stream : 1 ≤ b.streams
  pub streams : b.streams ≤ most_streams
  pub width : b.width ∈ widths
  pub label : b.streams * b.width ≤ most_bits
  pub vector : 1 ≤ length b.vectors
  pub vectors : length b.vectors ≤ most_vectors
  pub clip : b.clip ≤ most_clip
  pub weak : b.weak ≤ b.clip
  pub reserve : b.streams ≤ b.share
  pub share : b.share ≤ most_share
  pub each : Every (VectorInRange b.streams b.width) b.vectors
  pub owned : length b.owners ≡ length b.vectors
  pub owners : Every (λ (o : ℕ). (1 ≤ o) × (o ≤ most_owner)) b.owners
