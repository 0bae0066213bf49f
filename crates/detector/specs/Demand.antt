-- Demand 1, from document 01, "Where a record is turned back", with document 02's rows: the conditions under which a call refuses; where
-- none holds, it accepts. Demands 2 and 3, of what the bytes of its reply say, the third of each owner's vectors.
use Rattle.std.specs.Prelude.{ℕ, ◌≤◌, ◌<◌, ◌≡◌, false, ◌⊎◌, ◌↔◌, List, [], ◌++◌, ℤ, pos, neg_ℤ, length, get_or, drop}
use Rattle.model.specs.Metric.{Vector}
use Rattle.model.specs.Block.{Block, vector_of, Answer, InRange}
use Rattle.model.specs.Demand.{Demand2}
use Rattle.owners.specs.Owners.{SharedDemand3}
use Rattle.block.specs.Reading.{header_size, count_at, layout_of, read_whole}
use Rattle.block.specs.Contents.{owner_at, vector_numbers, block_of}
use Rattle.block.specs.Conditions.{Whole, TurnedBack}
use Rattle.refusals.specs.Table.{refusal_number}
use Rattle.refusals.specs.declared.Refusal.{Refusal}
use Rattle.refusals.specs.declared.Refusal.TheVariants.{Buffer}
use Rattle.replies.specs.Reply.{reply_room}
use Rattle.replies.specs.ReadBack.{read_back, saying}

-- The table's last row: the record is whole, and the buffer "shorter than 7 + N × (9 + 4 × M × Q)"
pub record TooShort (bytes : List ℕ) (room : ℕ) : Type 0 where
  pub whole : Whole bytes (length bytes)
  pub short : room < reply_room (block_of whole.layout whole.numbers)

-- The table's condition for a refusal
abbrev pub Condition : List ℕ → ℕ → Refusal → Type 0
Condition bytes room r = TurnedBack bytes r ⊎ ((r ≡ Buffer) × TooShort bytes room)

-- Vector k of a block, from 0
abbrev pub nth_vector : Block → ℕ → Vector
nth_vector b k = vector_of b (get_or b.vectors k [])

-- What stands for an answer beyond the last
abbrev pub no_answer : Answer
no_answer = record { stopped = false; count = 0; result = record { label = 0; soft = [] } }

-- Answer k, from 0
abbrev pub nth_answer : List Answer → ℕ → Answer
nth_answer found k = get_or found k no_answer

-- Demand 2, of a block and the answers to it: each vector has its answer and, unless that is marked stopped, its label and soft values are
-- those over all labels
pub record EachComplete (b : Block) (found : List Answer) : Type 0 where
  pub many : length found ≡ length b.vectors
  pub exact : (k : ℕ) → k < length b.vectors → (nth_answer found k).stopped ≡ false → Demand2 (nth_vector b k) (nth_answer found k).result

-- A call that was refused: by the number of the one row whose condition holds, over an untouched buffer. The number tells the row
pub record Refusing (bytes buffer : List ℕ) (number : ℤ) (after : List ℕ) : Type 0 where
  pub refusal : Refusal
  pub number_is : number ≡ neg_ℤ (pos (refusal_number refusal))
  pub tells : (r : Refusal) → number ≡ neg_ℤ (pos (refusal_number r)) → r ≡ refusal
  pub condition : Condition bytes (length buffer) refusal
  pub alone : (r : Refusal) → Condition bytes (length buffer) r → r ≡ refusal
  pub untouched : after ≡ buffer

-- An accepted record and its reply: all numbers of the record are passed, and they say a block in range; the reply's bytes, read back, say
-- that block's M, Q and N and, to their end, the answers that were found; and of these demands 2 and 3 hold
pub record Accepted (bytes reply : List ℕ) : Type 0 where
  pub whole : Whole bytes (length bytes)
  pub ranged : InRange (block_of whole.layout whole.numbers)
  pub found : List Answer
  pub reads : read_back reply ≡ saying (block_of whole.layout whole.numbers) found (length reply)
  pub demand3 : SharedDemand3 (block_of whole.layout whole.numbers) found
  pub demand2 : EachComplete (block_of whole.layout whole.numbers) found

-- A call that was accepted: no row's condition holds, the reply stands in front of the buffer, and every other byte is as it was
pub record Replying (bytes buffer : List ℕ) (number : ℤ) (after : List ℕ) : Type 0 where
  pub none : (r : Refusal) → Condition bytes (length buffer) r → ⊥
  pub reply : List ℕ
  pub number_is : number ≡ pos (length reply)
  pub fits : length reply ≤ length buffer
  pub stands : after ≡ reply ++ drop (length reply) buffer
  pub accepted : Accepted bytes reply

-- What two records are to have in common for one owner: "equal headers" (the opening, M, Q, N, C, W and D), and "one owner's vectors at equal
-- positions with equal contents" (R, y and the priors). What the other vectors hold, and who owns them, is free
pub record AgreeFor (o : ℕ) (bytes others : List ℕ) : Type 0 where
  pub opening : layout_of bytes ≡ layout_of others
  pub header : (i : ℕ) → i < header_size (layout_of bytes) → get_or (read_whole bytes).numbers i (pos 0) ≡ get_or (read_whole others).numbers i (pos 0)
  pub positions : (k : ℕ) → k < count_at 2 (read_whole bytes).numbers
      → (owner_at (layout_of bytes) (read_whole bytes).numbers k ≡ o) ↔ (owner_at (layout_of others) (read_whole others).numbers k ≡ o)
  pub contents : (k : ℕ) → k < count_at 2 (read_whole bytes).numbers → owner_at (layout_of bytes) (read_whole bytes).numbers k ≡ o
      → vector_numbers (layout_of bytes) (read_whole bytes).numbers k ≡ vector_numbers (layout_of others) (read_whole others).numbers k

-- The user's demands, of a record, a buffer, the returned number and the buffer afterwards
abbrev pub Met : List ℕ → List ℕ → ℤ → List ℕ → Type 0
Met bytes buffer number after = Refusing bytes buffer number after ⊎ Replying bytes buffer number after
