-- What the steps of a listing ask, and what each leaves.
use Rattle.std.specs.Prelude.{ℕ, ◌+◌, ◌*◌, ◌^◌, ◌<◌, ◌≤◌, ◌≡◌, List, ℤ, length}
use Rattle.wire.specs.Writer.{Writes}
use Rattle.wire.specs.declared.buffer.Writer.{Writer}
use Rattle.model.specs.Block.{Block, most_bits, most_vectors, total_count}
use Rattle.owners.specs.Owners.{shared_answers}
use Rattle.block.specs.declared.Layout.{Layout}
use Rattle.search.specs.Holds.{Holds}
use Rattle.detector.specs.Steps.{ListAsked}
use Rattle.detector.specs.Handed.{Handed}
use Rattle.detector.specs.declared.Header.{Header}
use Rattle.lines.specs.Text.{vector_line, lines_from, most_line, most_text}
use Rattle.listing.specs.declared.Listed.{Listed}

-- What a vector's line asks: one of at most 64 vectors, a distance of at most 39 bits, a sum of nodes that is a machine number, and room
pub record CanList (s : Listed) (x : Handed) : Type 0 where
  pub inside : x.place < most_vectors
  pub few : length x.priors ≤ most_bits
  pub values_few : length x.answer.result.soft ≤ most_bits
  pub digits : x.distance < 2 ^ 39
  pub sum : s.total + x.answer.count < 2 ^ 32
  pub buffer : s.text.now.at + most_line ≤ length s.text.now.buffer.now

-- What it leaves: the line, "its number from 1", and its nodes in the total
pub record Lists (s : Listed) (x : Handed) (t : Listed) : Type 0 where
  pub same_text : t.text.ghost_name ≡ s.text.ghost_name
  pub line : Writes s.text.now (vector_line (x.place + 1) x.answer x.priors x.distance) t.text.now
  pub room : t.text.now.at ≤ s.text.now.at + most_line
  pub total_is : t.total ≡ s.total + x.answer.count

-- What the lines of all vectors ask: room for so many lines
pub record VectorsAsked (h : Header) (list : List ℤ) (text : Writer) : Type 0 where
  pub asked : ListAsked h list
  pub buffer : text.at + most_vectors * most_line ≤ length text.buffer.now

-- What they leave: these lines, and the nodes of all vectors
pub record VectorsListed (b : Block) (text after : Writer) (total : ℕ) : Type 0 where
  pub lines : Writes text (lines_from b 1 b.vectors (shared_answers b)) after
  pub room : after.at ≤ text.at + most_vectors * most_line
  pub total_is : total ≡ total_count (shared_answers b)

-- What the listing of a block asks: room for any listing
pub record BlockAsked (layout : Layout) (list : List ℤ) (room : ℕ) : Type 0 where
  pub held : Holds layout list
  pub buffer : most_text ≤ room
