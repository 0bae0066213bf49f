-- What the steps of a call ask, and the answer that each vector is given.
use Rattle.std.specs.Prelude.{ℕ, ◌+◌, ◌*◌, ◌^◌, ◌<◌, ◌≤◌, ◌≡◌, List, length, get_or, ℤ, pos}
use Rattle.wire.specs.Folding.{folded}
use Rattle.wire.specs.declared.buffer.Writer.{Writer}
use Rattle.model.specs.Block.{Answer, vector_of, answer, most_bits}
use Rattle.block.specs.Reading.{weak_place, share_place, count_at}
use Rattle.block.specs.declared.Layout.{Layout}
use Rattle.block.specs.Contents.{vector_rows, block_of}
use Rattle.replies.specs.Reply.{reply_room}
use Rattle.constellation.specs.Points.{Points}
use Rattle.search.specs.Nodes.{key_places}
use Rattle.search.specs.Holds.{Holds}
use Rattle.detector.specs.declared.Header.{Header}

-- A header is that of the lent list, by its layout
pub record Heads (h : Header) (list : List ℤ) : Type 0 where
  pub streams_is : h.streams ≡ count_at 0 list
  pub width_is : h.width ≡ count_at 1 list
  pub vectors_is : h.vectors ≡ count_at 2 list
  pub clip_is : h.clip ≡ count_at 3 list
  pub weak_is : h.weak ≡ count_at (weak_place h.layout) list
  pub share_is : h.share ≡ count_at (share_place h.layout) list

-- The answer of vector k, from 0, under an allowance
unfoldable pub answer_at : Layout → List ℤ → ℕ → ℕ → Answer
answer_at layout list allowed k =
    answer (vector_of (block_of layout list) (vector_rows layout list k)) (block_of layout list).weak allowed

-- What is asked of the lent list and its header
pub record ListAsked (h : Header) (list : List ℤ) : Type 0 where
  pub held : Holds h.layout list
  pub headed : Heads h list

-- and of one of its vectors
pub record OwnerAsked (h : Header) (list : List ℤ) (k : ℕ) : Type 0 where
  pub asked : ListAsked h list
  pub inside : k < h.vectors

-- What searching vector k asks: the lent list, its header, the points of its constellation, room for keys, and an array for the soft values
pub record SearchOneAsked (h : Header) (list : List ℤ) (k : ℕ) (points : List ℤ) (keys bits : ℕ) : Type 0 where
  pub held : Holds h.layout list
  pub headed : Heads h list
  pub inside : k < h.vectors
  pub pointed : Points h.width points
  pub work : key_places ≤ keys
  pub array : bits ≡ most_bits

-- What writing an answer asks: numbers of four groups at most, and room for them
pub record CanWrite (w : Writer) (a : Answer) : Type 0 where
  pub counts : a.count < 2 ^ 28
  pub labels : a.result.label < 2 ^ 28
  pub softs : (i : ℕ) → i < length a.result.soft → folded (get_or a.result.soft i (pos 0)) < 2 ^ 28
  pub buffer : w.at + (9 + 4 * length a.result.soft) ≤ length w.buffer.now

-- What a reply asks
pub record ReplyAsked (h : Header) (list : List ℤ) (room : ℕ) : Type 0 where
  pub held : Holds h.layout list
  pub headed : Heads h list
  pub buffer : reply_room (block_of h.layout list) ≤ room
