-- What the lent list and its header give: sizes that fit, and the answer that is written of a vector.
use Prim.Native.Nat.{ℕ, ◌+◌, ◌*◌, ◌^◌, ◌≤◌, ◌<◌}
use mathlib.Core.Path.{◌≡◌, sym, ◌∙◌, ap}
use mathlib.Core.Bool.{Bool}
use mathlib.Core.List.Memᴰ
use mathlib.Core.List.{List, ◌++◌}
use native.Mathlib.Nat.{mul-le-mul, mul_assoc}
use native.Mathlib.Omega.{arith}
use lib.IntN.{ℤ}
use lib.ListN.{length, take, drop, length-append, length-drop}
use lib.Seq.{take_at}
use Rattle.model.specs.Metric.{Vector, label_bits, all_priors}
use Rattle.model.specs.Constellation.{bits_of}
use Rattle.model.specs.Block.{vector_of, Answer, answer, winning_distance, VectorInRange, most_width, most_bits}
use Rattle.model.proofs.Lists.{in-up_from}
use Rattle.model.proofs.Demand.{count_is}
use Rattle.model.proofs.Parts.{distance_small}
use Rattle.model.proofs.Bounds.{of_every, width_small}
use Rattle.block.specs.Reading.{count_at}
use Rattle.block.specs.Contents.{vector_rows, block_of}
use Rattle.block.specs.declared.Layout.{Layout}
use Rattle.block.proofs.Places.{vectors_count}
use Rattle.search_spec.specs.Program.{answer_of}
use Rattle.search.specs.Values.{Answered}
use Rattle.replies.specs.Reply.{answer_numbers, written, reply_room, most_reply}
use Rattle.search.specs.Holds.{Holds}
use Rattle.detector.specs.Steps.{Heads, SearchOneAsked, answer_at}
use Rattle.detector.specs.Handed.{Handed}
use Rattle.detector.specs.declared.Header.{Header}
use Rattle.replies.proofs.Replies.{soft_count, bits_are, answer_room}

module _ {h : Header} {list : List ℤ} (headed : Heads h list) where
  -- The header is the block's
  pub streams_are : h.streams ≡ (block_of h.layout list).streams
  unfolding block_of
  streams_are = headed.streams_is

  pub width_are : h.width ≡ (block_of h.layout list).width
  unfolding block_of
  width_are = headed.width_is

  pub vectors_are : h.vectors ≡ length (block_of h.layout list).vectors
  vectors_are = headed.vectors_is ∙ sym (vectors_count h.layout list)

  clip_are : h.clip ≡ (block_of h.layout list).clip
  unfolding block_of
  clip_are = headed.clip_is

  weak_are : h.weak ≡ (block_of h.layout list).weak
  unfolding block_of
  weak_are = headed.weak_is

  pub share_are : h.share ≡ (block_of h.layout list).share
  unfolding block_of
  share_are = headed.share_is

  -- The room that a reply asks for
  pub room_is : reply_room (block_of h.layout list) ≡ 7 + h.vectors * (9 + 4 * h.streams * h.width)
  unfolding reply_room
  room_is = rw (streams_are, width_are, vectors_are)

module _ {h : Header} {list : List ℤ} (held : Holds h.layout list) (headed : Heads h list) where
  -- M, Q and N are small
  pub few_streams : h.streams ≤ 4
  few_streams = omega (arith, streams_are headed, held.ranged.streams)

  pub few_bits : h.width ≤ most_width
  few_bits = omega (arith, width_are headed, width_small (block_of h.layout list).width held.ranged.width)

  pub few_vectors : h.vectors ≤ 64
  few_vectors = omega (arith, vectors_are headed, held.ranged.vectors)

  pub few_soft : h.streams * h.width ≤ most_bits
  few_soft = rw (streams_are headed, width_are headed) held.ranged.label

  -- W is at most C
  pub weak_most : h.weak ≤ h.clip
  weak_most = omega (arith, weak_are headed, clip_are headed, held.ranged.weak)

  -- The room is small
  pub room_small : reply_room (block_of h.layout list) ≤ most_reply
  room_small =
      let each : 9 + 4 * h.streams * h.width ≤ 105 = omega (arith, mul_assoc 4 h.streams h.width, few_soft) in
      omega (arith, room_is headed, mul-le-mul few_vectors each)

-- Vector k of the block
abbrev pub vector_in : Layout → List ℤ → ℕ → Vector
vector_in o list k = vector_of (block_of o list) (vector_rows o list k)

-- What is handed on of it under an allowance
abbrev pub handed_at : Layout → List ℤ → ℕ → ℕ → Handed
handed_at o list allowed k =
    let a = answer_at o list allowed k in
    record { place = k; answer = a; distance = winning_distance (vector_in o list k) a; priors = all_priors (vector_rows o list k) }

module _ {h : Header} {list : List ℤ} {k : ℕ} {points : List ℤ} {keys bits : ℕ} (s : SearchOneAsked h list k points keys bits) where
  -- It is one of those that the list holds
  pub inside : k < count_at 2 list
  inside = omega (arith, s.inside, s.headed.vectors_is)

  vector_held : VectorInRange (block_of h.layout list).streams (block_of h.layout list).width (vector_rows h.layout list k)
  unfolding block_of
  vector_held =
      of_every (VectorInRange (block_of h.layout list).streams (block_of h.layout list).width) (block_of h.layout list).vectors s.held.ranged.each
      (Memᴰ.map (vector_rows h.layout list) (in-up_from 0 (count_at 2 list) k (omega arith) (omega (arith, inside))))

  -- The bits of its label
  bits_of_lem : label_bits (vector_in h.layout list k) ≡ h.streams * h.width
  bits_of_lem = bits_are (block_of h.layout list) vector_held ∙ rw (streams_are s.headed, width_are s.headed)

  -- The room that its answer takes
  pub step_room : (allowed : ℕ) → length (written (answer_numbers (answer_at h.layout list allowed k))) ≤ 9 + 4 * h.streams * h.width
  unfolding answer_at
  step_room allowed = rw (streams_are s.headed, width_are s.headed) (answer_room s.held.ranged vector_held allowed)

-- What a search of vector k leaves
module _ {h : Header} {list : List ℤ} {k : ℕ} {points : List ℤ} {keys : ℕ} {before : List ℤ}
    (s : SearchOneAsked h list k points keys (length before)) {allowed : ℕ} {stopped : Bool} {count label distance : ℕ} {after : List ℤ}
    (found : Answered (vector_in h.layout list k) (block_of h.layout list).weak allowed stopped count label distance before after) where
  abbrev soft : List ℤ
  soft = (answer (vector_in h.layout list k) (block_of h.layout list).weak allowed).result.soft

  soft_length : length soft ≡ h.streams * h.width
  soft_length = soft_count (vector_in h.layout list k) (block_of h.layout list).weak allowed ∙ bits_of_lem s

  -- The array holds the soft values, and behind them what stood there
  after_is : after ≡ soft ++ drop (h.streams * h.width) before
  after_is = found.soft_is ∙ ap (λ (n : ℕ). soft ++ drop n before) (bits_of_lem s)

  pub after_length : length after ≡ 24
  after_length =
      let bits = h.streams * h.width in
      omega (
        arith,
        ap length after_is,
        length-append soft (drop bits before),
        length-drop bits before,
        soft_length,
        few_soft s.held s.headed,
        s.array,
      )

  -- As a whole it is the answer
  pub answer_is : answer_of stopped count label (take (h.streams * h.width) after) ≡ answer_at h.layout list allowed k
  unfolding answer_at
  answer_is =
      let bits = h.streams * h.width in
      let front : take bits after ≡ soft = ap (take bits) after_is ∙ take_at soft (drop bits before) bits soft_length in
      λ j. record {
        stopped = found.stopped_is j;
        count = found.count_is j;
        result = record { label = found.label_is j; soft = front j };
      }

  -- with its label's squared distance
  pub found_distance : distance ≡ winning_distance (vector_in h.layout list k) (answer_at h.layout list allowed k)
  unfolding answer_at
  found_distance = found.distance_is

  -- which is small
  pub distance_few : distance < 2 ^ 39
  distance_few =
      let v = vector_held s in
      omega (
        arith,
        found_distance,
        distance_small (block_of h.layout list) s.held.ranged (vector_rows h.layout list k) v.ranged (omega (arith, v.streams))
            (bits_of (label_bits (vector_in h.layout list k)) (answer_at h.layout list allowed k).result.label),
      )

  -- So that is handed on of it
  pub handed_is : {priors : List ℤ} → priors ≡ all_priors (vector_rows h.layout list k)
      → record { place = k; answer = answer_of stopped count label (take (h.streams * h.width) after); distance = distance; priors = priors }
      ≡ handed_at h.layout list allowed k
  handed_is e = λ i. record { place = k; answer = answer_is i; distance = found_distance i; priors = e i }

  pub found_count : count ≡ (answer_at h.layout list allowed k).count
  found_count = ap (λ (x : Answer). x.count) answer_is

  -- with no more nodes than were allowed
  pub found_within : count ≤ allowed
  found_within = omega (arith, found.count_is, count_is (vector_in h.layout list k) (block_of h.layout list).weak allowed)
