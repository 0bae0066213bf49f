-- The reply: its numbers each have at most four groups, and it never needs more than the buffer that is asked for.
use Prim.Native.Nat.{ℕ, ◌+◌, ◌*◌, ◌^◌, ◌≤◌, ◌<◌, zero-le}
use mathlib.Core.Path.{◌≡◌, refl, sym, ◌∙◌, ap, subst}
use mathlib.Core.Bool.{Bool, true, false}
use mathlib.Core.List.Memᴰ
use mathlib.Core.List.{List, [], ◌∷◌, ◌++◌, map, append_assoc}
use native.Mathlib.Nat.{mul-le-mul, mul_assoc, suc-mul}
use native.Mathlib.Omega.{arith}
use borrow.Author.Tests.{eqb-true}
use lib.IntN.{ℤ, pos, negsuc, ◌-ℤ◌}
use lib.ListN.{length, length-append, length-map}
use lib.Pow.{pow_pos, pow_mono}
use Rattle.integers.proofs.Magnitudes.{nat_abs-neg}
use Rattle.integers.proofs.Clipping.{clipped_within}
use Rattle.model.specs.Constellation.{Bits, number}
use Rattle.model.specs.Metric.{Row, Vector, label_bits, prior_at}
use Rattle.model.specs.Soft.{Least, infinite, finite, least_with, pick, soft_value, soft_at}
use Rattle.model.specs.Walk.{is_leaf, walk, tree_nodes}
use Rattle.model.specs.Block.{Block, vector_of, walked_nodes, walked_labels, is_stopped, empty_side, Answer, answer}
use Rattle.owners.specs.Owners.{shared_from, shared_answers}
use Rattle.owners.proofs.Owners.{answers_many}
use Rattle.model.specs.Block.{◌∈◌, Every, Within, VectorInRange, InRange, most_clip, most_share}
use Rattle.model.proofs.Lists.{of_those, length-up_from, every-up_from}
use Rattle.model.proofs.Numbers.{number_below}
use Rattle.model.proofs.Least.{pick_in}
use Rattle.model.proofs.Tree.{walk_at_most}
use Rattle.model.proofs.Demand.{count_is}
use Rattle.model.proofs.Weak.{empty_most}
use Rattle.model.proofs.Bounds.{width_small, width_positive, tree_small}
use Rattle.wire.specs.Writing.{bytes_of}
use Rattle.wire.specs.Folding.{folded}
use Rattle.wire.proofs.Writing.{bytes_of-one, bytes_of-most}
use Rattle.replies.specs.Reply.{reply_opening, mark_of, answer_numbers, answers_numbers, reply_numbers, written, reply_of, reply_room}

-- Numbers written one list after the other
pub written_append : (xs ys : List ℕ) → written (xs ++ ys) ≡ written xs ++ written ys
unfolding written
written_append [] ys = refl
written_append (x ∷ xs) ys =
    ap (λ (l : List ℕ). bytes_of x ++ l) (written_append xs ys) ∙ sym (append_assoc (bytes_of x) (written xs) (written ys))

-- How many bytes: one for a number of one group
written_one : (n : ℕ) (ns : List ℕ) → n < 128 → length (written (n ∷ ns)) ≡ 1 + length (written ns)
unfolding written
written_one n ns h = omega (arith, length-append (bytes_of n) (written ns), ap length (bytes_of-one n h))

-- At most four for each
pub written_most : (ns : List ℕ) → length (written ns) ≤ 4 * length ns
unfolding written
written_most [] = zero-le
written_most (n ∷ ns) = omega (arith, length-append (bytes_of n) (written ns), bytes_of-most n, written_most ns)

-- A number of at most four groups
abbrev pub Short : ℕ → Type 0
Short n = n < 2 ^ 28

-- A value within a clip has at most four groups, folded
folded_short : (z : ℤ) → Within most_clip z → Short (folded z)
unfolding folded
folded_short (pos n) h = omega arith
folded_short (negsuc n) h = omega arith

-- A soft value is within its clip, as what an empty side gives is
soft_within : (c empty : ℕ) → empty ≤ c → (prior : ℤ) (with1 with0 : Least) → Within c (soft_value c empty prior with1 with0)
soft_within c empty h prior infinite with0 = omega arith
soft_within c empty h prior (finite d) infinite = omega (arith, nat_abs-neg (pos empty))
soft_within c empty h prior (finite d) (finite e) = clipped_within c (pos d -ℤ pos e -ℤ prior)

module _ (v : Vector) (weak n : ℕ) where
  -- What an empty side gives
  abbrev empty : ℕ
  empty = empty_side (is_stopped v n) weak v.clip

  -- An answer has a soft value for each bit of the label
  pub soft_count : length (answer v weak n).result.soft ≡ label_bits v
  unfolding answer
  soft_count = length-up_from (soft_at v empty (walked_labels v n)) 0 (label_bits v)

  -- each within the clip, where W is
  soft_clipped : weak ≤ v.clip → Every (Within v.clip) (answer v weak n).result.soft
  unfolding answer
  soft_clipped most =
      every-up_from (Within v.clip) (soft_at v empty (walked_labels v n)) 0 (label_bits v)
      (λ i h. soft_within v.clip empty (empty_most (is_stopped v n) most) (prior_at v i)
      (least_with v i true (walked_labels v n)) (least_with v i false (walked_labels v n)))

  -- Its label is a whole one, or 0 where no leaf was walked
  label_below : (answer v weak n).result.label < 2 ^ label_bits v
  unfolding answer pick number
  label_below = go (walked_labels v n) (λ l h. eqb-true (length l) (label_bits v) (of_those (is_leaf v) l (walked_nodes v n) h).1)
    where
      go : (ls : List Bits) → ((l : Bits) → l ∈ ls → length l ≡ label_bits v) → number (pick v ls) < 2 ^ label_bits v
      go [] whole = pow_pos (label_bits v)
      go (l ∷ ls) whole =
          let m = pick v (l ∷ ls) in
          subst (λ (k : ℕ). number m < 2 ^ k) (whole m (pick_in v (l ∷ ls) (Memᴰ.head refl))) (number_below m)

-- A mark is one byte
pub mark_small : (stopped : Bool) → mark_of stopped < 128
mark_small false = omega arith
mark_small true = omega arith

folded_all : (c : ℕ) → c ≤ most_clip → (zs : List ℤ) → Every (Within c) zs → Every Short (map folded zs)
folded_all c h [] e = tt
folded_all c h (z ∷ zs) e = (folded_short z (omega (arith, e.0)), folded_all c h zs e.1)

every_append : {A : Type 0} (P : A → Type 0) (xs ys : List A) → Every P xs → Every P ys → Every P (xs ++ ys)
every_append P [] ys h k = k
every_append P (x ∷ xs) ys h k = (h.0, every_append P xs ys h.1 k)

-- A label has M x Q bits
pub bits_are : (b : Block) {rows : List Row} → VectorInRange b.streams b.width rows
    → label_bits (vector_of b rows) ≡ b.streams * b.width
bits_are b vector = ap (λ (m : ℕ). m * b.width) vector.streams

-- The answer of a vector in range, under any allowance
module _ {b : Block} (ranged : InRange b) {rows : List Row} (vector : VectorInRange b.streams b.width rows) (n : ℕ) where
  bits_few : label_bits (vector_of b rows) ≤ 24
  bits_few = omega (arith, bits_are b vector, mul-le-mul ranged.streams (width_small b.width ranged.width))

  -- Nodes are counted up to the whole tree
  pub count_short : Short (answer (vector_of b rows) b.weak n).count
  count_short =
      let v = vector_of b rows in
      let walked : length (walk v) ≤ tree_nodes b.width (length rows) = walk_at_most v (width_positive b.width ranged.width) in
      let tree : tree_nodes b.width (length rows) ≤ most_share =
      subst (λ (m : ℕ). tree_nodes b.width m ≤ most_share) (sym vector.streams) (tree_small b ranged) in
      omega (arith, count_is v b.weak n)

  -- A label has at most 24 bits
  pub label_short : Short (answer (vector_of b rows) b.weak n).result.label
  label_short = let most = pow_mono bits_few in omega (arith, label_below (vector_of b rows) b.weak n)

  pub soft_short : Every Short (map folded (answer (vector_of b rows) b.weak n).result.soft)
  soft_short =
      folded_all b.clip ranged.clip (answer (vector_of b rows) b.weak n).result.soft
      (soft_clipped (vector_of b rows) b.weak n ranged.weak)

  answer_short : Every Short (answer_numbers (answer (vector_of b rows) b.weak n))
  answer_short = (omega (arith, mark_small (answer (vector_of b rows) b.weak n).stopped), (count_short, (label_short, soft_short)))

  -- "9 + 4 × M × Q" bytes are enough for it
  pub answer_room : length (written (answer_numbers (answer (vector_of b rows) b.weak n))) ≤ 9 + 4 * b.streams * b.width
  answer_room =
      let a = answer (vector_of b rows) b.weak n in
      omega (
        arith,
        written_one (mark_of a.stopped) (a.count ∷ a.result.label ∷ map folded a.result.soft) (mark_small a.stopped),
        written_most (a.count ∷ a.result.label ∷ map folded a.result.soft),
        length-map a.result.soft folded,
        soft_count (vector_of b rows) b.weak n,
        bits_are b vector,
        mul_assoc 4 b.streams b.width,
      )

-- An answer of a vector in range, under some allowance
pub record OfVector (b : Block) (a : Answer) : Type 0 where
  pub rows : List Row
  pub vector : VectorInRange b.streams b.width rows
  pub allowed : ℕ
  pub is : answer (vector_of b rows) b.weak allowed ≡ a

-- as all answers of a block in range are
from_vectors : (b : Block) (os : List ℕ) (vs : List (List Row)) (spent : ℕ → ℕ) → Every (VectorInRange b.streams b.width) vs
    → Every (OfVector b) (shared_from b spent os vs)
unfolding shared_from
from_vectors b [] vs spent h = tt
from_vectors b (o ∷ os) [] spent h = tt
from_vectors b (o ∷ os) (rows ∷ later) spent h =
    (record { rows = rows; vector = h.0; allowed = _; is = refl }, from_vectors b os later _ h.1)

pub of_vectors : (b : Block) → InRange b → Every (OfVector b) (shared_answers b)
of_vectors b ranged = from_vectors b b.owners b.vectors (λ o. 0) ranged.each

module _ (b : Block) (ranged : InRange b) where
  answers_short : (found : List Answer) → Every (OfVector b) found → Every Short (answers_numbers found)
  unfolding answers_numbers
  answers_short [] h = tt
  answers_short (a ∷ rest) h =
      let v = h.0 in
      every_append Short (answer_numbers a) (answers_numbers rest)
      (subst (λ (x : Answer). Every Short (answer_numbers x)) v.is (answer_short ranged v.vector v.allowed)) (answers_short rest h.1)

  answers_room : (found : List Answer) → Every (OfVector b) found
      → length (written (answers_numbers found)) ≤ length found * (9 + 4 * b.streams * b.width)
  unfolding written answers_numbers
  answers_room [] h = zero-le
  answers_room (a ∷ rest) h =
      let v = h.0 in
      omega (
        arith,
        ap length (written_append (answer_numbers a) (answers_numbers rest)) ∙ length-append (written (answer_numbers a)) (written (answers_numbers rest)),
        subst (λ (x : Answer). length (written (answer_numbers x)) ≤ 9 + 4 * b.streams * b.width) v.is (answer_room ranged v.vector v.allowed),
        answers_room rest h.1,
        suc-mul (length rest) (9 + 4 * b.streams * b.width),
      )

  -- Every number of a reply has at most four groups
  pub reply_short : Every Short (reply_numbers b)
  reply_short =
      let narrow = width_small b.width ranged.width in
      (omega (arith, ranged.streams), (omega arith, (omega (arith, ranged.vectors), answers_short (shared_answers b) (of_vectors b ranged))))

  -- A reply is no longer than the buffer that is asked for
  pub reply_room_lem : length (reply_of b) ≤ reply_room b
  unfolding reply_of reply_room
  reply_room_lem =
      let narrow = width_small b.width ranged.width in
      let rest = answers_numbers (shared_answers b) in
      let opened : length (reply_of b) ≡ 4 + length (written (reply_numbers b)) = length-append reply_opening (written (reply_numbers b)) in
      omega (
        arith,
        written_one b.streams (b.width ∷ length b.vectors ∷ rest) (omega (arith, ranged.streams)),
        written_one b.width (length b.vectors ∷ rest) (omega arith),
        written_one (length b.vectors) rest (omega (arith, ranged.vectors)),
        answers_room (shared_answers b) (of_vectors b ranged),
        ap (λ (n : ℕ). n * (9 + 4 * b.streams * b.width)) (answers_many b ranged.owned),
      )
