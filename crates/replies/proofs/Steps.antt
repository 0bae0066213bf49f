-- A reply written step by step: one number after the other.
use Rattle.std.proofs.Common.{ℕ, refl, Bool, true, false, ◌+◌, ◌*◌, ◌<◌, ◌≤◌, ◌≡◌, ap, List, [], ◌∷◌, ◌++◌, map, ℤ, pos, length, get_or, drop, add-one, drop-cons, arith}
use Rattle.std.specs.Int.{from_bool}
use lib.ListN.{length-map, length-append}
use Rattle.wire.specs.Writing.{bytes_of}
use Rattle.wire.specs.Folding.{folded}
use Rattle.wire.specs.Writer.{Writes}
use Rattle.wire.specs.declared.buffer.Writer.{Writer}
use Rattle.wire.proofs.Runs.{writes_none, writes_then, Left}
use Rattle.wire.proofs.Writing.{bytes_of-one, bytes_of-most}
use Rattle.replies.specs.Reply.{written, mark_of}
use Rattle.replies.proofs.Replies.{written_most}

-- No number
pub writes_numbers_none : {w : Writer} → Writes w (written []) w
unfolding written
writes_numbers_none = writes_none

-- A number and then others
pub writes_number : (n : ℕ) (ns : List ℕ) {w v u : Writer} → Writes w (bytes_of n) v → Writes v (written ns) u → Writes w (written (n ∷ ns)) u
unfolding written
writes_number n ns h k = writes_then h k

-- The soft values from the i-th on, folded
abbrev pub soft_from : List ℤ → ℕ → List ℕ
soft_from soft i = map folded (drop i soft)

module _ (soft : List ℤ) (i : ℕ) where
  -- The i-th and those behind it
  pub soft_more : i < length soft → written (soft_from soft i) ≡ bytes_of (folded (get_or soft i (pos 0))) ++ written (soft_from soft (i + 1))
  unfolding written
  soft_more h = rw (drop-cons soft i (pos 0), add-one)

  -- There is room for it, where there is for four groups of each
  pub soft_room : i < length soft → {w v : Writer} {room : ℕ} → Left w (written (soft_from soft 0)) v (written (soft_from soft i))
      → w.at + 4 * length soft ≤ room → v.at + length (bytes_of (folded (get_or soft i (pos 0)))) ≤ room
  soft_room h {w} {v} left k =
      omega (
        arith,
        left.ends,
        written_most (soft_from soft 0),
        length-map soft folded,
        ap length (soft_more h),
        length-append (bytes_of (folded (get_or soft i (pos 0)))) (written (soft_from soft (i + 1))),
      )

-- A number of one group, and of at most four
pub one_byte : (n : ℕ) → n < 128 → length (bytes_of n) ≡ 1
one_byte n h = ap length (bytes_of-one n h)

pub four_bytes : (n : ℕ) → length (bytes_of n) ≤ 4
four_bytes n = bytes_of-most n

-- A mark is what its `bool` counts for
pub mark_is : (b : Bool) → from_bool b ≡ mark_of b
mark_is false = refl
mark_is true = refl
