-- The groups of a number, one at a time: what is left after a group is 128 times smaller, so that four groups hold 28 bits. And a run of
-- bytes put into a buffer: one run after the other is the joined run.
use Prim.Native.Nat.{ℕ, zero, suc, ◌+◌, ◌*◌, ◌/◌, ◌%◌, ◌^◌, ◌<◌, ◌≤◌}
use mathlib.Core.Path.{◌≡◌, refl, ap, ◌∙◌}
use mathlib.Core.Bool.{Bool, true, false, cond}
use mathlib.Core.List.{List, [], ◌∷◌, ◌++◌}
use native.Mathlib.Nat.{div-lt_iff_lt-mul, le-div_iff_mul-le, mod-lt}
use native.Mathlib.Omega.{arith}
use borrow.Author.Tests.{ltb-true, lt-ltb, le-ltb}
use lib.Bits.{bit_and, bit_or, and_mask, or_shifted_r}
use lib.Dec.{ltb, lit<}
use lib.ListN.{length, take, drop, set}
use lib.Pow.{pow-add, pow_pos}
use lib.Seq.{length-sets, sets-eq}
use Rattle.wire.specs.Reading.{Bytes}
use Rattle.wire.specs.Writing.{groups_of, bytes_of, put}

-- A group more counts for 128
pub weight : (g : ℕ) → 2 ^ (7 * suc g) ≡ 2 ^ (7 * g) * 128
weight g = let e : 7 * suc g ≡ 7 * g + 7 = omega arith in rw (e, pow-add 2 (7 * g) 7)

module _ (g n : ℕ) where
  -- A number below 128 is one group
  pub groups_of-last : n < 128 → groups_of (suc g) n ≡ n ∷ []
  unfolding groups_of
  groups_of-last h = rw (lt-ltb n 128 h)

  -- Any other is its low seven bits with the high bit, and then the groups of what is left, for which there is room
  pub groups_of-more : 128 ≤ n → groups_of (suc g) n ≡ (n % 128 + 128) ∷ groups_of g (n / 128)
  unfolding groups_of
  groups_of-more h = rw (le-ltb n 128 h)

  pub left_below : n < 2 ^ (7 * suc g) → n / 128 < 2 ^ (7 * g)
  left_below b = (div-lt_iff_lt-mul (lit< tt)).1 (rw weight at b)

  pub left_room : n < 2 ^ (7 * suc g) → 128 ≤ n → 0 < g
  left_room b h = go g b
    where
      go : (g : ℕ) → n < 2 ^ (7 * suc g) → 0 < g
      go zero b = absurd (omega arith)
      go (suc g) b = omega arith

-- One to g groups
pub groups_of-some : (g n : ℕ) → 0 < length (groups_of (suc g) n)
unfolding groups_of
groups_of-some g n = go (ltb n 128)
  where
    go : (t : Bool) → 0 < length (cond t (n ∷ []) ((n % 128 + 128) ∷ groups_of g (n / 128)))
    go true = omega arith
    go false = omega arith

pub groups_of-most : (g n : ℕ) → length (groups_of g n) ≤ g
unfolding groups_of
groups_of-most zero n = omega arith
groups_of-most (suc g) n = go (ltb n 128) (groups_of-most g (n / 128))
  where
    go : (t : Bool) → length (groups_of g (n / 128)) ≤ g → length (cond t (n ∷ []) ((n % 128 + 128) ∷ groups_of g (n / 128))) ≤ suc g
    go true h = omega arith
    go false h = omega arith

-- As few as the number's size calls for
groups_of-few : (f g n : ℕ) → n < 2 ^ (7 * suc g) → length (groups_of f n) ≤ suc g
unfolding groups_of
groups_of-few zero g n h = omega arith
groups_of-few (suc f) zero n h = rw (groups_of-last f n h) (omega arith)
groups_of-few (suc f) (suc g) n h = go (ltb n 128) (groups_of-few f g (n / 128) (left_below (suc g) n h))
  where
    go : (t : Bool) → length (groups_of f (n / 128)) ≤ suc g
        → length (cond t (n ∷ []) ((n % 128 + 128) ∷ groups_of f (n / 128))) ≤ suc (suc g)
    go true k = omega arith
    go false k = omega arith

-- and no fewer
groups_of-many : (f g n : ℕ) → 2 ^ (7 * g) ≤ n → g < f → suc g ≤ length (groups_of f n)
groups_of-many zero g n h k = absurd (omega arith)
groups_of-many (suc f) zero n h k = groups_of-some f n
groups_of-many (suc f) (suc g) n h k =
    let more = rw (weight g) at h in
    let large : 128 ≤ n = omega (arith, pow_pos (7 * g)) in
    let left : 2 ^ (7 * g) ≤ n / 128 = (le-div_iff_mul-le (lit< tt)).1 more in
    rw (groups_of-more f n large) (omega (arith, groups_of-many f g (n / 128) left (omega arith)))

-- Each group is a byte
bytes_cons : (b : ℕ) (l : List ℕ) → b < 256 → Bytes l → Bytes (b ∷ l)
bytes_cons b l h k zero = h
bytes_cons b l h k (suc i) = k i

bytes_nil : Bytes []
bytes_nil i = omega arith

pub groups_of-bytes : (g n : ℕ) → Bytes (groups_of g n)
unfolding groups_of
groups_of-bytes zero n = bytes_nil
groups_of-bytes (suc g) n = go (ltb n 128) refl (groups_of-bytes g (n / 128))
  where
    go : (t : Bool) → ltb n 128 ≡ t → Bytes (groups_of g (n / 128)) → Bytes (cond t (n ∷ []) ((n % 128 + 128) ∷ groups_of g (n / 128)))
    go true e h = bytes_cons n [] (omega (arith, ltb-true n 128 e)) bytes_nil
    go false e h = bytes_cons (n % 128 + 128) (groups_of g (n / 128)) (omega arith) h

-- A number has one to four bytes, one if it is below 128
pub bytes_of-some : (n : ℕ) → 1 ≤ length (bytes_of n)
unfolding bytes_of
bytes_of-some n = groups_of-some 3 n

pub bytes_of-most : (n : ℕ) → length (bytes_of n) ≤ 4
unfolding bytes_of
bytes_of-most n = groups_of-most 4 n

pub bytes_of-one : (n : ℕ) → n < 128 → bytes_of n ≡ n ∷ []
unfolding bytes_of
bytes_of-one n h = groups_of-last 3 n h

-- At most g bytes, if it is below 2 to the 7 g
pub bytes_of-short : (g n : ℕ) → 1 ≤ g → n < 2 ^ (7 * g) → length (bytes_of n) ≤ g
unfolding bytes_of
bytes_of-short zero n p h = absurd (omega arith)
bytes_of-short (suc g) n p h = groups_of-few 4 g n h

-- and no fewer, if it is not below 2 to the 7 (g - 1)
pub bytes_of-many : (g n : ℕ) → 2 ^ (7 * g) ≤ n → g < 4 → suc g ≤ length (bytes_of n)
unfolding bytes_of
bytes_of-many g n h k = groups_of-many 4 g n h k

pub bytes_of-bytes : (n : ℕ) → Bytes (bytes_of n)
unfolding bytes_of
bytes_of-bytes n = groups_of-bytes 4 n

-- A run that is put leaves the buffer's length
pub put_length : (l : List ℕ) (at : ℕ) (bs : List ℕ) → length (put l at bs) ≡ length l
unfolding put
put_length l at bs = length-sets l at bs

-- No byte changes nothing
pub put_nil : (l : List ℕ) (at : ℕ) → put l at [] ≡ l
unfolding put
put_nil l at = refl

-- The first byte, and then the others
pub put_cons : (l : List ℕ) (at b : ℕ) (bs : List ℕ) → put l at (b ∷ bs) ≡ put (set l at b) (at + 1) bs
unfolding put
put_cons l at b bs = let e : suc at ≡ at + 1 = omega arith in rw e

-- One run, and then another where it ended
pub put_append : (bs cs l : List ℕ) (at : ℕ) → put l at (bs ++ cs) ≡ put (put l at bs) (at + length bs) cs
unfolding put
put_append [] cs l at = let e : at + 0 ≡ at = omega arith in rw e
put_append (b ∷ bs) cs l at =
    let e : at + suc (length bs) ≡ suc at + length bs = omega arith in rw e (put_append bs cs (set l at b) (suc at))

-- What was before the run, the run, and what was behind it
pub put_is : (l : List ℕ) (at : ℕ) (bs : List ℕ) → at + length bs ≤ length l → put l at bs ≡ take at l ++ bs ++ drop (at + length bs) l
unfolding put
put_is l at bs h = sets-eq bs l at h

-- From the start on: the run, and what was behind it
pub put_start : (l bs : List ℕ) → length bs ≤ length l → put l 0 bs ≡ bs ++ drop (length bs) l
put_start l bs h = let e : 0 + length bs ≡ length bs = omega arith in put_is l 0 bs (omega arith) ∙ ap (λ (k : ℕ). bs ++ drop k l) e

-- Seven bits masked out, with the high bit set, are a group that others follow
pub high_set : (n : ℕ) → bit_or (bit_and n 127) 128 ≡ n % 128 + 128
high_set n = rw (and_mask n 7) (or_shifted_r 1 7 (n % 128) (mod-lt n (lit< tt)) ∙ (omega arith))
