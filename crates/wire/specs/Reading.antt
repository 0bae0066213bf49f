-- Reading one number of document 01's record, and the refusal where there is none.
use Rattle.std.specs.Prelude.{ℕ, zero, suc, ◌+◌, ◌*◌, ◌%◌, ◌^◌, ◌<◌, ◌≤◌, Bool, true, false, cond, List, [], ◌∷◌, ltb, eqb, drop, get_or, Result, Ok, Err}
use Rattle.wire.specs.declared.NumberError.{NumberError}
use Rattle.wire.specs.declared.NumberError.TheVariants.{Short, Malformed}

-- What is found at a place: a number with the place after it, or why there is none
abbrev pub Number : Type 0
Number = Result (ℕ × ℕ) NumberError

-- "groups of seven bits, least significant first": the digits v of the first k groups, and above them the number x of the others
unfoldable pub above_digits : ℕ → ℕ → Number → Number
above_digits k v (Ok (w, next)) = Ok (w * 2 ^ (7 * k) + v, next)
above_digits k v (Err e) = Err e

-- The last group b: in "shortest form" no number has "a last group of 0 after another"
unfoldable pub last_group : Bool → ℕ → ℕ → Number
last_group first b next = cond first (Ok (b, next)) (cond (eqb b 0) (Err Malformed) (Ok (b, next)))

-- At most g groups in the bytes l at a place, "the high bit set on every group but the last". With none left there were "four groups all
-- with the high bit", with no byte left the "record ends before its last group"
unfoldable pub groups : ℕ → Bool → ℕ → List ℕ → Number
groups zero first at l = Err Malformed
groups (suc g) first at [] = Err Short
groups (suc g) first at (b ∷ l) = cond (ltb b 128) (last_group first b (at + 1)) (above_digits 1 (b % 128) (groups g false (at + 1) l))

-- The number at a place, with the place after it: "at most four groups"
unfoldable pub number_at : List ℕ → ℕ → Number
number_at l at = groups 4 true at (drop at l)

-- The bounds of what is read from n bytes: "at most four groups" of seven bits, and the place after them is not beyond the end
abbrev pub Sound : Number → ℕ → Type 0
Sound (Ok (v, next)) n = (v < 2 ^ 28) × (next ≤ n)
Sound (Err e) n = Unit {0}

-- The refusal, 0 for none. 2: "record ends before its last group". 3: "four groups all with the high bit, or a last group of 0 after
-- another"
abbrev pub number_refusal : Number → ℕ
number_refusal (Ok (v, next)) = 0
number_refusal (Err Short) = 2
number_refusal (Err Malformed) = 3

-- Every entry is a byte, as in a "record"
abbrev pub Bytes : List ℕ → Type 0
Bytes l = (i : ℕ) → get_or l i 0 < 256
