-- The reader's turns, each a law of the definition: after k groups whose digits make v, the number is what the groups at the present
-- place say, above those digits.
use Prim.Native.Nat.{ℕ, suc, ◌+◌, ◌*◌, ◌-◌, ◌%◌, ◌^◌, ◌<◌, ◌≤◌}
use mathlib.Core.Path.{◌≡◌, refl, sym, ap, ◌∙◌}
use mathlib.Core.Bool.{Bool, true, false}
use mathlib.Core.List.{List, ◌∷◌}
use native.Mathlib.Nat.{add-mul, add_assoc, mul_assoc, mul_comm, mod-lt, mul-le-mul_right}
use native.Mathlib.Numerals.{add-one}
use native.Mathlib.Omega.{arith}
use borrow.Author.Tests.{lt-ltb, le-ltb, ne_eqb}
use lib.Bits.{bit_and, bit_or, and_mask, or_shifted_r}
use lib.Dec.{eqb, lit<}
use lib.ListN.{length, get_or, drop, drop_of_length-le}
use lib.Pow.{shl_exact}
use lib.Seq.{drop-cons}
use Rattle.std.specs.Prelude.{Result, Ok, Err, IsErrAnd}
use Rattle.wire.specs.declared.NumberError.TheVariants.{Short, Malformed}
use Rattle.wire.specs.Reading.{Number, above_digits, last_group, groups, number_at, number_refusal}
use Rattle.wire.proofs.Writing.{weight}

-- The same pair was read
pub ok_is : {A B E : Type 0} {a c : A} {b d : B} → ◌≡◌ {A = Result (A × B) E} (Ok (a, b)) (Ok (c, d)) → (a ≡ c) × (b ≡ d)
ok_is {A} {B} {E} {a} {c} {b} {d} e = let p : ◌≡◌ {A = A × B} (a, b) (c, d) = cc in (ap (λ (x : A × B). x.0) p, ap (λ (x : A × B). x.1) p)

-- What the exit of a `?` returns
pub err_is : {A E : Type 0} {e : E} (r : Result A E) → IsErrAnd r (λ y. y ≡ e) → r ≡ Err e
err_is (Ok a) h = absurd h
err_is (Err y) h = ap Err h

module _ (g : ℕ) (first : Bool) (at b : ℕ) (l : List ℕ) where
  -- A group without the high bit is the last
  pub groups_last : b < 128 → groups (suc g) first at (b ∷ l) ≡ last_group first b (at + 1)
  unfolding groups
  groups_last h = rw (lt-ltb b 128 h)

  -- A group with it is followed by others
  pub groups_more : 128 ≤ b → groups (suc g) first at (b ∷ l) ≡ above_digits 1 (b % 128) (groups g false (at + 1) l)
  unfolding groups
  groups_more h = rw (le-ltb b 128 h)

-- A last group is a number's unless it is 0 after another
pub last_group-is : (first : Bool) (b next : ℕ) → (first ≡ false → 0 < b) → last_group first b next ≡ Ok (b, next)
unfolding last_group
last_group-is true b next h = refl
last_group-is false b next h = let some = h refl in rw (ne_eqb b 0 (λ e. omega arith))

-- Nothing below a number
above_none : (x : Number) → above_digits 0 0 x ≡ x
unfolding above_digits
above_none (Ok (w, next)) = ap (λ (n : ℕ). Ok (n, next)) (omega arith)
above_none (Err e) = refl

-- A group below a number, above k others
above_above : (k v d : ℕ) (x : Number) → above_digits k v (above_digits 1 d x) ≡ above_digits (k + 1) (d * 2 ^ (7 * k) + v) x
unfolding above_digits
above_above k v d (Ok (w, next)) = ap (λ (n : ℕ). Ok (n, next)) (rw (add-one k, weight k) (sums (2 ^ (7 * k))))
  where
    sums : (p : ℕ) → (w * 128 + d) * p + v ≡ w * (p * 128) + (d * p + v)
    sums p = rw (add-mul (w * 128) d p, add_assoc (w * 128 * p) (d * p) v, mul_assoc w 128 p, mul_comm 128 p)
above_above k v d (Err e) = refl

-- The reader at a place, after k groups whose digits make v
unfoldable pub state : List ℕ → ℕ → ℕ → ℕ → Number
state l place k v = above_digits k v (groups (4 - k) (eqb k 0) place (drop place l))

pub state_start : (l : List ℕ) (at : ℕ) → number_at l at ≡ state l at 0 0
unfolding number_at state
state_start l at = sym (above_none _)

module _ (l : List ℕ) (place k v : ℕ) where
  -- Four groups all had the high bit
  pub state_malformed : 4 ≤ k → state l place k v ≡ Err Malformed
  unfolding state groups above_digits
  state_malformed h = let e : 4 - k ≡ 0 = omega arith in rw e

  module _ (h : k < 4) where
    fuel : 4 - k ≡ suc (4 - (k + 1))
    fuel = omega arith

    -- The bytes end
    pub state_short : length l ≤ place → state l place k v ≡ Err Short
    unfolding state groups above_digits
    state_short s = rw (fuel, drop_of_length-le l {i = place} s)

    module _ (s : place < length l) where
      -- The group at the place
      state_here : state l place k v ≡ above_digits k v (groups (suc (4 - (k + 1))) (eqb k 0) place (get_or l place 0 ∷ drop (place + 1) l))
      unfolding state
      state_here = rw (fuel, drop-cons l place 0, add-one place)

      -- It has the high bit: one turn more
      pub state_more : 128 ≤ get_or l place 0 → state l place k v ≡ state l (place + 1) (k + 1) (get_or l place 0 % 128 * 2 ^ (7 * k) + v)
      unfolding state
      state_more b =
          let later : eqb (k + 1) 0 ≡ false = ne_eqb (k + 1) 0 (λ e. omega arith) in
          state_here ∙ rw (groups_more _ _ place _ (drop (place + 1) l) b, later) (above_above k v _ _)

      -- It is the last, 0 after another
      pub state_zero : get_or l place 0 ≡ 0 → 0 < k → state l place k v ≡ Err Malformed
      unfolding above_digits last_group
      state_zero b p =
          let later : eqb k 0 ≡ false = ne_eqb k 0 (λ e. omega arith) in
          let last : get_or l place 0 < 128 = omega arith in
          state_here ∙ rw (groups_last _ (eqb k 0) place _ (drop (place + 1) l) last, b, later)

      -- It is the last, and a number's
      pub state_value : get_or l place 0 < 128 → (eqb k 0 ≡ false → 0 < get_or l place 0)
          → state l place k v ≡ Ok (get_or l place 0 % 128 * 2 ^ (7 * k) + v, place + 1)
      unfolding above_digits
      state_value b some =
          let all : get_or l place 0 % 128 ≡ get_or l place 0 = omega arith in
          state_here
          ∙ rw (groups_last _ (eqb k 0) place _ (drop (place + 1) l) b, last_group-is (eqb k 0) (get_or l place 0) (place + 1) some, all)

-- A first group without the high bit is the whole number, 0 too
pub number_of_one : (l : List ℕ) (at : ℕ) → at < length l → get_or l at 0 < 128 → number_at l at ≡ Ok (get_or l at 0, at + 1)
unfolding number_at last_group
number_of_one l at here one = rw (drop-cons l at 0) (groups_last _ true at _ (drop (suc at) l) one)

-- Seven bits masked out, shifted and set are the digits added, and they stay below the next group's
pub digits_set : (b v k : ℕ) → k < 4 → v < 2 ^ (7 * k) → bit_or v (bit_and b 127 * 2 ^ (7 * k) % 2 ^ 32) ≡ b % 128 * 2 ^ (7 * k) + v
digits_set b v k h l =
    rw (and_mask b 7, shl_exact {a = b % 128} 7 (7 * k) 32 (mod-lt b (lit< tt)) (omega arith)) (or_shifted_r (b % 128) (7 * k) v l)

pub digits_below : (b v k : ℕ) → v < 2 ^ (7 * k) → b % 128 * 2 ^ (7 * k) + v < 2 ^ (7 * (k + 1))
digits_below b v k l =
    let most : b % 128 ≤ 127 = omega arith in rw (add-one k, weight k) (omega (arith, mul-le-mul_right (2 ^ (7 * k)) most))

-- The document's number tells which of the two it is that cannot be read
pub is_short : (x : Number) → number_refusal x ≡ 2 → x ≡ Err Short
is_short (Ok (v, next)) e = absurd (omega arith)
is_short (Err Short) e = refl
is_short (Err Malformed) e = absurd (omega arith)

pub is_malformed : (x : Number) → number_refusal x ≡ 3 → x ≡ Err Malformed
is_malformed (Ok (v, next)) e = absurd (omega arith)
is_malformed (Err Short) e = absurd (omega arith)
is_malformed (Err Malformed) e = refl
