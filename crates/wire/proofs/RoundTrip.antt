-- Reading and writing are inverse, and so are folding and unfolding. Both directions of the number go by induction on the groups that are
-- left: a group with the high bit is the number's lowest seven bits, and what follows it are the groups of the rest, which is not 0.
use Prim.Native.Nat.{ℕ, zero, suc, ◌+◌, ◌*◌, ◌/◌, ◌%◌, ◌^◌, ◌<◌, ◌≤◌}
use mathlib.Core.Path.{◌≡◌, refl, sym, ap, ap₂, ◌∙◌}
use mathlib.Core.Bool.{Bool, true, false, cond, true≢false}
use mathlib.Core.List.{List, [], ◌∷◌, ◌++◌}
use native.Mathlib.Omega.{arith}
use borrow.Author.Tests.{ltb-true, ltb-false, eqb-true, eqb-false}
use lib.Dec.{ltb, eqb}
use lib.IntN.{ℤ, pos, negsuc, nat_abs}
use lib.ListN.{length, take, drop, length-drop, take-append-drop}
use lib.Pow.{pow_pos}
use lib.Seq.{drop-append_seam, drop-drop, get_or-drop}
use Rattle.std.specs.Prelude.{Ok, Err}
use Rattle.wire.specs.Reading.{Number, above_digits, last_group, groups, number_at, Sound, Bytes}
use Rattle.wire.specs.Writing.{groups_of, bytes_of}
use Rattle.wire.specs.Folding.{folded, unfolded}
use Rattle.wire.proofs.Writing.{weight, groups_of-last, groups_of-more, left_below, left_room, groups_of-some}
use Rattle.wire.proofs.Reading.{groups_last, groups_more, last_group-is, ok_is}

-- A number folded and unfolded
pub unfolded_folded : (z : ℤ) → unfolded (folded z) ≡ z
unfolding folded unfolded
unfolded_folded (pos n) = let r : 2 * n % 2 ≡ 0 = omega arith in let q : 2 * n / 2 ≡ n = omega arith in rw (r, q)
unfolded_folded (negsuc n) = let r : (2 * n + 1) % 2 ≡ 1 = omega arith in let q : (2 * n + 1) / 2 ≡ n = omega arith in rw (r, q)

-- A number unfolded and folded
pub folded_unfolded : (n : ℕ) → folded (unfolded n) ≡ n
unfolding folded unfolded
folded_unfolded n = go (eqb (n % 2) 0) refl
  where
    go : (t : Bool) → eqb (n % 2) 0 ≡ t → folded (cond t (pos (n / 2)) (negsuc (n / 2))) ≡ n
    go true e = omega (arith, eqb-true (n % 2) 0 e)
    go false e = let odd = eqb-false (n % 2) 0 e in omega arith

-- A number is at most twice the magnitude that it unfolds to
pub unfolded_below : (n b : ℕ) → nat_abs (unfolded n) ≤ b → n ≤ 2 * b
unfolding folded
unfolded_below n b h = go (unfolded n) h (folded_unfolded n)
  where
    go : (z : ℤ) → nat_abs z ≤ b → folded z ≡ n → n ≤ 2 * b
    go (pos m) k e = omega arith
    go (negsuc m) k e = omega arith

-- Reading what was written, at most g groups of it
read_groups : (g : ℕ) (first : Bool) (at n : ℕ) (after : List ℕ) (t : Bool) → ltb n 128 ≡ t → 0 < g → n < 2 ^ (7 * g)
    → (first ≡ false → 0 < n) → groups g first at (groups_of g n ++ after) ≡ Ok (n, at + length (groups_of g n))
unfolding above_digits
read_groups zero first at n after t e p b h = absurd (omega arith)
read_groups (suc g) first at n after true e p b h =
    let small : n < 128 = ltb-true n 128 e in
    rw (groups_of-last g n small) (groups_last g first at n after small ∙ last_group-is first n (at + 1) h)
read_groups (suc g) first at n after false e p b h =
    let large : 128 ≤ n = ltb-false n 128 e in
    let rest =
    read_groups g false (at + 1) (n / 128) after (ltb (n / 128) 128) refl (left_room g n b large) (left_below g n b) (λ e. omega arith) in
    rw (groups_of-more g n large)
    (groups_more g first at (n % 128 + 128) (groups_of g (n / 128) ++ after) (omega arith)
    ∙ ap (above_digits 1 ((n % 128 + 128) % 128)) rest ∙ ap₂ (λ (v p : ℕ). Ok (v, p)) (omega arith) (omega arith))

-- Reading where a written number begins gives the number, and the place after it
pub read_at : (l : List ℕ) (at : ℕ) (after : List ℕ) (n : ℕ) → n < 2 ^ 28 → drop at l ≡ bytes_of n ++ after
    → number_at l at ≡ Ok (n, at + length (bytes_of n))
unfolding number_at bytes_of
read_at l at after n b e =
    ap (groups 4 true at) e ∙ read_groups 4 true at n after (ltb n 128) refl (omega arith) b (λ f. absurd (true≢false f))

-- Reading what was written gives the number, and the rest
pub read_written : (before after : List ℕ) (n : ℕ) → n < 2 ^ 28
    → number_at (before ++ (bytes_of n ++ after)) (length before) ≡ Ok (n, length before + length (bytes_of n))
read_written before after n b =
    read_at (before ++ (bytes_of n ++ after)) (length before) after n b (drop-append_seam before (bytes_of n ++ after))

-- What at most g groups at a place say: the number's size, its end, and its bytes
record Back (g : ℕ) (first : Bool) (at : ℕ) (l : List ℕ) (n next : ℕ) : Type 0 where
  small : n < 2 ^ (7 * g)
  some : first ≡ false → 0 < n
  ends : next ≡ at + length (groups_of g n)
  within : length (groups_of g n) ≤ length l
  same : Bytes l → take (length (groups_of g n)) l ≡ groups_of g n

-- What a last group says
last_says : (first : Bool) (b at n next : ℕ) → last_group first b at ≡ Ok (n, next) → (b ≡ n) × (at ≡ next) × (first ≡ false → 0 < b)
unfolding last_group
last_says true b at n next e = let p = ok_is e in (p.0, p.1, λ f. absurd (true≢false f))
last_says false zero at n next e = cc
last_says false (suc b) at n next e =
    let p = ok_is (sym (last_group-is false (suc b) at (λ f. omega arith)) ∙ e) in (p.0, p.1, λ f. omega arith)

module _ (g : ℕ) (first : Bool) (at b : ℕ) (l : List ℕ) (n next : ℕ) where
  back_last : b < 128 → last_group first b (at + 1) ≡ Ok (n, next) → Back (suc g) first at (b ∷ l) n next
  back_last h e =
      let says = last_says first b (at + 1) n next e in
      rw (← says.0, ← says.1)
      (record {
        small = omega (arith, weight g, pow_pos (7 * g));
        some = says.2;
        ends = rw (groups_of-last g b h);
        within = rw (groups_of-last g b h) (omega arith);
        same = λ k. rw (groups_of-last g b h);
      })

  -- A group that others follow, of which as much is known
  back_more : 128 ≤ b → (x : Number) → ((v p : ℕ) → x ≡ Ok (v, p) → Back g false (at + 1) l v p) → above_digits 1 (b % 128) x ≡ Ok (n, next)
      → Back (suc g) first at (b ∷ l) n next
  unfolding above_digits
  back_more h (Ok (v, p)) rest e =
      let r = rest v p refl in
      let says = ok_is e in
      let value : v * 128 + b % 128 ≡ n = says.0 in
      let place : p ≡ next = says.1 in
      let some : 0 < v = r.some refl in
      let left : n / 128 ≡ v = omega arith in
      let low : n % 128 ≡ b % 128 = omega arith in
      let bytes : groups_of (suc g) n ≡ (b % 128 + 128) ∷ groups_of g v = rw (groups_of-more g n (omega arith), left, low) in
      record {
        small = omega (arith, weight g, r.small);
        some = λ f. omega arith;
        ends = rw bytes (omega (arith, r.ends));
        within = rw bytes (omega (arith, r.within));
        same = λ k. rw bytes (ap₂ ◌∷◌ (omega (arith, k 0)) (r.same (λ i. k (suc i))));
      }
  back_more h (Err x) rest e = cc

back : (g : ℕ) (first : Bool) (at : ℕ) (l : List ℕ) (n next : ℕ) → groups g first at l ≡ Ok (n, next) → Back g first at l n next
unfolding groups
back zero first at l n next e = cc
back (suc g) first at [] n next e = cc
back (suc g) first at (b ∷ l) n next e = go (ltb b 128) refl e (back g false (at + 1) l)
  where
    go : (t : Bool) → ltb b 128 ≡ t → cond t (last_group first b (at + 1)) (above_digits 1 (b % 128) (groups g false (at + 1) l)) ≡ Ok (n, next)
        → ((v p : ℕ) → groups g false (at + 1) l ≡ Ok (v, p) → Back g false (at + 1) l v p) → Back (suc g) first at (b ∷ l) n next
    go true t e rest = back_last g first at b l n next (ltb-true b 128 t) e
    go false t e rest = back_more g first at b l n next (ltb-false b 128 t) _ rest e

bytes_drop : (l : List ℕ) (at : ℕ) → Bytes l → Bytes (drop at l)
bytes_drop l at h i = rw (get_or-drop at l i 0) (h (at + i))

module _ (l : List ℕ) (at : ℕ) where
  found : (n next : ℕ) → number_at l at ≡ Ok (n, next) → Back 4 true at (drop at l) n next
  unfolding number_at
  found n next e = back 4 true at (drop at l) n next e

  inside : (n next : ℕ) → Back 4 true at (drop at l) n next → next ≤ length l
  inside n next r = omega (arith, r.ends, r.within, groups_of-some 3 n, length-drop at l)

  -- The bounds of whatever is read
  pub read_sound : Sound (number_at l at) (length l)
  read_sound = go (number_at l at) refl
    where
      go : (x : Number) → number_at l at ≡ x → Sound x (length l)
      go (Ok (n, next)) e = let r = found n next e in (r.small, inside n next r)
      go (Err x) e = tt

  -- So an answer that is the definition's has its bounds
  pub answered : (r : Number) → r ≡ number_at l at → (r ≡ number_at l at) × Sound r (length l)
  answered r e = (e, rw e read_sound)

  -- Whatever is read as n has as many bytes as writing n makes
  pub read_ends : (n next : ℕ) → number_at l at ≡ Ok (n, next) → next ≡ at + length (bytes_of n)
  unfolding bytes_of
  read_ends n next e = (found n next e).ends

  -- Whatever is read as n is the bytes that writing n makes
  pub read_is_written : (n next : ℕ) → Bytes l → number_at l at ≡ Ok (n, next)
      → (n < 2 ^ 28) × (next ≡ at + length (bytes_of n)) × (next ≤ length l) × (take (length (bytes_of n)) (drop at l) ≡ bytes_of n)
  unfolding bytes_of
  read_is_written n next h e = let r = found n next e in (r.small, r.ends, inside n next r, r.same (bytes_drop l at h))

  -- So the bytes at the place are those of n, and then what follows
  pub read_splits : (n next : ℕ) → Bytes l → number_at l at ≡ Ok (n, next) → drop at l ≡ bytes_of n ++ drop next l
  read_splits n next h e =
      let r = read_is_written n next h e in
      sym (take-append-drop (length (bytes_of n)) (drop at l))
      ∙ ap₂ ◌++◌ r.3 (drop-drop (length (bytes_of n)) at l ∙ ap (λ (k : ℕ). drop k l) (sym r.1))
