-- A part of the lent list, read into on its own and put back in its place.
use Prim.Native.Nat.{ℕ, suc, ◌+◌, ◌-◌, ◌≤◌}
use mathlib.Core.Path.{◌≡◌, sym, ◌∙◌, ap}
use mathlib.Core.List.{List, [], ◌∷◌, ◌++◌, append_assoc}
use native.Mathlib.Omega.{arith}
use borrow.Rule.Slice.PartMut.{put_mid}
use lib.ListN.{length, take, drop, replicate, length-drop, length-replicate, take-append-drop}
use lib.Seq.{sets, sets-eq, length-take-le, drop-drop, drop-append-le}
use lib.IntN.{ℤ}
use Rattle.std.specs.Prelude.{Ok, Err}
use Rattle.refusals.specs.declared.Kind.{Kind}
use Rattle.block.specs.Reading.{One, one_at, Read, by_one, numbers_at, Got, got, into, most_numbers}

-- What is read of some kinds are no more numbers than kinds
numbers_few : (ks : List Kind) (bytes : List ℕ) (at : ℕ) → length (numbers_at ks bytes at).numbers ≤ length ks
unfolding numbers_at
numbers_few [] bytes at = omega arith
numbers_few (k ∷ ks) bytes at = go (one_at k bytes at) (numbers_few ks bytes)
  where
    go : (o : One) → ((next : ℕ) → length (numbers_at ks bytes next).numbers ≤ length ks)
        → length (by_one (numbers_at ks bytes) o).numbers ≤ suc (length ks)
    go (Ok (z, next)) h = omega (arith, h next)
    go (Err r) h = omega arith

-- Numbers stored in the n places from a place on are stored in the list
stored_in : (from n : ℕ) (list xs : List ℤ) → from + n ≤ length list → length xs ≤ n
    → sets list from xs ≡ put_mid from n list (sets (take n (drop from list)) 0 xs)
stored_in from n list xs within few =
    let d = drop from list in
    let l = length xs in
    let room : n ≤ length d = omega (arith, length-drop from list) in
    let size : length (take n d) ≡ n = length-take-le n d room in
    let none : 0 + l ≡ l = omega arith in
    let behind : drop (from + l) list ≡ drop l (take n d) ++ drop n d =
    sym (drop-drop l from list) ∙ ap (drop l) (sym (take-append-drop n d)) ∙ drop-append-le l (take n d) (drop n d) (omega arith) in
    let part = sets-eq xs (take n d) 0 (omega arith) in
    sets-eq xs list from (omega arith)
    ∙ ap (λ (r : List ℤ). take from list ++ xs ++ r) behind
    ∙ rw (part, none) (simp append_assoc)

-- So reading into the part is reading into the list
pub into_part : (ks : List Kind) (bytes : List ℕ) (at from n : ℕ) (list part : List ℤ) (r : Read) → from + n ≤ length list → length ks ≤ n
    → got r part ≡ into 0 (numbers_at ks bytes at) (take n (drop from list)) → got r (put_mid from n list part) ≡ into from (numbers_at ks bytes at) list
into_part ks bytes at from n list part r within few e =
    let numbers = (numbers_at ks bytes at).numbers in
    let same = ap (λ (g : Got). put_mid from n list g.list) e ∙ sym (stored_in from n list numbers within (omega (arith, numbers_few ks bytes at))) in
    λ j. got (e j).read (same j)

-- A run read into as many places as it has numbers
pub run_part : (k : Kind) (n : ℕ) (bytes : List ℕ) (at from : ℕ) (list part : List ℤ) (r : Read) → from + n ≤ length list
    → got r part ≡ into 0 (numbers_at (replicate (length (take (from + n - from) (drop from list))) k) bytes at) (take (from + n - from) (drop from list))
    → got r (put_mid from (from + n - from) list part) ≡ into from (numbers_at (replicate n k) bytes at) list
run_part k n bytes at from list part r within e =
    let m = from + n - from in
    let same : m ≡ n = omega arith in
    let size : length (take m (drop from list)) ≡ n = length-take-le m (drop from list) (omega (arith, length-drop from list)) ∙ same in
    into_part (replicate n k) bytes at from m list part r (omega arith) (omega (arith, length-replicate n k)) (rw size at e)

-- What is read into the places from one on, to the end of a list of all numbers
module _ (ks : List Kind) (from : ℕ) (list : List ℤ) (long : length list ≡ most_numbers) (fits : from + length ks ≤ most_numbers) where
  -- has room there
  pub tail_room : length ks ≤ length (take (most_numbers - from) (drop from list))
  tail_room =
      let n = most_numbers - from in
      omega (arith, length-take-le n (drop from list) (omega (arith, length-drop from list)))

  -- and is read into the list
  pub tail_part : (bytes : List ℕ) (at : ℕ) (part : List ℤ) (r : Read)
      → got r part ≡ into 0 (numbers_at ks bytes at) (take (most_numbers - from) (drop from list))
      → got r (put_mid from (most_numbers - from) list part) ≡ into from (numbers_at ks bytes at) list
  tail_part bytes at part r e = into_part ks bytes at from (most_numbers - from) list part r (omega arith) (omega arith) e
