-- The first of the smallest keys is the one place whose key is at most each one and less than each earlier one.
use Prim.Native.Nat.{ℕ, ◌+◌, ◌-◌, ◌<◌, ◌≤◌}
use mathlib.Core.Path.{◌≡◌, refl, ◌∙◌}
use mathlib.Core.Bool.{Bool, true, false}
use mathlib.Core.List.{List}
use mathlib.Core.Logic.{◌≢◌}
use native.Mathlib.Decide.{ℕ_discrete}
use native.Mathlib.Omega.{arith}
use lib.Dec.{ltb}
use lib.ListN.{length, get_or, take, drop, length-drop}
use lib.Seq.{get_or-drop, get_or-take, length-take-le}
use borrow.Author.Tests.{ltb-true, ltb-false}
use Rattle.search_spec.specs.Arrays.{least_first}
use Rattle.search_spec.proofs.Arrays.{Same, least_below, least_le, least_first_lem, least_same}

-- Of the keys f 0, .., f (n - 1) the first of the smallest stands at s
pub record First (f : ℕ → ℕ) (n s : ℕ) : Type 0 where
  pub below : s < n
  pub most : (i : ℕ) → i < n → f s ≤ f i
  pub earlier : (i : ℕ) → i < s → f s < f i

module _ (f : ℕ → ℕ) (keys : List ℕ) (n s : ℕ) (at : (i : ℕ) → i < n → get_or keys i 0 ≡ f i) where
  pub first_of : 0 < n → s ≡ least_first keys n → First f n s
  first_of h e =
      let b = least_below keys n h in
      let k = at (least_first keys n) b in
      rw e
      (record {
        below = b;
        most = λ i l. omega (arith, least_le keys n i l, at i l);
        earlier = λ i l. let m : i < n = omega arith in omega (arith, least_first_lem keys n i l, at i m);
      })

  pub first_is : First f n s → s ≡ least_first keys n
  first_is h = go (ℕ_discrete s r)
    where
      r : ℕ
      r = least_first keys n

      r_below : r < n
      r_below = least_below keys n (omega (arith, h.below))

      facts : (get_or keys s 0 ≡ f s) × (get_or keys r 0 ≡ f r)
      facts = (at s h.below, at r r_below)

      go : Dec (s ≡ r) → s ≡ r
      go (yes e) = e
      go (no e) = apart (ltb s r) refl
        where
          apart : (t : Bool) → ltb s r ≡ t → s ≡ r
          apart true k = absurd (omega (arith, facts, h.most r r_below, least_first_lem keys n s (ltb-true s r k)))
          apart false k =
              let d : s ≢ r = e in
              let l : r < s = omega (arith, ltb-false s r k) in
              absurd (omega (arith, facts, h.earlier r l, least_le keys n s h.below))

-- The keys from a place on
abbrev pub from : List ℕ → ℕ → ℕ → ℕ
from keys at i = get_or keys (at + i) 0

-- The first of the smallest of n keys from a place on
pub part_first : (keys : List ℕ) (at n s : ℕ) → 0 < n → s ≡ least_first (drop at keys) n → First (from keys at) n s
part_first keys at n s h e = first_of (from keys at) (drop at keys) n s (λ i l. get_or-drop at keys i 0) h e

-- The same, as the first of the smallest of these n keys alone
pub least_part : (keys : List ℕ) (at n : ℕ) → 0 < n → at + n ≤ length keys
    → let part = take (at + n - at) (drop at keys) in
    least_first part (length part) ≡ least_first (drop at keys) n
least_part keys at n h room = rw (count, size) (least_same same h)
  where
    count : at + n - at ≡ n
    count = omega arith

    size : length (take n (drop at keys)) ≡ n
    size = length-take-le n (drop at keys) (omega (arith, length-drop at keys))

    same : Same n (take n (drop at keys)) (drop at keys)
    same = record {
      wide_a = omega (arith, size);
      wide_b = omega (arith, length-drop at keys);
      keys = λ i l. get_or-take n (drop at keys) i 0 l;
    }

-- Each of them is the key at its place
pub part_at : (keys : List ℕ) (at n s : ℕ) → s < n → get_or (take (at + n - at) (drop at keys)) s 0 ≡ get_or keys (at + s) 0
part_at keys at n s h = get_or-take (at + n - at) (drop at keys) s 0 (omega arith) ∙ get_or-drop at keys s 0
