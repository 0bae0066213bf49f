-- What an accepted record holds: as many numbers as its own M, Q and N call for, and a block in range. Each number is in the range of its
-- kind; the vectors' numbers stand behind the header, one vector behind the other.
use Prim.Native.Nat.{ℕ, zero, suc, ◌+◌, ◌*◌, ◌≤◌, ◌<◌}
use mathlib.Core.Path.{◌≡◌, refl, sym, ◌∙◌, ap, subst}
use mathlib.Core.Bool.{Bool, true, false}
use mathlib.Core.List.{List}
use native.Mathlib.Omega.{arith}
use native.Mathlib.Nat.{suc-mul, le_refl}
use borrow.Author.Tests.{ltb-true, ltb-false}
use lib.Dec.{ltb}
use lib.ListN.{length, get_or, take, drop, length-append}
use lib.Seq.{drop-drop, get_or-take, get_or-drop}
use lib.IntN.{ℤ, pos}
use Rattle.model.specs.Block.{InRange, most_streams, most_vectors, most_clip, most_share, most_owner}
use Rattle.model.proofs.Lists.{every-up_from}
use Rattle.refusals.specs.Table.{allowed}
use Rattle.block.specs.Reading.{own_count, weak_place, share_place, header_size, vector_runs, kinds_of, runs_of, part_kinds, vector_size, owned_size, kinds_of_vector, vector_kinds, count_at, layout_of, read_record}
use Rattle.block.specs.Contents.{vector_start, owner_at, vector_numbers, vector_rows, block_of, header_kinds, record_kinds}
use Rattle.refusals.specs.declared.Kind.TheVariants.{StreamCount, OwnerNumber}
use Rattle.std.specs.Prelude.{Ok}
use Rattle.block.specs.declared.Part.TheVariants.{Vector}
use Rattle.block.specs.declared.Layout.{Layout}
use Rattle.block.proofs.Ranges.{Plain, between_plain, allowed_width}
use Rattle.block.proofs.Runs.{kind_in, kind_in_front, header_numbers, weak_kind, share_kind, owned_numbers}
use Rattle.block.proofs.Parts.{AllAllowed, allowed_at, allowed_length, plain_most, label_most}
use Rattle.block.proofs.Places.{vectors_count, owners_count, owner_told, drop_two, drop_take}
use Rattle.block.proofs.Flat.{accepted_allowed}
use Rattle.block.proofs.Vectors.{allowed_parts, in_front, behind, Placed, vector_placed, vector_ranged}

-- As many kinds as M, Q and N call for
vector_kinds_count : (n own m q : ℕ) → length (vector_kinds n own m q) ≡ n * owned_size own m q
unfolding vector_kinds
vector_kinds_count zero own m q = omega arith
vector_kinds_count (suc n) own m q =
    let one = owned_numbers own m q in
    let rest = vector_kinds_count n own m q in
    length-append (part_kinds (Vector own m q)) (vector_kinds n own m q) ∙ (omega (arith, suc-mul n (owned_size own m q)))

pub kinds_count : (o : Layout) (numbers : List ℤ)
    → length (record_kinds o numbers) ≡ header_size o + count_at 2 numbers * owned_size (own_count o) (count_at 0 numbers) (count_at 1 numbers)
unfolding record_kinds
kinds_count o numbers =
    let header = header_kinds o (get_or numbers 0 (pos 0)) (get_or numbers 3 (pos 0)) in
    let vectors = vector_kinds (count_at 2 numbers) (own_count o) (count_at 0 numbers) (count_at 1 numbers) in
    omega (
      arith,
      length-append header vectors,
      header_numbers o (get_or numbers 0 (pos 0)) (get_or numbers 3 (pos 0)),
      vector_kinds_count (count_at 2 numbers) (own_count o) (count_at 0 numbers) (count_at 1 numbers),
    )

-- Vector k of n, from 0, with its owner
vectors_allowed : (n own m q : ℕ) (zs : List ℤ) → AllAllowed (vector_kinds n own m q) zs → (k : ℕ) → k < n
    → AllAllowed (part_kinds (Vector own m q)) (take (owned_size own m q) (drop (k * owned_size own m q) zs))
unfolding vector_kinds
vectors_allowed zero own m q zs a k h = absurd (omega arith)
vectors_allowed (suc n) own m q zs a zero h =
    let e : 0 * owned_size own m q ≡ 0 = omega arith in
    rw (e, ← owned_numbers own m q) (allowed_parts (part_kinds (Vector own m q)) (vector_kinds n own m q) zs a).0
vectors_allowed (suc n) own m q zs a (suc k) h =
    let size = owned_size own m q in
    let rest = rw (owned_numbers own m q) at (allowed_parts (part_kinds (Vector own m q)) (vector_kinds n own m q) zs a).1 in
    let later = vectors_allowed n own m q (drop size zs) rest k (omega arith) in
    rw (← drop_two size (k * size) (suc k * size) zs (omega (arith, suc-mul k size))) later

-- A record's numbers that are all in range
module _ (o : Layout) (numbers : List ℤ) (a : AllAllowed (record_kinds o numbers) numbers) where
  abbrev m : ℤ
  m = get_or numbers 0 (pos 0)

  abbrev c : ℤ
  c = get_or numbers 3 (pos 0)

  vectors_behind : AllAllowed (vector_kinds (count_at 2 numbers) (own_count o) (count_at 0 numbers) (count_at 1 numbers)) (drop (header_size o) numbers)
  unfolding record_kinds
  vectors_behind =
      rw (header_numbers o m c) at (allowed_parts (header_kinds o m c) (vector_kinds (count_at 2 numbers) (own_count o) (count_at 0 numbers) (count_at 1 numbers)) numbers a).1

  -- So are vector k's, with its owner's
  owned_allowed : (k : ℕ) → k < count_at 2 numbers
      → AllAllowed (part_kinds (Vector (own_count o) (count_at 0 numbers) (count_at 1 numbers)))
      (take (owned_size (own_count o) (count_at 0 numbers) (count_at 1 numbers)) (drop (vector_start o numbers k) numbers))
  owned_allowed k h =
      rw (← drop-drop)
      (vectors_allowed (count_at 2 numbers) (own_count o) (count_at 0 numbers) (count_at 1 numbers) (drop (header_size o) numbers) vectors_behind k h)

  pub vector_allowed : (k : ℕ) → k < count_at 2 numbers → AllAllowed (kinds_of_vector (count_at 0 numbers) (count_at 1 numbers)) (vector_numbers o numbers k)
  unfolding runs_of
  vector_allowed k h =
      let m = count_at 0 numbers in
      let q = count_at 1 numbers in
      let own = own_count o in
      subst (AllAllowed (kinds_of_vector m q))
      (drop_take own (vector_size m q) (drop (vector_start o numbers k) numbers) ∙ ap (take (vector_size m q)) (drop-drop own (vector_start o numbers k) numbers))
      (behind OwnerNumber own (vector_runs m q) (take (owned_size own m q) (drop (vector_start o numbers k) numbers)) (owned_allowed k h))

  owner_allowed : (k : ℕ) → k < count_at 2 numbers → 1 ≤ own_count o → allowed OwnerNumber (get_or numbers (vector_start o numbers k) (pos 0)) ≡ true
  unfolding runs_of
  owner_allowed k h some =
      let m = count_at 0 numbers in
      let q = count_at 1 numbers in
      let own = own_count o in
      let at : vector_start o numbers k + 0 ≡ vector_start o numbers k = omega arith in
      rw (get_or-take (owned_size own m q) (drop (vector_start o numbers k) numbers) 0 (pos 0) (omega arith), get_or-drop, at) at
      (in_front OwnerNumber own (vector_runs m q) (take (owned_size own m q) (drop (vector_start o numbers k) numbers)) (owned_allowed k h) 0 some)

  -- and the header's
  header_at : (i : ℕ) → i < header_size o → allowed (kind_in (header_kinds o m c) i) (get_or numbers i (pos 0)) ≡ true
  unfolding record_kinds
  header_at i h =
      rw (kind_in_front (header_kinds o m c) (vector_kinds (count_at 2 numbers) (own_count o) (count_at 0 numbers) (count_at 1 numbers)) i (omega (arith, header_numbers o m c)))
      at (allowed_at (record_kinds o numbers) numbers a i StreamCount (omega (arith, kinds_count o numbers)))

  clip : Plain 0 most_clip c
  unfolding kinds_of runs_of
  clip = between_plain 0 most_clip c (header_at 3 (omega arith))

  -- W is at most C, also where C stands for it
  weak : count_at (weak_place o) numbers ≤ count_at 3 numbers
  weak = go (ltb 3 (weak_place o)) refl
    where
      go : (b : Bool) → ltb 3 (weak_place o) ≡ b → count_at (weak_place o) numbers ≤ count_at 3 numbers
      go true e =
          let there = rw (weak_kind o m c (weak_place o) (ltb-true 3 (weak_place o) e) (omega arith)) at (header_at (weak_place o) (omega arith)) in
          rw clip.is (plain_most (between_plain 0 clip.value (get_or numbers (weak_place o) (pos 0)) (rw clip.is at there)))
      go false e = let same : weak_place o ≡ 3 = omega (arith, ltb-false 3 (weak_place o) e) in rw same (le_refl (count_at 3 numbers))

  -- An owner is 1 to 4, also where there is one for all
  owner_ranged : (k : ℕ) → k < count_at 2 numbers → (1 ≤ owner_at o numbers k) × (owner_at o numbers k ≤ most_owner)
  owner_ranged k h =
      owner_told o numbers k (λ n. (1 ≤ n) × (n ≤ most_owner)) (λ e. (omega arith, omega arith)) (λ some.
      let p = between_plain 1 most_owner (get_or numbers (vector_start o numbers k) (pos 0)) (owner_allowed k h some) in
      (rw p.is p.low, plain_most p))

  -- Their block is in range
  pub in_range : InRange (block_of o numbers)
  unfolding block_of kinds_of runs_of
  in_range =
      let s = between_plain 1 most_streams m (header_at 0 (omega arith)) in
      let q = allowed_width m (get_or numbers 1 (pos 0)) (header_at 1 (omega arith)) in
      let n = between_plain 1 most_vectors (get_or numbers 2 (pos 0)) (header_at 2 (omega arith)) in
      let share = rw (share_kind o m c, s.is) at (header_at (share_place o) (omega arith)) in
      let d = between_plain s.value most_share (get_or numbers (share_place o) (pos 0)) share in
      record {
        stream = rw s.is s.low;
        streams = plain_most s;
        width = rw q.is q.member;
        label = label_most m (get_or numbers 1 (pos 0)) (header_at 0 (omega arith)) (header_at 1 (omega arith));
        vector = rw (vectors_count o numbers, n.is) n.low;
        vectors = rw (vectors_count o numbers) (plain_most n);
        clip = plain_most clip;
        weak = weak;
        reserve = rw (s.is, d.is) d.low;
        share = plain_most d;
        each =
            every-up_from _ (vector_rows o numbers) 0 (count_at 2 numbers)
            (λ k h. vector_ranged (count_at 0 numbers) (count_at 1 numbers) (vector_numbers o numbers k) (vector_allowed k (omega arith)));
        owned = owners_count o numbers ∙ sym (vectors_count o numbers);
        owners = every-up_from _ (owner_at o numbers) 0 (count_at 2 numbers) (λ k h. owner_ranged k (omega arith));
      }

module _ (bytes : List ℕ) (at : ℕ) (e : (read_record bytes).read ≡ Ok at) where
  -- An accepted record has the header's numbers and those of N vectors
  pub accepted_count : let numbers = (read_record bytes).numbers in
      length numbers ≡ header_size (layout_of bytes) + count_at 2 numbers * owned_size (own_count (layout_of bytes)) (count_at 0 numbers) (count_at 1 numbers)
  accepted_count =
      let numbers = (read_record bytes).numbers in
      allowed_length (record_kinds (layout_of bytes) numbers) numbers (accepted_allowed bytes at e) ∙ kinds_count (layout_of bytes) numbers

  -- Vector k of it is whole, and its numbers are in range place by place
  pub accepted_placed : (k : ℕ) → let numbers = (read_record bytes).numbers in k < count_at 2 numbers
      → Placed (count_at 0 numbers) (count_at 1 numbers) (vector_numbers (layout_of bytes) numbers k)
  accepted_placed k h =
      let numbers = (read_record bytes).numbers in
      vector_placed (count_at 0 numbers) (count_at 1 numbers) (vector_numbers (layout_of bytes) numbers k)
      (vector_allowed (layout_of bytes) numbers (accepted_allowed bytes at e) k h)

  -- Its block is in range
  pub accepted_in_range : InRange (block_of (layout_of bytes) (read_record bytes).numbers)
  accepted_in_range = in_range (layout_of bytes) (read_record bytes).numbers (accepted_allowed bytes at e)
