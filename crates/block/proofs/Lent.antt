-- What the lent list holds once a whole record is read into it: the record's numbers in front, and behind them what was there before. Its
-- first numbers say how far the record's go, so its block is the record's.
use Prim.Native.Nat.{ℕ, ◌+◌, ◌*◌, ◌≤◌, ◌<◌}
use mathlib.Core.Path.{◌≡◌, sym, ◌∙◌, ap, subst}
use mathlib.Core.Bool.{Bool, true, false, cond}
use mathlib.Core.List.{List, ◌++◌, map}
use native.Mathlib.Omega.{arith}
use native.Mathlib.Nat.{suc-mul, mul-le-mul, le_refl}
use lib.Dec.{ltb}
use lib.ListN.{length, take, drop, length-drop, get_or-append}
use lib.Seq.{sets-eq, take-append-le, drop-append-le, take-append_seam}
use lib.IntN.{ℤ, pos, nat_abs}
use Rattle.model.specs.Soft.{up_from}
use Rattle.model.specs.Block.{InRange, most_vectors}
use Rattle.model.proofs.Lists.{map-up_from}
use Rattle.block.specs.declared.Layout.{Layout}
use Rattle.block.specs.Reading.{own_count, weak_place, share_place, header_size, vector_size, owned_size, count_at, layout_of, read_record, at_end, read_whole, Got, got, into, most_numbers, Read}
use Rattle.block.specs.Contents.{rows_of, vector_start, owner_at, vector_numbers, vector_rows, block_of}
use Rattle.std.specs.Prelude.{Ok, Err}
use Rattle.refusals.specs.declared.Refusal.TheVariants.{Trailing}
use Rattle.block.proofs.Parts.{into_length, all_fit}
use Rattle.block.proofs.Places.{vectors_count, owner_alike}
use Rattle.block.proofs.Vectors.{Placed}
use Rattle.block.proofs.Accepted.{accepted_count, accepted_placed, accepted_in_range}

-- Each vector of a record is whole, and its numbers are in range place by place
abbrev pub AllPlaced : Layout → List ℤ → Type 0
AllPlaced o numbers = (k : ℕ) → k < count_at 2 numbers → Placed (count_at 0 numbers) (count_at 1 numbers) (vector_numbers o numbers k)

-- A record's numbers with others behind them
module _ (o : Layout) (numbers rest : List ℤ)
    (many : length numbers ≡ header_size o + count_at 2 numbers * owned_size (own_count o) (count_at 0 numbers) (count_at 1 numbers)) where
  -- The header is the record's
  header_same : (i : ℕ) → i < header_size o → count_at i (numbers ++ rest) ≡ count_at i numbers
  header_same i h = ap nat_abs (get_or-append numbers rest (pos 0) i (omega arith))

  -- A vector is within the record
  vector_room : (k : ℕ) → k < count_at 2 numbers
      → vector_start o numbers k + owned_size (own_count o) (count_at 0 numbers) (count_at 1 numbers) ≤ length numbers
  vector_room k h =
      let size = owned_size (own_count o) (count_at 0 numbers) (count_at 1 numbers) in
      omega (arith, suc-mul k size, mul-le-mul h (le_refl size))

  -- So are the vectors
  vector_same : (k : ℕ) → k < count_at 2 numbers → vector_numbers o (numbers ++ rest) k ≡ vector_numbers o numbers k
  vector_same k h =
      let size = vector_size (count_at 0 numbers) (count_at 1 numbers) in
      let start = vector_start o numbers k + own_count o in
      let room = vector_room k h in
      rw (header_same 0 (omega arith), header_same 1 (omega arith), drop-append-le start numbers rest (omega arith))
      (take-append-le size (drop start numbers) rest (omega (arith, length-drop start numbers)))

  rows_same : (k : ℕ) → k < count_at 2 numbers → vector_rows o (numbers ++ rest) k ≡ vector_rows o numbers k
  rows_same k h = λ j. rows_of (header_same 0 (omega arith) j) (header_same 1 (omega arith) j) (vector_same k h j)

  -- their owners
  owner_same : (k : ℕ) → k < count_at 2 numbers → owner_at o (numbers ++ rest) k ≡ owner_at o numbers k
  owner_same k h =
      owner_alike o (numbers ++ rest) numbers k (λ some.
      rw (header_same 0 (omega arith), header_same 1 (omega arith))
      (ap nat_abs (get_or-append numbers rest (pos 0) (vector_start o numbers k) (omega (arith, vector_room k h)))))

  -- and the block
  block_same : block_of o (numbers ++ rest) ≡ block_of o numbers
  unfolding block_of
  block_same =
      let vectors =
      ap (λ (n : ℕ). map (vector_rows o (numbers ++ rest)) (up_from 0 n)) (header_same 2 (omega arith))
      ∙ map-up_from (vector_rows o (numbers ++ rest)) (vector_rows o numbers) 0 (count_at 2 numbers) (λ k h. rows_same k (omega arith)) in
      let owners =
      ap (λ (n : ℕ). map (owner_at o (numbers ++ rest)) (up_from 0 n)) (header_same 2 (omega arith))
      ∙ map-up_from (owner_at o (numbers ++ rest)) (owner_at o numbers) 0 (count_at 2 numbers) (λ k h. owner_same k (omega arith)) in
      λ j. record {
        streams = header_same 0 (omega arith) j;
        width = header_same 1 (omega arith) j;
        clip = header_same 3 (omega arith) j;
        weak = header_same (weak_place o) (omega arith) j;
        share = header_same (share_place o) (omega arith) j;
        owners = owners j;
        vectors = vectors j;
      }

  placed_same : AllPlaced o numbers → AllPlaced o (numbers ++ rest)
  placed_same p k h =
      let l = rw (header_same 2 (omega arith)) at h in
      rw (vector_same k l, header_same 0 (omega arith), header_same 1 (omega arith)) (p k l)

-- A record that ended whole, ended
ended : (n : ℕ) (r : Read) (at : ℕ) → Ok at ≡ at_end n r → r ≡ Ok at
ended n (Ok next) at e = go (ltb next n) e
  where
    go : (b : Bool) → Ok at ≡ cond b (Err Trailing) (Ok next) → ◌≡◌ {A = Read} (Ok next) (Ok at)
    go true f = cc
    go false f = sym f
ended n (Err r) at e = cc

-- All vectors of a block in range are within the list
pub vectors_fit : (o : Layout) (list : List ℤ) → InRange (block_of o list)
    → header_size o + count_at 2 list * owned_size (own_count o) (count_at 0 list) (count_at 1 list) ≤ most_numbers
unfolding block_of
vectors_fit o list h =
    all_fit o (count_at 0 list) (count_at 1 list) (count_at 2 list) h.streams h.label
    (subst (λ (n : ℕ). n ≤ most_vectors) (vectors_count o list) h.vectors)

-- A list of which a record's reading, to its end, made another
module _ (bytes : List ℕ) (at : ℕ) (list list' : List ℤ) (room : length list ≡ most_numbers)
    (e : got (Ok at) list' ≡ into 0 (read_whole bytes) list) where
  lent_ended : (read_record bytes).read ≡ Ok at
  unfolding read_whole
  lent_ended = ended (length bytes) (read_record bytes).read at (ap (λ (g : Got). g.read) e)

  -- The list is as long as before
  pub lent_room : length list' ≡ most_numbers
  lent_room = into_length 0 (read_whole bytes) (Ok at) list list' e ∙ room

  lent_is : list' ≡ (read_record bytes).numbers ++ drop (length (read_record bytes).numbers) list
  unfolding read_whole
  lent_is =
      let numbers = (read_record bytes).numbers in
      let fit = vectors_fit (layout_of bytes) numbers (accepted_in_range bytes at lent_ended) in
      let all : 0 + length numbers ≡ length numbers = omega arith in
      ap (λ (g : Got). g.list) e ∙ sets-eq numbers list 0 (omega (arith, accepted_count bytes at lent_ended))
      ∙ ap (λ (n : ℕ). numbers ++ drop n list) all

  -- Its first numbers, as many as its own M, Q and N say, are the record's
  pub lent_numbers : take (header_size (layout_of bytes) + count_at 2 list' * owned_size (own_count (layout_of bytes)) (count_at 0 list') (count_at 1 list')) list' ≡ (read_whole bytes).numbers
  unfolding read_whole
  lent_numbers =
      let numbers = (read_record bytes).numbers in
      let rest = drop (length numbers) list in
      let count = accepted_count bytes at lent_ended in
      subst (λ (l : List ℤ). take (header_size (layout_of bytes) + count_at 2 l * owned_size (own_count (layout_of bytes)) (count_at 0 l) (count_at 1 l)) l ≡ numbers) (sym lent_is)
      (rw (header_same (layout_of bytes) numbers rest count 2 (omega arith), header_same (layout_of bytes) numbers rest count 0 (omega arith), header_same (layout_of bytes) numbers rest count 1 (omega arith), ← count)
      (take-append_seam numbers rest))

  -- Its block is the record's
  pub lent_block : block_of (layout_of bytes) list' ≡ block_of (layout_of bytes) (read_whole bytes).numbers
  unfolding read_whole
  lent_block = ap (block_of (layout_of bytes)) lent_is ∙ block_same (layout_of bytes) _ _ (accepted_count bytes at lent_ended)

  -- and in range
  pub lent_in_range : InRange (block_of (layout_of bytes) list')
  unfolding read_whole
  lent_in_range = subst InRange (sym lent_block) (accepted_in_range bytes at lent_ended)

  -- Its vectors are whole, and their numbers in range
  pub lent_placed : AllPlaced (layout_of bytes) list'
  lent_placed =
      let numbers = (read_record bytes).numbers in
      subst (AllPlaced (layout_of bytes)) (sym lent_is)
      (placed_same (layout_of bytes) numbers (drop (length numbers) list) (accepted_count bytes at lent_ended) (accepted_placed bytes at lent_ended))
