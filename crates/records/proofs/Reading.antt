-- Numbers copied one after the other; and what the lent list holds once a record is read into it.
use Prim.Native.Nat.{ℕ, ◌+◌, ◌≤◌, ◌<◌}
use mathlib.Core.Path.{◌≡◌, sym, ◌∙◌, ap, subst}
use mathlib.Core.List.{List, ◌++◌}
use native.Mathlib.Numerals.{add-one}
use native.Mathlib.Omega.{arith}
use lib.ListN.{length, get_or, set, take, drop, drop_of_length-le, length-take}
use lib.Seq.{sets, sets-eq, drop-cons, get_or-take, length-take-le}
use lib.IntN.{ℤ, pos}
use Rattle.model.specs.Block.{most_vectors}
use Rattle.model.proofs.Bounds.{width_small}
use Rattle.block.specs.Reading.{count_at, layout_of, read_whole, Got, got, into, most_numbers}
use Rattle.block.specs.Contents.{block_of}
use Rattle.refusals.specs.Filling.{refused, fitted}
use Rattle.std.specs.Prelude.{Ok, Err}
use Rattle.refusals.specs.declared.Refusal.{Refusal}
use Rattle.block.proofs.Parts.{weak_few}
use Rattle.block.proofs.Places.{vectors_count}
use Rattle.block.proofs.Lent.{lent_room, lent_in_range, lent_numbers}
use Rattle.records.specs.Writing.{reading}
use Rattle.records.specs.Steps.{Sized, number_count}

-- The first `count` numbers of a list, from the i-th on
module _ (list : List ℤ) (count : ℕ) (numbers : List ℤ) (i : ℕ) where
  pub copied_more : i < count → count ≤ length list
      → sets numbers i (drop i (take count list)) ≡ sets (set numbers i (get_or list i (pos 0))) (i + 1) (drop (i + 1) (take count list))
  copied_more h l =
      let some : i < length (take count list) = omega (arith, length-take-le count list l) in
      rw (drop-cons (take count list) i (pos 0) some, add-one, get_or-take count list i (pos 0) h)

  pub copied_all : count ≤ i → sets numbers i (drop i (take count list)) ≡ numbers
  copied_all h = rw (drop_of_length-le (take count list) {i = i} (simp length-take (omega arith)))

-- From the start on: what is stored, and what was behind it
pub sets_start : (l zs : List ℤ) → length zs ≤ length l → sets l 0 zs ≡ zs ++ drop (length zs) l
sets_start l zs h =
    let e : 0 + length zs ≡ length zs = omega arith in sets-eq zs l 0 (omega arith) ∙ ap (λ (k : ℕ). zs ++ drop k l) e

-- A list of which a record's reading made another
module _ (bytes : List ℕ) (room : ℕ) (list list' : List ℤ) where
  -- Read to its end
  module _ (at : ℕ) (size : length list ≡ most_numbers) (e : got (Ok at) list' ≡ into 0 (read_whole bytes) list) where
    pub lent_sized : Sized (layout_of bytes) list'
    unfolding block_of
    lent_sized =
        let r = lent_in_range bytes at list list' size e in
        record {
          header = omega (arith, lent_room bytes at list list' size e, weak_few (layout_of bytes));
          stream = r.stream;
          streams = r.streams;
          width = width_small (count_at 1 list') r.width;
          label = r.label;
          vectors = subst (λ (n : ℕ). n ≤ most_vectors) (vectors_count (layout_of bytes) list') r.vectors;
        }

    pub read_ended : reading bytes room ≡ fitted room (take (number_count (layout_of bytes) list') list')
    unfolding reading
    read_ended = rw (← ap (λ (g : Got). g.read) e) (ap (fitted room) (sym (lent_numbers bytes at list list' size e)))

  -- Turned back
  pub read_refused : (r : Refusal) → got (Err r) list' ≡ into 0 (read_whole bytes) list → reading bytes room ≡ refused r
  unfolding reading
  read_refused r e = rw (← ap (λ (g : Got). g.read) e)
