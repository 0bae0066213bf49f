-- Vector k's priors, from 0, are the last of its numbers in the lent list.
use Prim.Native.Nat.{ℕ, ◌+◌, ◌-◌, ◌*◌, ◌≤◌, ◌<◌}
use mathlib.Core.Path.{◌≡◌, sym, ◌∙◌, ap}
use mathlib.Core.List.{List}
use native.Mathlib.Nat.{suc-mul, le_refl}
use native.Mathlib.Numerals.{add-one}
use native.Mathlib.Omega.{arith}
use lib.IntN.{ℤ}
use lib.ListN.{length, take, drop, length-drop}
use lib.Seq.{take-add, take-take, drop_at, drop-drop, length-take-le}
use Rattle.model.specs.Metric.{all_priors}
use Rattle.block.specs.Reading.{own_count, header_size, count_at, vector_size, owned_size, most_numbers}
use Rattle.block.specs.Contents.{vector_numbers, vector_rows}
use Rattle.block.specs.declared.Layout.{Layout}
use Rattle.block.proofs.Places.{all_priors_lem}
use Rattle.search.specs.Holds.{Holds}
use Rattle.search.proofs.Records.{vector_end}

-- Of n + m numbers the last m
last_part : (n m : ℕ) (l : List ℤ) → n + m ≤ length l → drop n (take (n + m) l) ≡ take m (drop n l)
last_part n m l h = ap (drop n) (take-add n m l) ∙ drop_at (take n l) (take m (drop n l)) n (length-take-le n l (omega arith))

module _ {o : Layout} {list : List ℤ} (held : Holds o list) {m q : ℕ} (em : m ≡ count_at 0 list) (eq : q ≡ count_at 1 list) (k : ℕ)
    (inside : k < count_at 2 list) where
  -- Where vector k ends, and where its priors begin
  abbrev end : ℕ
  end = header_size o + (k + 1) * owned_size (own_count o) m q

  abbrev from : ℕ
  from = end - m * q

  -- Its numbers begin behind its owner's
  abbrev start : ℕ
  start = header_size o + k * owned_size (own_count o) m q + own_count o

  end_is : end ≡ start + vector_size m q
  end_is = rw (add-one k) (omega (arith, suc-mul k (owned_size (own_count o) m q)))

  -- It ends within the list, and its priors within it
  pub end_small : end ≤ most_numbers
  end_small = omega (arith, end_is, vector_end o list held m q em eq k inside)

  pub bits_less : m * q ≤ end
  bits_less = omega (arith, end_is)

  -- Its priors
  pub priors_are : take (end - from) (drop from list) ≡ all_priors (vector_rows o list k)
  priors_are =
      let size : end - from ≡ m * q = omega (arith, bits_less) in
      let place : from ≡ start + (m * m + 2 * m) = omega (arith, end_is) in
      let room : m * m + 2 * m + m * q ≤ length (drop start list) = omega (arith, length-drop start list, held.room, end_is, end_small) in
      let same : take (m * q) (take (m * q) (drop (m * m + 2 * m) (drop start list))) ≡ take (m * q) (drop from list) =
      rw (take-take (m * q) (m * q) (drop (m * m + 2 * m) (drop start list)) (le_refl (m * q)), drop-drop, place) in
      let whole : all_priors (vector_rows o list k) ≡ take (m * q) (drop (m * m + 2 * m) (take (vector_size m q) (drop start list))) =
      rw (em, eq) (all_priors_lem (count_at 0 list) (count_at 1 list) (vector_numbers o list k)) in
      rw size (sym (whole ∙ ap (take (m * q)) (last_part (m * m + 2 * m) (m * q) (drop start list) room) ∙ same))

  -- as many as bits of a label
  pub priors_many : length (take (end - from) (drop from list)) ≡ m * q
  priors_many =
      let size : end - from ≡ m * q = omega (arith, bits_less) in
      let room : end - from ≤ length (drop from list) = omega (arith, length-drop from list, held.room, end_small) in
      length-take-le (end - from) (drop from list) room ∙ size
