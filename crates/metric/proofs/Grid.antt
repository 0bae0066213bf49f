-- The constellation by rows: the children with one real label stand side by side.
use Prim.Native.Nat.{ℕ, ◌+◌, ◌-◌, ◌*◌, ◌/◌, ◌%◌, ◌^◌, ◌≤◌, ◌<◌}
use mathlib.Core.Path.{◌≡◌, ◌∙◌, ap}
use mathlib.Core.List.{List, map}
use mathlib.Core.Logic.{⊎_elim}
use native.Mathlib.Nat.{le_refl, le_of_lt, mul-le-mul, suc-mul, mul-add-div_right, div-eq_of_lt, mul-add-mod_self_right, mod-eq_of_lt}
use native.Mathlib.Nat.{mod-lt, div-add-mod'}
use native.Mathlib.Omega.{arith}
use borrow.Rule.Slice.PartMut.{put_mid}
use lib.ListN.{length, get_or, take, drop, length-take, length-drop}
use lib.Pow.{pow-add, pow_pos}
use lib.Seq.{get_or-take, get_or-drop}
use Rattle.std.proofs.lemmas.Bool.{cases_lt}
use Rattle.std.proofs.lemmas.List.{get_or-map, get_or_past, length-map}
use Rattle.metric.specs.Parts.{span, real_in, imaginary_in, child_metric, row_metric, measured_to, filled_from, AllSmall}
use Rattle.metric.proofs.Filled.{from_join, from_part}

-- As many rows as the real axis has labels are all children
pub rows_all : (q : ℕ) → 2 ^ (q - q / 2) * 2 ^ (q / 2) ≡ 2 ^ q
rows_all q = let e : q - q / 2 + q / 2 ≡ q = omega arith in rw (← pow-add 2 (q - q / 2) (q / 2), e)

pub row_room : (q a : ℕ) → a < 2 ^ (q - q / 2) → a * 2 ^ (q / 2) + 2 ^ (q / 2) ≤ 2 ^ q
row_room q a h = omega (arith, rows_all q, mul-le-mul h (le_refl (2 ^ (q / 2))), suc-mul a (2 ^ (q / 2)))

-- A part of a list of parts of keys has small entries too
pub small_part : (l : List ℕ) → AllSmall l → (n at : ℕ) → AllSmall (take n (drop at l))
small_part l small n at i =
    ⊎_elim
    (λ (h : i < n). rw (get_or-take n (drop at l) i 0 h ∙ get_or-drop at l i 0) (small (at + i)))
    (λ (h : n ≤ i). rw (get_or_past (take n (drop at l)) i 0 (simp length-take (omega arith))) (omega arith))
    (cases_lt i n)

-- Sums in their places, of `base` and parts that a rule gives
pub sums_written : (base at n : ℕ) (f : ℕ → ℕ) (parts keys : List ℕ) → at + n ≤ length keys → length parts ≡ n
    → ((i : ℕ) → i < n → base + get_or parts i 0 ≡ f i) → put_mid at n keys (map (λ part. base + part) parts) ≡ filled_from at f n keys
sums_written base at n f parts keys room size each =
    from_part at f n keys _ 0 room (length-map parts _ ∙ size) (λ i h. get_or-map _ parts i 0 0 (omega arith) ∙ each i h)

-- The keys of a row: its parts are the first ones of the imaginary labels
pub row_written : (base at n : ℕ) (axes keys : List ℕ) → span + n ≤ length axes → at + n ≤ length keys
    → put_mid at n keys (map (λ part. base + part) (take n (drop span axes))) ≡ filled_from at (row_metric base axes) n keys
unfolding row_metric
row_written base at n axes keys wide room =
    sums_written base at n _ (take n (drop span axes)) keys room (simp (length-take, length-drop) (omega arith))
    (λ b h. ap (λ (x : ℕ). base + x) (get_or-take n (drop span axes) b 0 h ∙ get_or-drop span axes b 0))

module _ (q partial : ℕ) (axes : List ℕ) where
  abbrev pub children_of : ℕ → ℕ
  children_of = child_metric q partial (real_in axes) (imaginary_in axes)

  -- A row's places are its children's
  pub row_at_lem : (a b : ℕ) → b < 2 ^ (q / 2) → row_metric (partial + real_in axes a) axes b ≡ children_of (a * 2 ^ (q / 2) + b)
  unfolding row_metric child_metric
  row_at_lem a b h =
      let d : (a * 2 ^ (q / 2) + b) / 2 ^ (q / 2) ≡ a = omega (arith, mul-add-div_right (pow_pos (q / 2)) a b, div-eq_of_lt h) in
      let r : (a * 2 ^ (q / 2) + b) % 2 ^ (q / 2) ≡ b = mul-add-mod_self_right a (2 ^ (q / 2)) b ∙ mod-eq_of_lt h in
      rw (d, r) (omega arith)

  -- The pass after a whole rows and b children of the next one
  pub row_to : (a b : ℕ) (keys : List ℕ) → b ≤ 2 ^ (q / 2)
      → filled_from (a * 2 ^ (q / 2)) (row_metric (partial + real_in axes a) axes) b (measured_to q partial axes (a * 2 ^ (q / 2)) keys)
      ≡ measured_to q partial axes (a * 2 ^ (q / 2) + b) keys
  unfolding measured_to
  row_to a b keys h = from_join (a * 2 ^ (q / 2)) _ children_of b keys (λ i l. row_at_lem a i (omega arith))

  -- After the first k children, for every k, the pass is in row k / n at column k % n, where n is the number of columns
  pub row_reached : (k : ℕ) (keys : List ℕ)
      → let a = k / 2 ^ (q / 2) in
      filled_from (a * 2 ^ (q / 2)) (row_metric (partial + real_in axes a) axes) (k % 2 ^ (q / 2)) (measured_to q partial axes (a * 2 ^ (q / 2)) keys)
      ≡ measured_to q partial axes k keys
  row_reached k keys =
      row_to (k / 2 ^ (q / 2)) (k % 2 ^ (q / 2)) keys (le_of_lt (mod-lt k (pow_pos (q / 2))))
      ∙ ap (λ (j : ℕ). measured_to q partial axes j keys) (div-add-mod' k (2 ^ (q / 2)))

  -- One row more
  pub row_more : (a n : ℕ) (keys before after : List ℕ) → n ≡ 2 ^ (q / 2) → before ≡ measured_to q partial axes (a * n) keys
      → after ≡ filled_from (a * n) (row_metric (partial + real_in axes a) axes) n before → after ≡ measured_to q partial axes ((a + 1) * n) keys
  row_more a n keys before after e eb ea =
      let next : a * 2 ^ (q / 2) + 2 ^ (q / 2) ≡ (a + 1) * 2 ^ (q / 2) = omega (arith, suc-mul a (2 ^ (q / 2))) in
      ea ∙ ap (filled_from (a * n) (row_metric (partial + real_in axes a) axes) n) eb
      ∙ rw e (row_to a (2 ^ (q / 2)) keys (le_refl _) ∙ ap (λ (k : ℕ). measured_to q partial axes k keys) next)
