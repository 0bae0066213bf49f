-- What the program answers is document 01's answer: the searches agree (Below), and so do the answers that are read off them. A vector
-- in range has metrics below the sentinel; the room for the minima is any that holds the label's bits.
use Prim.Native.Nat.{ℕ, zero, suc, ◌*◌, ◌^◌, ◌≤◌, ◌<◌}
use mathlib.Core.Path.{◌≡◌, sym, ◌∙◌, ap, ap₂, subst}
use mathlib.Core.Bool.{Bool}
use mathlib.Core.List.{List, [], ◌∷◌, ◌++◌, map, reverse_aux}
use native.Mathlib.Nat.{le_refl, mul-le-mul}
use native.Mathlib.Omega.{arith}
use lib.IntN.{ℤ}
use lib.ListN.{length, get_or, drop, length-reverse_aux}
use lib.Pow.{pow_mono}
use Rattle.model.specs.Constellation.{Bits, bits_of}
use Rattle.model.specs.Metric.{Row, Vector, metric, label_bits, prior_at}
use Rattle.model.specs.Soft.{places, soft_value}
use Rattle.model.specs.Block.{Answer, empty_side, answer, Every, Within, RowsInRange, most_streams, most_width, most_bits, most_prior}
use Rattle.model.specs.Search.{search, value_at, search_answer}
use Rattle.model.proofs.Lists.{map-up_from}
use Rattle.model.proofs.Numbers.{length-bits_of}
use Rattle.model.proofs.Search.{search_answers}
use Rattle.model.proofs.Bounds.{prior_cost_bound, metric_bound, largest_metric, largest_rises, metric_largest}
use Rattle.metric.specs.Keys.{cost_room}
use Rattle.metric.specs.Parts.{filled}
use Rattle.search_spec.specs.Program.{above, symbol_cost, no_row, most_children, Ranged}
use Rattle.search_spec.specs.Program.{Taken, Kept, kept_of, fresh, below, value_of, answer_of, replied}
use Rattle.search_spec.proofs.Arrays.{filled_is}
use Rattle.search_spec.proofs.Agree.{Agrees}
use Rattle.search_spec.proofs.Below.{search_agrees}

-- The largest metric of so many rows is below the sentinel
pub largest_low : (q m : ℕ) → q ≤ most_width → m ≤ most_streams → m * q ≤ most_bits → largest_metric q m < above
largest_low q m h k few = omega (arith, metric_largest q m h k few)

-- What agrees gives one answer
same_answer : (v : Vector) (weak : ℕ) (k : Kept) (allowance : ℕ) → Agrees v (search v allowance) k
    → replied v weak k ≡ search_answer v weak (search v allowance)
unfolding replied search_answer value_of
same_answer v weak k allowance a = λ j. answer_of (a.stopped j) (a.count j) (a.label j) (soft j)
  where
    empty : Bool → ℕ
    empty stopped = empty_side stopped weak v.clip

    values : (e : ℕ) → map (value_of v e k.taken) (places v) ≡ map (value_at v e (search v allowance)) (places v)
    values e = map-up_from _ _ 0 (label_bits v) (λ i l.
        ap₂ (soft_value v.clip e (prior_at v i)) (a.ones.each i (omega arith)) (a.zeros.each i (omega arith)))

    soft : map (value_of v (empty k.stopped) k.taken) (places v)
        ≡ map (value_at v (empty (search v allowance).stopped) (search v allowance)) (places v)
    soft = values (empty k.stopped) ∙ ap (λ (t : Bool). map (value_at v (empty t) (search v allowance)) (places v)) a.stopped

-- The last rows of those in range are
last_rows : (q : ℕ) (todo done : List Row) → RowsInRange q (reverse_aux todo done) → RowsInRange q done
last_rows q [] done h = h
last_rows q (r ∷ todo) done h = (last_rows q todo (r ∷ done) h).1

-- The priors of a row are in range, and so are those of a row that is not there
priors_within : (q : ℕ) (rows : List Row) (i : ℕ) → RowsInRange q rows → Every (Within most_prior) (get_or rows i no_row).priors
priors_within q [] i h = tt
priors_within q (r ∷ rows) zero h = h.0.priors
priors_within q (r ∷ rows) (suc i) h = priors_within q rows i h.1

module _ (v : Vector) (r : Ranged v) where
  -- The largest metric of some of its rows is below the sentinel
  pub rows_low : (n : ℕ) → n ≤ length v.rows → largest_metric v.width n < above
  rows_low n h =
      omega (
        arith,
        largest_rises (le_refl v.width) n (length v.rows) h,
        largest_low v.width (length v.rows) r.bits r.streams r.label,
      )

  -- A node has at most so many children
  pub few_children : 2 ^ v.width ≤ most_children
  few_children = pow_mono r.bits

  -- Every partial metric is below the sentinel
  metric_low : (todo done : List Row) → reverse_aux todo done ≡ v.rows → (bits : Bits) → metric v.width done bits < above
  metric_low todo done e bits =
      let few : length done ≤ length v.rows = omega (arith, ap length e, length-reverse_aux todo done) in
      let ranged = last_rows v.width todo done (subst (RowsInRange v.width) (sym e) r.rows) in
      omega (arith, rows_low (length done) few, metric_bound v.width done ranged bits)

  -- Every symbol's prior cost has room in a key
  pub symbol_cheap : (level s : ℕ) → symbol_cost v level s < cost_room
  unfolding symbol_cost
  symbol_cheap level s =
      omega (
        arith,
        mul-le-mul r.bits (le_refl most_prior),
        ap (λ (n : ℕ). n * most_prior) (length-bits_of v.width s),
        prior_cost_bound (get_or v.rows level no_row).priors (bits_of v.width s) (priors_within v.width v.rows level r.rows),
      )

  -- What the program keeps is what the model's search keeps
  pub agrees_in : (allowance room : ℕ) → label_bits v ≤ room
      → Agrees v (search v allowance) (below v allowance (length v.rows) 0 0 (fresh room))
  agrees_in allowance room h = search_agrees v allowance metric_low symbol_cheap r.bit room h r.stream

  -- so its answer is the model's, whatever W is and under any allowance
  pub replied_is : (weak allowance room : ℕ) → label_bits v ≤ room
      → replied v weak (below v allowance (length v.rows) 0 0 (fresh room)) ≡ answer v weak allowance
  replied_is weak allowance room h =
      same_answer v weak _ allowance (agrees_in allowance room h) ∙ search_answers v r.bit allowance weak

  -- What a program has kept at the end
  module _ (weak allowance room : ℕ) (h : label_bits v ≤ room) {count : ℕ} {stopped : Bool} {t : Taken}
      (e : kept_of count stopped t ≡ below v allowance (length v.rows) 0 0 (fresh room)) where
    abbrev value : ℕ → ℤ
    value = value_of v (empty_side stopped weak v.clip) t

    -- is the model's answer
    pub answered : answer_of stopped count t.label (map value (places v)) ≡ answer v weak allowance
    unfolding replied
    answered = ap (replied v weak) e ∙ replied_is weak allowance room h

    -- with its soft values at the front of an array
    pub soft_is : (before : List ℤ) → label_bits v ≤ length before
        → filled value (label_bits v) before ≡ (answer v weak allowance).result.soft ++ drop (label_bits v) before
    soft_is before k =
        filled_is value (label_bits v) before k ∙ ap (λ (a : Answer). a.result.soft ++ drop (label_bits v) before) answered
