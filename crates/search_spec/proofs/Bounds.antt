-- What stays within its range while the program searches: B and the minima only fall, the keys of a node in range are partial metrics of
-- the next level, which the sentinel is above, and a child's number has the bits of its level.
use Prim.Native.Nat.{ℕ, zero, suc, ◌+◌, ◌-◌, ◌*◌, ◌^◌, ◌≤◌, ◌<◌, min}
use mathlib.Core.Path.{◌≡◌, sym, ◌∙◌, ap, subst}
use mathlib.Core.Bool.{Bool, true, false, cond, beq}
use mathlib.Core.List.{List, [], ◌∷◌, ◌++◌}
use native.Mathlib.Decide.{ℕ_discrete}
use native.Mathlib.Nat.{le_refl, le_trans, lt_of_le_of_lt, mul-le-mul, suc-mul}
use native.Mathlib.Omega.{arith}
use lib.Dec.{ltb}
use lib.ListN.{length, get_or, set, replicate}
use lib.Seq.{get_or-set_other}
use lib.Pow.{pow-add, pow_pos}
use Rattle.model.specs.Constellation.{bits_of}
use Rattle.model.specs.Metric.{Row, Vector, metric_of, label_bits}
use Rattle.model.specs.Soft.{finite, pick}
use Rattle.model.specs.Block.{walked_labels, RowInRange, RowsInRange}
use Rattle.model.specs.Search.{Search, search}
use Rattle.model.proofs.Least.{pick_metric}
use Rattle.model.proofs.Lead.{some_leaf}
use Rattle.model.proofs.Search.{search_is}
use Rattle.model.proofs.Bounds.{largest_metric, increment_bound}
use Rattle.metric.specs.Keys.{metric_in}
use Rattle.metric.specs.Parts.{filled}
use Rattle.search_spec.specs.Arrays.{least_first}
use Rattle.metric.specs.Parts.{bit_of}
use Rattle.search_spec.specs.Program.{above, tried, side_of, largest_partial, Ranged, Taken, Kept, kept_of, fresh, lowered_at, lowered, noted}
use Rattle.search_spec.specs.Program.{no_row, chosen, partial_of, key_of, symbol_cost, child_in, keys_of, onward, siblings, test_of, below}
use Rattle.search_spec.proofs.Arrays.{least_below, set_each, Held, held_start}
use Rattle.search_spec.proofs.Answer.{rows_low, symbol_cheap, agrees_in}
use Rattle.search_spec.proofs.Keys.{key_low}

-- B and each minimum are at most what they were
pub record Falls (t u : Taken) : Type 0 where
  pub best : u.best ≤ t.best
  pub zeros : (i : ℕ) → get_or u.zeros i 0 ≤ get_or t.zeros i 0
  pub ones : (i : ℕ) → get_or u.ones i 0 ≤ get_or t.ones i 0

falls_refl : (t : Taken) → Falls t t
falls_refl t = record { best = le_refl t.best; zeros = λ i. le_refl _; ones = λ i. le_refl _ }

falls_trans : {t u w : Taken} → Falls t u → Falls u w → Falls t w
falls_trans f g = record {
  best = le_trans g.best f.best;
  zeros = λ i. le_trans (g.zeros i) (f.zeros i);
  ones = λ i. le_trans (g.ones i) (f.ones i);
}

filled_falls : (f : ℕ → ℕ) (us : List ℕ) → ((i : ℕ) → f i ≤ get_or us i 0) → (n i : ℕ) → get_or (filled f n us) i 0 ≤ get_or us i 0
unfolding filled
filled_falls f us h zero i = le_refl _
filled_falls f us h (suc n) i = go (ℕ_discrete i n) (filled_falls f us h n i)
  where
    go : Dec (i ≡ n) → get_or (filled f n us) i 0 ≤ get_or us i 0 → get_or (set (filled f n us) n (f n)) i 0 ≤ get_or us i 0
    go (yes e) ih = set_each (λ (x : ℕ). x ≤ get_or us i 0) (filled f n us) n (f n) i (rw e (h n)) ih
    go (no e) ih = rw (get_or-set_other (filled f n us) n i (f n) 0 e) ih

lowered_falls : (n : ℕ) (x : Bool) (label d : ℕ) (us : List ℕ) (i : ℕ) → get_or (lowered n x label d us) i 0 ≤ get_or us i 0
unfolding lowered_at
lowered_falls n x label d us i = filled_falls (lowered_at n x label d us) us (λ j. pick (beq (bit_of n label j) x) (get_or us j 0)) n i
  where
    pick : (b : Bool) (u : ℕ) → cond b (min d u) u ≤ u
    pick true u = omega arith
    pick false u = le_refl u

module _ (test : ℕ → ℕ → Taken → Bool) (sub : ℕ → ℕ → Kept → Kept) (n allowance : ℕ)
    (falls : (s d : ℕ) (k : Kept) → Falls k.taken (sub s d k).taken) where
  siblings_fall : (fuel : ℕ) (keys : List ℕ) (k : Kept) → Falls k.taken (siblings test sub n allowance fuel keys k).taken
  unfolding siblings
  siblings_fall zero keys k = falls_refl k.taken
  siblings_fall (suc fuel) keys k =
      go (test s d k.taken) (ltb k.count allowance) w.stopped (falls s d next) (siblings_fall fuel (set keys s tried))
    where
      s : ℕ
      s = least_first keys n

      d : ℕ
      d = get_or keys (least_first keys n) 0

      next : Kept
      next = kept_of (k.count + 1) k.stopped k.taken

      w : Kept
      w = sub s d next

      left : Kept → Kept
      left = siblings test sub n allowance fuel (set keys (least_first keys n) tried)

      go : (a b c : Bool) → Falls k.taken w.taken → ((u : Kept) → Falls u.taken (left u).taken)
          → Falls k.taken (cond a (cond b (onward c w (left w)) (kept_of k.count true k.taken)) (left k)).taken
      go true true true f ih = f
      go true true false f ih = falls_trans f (ih w)
      go true false c f ih = falls_refl k.taken
      go false b c f ih = ih k

-- The search below a node only lowers what is kept
pub below_falls : (v : Vector) (allowance level node d : ℕ) (k : Kept) → Falls k.taken (below v allowance level node d k).taken
unfolding below noted
below_falls v allowance zero node d k = record {
  best = omega arith;
  zeros = lowered_falls (label_bits v) false node d k.taken.zeros;
  ones = lowered_falls (label_bits v) true node d k.taken.ones;
}
below_falls v allowance (suc level) node d k =
    siblings_fall (test_of v level node) (λ s key. below v allowance level (child_in v level node s) (metric_in key)) (2 ^ v.width) allowance
    (λ s key. below_falls v allowance level (child_in v level node s) (metric_in key)) (2 ^ v.width) (keys_of v level node d) k

-- The same of its result
pub kept_falls : (v : Vector) (allowance level node d : ℕ) (k w : Kept) → w ≡ below v allowance level node d k
    → Falls k.taken w.taken
kept_falls v allowance level node d k w e =
    subst (λ (x : Kept). Falls k.taken x.taken) (sym e) (below_falls v allowance level node d k)

-- The sentinel is no metric
finite_side : (u m : ℕ) → side_of u ≡ finite m → u ≡ above → ⊥
unfolding side_of
finite_side u m e h = let z : ◌≡◌ {A = ℕ} 0 1 = cc in absurd (omega arith)

fresh_low : (room i : ℕ) → get_or (replicate room above) i 0 ≤ above
fresh_low zero i = omega arith
fresh_low (suc room) zero = omega arith
fresh_low (suc room) (suc i) = fresh_low room i

-- So at the end no minimum is above the sentinel
pub minima_low : (v : Vector) (allowance level node d room : ℕ) {count : ℕ} {stopped : Bool} {t : Taken}
    → kept_of count stopped t ≡ below v allowance level node d (fresh room)
    → (i : ℕ) → (get_or t.zeros i 0 ≤ above) × (get_or t.ones i 0 ≤ above)
minima_low v allowance level node d room {t} e i =
    let f = kept_falls v allowance level node d (fresh room) _ e in
    (le_trans (f.zeros i) (fresh_low room i), le_trans (f.ones i) (fresh_low room i))

-- and under an allowance of M nodes or more there is a best label: the first M nodes lead to a leaf
pub best_found : (v : Vector) → Ranged v → (allowance room : ℕ) → label_bits v ≤ room → length v.rows ≤ allowance
    → {count : ℕ} {stopped : Bool} {t : Taken} → kept_of count stopped t ≡ below v allowance (length v.rows) 0 0 (fresh room) → t.best < above
best_found v r allowance room wide most {count} {stopped} {t} e =
    lower (kept_falls v allowance (length v.rows) 0 0 (fresh room) _ e).best (finite_side t.best _ side)
  where
    side : side_of t.best ≡ finite (metric_of v (pick v (walked_labels v allowance)))
    side =
        subst (λ (k : Kept). side_of k.taken.best ≡ (search v allowance).least) (sym e) (agrees_in v r allowance room wide).least
        ∙ ap (λ (s : Search). s.least) (search_is v r.bit allowance)
        ∙ pick_metric v (walked_labels v allowance) (some_leaf v r.bit r.stream allowance most).1

    lower : {a b : ℕ} → a ≤ b → (a ≡ b → ⊥) → a < b
    lower h ne = omega arith

-- The first smallest of n = 2 ^ q keys is that of a symbol
pub symbol_inside : (keys : List ℕ) (q n s : ℕ) → n ≡ 2 ^ q → s ≡ least_first keys n → s < 2 ^ q
symbol_inside keys q n s en e = omega (arith, least_below keys n (omega (arith, pow_pos q)))

-- Every partial metric is below the sentinel
pub partial_low : (v : Vector) → Ranged v → (level : ℕ) → largest_partial v level < above
partial_low v r level = rows_low v r (length v.rows - level) (omega arith)

row_ranged : (q : ℕ) (rows : List Row) (i : ℕ) → i < length rows → RowsInRange q rows
    → RowInRange q (length rows - suc i) (get_or rows i no_row)
row_ranged q [] i h r = absurd (omega arith)
row_ranged q (x ∷ rows) zero h r = let e : length (x ∷ rows) - 1 ≡ length rows = omega arith in rw e r.0
row_ranged q (x ∷ rows) (suc i) h r =
    let e : length (x ∷ rows) - suc (suc i) ≡ length rows - suc i = omega arith in
    rw e (row_ranged q rows i (omega arith) r.1)

-- The bits chosen, of M = m streams
pub chosen_by_lem : (v : Vector) (m level : ℕ) → m ≡ length v.rows → chosen v level ≡ (m - level) * v.width
unfolding chosen
chosen_by_lem v m level e = rw e

-- A node with `level` streams to choose, and its children, with one less
module _ (v : Vector) (level : ℕ) (inner : level ≡ 0 → ⊥) (inside : level ≤ length v.rows) where
  -- A child has a symbol more
  pub chosen_step : chosen v (level - 1) ≡ v.width + chosen v level
  unfolding chosen
  chosen_step =
      let e : length v.rows - (level - 1) ≡ suc (length v.rows - level) = omega arith in
      ap (λ (m : ℕ). m * v.width) e ∙ omega (arith, suc-mul (length v.rows - level) v.width)

  -- Its number, of M = m streams
  pub child_by : (m node s child : ℕ) → m ≡ length v.rows → child ≡ s * 2 ^ ((m - level) * v.width) + node
      → child ≡ child_in v (level - 1) node s
  unfolding chosen
  child_by m node s child em e = let up : suc (level - 1) ≡ level = omega arith in rw (up, ← em) e

  -- has the bits of its level
  pub child_placed : (node s child : ℕ) → s < 2 ^ v.width → node < 2 ^ chosen v level → child ≡ child_in v (level - 1) node s
      → child < 2 ^ chosen v (level - 1)
  child_placed node s child hs hn e =
      let up : suc (level - 1) ≡ level = omega arith in
      rw (e, up, chosen_step, pow-add 2 v.width (chosen v level)) room
    where
      room : s * 2 ^ chosen v level + node < 2 ^ v.width * 2 ^ chosen v level
      room = omega (arith, suc-mul s (2 ^ chosen v level), mul-le-mul hs (le_refl (2 ^ chosen v level)))

  module _ (r : Ranged v) (d : ℕ) (low : d ≤ largest_partial v level) where
    -- Its partial metric is within those of its level
    pub partial_bound : (node s : ℕ) → partial_of v (level - 1) node d s ≤ largest_partial v (level - 1)
    unfolding partial_of largest_metric
    partial_bound node s =
        let more : length v.rows - (level - 1) ≡ suc (length v.rows - level) = omega arith in
        let same : length v.rows - suc (level - 1) ≡ length v.rows - level = omega arith in
        let row = rw same at (row_ranged v.width v.rows (level - 1) (omega arith) r.rows) in
        rw more (omega (arith, increment_bound row (bits_of v.width s ++ bits_of (chosen v (suc (level - 1))) node), low))

    -- which the sentinel is above
    pub partial_under : (node s : ℕ) → partial_of v (level - 1) node d s < above
    partial_under node s = lt_of_le_of_lt (partial_bound node s) (partial_low v r (level - 1))

    -- At first the keys are the children's own
    pub keys_held : (node : ℕ) (keys : List ℕ) → ((s : ℕ) → s < 2 ^ v.width → get_or keys s 0 ≡ key_of v (level - 1) node d s)
        → Held tried (2 ^ v.width) (key_of v (level - 1) node d) 0 keys
    keys_held node keys each =
        held_start tried (2 ^ v.width) (key_of v (level - 1) node d) keys
        (λ i h. key_low (partial_of v (level - 1) node d i) (symbol_cost v (level - 1) i) (partial_under node i) (symbol_cheap v r (level - 1) i)) each
