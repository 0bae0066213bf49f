-- The limits are made behind the minima, or lowered there, and behind them what they give.
use Prim.Native.Nat.{ℕ, ◌+◌, ◌-◌, ◌*◌, ◌≤◌, ◌<◌, min}
use mathlib.Core.Path.{◌≡◌, refl, sym, ◌∙◌, ap, ap₂, subst}
use mathlib.Core.Bool.{Bool, true, false, cond, not, beq}
use mathlib.Core.List.{List, [], ◌∷◌, ◌++◌}
use native.Mathlib.Omega.{arith}
use lib.Bits.{bit_xor}
use lib.ListN.{length, get_or, take, drop, length-drop, drop_of_length-le}
use Rattle.model.specs.Metric.{Vector, label_bits, prior_at}
use Rattle.model.specs.Block.{most_bits}
use Rattle.metric.specs.Parts.{bit_of, filled}
use Rattle.metric.proofs.Filled.{filled_at, filled_rest, filled_length}
use Rattle.search_spec.specs.Program.{Taken, taken_in, zeros_of, ones_of, limits_of, reach_of, lowered_at, sooner, noted}
use Rattle.search_spec.proofs.Minima.{taken_kept, limits_are, limits_whole, limits_part, limits_length}
use Rattle.limits.specs.Reach.{limit_in, limits_size, StandsFor, Reaches, reaches_in}
use Rattle.metric.proofs.Opposite.{xor_opposite}
use Rattle.limits.proofs.Passing.{still_stands}
use Rattle.hypotheses.specs.Limits.{minima_size, up_of, limit_at, NarrowedTo, Renewed, limits_after}
use Rattle.hypotheses.proofs.Limits.{reaches_same}
use Rattle.hypotheses.proofs.Own.{zero_falls, one_falls}

append_nil : (l : List ℕ) → l ++ [] ≡ l
append_nil [] = refl
append_nil (x ∷ l) = ap (λ (t : List ℕ). x ∷ t) (append_nil l)

-- The part of the array that has the limits
abbrev pub lent_limits : List ℕ → List ℕ
lent_limits minima = take limits_size (drop (2 * most_bits) minima)

pub lent_is : (minima : List ℕ) → length minima ≡ minima_size → lent_limits minima ≡ limits_of minima
lent_is minima whole =
    let e : limits_size ≡ length minima - 2 * most_bits = omega arith in
    ap (λ (n : ℕ). take n (drop (2 * most_bits) minima)) e ∙ limits_part minima

pub lent_whole : (minima : List ℕ) → length minima ≡ minima_size → length (lent_limits minima) ≡ limits_size
lent_whole minima whole = ap length (lent_is minima whole) ∙ limits_length minima ∙ omega arith

-- Where the limits are right, and what they give is put behind them
module _ (v : Vector) (m : ℕ) (em : m ≡ length v.rows) (label best : ℕ) (mid : List ℕ)
    (whole : length mid ≡ minima_size)
    (right : (i : ℕ) → i < m * v.width → limit_in (limits_of mid) i ≡ limit_at v (taken_in label best mid) i)
    (new : List ℕ) (gives : Reaches v.width (limit_in (lent_limits mid)) new m) where
  abbrev after : List ℕ
  after = take (2 * most_bits) mid ++ (new ++ drop limits_size (drop (2 * most_bits) mid))

  after_is : after ≡ take (2 * most_bits) mid ++ new
  after_is =
      ap (λ (l : List ℕ). take (2 * most_bits) mid ++ (new ++ l))
      (drop_of_length-le (drop (2 * most_bits) mid) {i = limits_size} (omega (arith, length-drop (2 * most_bits) mid)))
      ∙ ap (λ (l : List ℕ). take (2 * most_bits) mid ++ l) (append_nil new)

  new_whole : length new ≡ length mid - 2 * most_bits
  new_whole = gives.size ∙ omega arith

  kept_after : taken_in label best after ≡ taken_in label best mid
  kept_after = ap (taken_in label best) after_is ∙ taken_kept mid (omega arith) new label best

  same : (i : ℕ) → i < m * v.width → limit_in (lent_limits mid) i ≡ limit_at v (taken_in label best after) i
  same i h = ap (λ (l : List ℕ). get_or l i 0) (lent_is mid whole) ∙ right i h ∙ ap (λ (t : Taken). limit_at v t i) (sym kept_after)

  pub limits_after_lem : limits_of after ≡ new
  limits_after_lem = ap limits_of after_is ∙ limits_are mid (omega arith) new

  pub renewed : Renewed v label best mid after
  renewed = record {
    size = ap length after_is ∙ limits_whole mid (omega arith) new new_whole;
    kept = kept_after;
    reached = rw limits_after_lem
        (subst (Reaches v.width (limit_at v (taken_in label best after)) new) em (reaches_same same gives));
  }

-- All limits are made
module _ (v : Vector) (m : ℕ) (few : m * v.width ≤ most_bits) (label best : ℕ) (old mid : List ℕ) (whole : length old ≡ minima_size)
    (filled_in : mid ≡ take (2 * most_bits) old ++ filled (limit_at v (taken_in label best old)) (m * v.width) (limits_of old)) where
  abbrev limits : List ℕ
  limits = filled (limit_at v (taken_in label best old)) (m * v.width) (limits_of old)

  pub made_whole : length mid ≡ minima_size
  made_whole =
      ap length filled_in ∙ limits_whole old (omega arith) limits (filled_length _ _ (limits_of old) ∙ limits_length old) ∙ whole

  pub made_kept : taken_in label best mid ≡ taken_in label best old
  made_kept = ap (taken_in label best) filled_in ∙ taken_kept old (omega arith) limits label best

  pub made_limits : limits_of mid ≡ limits
  made_limits = ap limits_of filled_in ∙ limits_are old (omega arith) limits

  pub made_right : (i : ℕ) → i < m * v.width → limit_in (limits_of mid) i ≡ limit_at v (taken_in label best mid) i
  made_right i h =
      ap (λ (l : List ℕ). get_or l i 0) made_limits
      ∙ filled_at (limit_at v (taken_in label best old)) (m * v.width) (limits_of old) i 0 h (omega (arith, limits_length old, whole))
      ∙ ap (λ (t : Taken). limit_at v t i) (sym made_kept)

-- A leaf's bit x and the best label's b: the limit falls with the least metric that is opposite to b, where x is
limit_falls : (x b : Bool) (zeros ones zeros' ones' : List ℕ) (i d far : ℕ)
    → get_or zeros' i 0 ≡ cond (beq x false) (min d (get_or zeros i 0)) (get_or zeros i 0)
    → get_or ones' i 0 ≡ cond (beq x true) (min d (get_or ones i 0)) (get_or ones i 0)
    → cond (beq (not (beq x b)) true) (min d (min (get_or (cond b zeros ones) i 0) far)) (min (get_or (cond b zeros ones) i 0) far)
    ≡ min (get_or (cond b zeros' ones') i 0) far
limit_falls true true zeros ones zeros' ones' i d far ez eo = omega (arith, ez)
limit_falls true false zeros ones zeros' ones' i d far ez eo = omega (arith, eo)
limit_falls false true zeros ones zeros' ones' i d far ez eo = omega (arith, ez)
limit_falls false false zeros ones zeros' ones' i d far ez eo = omega (arith, eo)

-- A leaf of metric d leaves the best label: the limits that it narrows are those of the minima that it lowers
module _ (v : Vector) (m : ℕ) (em : m ≡ length v.rows) (few : m * v.width ≤ most_bits) (label best node d : ℕ) (old mid : List ℕ)
    (whole : length old ≡ minima_size) (reached : Reaches v.width (limit_at v (taken_in label best old)) (limits_of old) m)
    (narrowed : NarrowedTo (m * v.width) node (bit_xor node label) d (m * v.width) old mid) where
  abbrev n : ℕ
  n = m * v.width

  pub narrowed_whole : length mid ≡ minima_size
  narrowed_whole = narrowed.sides.size ∙ whole

  limit_is : (i : ℕ) → i < n → limit_in (limits_of mid) i ≡ lowered_at n true (bit_xor node label) d (limits_of old) i
  limit_is i h =
      ap (λ (l : List ℕ). get_or l i 0) narrowed.limits ∙ filled_at _ n (limits_of old) i 0 h (omega (arith, limits_length old))

  pub narrowed_right : (i : ℕ) → i < n → limit_in (limits_of mid) i ≡ limit_at v (taken_in label best mid) i
  unfolding lowered_at limit_at
  narrowed_right i h =
      let bits : n ≡ label_bits v = ap (λ (k : ℕ). k * v.width) em in
      let b = bit_of (label_bits v) label i in
      let far = up_of (reach_of b (best + v.clip) (prior_at v i)) in
      let u = limit_at v (taken_in label best old) i in
      limit_is i h
      ∙ ap₂ (λ (y : Bool) (u : ℕ). cond (beq y true) (min d u) u) (xor_opposite n node label i) (reached.own i h)
      ∙ ap (λ (k : ℕ). cond (beq (not (beq (bit_of n node i) (bit_of k label i))) true) (min d u) u) bits
      ∙ limit_falls (bit_of n node i) b (zeros_of old) (ones_of old) (zeros_of mid) (ones_of mid) i d far (zero_falls few whole narrowed.sides i h) (one_falls few whole narrowed.sides i h)

  -- and the entries of the streams where the leaf is the best label's stay right
  unopposed : (i : ℕ) → i < n → bit_of n (bit_xor node label) i ≡ false → limit_in (lent_limits mid) i ≡ limit_at v (taken_in label best old) i
  unfolding lowered_at
  unopposed i h e =
      ap (λ (l : List ℕ). get_or l i 0) (lent_is mid narrowed_whole) ∙ limit_is i h
      ∙ ap (λ (y : Bool). cond (beq y true) (min d (limit_in (limits_of old) i)) (limit_in (limits_of old) i)) e ∙ reached.own i h

  pub narrowed_stands : StandsFor m v.width (bit_xor node label) (lent_limits mid)
  narrowed_stands =
      still_stands m v.width (bit_xor node label) reached (lent_limits mid)
      (λ i h.
      ap (λ (l : List ℕ). get_or l i 0) (lent_is mid narrowed_whole ∙ narrowed.limits) ∙ filled_rest _ n (limits_of old) i 0 (omega arith))
      unopposed

-- The limits after a leaf, which is the best label or not
module _ (v : Vector) (m node d : ℕ) (t : Taken) (limits : List ℕ) where
  abbrev chosen_by : Bool → List ℕ
  chosen_by b =
      reaches_in v.width
      (filled (cond b (limit_at v (noted v node d t)) (lowered_at (m * v.width) true (bit_xor node t.label) d limits)) (m * v.width) limits) m

  pub after_other : sooner v d node t.best t.label ≡ false
      → reaches_in v.width (filled (lowered_at (m * v.width) true (bit_xor node t.label) d limits) (m * v.width) limits) m
      ≡ limits_after v m node d t limits
  unfolding limits_after
  after_other e = ap chosen_by (sym e)

  pub after_best : sooner v d node t.best t.label ≡ true → (kept : Taken) (same : List ℕ) → kept ≡ noted v node d t → same ≡ limits
      → reaches_in v.width (filled (limit_at v kept) (m * v.width) same) m ≡ limits_after v m node d t limits
  unfolding limits_after
  after_best e kept same ek es =
      ap₂ (λ (k : Taken) (l : List ℕ). reaches_in v.width (filled (limit_at v k) (m * v.width) l) m) ek es ∙ ap chosen_by (sym e)
