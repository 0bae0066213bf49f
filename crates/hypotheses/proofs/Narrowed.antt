-- A leaf that leaves the best label: its metric lowers minima and limits at its bits that are opposite to that label's, and nowhere else.
use Prim.Native.Nat.{ℕ, ◌+◌, ◌*◌, ◌<◌, ◌≤◌, min}
use mathlib.Core.Path.{◌≡◌, refl, sym, ◌∙◌, ap}
use mathlib.Core.Bool.{Bool, true, false, cond, ◌&&◌, beq}
use mathlib.Core.List.{List}
use native.Mathlib.Decide.{ℕ_discrete}
use native.Mathlib.Omega.{arith}
use lib.Dec.{leb, ltb}
use borrow.Author.Tests.{ltb-true, ltb-false, leb-true, leb-false}
use lib.ListN.{length, get_or, set, drop, length-set, length-drop}
use lib.Seq.{get_or-drop, get_or-set_same, get_or-set_other, length-take-le, ext_get_or}
use Rattle.model.specs.Block.{most_bits}
use Rattle.metric.specs.Parts.{bit_of, filled}
use Rattle.search_spec.specs.Program.{zeros_of, ones_of, limits_of, lowered_at}
use Rattle.metric.proofs.Filled.{filled_at, filled_rest, filled_length}
use Rattle.search_spec.proofs.Minima.{zero_at, one_at, limits_length}
use Rattle.hypotheses.specs.Limits.{minima_size, minimum_place, NarrowedTo, lowered_both, LowBeside}

-- A number after one more of d, where it is asked for
abbrev pub lowered_if : Bool → ℕ → ℕ → ℕ
lowered_if asked d u = cond asked (min d u) u

-- A label of metric d, whose bit j is given, is taken into that bit's minimum and limit, where it is asked for
pub record BitLowered (asked bit : Bool) (j d : ℕ) (old new : List ℕ) : Type 0 where
  pub side : (x : Bool) → j < most_bits → get_or new (minimum_place x j) 0 ≡ lowered_if (asked && beq bit x) d (get_or old (minimum_place x j) 0)
  pub limit : get_or new (2 * most_bits + j) 0 ≡ lowered_if asked d (get_or old (2 * most_bits + j) 0)

-- It is taken in at those of the bits from i on that are 1 in `opposed`, and at no others
pub record NarrowedFrom (n label opposed d i : ℕ) (old new : List ℕ) : Type 0 where
  pub size : length new ≡ length old
  pub seen : (j : ℕ) → i ≤ j → j < n → BitLowered (bit_of n opposed j) (bit_of n label j) j d old new
  pub others : (j : ℕ) → (j < n → j < i) → BitLowered false (bit_of n label j) j d old new

-- A bit's side is lowered, then its limit
pub both_lowered : {bit bit₀ : Bool} {at : ℕ} {mid new : List ℕ} (i d : ℕ) (old : List ℕ) → bit ≡ bit₀ → at ≡ minimum_place bit i
    → mid ≡ set old at (min d (get_or old at 0)) → new ≡ set mid (2 * most_bits + i) (min d (get_or mid (2 * most_bits + i) 0))
    → new ≡ lowered_both bit₀ i d old
both_lowered i d old e place side limit = rw (limit, side, place, e)

-- Two bits have their minima at different places
places_apart : (b x : Bool) {i j : ℕ} → i < most_bits → j < most_bits → (j ≡ i → ⊥) → minimum_place x j ≡ minimum_place b i → ⊥
places_apart false false h k other e = other e
places_apart false true h k other e = omega arith
places_apart true false h k other e = omega arith
places_apart true true h k other e = other (omega arith)

-- and these stand before the limits
before_limits : (x : Bool) {i : ℕ} (j : ℕ) → i < most_bits → minimum_place x i ≡ 2 * most_bits + j → ⊥
before_limits false j h e = omega arith
before_limits true j h e = omega arith

-- Of the two minima of a bit the one of its side is lowered
lowered_side : (b x : Bool) (i d : ℕ) (minima : List ℕ) → i < most_bits → length minima ≡ minima_size
    → get_or (set minima (minimum_place b i) (min d (get_or minima (minimum_place b i) 0))) (minimum_place x i) 0
    ≡ lowered_if (beq b x) d (get_or minima (minimum_place x i) 0)
lowered_side false false i d minima h whole = get_or-set_same minima i _ 0 (omega arith)
lowered_side false true i d minima h whole = get_or-set_other minima i (most_bits + i) _ 0 (λ e. omega arith)
lowered_side true false i d minima h whole = get_or-set_other minima (most_bits + i) i _ 0 (λ e. omega arith)
lowered_side true true i d minima h whole = get_or-set_same minima (most_bits + i) _ 0 (omega arith)

-- One bit's side and limit are lowered
module _ (b : Bool) (i d : ℕ) (old new : List ℕ) (room : i < most_bits) (whole : length new ≡ minima_size) where
  abbrev mid : List ℕ
  mid = set new (minimum_place b i) (min d (get_or new (minimum_place b i) 0))

  -- At another bit all is as before
  kept_bit : {asked bit : Bool} {j : ℕ} → (j ≡ i → ⊥) → BitLowered asked bit j d old new → BitLowered asked bit j d old (lowered_both b i d new)
  kept_bit {j = j} other before = record {
    side = λ x h.
        get_or-set_other mid (2 * most_bits + i) (minimum_place x j) _ 0 (before_limits x i h)
        ∙ get_or-set_other new (minimum_place b i) (minimum_place x j) _ 0 (places_apart b x room h other) ∙ before.side x h;
    limit =
        get_or-set_other mid (2 * most_bits + i) (2 * most_bits + j) _ 0 (λ e. other (omega arith))
        ∙ get_or-set_other new (minimum_place b i) (2 * most_bits + j) _ 0 (λ e. before_limits b j room (sym e)) ∙ before.limit;
  }

  -- At this bit both are lowered, and the other side is as before
  hit_bit : BitLowered false b i d old new → BitLowered true b i d old (lowered_both b i d new)
  hit_bit before = record {
    side = λ x h.
        get_or-set_other mid (2 * most_bits + i) (minimum_place x i) _ 0 (before_limits x i h) ∙ lowered_side b x i d new h whole
        ∙ ap (lowered_if (beq b x) d) (before.side x h);
    limit =
        get_or-set_same mid (2 * most_bits + i) _ 0 (omega (arith, length-set new (minimum_place b i) (min d (get_or new (minimum_place b i) 0))))
        ∙ ap (min d) (get_or-set_other new (minimum_place b i) (2 * most_bits + i) _ 0 (λ e. before_limits b i room (sym e)) ∙ before.limit);
  }

-- Before the first bit is seen nothing is lowered
pub none_narrowed : (n label opposed d : ℕ) (old : List ℕ) → NarrowedFrom n label opposed d n old old
none_narrowed n label opposed d old =
    record { size = refl; seen = λ j h k. absurd (omega arith); others = λ j h. record { side = λ x k. refl; limit = refl } }

-- The next bit that is 1 is seen
module _ {n label d i i' : ℕ} {old new : List ℕ} (opposed : ℕ) (before : NarrowedFrom n label opposed d i old new) (small : n ≤ most_bits)
    (whole : length new ≡ minima_size) (down : i' < i) (h : i ≤ n) (one : bit_of n opposed i' ≡ true)
    (zeros : (j : ℕ) → i' < j → j < i → bit_of n opposed j ≡ false) where
  abbrev after : List ℕ
  after = lowered_both (bit_of n label i') i' d new

  -- The other bits are as before
  kept : {asked bit : Bool} {j : ℕ} → (j ≡ i' → ⊥) → BitLowered asked bit j d old new → BitLowered asked bit j d old after
  kept = kept_bit (bit_of n label i') i' d old new (omega arith) whole

  -- Those from this bit on are seen: this one, the zeros behind it, and those that were seen
  seen_bit : (j : ℕ) → i' ≤ j → j < n → Dec (j ≡ i') → (b : Bool) → leb i j ≡ b → BitLowered (bit_of n opposed j) (bit_of n label j) j d old after
  seen_bit j k l (yes e) b f = rw (e, one) (hit_bit (bit_of n label i') i' d old new (omega arith) whole (before.others i' (λ m. down)))
  seen_bit j k l (no other) true f = kept other (before.seen j (leb-true i j f) l)
  seen_bit j k l (no other) false f = let m = leb-false i j f in kept other (rw (zeros j (omega arith) m) (before.others j (λ l. m)))

  -- No others are
  all_lowered : NarrowedFrom n label opposed d i' old after
  all_lowered = record {
    size = simp length-set before.size;
    seen = λ j k l. seen_bit j k l (ℕ_discrete j i') (leb i j) refl;
    others = λ j k. kept (λ e. omega (arith, k (omega arith))) (before.others j (λ l. omega (arith, k l)));
  }

  -- The same with what the loop leaves
  pub one_narrowed : {found : List ℕ} → found ≡ after → NarrowedFrom n label opposed d i' old found
  one_narrowed e = rw e all_lowered

-- A list that has its values at the first n places, and behind them what was there, is filled
filled_by : (f : ℕ → ℕ) (n : ℕ) (us vs : List ℕ) → length vs ≡ length us → n ≤ length us → ((j : ℕ) → j < n → get_or vs j 0 ≡ f j)
    → ((j : ℕ) → j < length vs → n ≤ j → get_or vs j 0 ≡ get_or us j 0) → vs ≡ filled f n us
filled_by f n us vs size room first behind =
    ext_get_or 0 vs (filled f n us) (size ∙ sym (filled_length f n us)) (λ j h. go j h (ltb j n) refl)
  where
    go : (j : ℕ) → j < length vs → (b : Bool) → ltb j n ≡ b → get_or vs j 0 ≡ get_or (filled f n us) j 0
    go j h true e = let k = ltb-true j n e in first j k ∙ sym (filled_at f n us j 0 k room)
    go j h false e = let k = ltb-false j n e in behind j h k ∙ sym (filled_rest f n us j 0 k)

-- The minima of one side
abbrev side_in : Bool → List ℕ → List ℕ
side_in x minima = cond x (ones_of minima) (zeros_of minima)

-- have their places in the array
side_at : (x : Bool) (minima : List ℕ) (j : ℕ) → j < most_bits → get_or (side_in x minima) j 0 ≡ get_or minima (minimum_place x j) 0
side_at false minima j h = sym (zero_at minima j h)
side_at true minima j h = sym (one_at minima j h)

-- and are as many as a label's bits
side_length : (x : Bool) (minima : List ℕ) → length minima ≡ minima_size → length (side_in x minima) ≡ most_bits
side_length false minima whole = length-take-le most_bits minima (omega arith)
side_length true minima whole = length-take-le most_bits (drop most_bits minima) (omega (arith, length-drop most_bits minima))

-- No bit before i is 1 in `opposed`, and where a bit is not opposed its side's minimum is not above d
module _ (opposed : ℕ) {n label d i : ℕ} {old new : List ℕ} (small : n ≤ most_bits) (whole : length old ≡ minima_size)
    (low : LowBeside n label opposed d old) (all : NarrowedFrom n label opposed d i old new)
    (none : (j : ℕ) → j < i → bit_of n opposed j ≡ false) where
  -- Each bit is seen,
  each : (j : ℕ) → j < n → BitLowered (bit_of n opposed j) (bit_of n label j) j d old new
  each j h = go (leb i j) refl
    where
      go : (b : Bool) → leb i j ≡ b → BitLowered (bit_of n opposed j) (bit_of n label j) j d old new
      go true e = all.seen j (leb-true i j e) h
      go false e = let k = leb-false i j e in rw (none j k) (all.others j (λ l. k))

  -- nothing behind the label's bits is,
  rest : (j : ℕ) → n ≤ j → BitLowered false (bit_of n label j) j d old new
  rest j h = all.others j (λ l. omega arith)

  -- and at a bit that is not opposed the side's minimum stays
  low_side : (o b x : Bool) (j : ℕ) → (o ≡ false → get_or old (minimum_place b j) 0 ≤ d)
      → lowered_if (o && beq b x) d (get_or old (minimum_place x j) 0) ≡ lowered_if (beq b x) d (get_or old (minimum_place x j) 0)
  low_side true b x j h = refl
  low_side false false false j h = omega (arith, h refl)
  low_side false false true j h = refl
  low_side false true false j h = refl
  low_side false true true j h = omega (arith, h refl)

  -- So either side is lowered by the bits of that side,
  filled_side : (x : Bool) → side_in x new ≡ filled (lowered_at n x label d (side_in x old)) n (side_in x old)
  unfolding lowered_at
  filled_side x =
      let size = side_length x new (all.size ∙ whole) in
      filled_by _ n (side_in x old) (side_in x new) (size ∙ sym (side_length x old whole)) (omega (arith, side_length x old whole))
      (λ j h.
      let k : j < most_bits = omega arith in
      side_at x new j k ∙ (each j h).side x k ∙ low_side (bit_of n opposed j) (bit_of n label j) x j (low j h)
      ∙ ap (lowered_if (beq (bit_of n label j) x) d) (sym (side_at x old j k)))
      (λ j h l. let k : j < most_bits = omega arith in side_at x new j k ∙ (rest j l).side x k ∙ sym (side_at x old j k))

  -- and the limits by the opposed bits
  filled_limits : limits_of new ≡ filled (lowered_at n true opposed d (limits_of old)) n (limits_of old)
  unfolding lowered_at
  filled_limits =
      filled_by _ n (limits_of old) (limits_of new) (omega (arith, limits_length new, limits_length old, all.size)) (omega (arith, limits_length old))
      (λ j h.
      get_or-drop (2 * most_bits) new j 0 ∙ (each j h).limit ∙ asked (bit_of n opposed j) (get_or old (2 * most_bits + j) 0)
      ∙ ap (lowered_if (beq (bit_of n opposed j) true) d) (sym (get_or-drop (2 * most_bits) old j 0)))
      (λ j h l. get_or-drop (2 * most_bits) new j 0 ∙ (rest j l).limit ∙ sym (get_or-drop (2 * most_bits) old j 0))
    where
      asked : (b : Bool) (u : ℕ) → lowered_if b d u ≡ lowered_if (beq b true) d u
      asked true u = refl
      asked false u = refl

  -- That is the label taken in
  pub all_narrowed : NarrowedTo n label opposed d n old new
  all_narrowed = record { sides = record { size = all.size; zeros = filled_side false; ones = filled_side true }; limits = filled_limits }
