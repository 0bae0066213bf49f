-- A limit as one number says what the two bounds say together; an array that has what the limits give, and one whose places are all the
-- same, may be lent where limits are asked.
use Prim.Native.Nat.{ℕ, ◌+◌, ◌-◌, ◌*◌, ◌^◌, ◌≤◌, ◌<◌, min}
use mathlib.Core.Path.{◌≡◌, refl, sym, ◌∙◌, ap}
use mathlib.Core.Bool.{Bool, true, false, cond, ◌&&◌}
use mathlib.Core.List.{List}
use native.Mathlib.Nat.{add-mul}
use native.Mathlib.Omega.{arith}
use lib.Dec.{ltb}
use borrow.Author.Tests.{lt-ltb, le-ltb, ltb-true, ltb-false}
use lib.ListN.{length, get_or, drop, replicate, length-replicate, get_or-replicate}
use lib.Seq.{get_or-take, get_or-drop}
use lib.IntN.{ℤ, pos, negsuc}
use lib.Pow.{pow_pos, pow_mono}
use lib.Signed.{lt_z}
use Rattle.model.specs.Metric.{Vector, label_bits, prior_at}
use Rattle.model.specs.Block.{most_streams, most_width}
use Rattle.metric.specs.Parts.{axis_width, span, bit_of}
use Rattle.axes.specs.Tables.{Axis, axis_bits}
use Rattle.axes.specs.Tables.Axis.{real, imaginary}
use Rattle.axes.proofs.Tables.{axis_few}
use Rattle.search_spec.specs.Program.{Taken, reach_of, reaches}
use Rattle.search_spec.proofs.Reach.{widest_same}
use Rattle.bounding.specs.Axes.{WidestLast, ByBits}
use Rattle.limits.specs.Reach.{limits_size, entry_place, entries_of, axis_start, axis_reach, Reaches}
use Rattle.limits.proofs.Passing.{entries_widest}
use Rattle.hypotheses.specs.Limits.{up_of, limit_at, LimitsAsked, OwnLow, Limited}

up_is : (d : ℕ) (z : ℤ) → lt_z (pos d) z ≡ ltb d (up_of z)
unfolding up_of
up_is d (pos n) = refl
up_is d (negsuc n) = sym (le-ltb d 0 (omega arith))

ltb_min : (d a b : ℕ) → ltb d (min a b) ≡ (ltb d a && ltb d b)
ltb_min d a b = go (ltb d a) refl (ltb d b) refl
  where
    go : (x : Bool) → ltb d a ≡ x → (y : Bool) → ltb d b ≡ y → ltb d (min a b) ≡ (x && y)
    go true e true f = lt-ltb d (min a b) (omega (arith, ltb-true d a e, ltb-true d b f))
    go true e false f = le-ltb d (min a b) (omega (arith, ltb-false d b f))
    go false e y f = le-ltb d (min a b) (omega (arith, ltb-false d a e))

-- Below a bit's limit is below both bounds
pub reaches_limit : (v : Vector) (t : Taken) (d i : ℕ) → reaches v t d i ≡ ltb d (limit_at v t i)
unfolding reaches limit_at
reaches_limit v t d i =
    let b = bit_of (label_bits v) t.label i in
    let u = get_or (cond b t.zeros t.ones) i 0 in
    let z = reach_of b (t.best + v.clip) (prior_at v i) in
    ap (λ (x : Bool). ltb d u && x) (up_is d z) ∙ sym (ltb_min d u (up_of z))

-- The limits decide what they give
pub reaches_same : {q k : ℕ} {f g : ℕ → ℕ} {limits : List ℕ} → ((i : ℕ) → i < k * q → f i ≡ g i) → Reaches q f limits k → Reaches q g limits k
unfolding axis_reach
reaches_same {q} {k} {f} {g} {limits} same r = record {
  size = r.size;
  own = λ i h. r.own i h ∙ same i h;
  first = λ level h. r.first level h
      ∙ widest_same _ _ f g 0 (level * q) (λ i _ l. same i (omega (arith, part level (k - level) (omega arith))));
  entry = λ j h x e l. r.entry j h x e l
      ∙ widest_same _ _ f g (axis_start q j x) (axis_bits q x)
      (λ i _ m. ap (λ (y : ℕ). cond (bit_of (axis_bits q x) e (i - axis_start q j x)) y 0) (same i (omega (arith, part (j + 1) (k - (j + 1)) (omega arith), within j x))));
}
  where
    part : (a b : ℕ) → k ≡ a + b → k * q ≡ a * q + b * q
    part a b e = ap (λ (x : ℕ). x * q) e ∙ add-mul a b q

    within : (j : ℕ) (x : Axis) → axis_start q j x + axis_bits q x ≤ (j + 1) * q
    within j real = omega (arith, add-mul j 1 q)
    within j imaginary = omega (arith, add-mul j 1 q)

-- An array that has what the limits give may be lent where limits are asked
pub reached_limited : {v : Vector} {t : Taken} {limits : List ℕ} → v.width ≤ most_width → t.label < 2 ^ label_bits v → OwnLow v t
    → Reaches v.width (limit_at v t) limits (length v.rows) → Limited v t limits
reached_limited few placed low made = record {
  placed = placed;
  asked = record {
    size = made.size;
    widest = λ j h. entries_widest made j h few;
  };
  own = λ _. low;
  exact = λ _. made;
}

-- Limits that are all the same may be lent: none is wider than another
module _ (m q a : ℕ) (streams : m ≤ most_streams) (bits : q ≤ most_width) where
  abbrev alike : List ℕ
  alike = replicate limits_size a

  at : (i : ℕ) → i < limits_size → get_or alike i 0 ≡ a
  at i h = get_or-replicate limits_size i a 0 h

  entry_at : (j i : ℕ) → j < m → i < 2 * span → get_or (entries_of alike j) i 0 ≡ a
  entry_at j i h k =
      get_or-take (2 * span) (drop (entry_place j real) alike) i 0 k ∙ get_or-drop (entry_place j real) alike i 0
      ∙ at (entry_place j real + i) (omega arith)

  -- The last entry of an axis is the widest
  widest_at : (j from w : ℕ) → j < m → from ≤ span → w ≤ axis_width → WidestLast (entries_of alike j) from w
  widest_at j from w h k few g l =
      omega (
        arith,
        entry_at j (from + g) h (omega (arith, pow_mono few)),
        entry_at j (from + (2 ^ w - 1)) h (omega (arith, pow_mono few, pow_pos w)),
      )

  -- An entry is that of no bit
  bits_at : (j from w : ℕ) → j < m → from ≤ span → w ≤ axis_width → ByBits (entries_of alike j) from w
  bits_at j from w h k few g bound l none bits =
      omega (arith, entry_at j (from + g) h (omega (arith, pow_mono few)), entry_at j from h (omega arith), none)

  pub all_same : LimitsAsked m q alike
  all_same = record {
    size = length-replicate limits_size a;
    widest = λ j h. record {
      real = widest_at j 0 (axis_bits q real) h (omega arith) (axis_few q real bits);
      imaginary = widest_at j span (axis_bits q imaginary) h (omega arith) (axis_few q imaginary bits);
      real_bits = bits_at j 0 (axis_bits q real) h (omega arith) (axis_few q real bits);
      imaginary_bits = bits_at j span (axis_bits q imaginary) h (omega arith) (axis_few q imaginary bits);
    };
  }
