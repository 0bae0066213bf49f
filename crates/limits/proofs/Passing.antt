-- What the pass test reads off the array: the limits of a node's bits that are opposite to the best label's.
use Prim.Native.Nat.{ℕ, zero, suc, ◌+◌, ◌-◌, ◌*◌, ◌/◌, ◌%◌, ◌^◌, ◌≤◌, ◌<◌, max}
use mathlib.Core.Path.{◌≡◌, refl, sym, ◌∙◌, ap, ap₂}
use mathlib.Core.Bool.{Bool, true, false, cond}
use mathlib.Core.List.{List}
use native.Mathlib.Nat.{mod-lt, suc-mul, add-mul, mul-le-mul, zero-mul, zero-div, le_refl, mod-eq_of_lt, pow-suc}
use native.Mathlib.Omega.{arith}
use lib.Dec.{eqb}
use lib.ListN.{get_or, drop}
use lib.Seq.{get_or-take, get_or-drop}
use lib.Bits.{bit_xor, xor_shr, xor_mod}
use lib.Pow.{pow_pos, pow_mono, ones_lt, ones_split, high, low, field, mod-mod-pow}
use Rattle.model.specs.Block.{most_width, most_bits}
use Rattle.metric.specs.Parts.{span, bit_of}
use Rattle.axes.specs.Tables.{Axis, axis_bits}
use Rattle.axes.specs.Tables.Axis.{real, imaginary}
use Rattle.axes.proofs.Tables.{axis_few}
use Rattle.bounding.specs.Axes.{WidestLast, ByBits}
use Rattle.bounding.specs.Cut.{Widest}
use Rattle.search_spec.specs.Reach.{widest_of}
use Rattle.search_spec.proofs.Reach.{widest_ge, widest_split, widest_same, symbol_bit}
use Rattle.limits.specs.Reach.{limit_in, axis_entries, entry_place, axis_start, axis_reach, stream_reach, symbol_of, chosen_reach}
use Rattle.limits.specs.Reach.{StandsFor, Reaches, entries_of}
use Rattle.limits.proofs.Axes.{axis_same, all_ones}
use Rattle.limits.proofs.Streams.{stream_is}

-- The limits of all bits are at least as wide as those of some
widest_all : (pick : ℕ → Bool) (limit : ℕ → ℕ) (a n : ℕ) → widest_of pick limit a n ≤ widest_of (λ _. true) limit a n
unfolding widest_of
widest_all pick limit a zero = le_refl 0
widest_all pick limit a (suc n) = go (pick a) (widest_all pick limit (suc a) n)
  where
    go : (b : Bool) → widest_of pick limit (suc a) n ≤ widest_of (λ _. true) limit (suc a) n
        → max (cond b (limit a) 0) (widest_of pick limit (suc a) n) ≤ max (limit a) (widest_of (λ _. true) limit (suc a) n)
    go true h = omega arith
    go false h = omega arith

-- A bound that no picked limit is above is not below the widest
widest_le : (pick : ℕ → Bool) (limit : ℕ → ℕ) (bound a n : ℕ)
    → ((i : ℕ) → a ≤ i → i < a + n → pick i ≡ true → limit i ≤ bound) → widest_of pick limit a n ≤ bound
unfolding widest_of
widest_le pick limit bound a zero h = omega arith
widest_le pick limit bound a (suc n) h =
    go (pick a) refl (widest_le pick limit bound (suc a) n (λ i k l. h i (omega arith) (omega arith)))
  where
    go : (b : Bool) → pick a ≡ b → widest_of pick limit (suc a) n ≤ bound
        → max (cond b (limit a) 0) (widest_of pick limit (suc a) n) ≤ bound
    go true e later = omega (arith, h a (omega arith) (omega arith) e)
    go false e later = omega arith

-- The label of w bits of which bit i alone is 1 is one of the labels
single_few : (w i : ℕ) → i < w → 2 ^ (w - suc i) < 2 ^ w
single_few w i h =
    let up : suc (w - suc i) ≤ w = omega arith in
    omega (arith, pow-suc 2 (w - suc i), pow_mono up, pow_pos (w - suc i))

-- and that bit is 1 in it
single_bit : (w i : ℕ) → bit_of w (2 ^ (w - suc i)) i ≡ true
unfolding bit_of
single_bit w i =
    let e = w - suc i in
    let d : 2 ^ e ≡ 1 * 2 ^ e + 0 = omega arith in
    ap (λ (y : ℕ). eqb (y % 2) 1) (ap (λ (y : ℕ). y / 2 ^ e) d ∙ high 1 e (pow_pos e))

-- A stream's entries
module _ {q : ℕ} {limit : ℕ → ℕ} {limits : List ℕ} {k : ℕ} (made : Reaches q limit limits k) (j : ℕ) (inside : j < k) where
  -- On either axis that of the label whose bits are all 1 is the widest
  axis_widest : (x : Axis) (g : ℕ) → g < 2 ^ axis_bits q x
      → get_or limits (entry_place j x + g) 0 ≤ get_or limits (entry_place j x + (2 ^ axis_bits q x - 1)) 0
  unfolding axis_reach
  axis_widest x g h =
      let w = axis_bits q x in
      let at = axis_start q j x in
      omega (
        arith,
        made.entry j inside x g h,
        made.entry j inside x (2 ^ w - 1) (ones_lt w),
        all_ones limit at w,
        widest_all (λ i. bit_of w g (i - at)) limit at w,
      )

  -- and none is wider than the single bits that are 1 in its label
  axis_bits_lem : (x : Axis) (g bound : ℕ) → g < 2 ^ axis_bits q x
      → ((i : ℕ) → i < axis_bits q x → bit_of (axis_bits q x) g i ≡ true
      → get_or limits (entry_place j x + 2 ^ (axis_bits q x - suc i)) 0 ≤ bound)
      → get_or limits (entry_place j x + g) 0 ≤ bound
  unfolding axis_reach
  axis_bits_lem x g bound h bits =
      let w = axis_bits q x in
      let at = axis_start q j x in
      let limited : widest_of (λ i. bit_of w g (i - at)) limit at w ≤ bound = widest_le _ limit bound at w
      (λ i k l e.
      let r = i - at in
      let s = 2 ^ (w - suc r) in
      omega (
        arith,
        bits r (omega arith) e,
        made.entry j inside x s (single_few w r (omega arith)),
        widest_ge (λ n. bit_of w s (n - at)) limit at w i k l (single_bit w r),
      )) in
      omega (arith, made.entry j inside x g h, limited)

  -- An axis's entries, lent by themselves
  module _ (x : Axis) (from : ℕ) (e : entry_place j x ≡ entry_place j real + from) (room : from + 2 ^ axis_bits q x ≤ 2 * span) where
    -- are those of the array
    place : (i : ℕ) → i < 2 ^ axis_bits q x → get_or (entries_of limits j) (from + i) 0 ≡ get_or limits (entry_place j x + i) 0
    place i l =
        let p : entry_place j real + (from + i) ≡ entry_place j x + i = omega arith in
        get_or-take (2 * span) (drop (entry_place j real) limits) (from + i) 0 (omega arith)
        ∙ get_or-drop (entry_place j real) limits (from + i) 0 ∙ ap (λ (n : ℕ). get_or limits n 0) p

    -- So the last is the widest
    last_widest : WidestLast (entries_of limits j) from (axis_bits q x)
    last_widest g h = omega (arith, place g h, place (2 ^ axis_bits q x - 1) (ones_lt (axis_bits q x)), axis_widest x g h)

    -- and none is wider than its single bits
    by_bits : ByBits (entries_of limits j) from (axis_bits q x)
    by_bits g bound h none bits =
        let each = axis_bits_lem x g bound h
        (λ i l t. omega (arith, place (2 ^ (axis_bits q x - suc i)) (single_few (axis_bits q x) i l), bits i l t)) in
        omega (arith, place g h, each)

  -- Both hold of both axes
  pub entries_widest : q ≤ most_width → Widest q (entries_of limits j)
  entries_widest few =
      let first : 0 + 2 ^ axis_bits q real ≤ 2 * span = omega (arith, pow_mono (axis_few q real few)) in
      let second : span + 2 ^ axis_bits q imaginary ≤ 2 * span = omega (arith, pow_mono (axis_few q imaginary few)) in
      record {
        real = last_widest real 0 (omega arith) first;
        imaginary = last_widest imaginary span (omega arith) second;
        real_bits = by_bits real 0 (omega arith) first;
        imaginary_bits = by_bits imaginary span (omega arith) second;
      }

-- What the streams from `level` on give, by the bits of the label
module _ (m q : ℕ) {limit : ℕ → ℕ} {limits : List ℕ} (made : Reaches q limit limits m) (bits : ℕ) where
  symbol_reach_lem : (j : ℕ) → j < m → stream_reach q limits j (symbol_of m q bits j) ≡ widest_of (bit_of (m * q) bits) limit (j * q) q
  unfolding axis_reach
  symbol_reach_lem j h =
      stream_is q limit limits j (symbol_of m q bits j) (made.entry j h) (mod-lt (bits / 2 ^ ((m - suc j) * q)) (pow_pos q))
      ∙ widest_same _ (bit_of (m * q) bits) limit limit (j * q) q
      (λ i k l.
      let e : i ≡ j * q + (i - j * q) = omega arith in
      ap (λ (b : Bool). cond b (limit i) 0) (sym (ap (bit_of (m * q) bits) e ∙ symbol_bit m q bits j (i - j * q) h (omega arith))))

  streams_are : (n level : ℕ) → level + n ≡ m
      → widest_of (λ _. true) (λ j. stream_reach q limits j (symbol_of m q bits j)) level n
      ≡ widest_of (bit_of (m * q) bits) limit (level * q) (n * q)
  unfolding widest_of
  streams_are zero level e = rw (zero-mul q)
  streams_are (suc n) level e =
      let f : suc n * q ≡ q + n * q = omega (arith, suc-mul n q) in
      let g : suc level * q ≡ level * q + q = suc-mul level q in
      ap₂ max (symbol_reach_lem level (omega arith))
      (streams_are n (suc level) (omega arith) ∙ ap (λ (a : ℕ). widest_of (bit_of (m * q) bits) limit a (n * q)) g)
      ∙ sym (ap (widest_of (bit_of (m * q) bits) limit (level * q)) f ∙ widest_split (bit_of (m * q) bits) limit (level * q) q (n * q))

pub chosen_is : (m q : ℕ) {limit : ℕ → ℕ} {limits : List ℕ} → Reaches q limit limits m → (level bits : ℕ) → level ≤ m
    → chosen_reach m q limits level bits ≡ widest_of (bit_of (m * q) bits) limit (level * q) ((m - level) * q)
unfolding chosen_reach
chosen_is m q made level bits h = streams_are m q made bits (m - level) level (omega arith)

-- A symbol of what the last p bits are, by these alone
symbol_same : (p q k x y : ℕ) → q + k ≤ p → x % 2 ^ p ≡ y % 2 ^ p → x / 2 ^ k % 2 ^ q ≡ y / 2 ^ k % 2 ^ q
symbol_same p q k x y h e =
    let f : p ≡ (p - (q + k)) + (q + k) = omega arith in
    by_low x f ∙ ap (λ (z : ℕ). z % 2 ^ (q + k) / 2 ^ k) e ∙ sym (by_low y f)
  where
    by_low : (z : ℕ) → p ≡ (p - (q + k)) + (q + k) → z / 2 ^ k % 2 ^ q ≡ z % 2 ^ p % 2 ^ (q + k) / 2 ^ k
    by_low z f =
        sym
        (ap (λ (n : ℕ). z % 2 ^ n % 2 ^ (q + k) / 2 ^ k) f ∙ ap (λ (n : ℕ). n / 2 ^ k) (mod-mod-pow z (p - (q + k)) (q + k))
        ∙ field z q k)

-- A child's bits: those of its own symbol, and its node's
pub chosen_child : (m q : ℕ) (limits : List ℕ) (level node s label : ℕ) → level < m → node < 2 ^ ((m - suc level) * q) → s < 2 ^ q
    → chosen_reach m q limits level (bit_xor (s * 2 ^ ((m - suc level) * q) + node) label)
    ≡ max (stream_reach q limits level (bit_xor s (symbol_of m q label level))) (chosen_reach m q limits (suc level) (bit_xor node label))
unfolding chosen_reach widest_of
chosen_child m q limits level node s label h few l =
    let p = (m - suc level) * q in
    let x = s * 2 ^ p + node in
    let e : m - level ≡ suc (m - suc level) = omega arith in
    let own : symbol_of m q (bit_xor x label) level ≡ bit_xor s (symbol_of m q label level) =
    ap (λ (y : ℕ). y % 2 ^ q) (xor_shr x label p ∙ ap (λ (y : ℕ). bit_xor y (label / 2 ^ p)) (high s p few))
    ∙ xor_mod s (label / 2 ^ p) q ∙ ap (λ (y : ℕ). bit_xor y (label / 2 ^ p % 2 ^ q)) (mod-eq_of_lt l) in
    let lows : bit_xor x label % 2 ^ p ≡ bit_xor node label % 2 ^ p =
    xor_mod x label p ∙ ap (λ (y : ℕ). bit_xor y (label % 2 ^ p)) (low s p few ∙ sym (mod-eq_of_lt few)) ∙ sym (xor_mod node label p) in
    ap (widest_of (λ _. true) (λ j. stream_reach q limits j (symbol_of m q (bit_xor x label) j)) level) e
    ∙ ap₂ max (ap (stream_reach q limits level) own)
    (widest_same (λ _. true) (λ _. true) (λ j. stream_reach q limits j (symbol_of m q (bit_xor x label) j))
    (λ j. stream_reach q limits j (symbol_of m q (bit_xor node label) j)) (suc level) (m - suc level)
    (λ j k t. ap (stream_reach q limits j) (symbol_same p q ((m - suc j) * q) (bit_xor x label) (bit_xor node label) (room j k t) lows)))
  where
    room : (j : ℕ) → suc level ≤ j → j < suc level + (m - suc level) → q + (m - suc j) * q ≤ (m - suc level) * q
    room j k t =
        let f : m - suc level ≡ (j - suc level) + suc (m - suc j) = omega arith in
        omega (arith, ap (λ (n : ℕ). n * q) f, add-mul (j - suc level) (suc (m - suc j)) q, suc-mul (m - suc j) q)

-- Where the entries were right, and no limit is changed but those of bits that are 1 in a number, the streams whose symbols are 0 in it have
-- theirs still
module _ (m q changed : ℕ) {limit : ℕ → ℕ} {old : List ℕ} (made : Reaches q limit old m) (new : List ℕ)
    (entries : (i : ℕ) → axis_entries ≤ i → get_or new i 0 ≡ get_or old i 0)
    (limits : (i : ℕ) → i < m * q → bit_of (m * q) changed i ≡ false → limit_in new i ≡ limit i) where
  inside_label : (j i : ℕ) → j < m → i < j * q + q → i < m * q
  inside_label j i h l = omega (arith, mul-le-mul h (le_refl q), suc-mul j q)

  bit_same : (j i : ℕ) → j < m → symbol_of m q changed j ≡ 0 → j * q ≤ i → i < j * q + q → bit_of (m * q) changed i ≡ false
  unfolding bit_of
  bit_same j i h e k l =
      let place : i ≡ j * q + (i - j * q) = omega arith in
      let none : 0 / 2 ^ (q - suc (i - j * q)) % 2 ≡ 0 = ap (λ (n : ℕ). n % 2) (zero-div (2 ^ (q - suc (i - j * q)))) in
      ap (bit_of (m * q) changed) place ∙ symbol_bit m q changed j (i - j * q) h (omega arith)
      ∙ ap (λ (s : ℕ). bit_of q s (i - j * q)) e ∙ ap (λ (n : ℕ). eqb n 1) none

  within : (j : ℕ) (x : Axis) (i : ℕ) → i < axis_start q j x + axis_bits q x → i < j * q + q
  within j real i l = omega arith
  within j imaginary i l = omega arith

  from : (j : ℕ) (x : Axis) (i : ℕ) → axis_start q j x ≤ i → j * q ≤ i
  from j real i k = omega arith
  from j imaginary i k = omega arith

  behind : (j : ℕ) (x : Axis) (g : ℕ) → axis_entries ≤ entry_place j x + g
  behind j real g = omega arith
  behind j imaginary g = omega arith

  pub still_stands : StandsFor m q changed new
  still_stands j h e x g l =
      entries (entry_place j x + g) (behind j x g) ∙ made.entry j h x g l
      ∙ axis_same limit (limit_in new) (axis_start q j x) (axis_bits q x) g
      (λ i k t.
      let last = within j x i t in
      sym (limits i (inside_label j i h last) (bit_same j i h e (from j x i k) last)))

-- No symbol is 0 in a number whose bits are all 1
pub none_stands : (m q : ℕ) (limits : List ℕ) → 0 < q → m * q ≤ most_bits → StandsFor m q (2 ^ 32 - 1) limits
none_stands m q limits some label j h e =
    let p = (m - suc j) * q in
    let f : m ≡ (j + 1) + (m - suc j) = omega arith in
    let room : q + p ≤ most_bits = omega (arith, ap (λ (y : ℕ). y * q) f, add-mul (j + 1) (m - suc j) q, add-mul j 1 q) in
    let n : 32 ≡ (32 - p) + p = omega arith in
    let k : 32 - p ≡ (32 - p - q) + q = omega arith in
    let shifted : (2 ^ 32 - 1) / 2 ^ p ≡ 2 ^ (32 - p) - 1 =
    ap (λ (y : ℕ). (2 ^ y - 1) / 2 ^ p) n ∙ ap (λ (y : ℕ). y / 2 ^ p) (ones_split (32 - p) p) ∙ high (2 ^ (32 - p) - 1) p (ones_lt p) in
    let symbol : symbol_of m q (2 ^ 32 - 1) j ≡ 2 ^ q - 1 =
    ap (λ (y : ℕ). y % 2 ^ q) shifted ∙ ap (λ (y : ℕ). (2 ^ y - 1) % 2 ^ q) k ∙ ap (λ (y : ℕ). y % 2 ^ q) (ones_split (32 - p - q) q)
    ∙ low (2 ^ (32 - p - q) - 1) q (ones_lt q) in
    absurd (omega (arith, symbol, e, pow_mono some))
