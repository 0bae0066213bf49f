-- A stream's entries and the widest limit of the streams up to it: what filling them in makes of the array.
use Prim.Native.Nat.{ℕ, zero, suc, ◌+◌, ◌-◌, ◌*◌, ◌/◌, ◌%◌, ◌^◌, ◌≤◌, ◌<◌, max}
use mathlib.Core.Path.{◌≡◌, refl, sym, ◌∙◌, ap, ap₂, subst}
use mathlib.Core.Bool.{true}
use mathlib.Core.List.{List, ◌++◌}
use mathlib.Core.Logic.{◌⊎◌, inl, inr}
use native.Mathlib.Decide.{dec_lt}
use native.Mathlib.Nat.{le_refl, ne_of_lt, ne_of_gt, mul-le-mul, suc-mul, zero-mul, mod-lt, not-suc-le-zero}
use native.Mathlib.Numerals.{add-one}
use native.Mathlib.Omega.{arith}
use lib.ListN.{length, get_or, set, take, drop, length-set}
use Rattle.std.proofs.lemmas.List.{get_or-take, get_or-drop, length-take, length-drop, take-append-drop}
use borrow.Rule.Slice.PartMut.{mid_of, put_mid}
use lib.Seq.{get_or-set_same, get_or-set_other, set-get_or}
use lib.Pow.{pow_pos, pow_mono, ones_lt}
use Rattle.model.specs.Block.{most_streams, most_width, most_bits}
use Rattle.metric.specs.Parts.{span, filled, filled_from}
use Rattle.axes.specs.Tables.{Axis, axis_bits}
use Rattle.axes.specs.Tables.Axis.{real, imaginary}
use Rattle.metric.proofs.Filled.{filled_same, from_length, from_before, from_at, from_same}
use Rattle.axes.proofs.Tables.{axis_few}
use Rattle.axes.proofs.Lent.{from_after, behind_filled, put_filled}
use Rattle.search_spec.specs.Reach.{widest_of}
use Rattle.search_spec.proofs.Reach.{widest_split, widest_same}
use Rattle.model.proofs.Numbers.{first_half}
use Rattle.limits.specs.Reach.{limit_in, limits_size, first_place, axis_entries, entry_place, axis_start, axis_reach, stream_reach}
use Rattle.limits.specs.Reach.{StreamRight, Reaches, AxisFilled, axis_in, axes_in, stream_in, reaches_in}
use Rattle.limits.proofs.Axes.{axis_same, axis_shift, all_ones, halves}

-- A place that is not one of stream j's entries
abbrev Elsewhere : ℕ → ℕ → Type 0
Elsewhere j i = (i < entry_place j real) ⊎ (entry_place (suc j) real ≤ i)

-- Stream j's entries: the other streams' places are as before
pub record AxesFilled (q : ℕ) (old new : List ℕ) (j : ℕ) : Type 0 where
  pub size : length new ≡ length old
  pub kept : (i : ℕ) → Elsewhere j i → get_or new i 0 ≡ get_or old i 0
  pub entry : StreamRight q (limit_in old) new j

-- Stream j's entries and the widest limit of the streams up to it
pub record StreamFilled (q : ℕ) (old new : List ℕ) (j : ℕ) : Type 0 where
  pub size : length new ≡ length old
  pub before : (i : ℕ) → i ≤ first_place j → get_or new i 0 ≡ get_or old i 0
  pub others : (i : ℕ) → axis_entries ≤ i → Elsewhere j i → get_or new i 0 ≡ get_or old i 0
  pub first : get_or new (first_place (suc j)) 0 ≡ max (get_or old (first_place j) 0) (widest_of (λ _. true) (limit_in old) (j * q) q)
  pub entry : StreamRight q (limit_in old) new j

-- The limits of an axis's bits, which stand from a place on, by themselves
pub record LimitsLent (own old : List ℕ) (at w : ℕ) : Type 0 where
  pub size : length own ≡ w
  pub each : (i : ℕ) → i < w → limit_in own i ≡ limit_in old (at + i)

-- A symbol's reach is that of all its bits, by the entries of its two axes
pub stream_is : (q : ℕ) (limit : ℕ → ℕ) (limits : List ℕ) (j s : ℕ)
    → StreamRight q limit limits j → s < 2 ^ q
    → stream_reach q limits j s ≡ axis_reach limit (j * q) q s
unfolding stream_reach
stream_is q limit limits j s entry h =
    ap₂ max (entry real (s / 2 ^ (q / 2)) (first_half q s h)) (entry imaginary (s % 2 ^ (q / 2)) (mod-lt s (pow_pos (q / 2))))
    ∙ halves limit (j * q) q s

-- The bits of one of a label's streams are within the label's
pub bits_few : (q j m : ℕ) → j < m → m * q ≤ most_bits → j * q + q ≤ most_bits
bits_few q j m inside label = omega (arith, mul-le-mul inside (le_refl q), suc-mul j q)

-- and so are those of its axes
axis_inside : (q j : ℕ) → j * q + q ≤ most_bits → (x : Axis) → axis_start q j x + axis_bits q x ≤ most_bits
axis_inside q j label real = omega arith
axis_inside q j label imaginary = omega arith

-- The two axes are filled, one after the other
module _ (q j : ℕ) {old one two : List ℕ} (few : q ≤ most_width) (label : j * q + q ≤ most_bits)
    (first : AxisFilled old one (axis_start q j real) (axis_bits q real) (entry_place j real) (axis_bits q real))
    (second : AxisFilled one two (axis_start q j imaginary) (axis_bits q imaginary) (entry_place j imaginary) (axis_bits q imaginary)) where
  kept : (i : ℕ) → Elsewhere j i → get_or two i 0 ≡ get_or old i 0
  kept i (inl h) = second.kept i (inl (omega arith)) ∙ first.kept i (inl h)
  kept i (inr h) =
      second.kept i (inr (omega (arith, pow_mono (axis_few q imaginary few))))
      ∙ first.kept i (inr (omega (arith, pow_mono (axis_few q real few))))

  entries : StreamRight q (limit_in old) two j
  entries real g h =
      let e : axis_start q j real + (axis_bits q real - axis_bits q real) ≡ axis_start q j real = omega arith in
      second.kept (entry_place j real + g) (inl (omega (arith, pow_mono (axis_few q real few)))) ∙ first.each g h
      ∙ ap (λ (i : ℕ). axis_reach (limit_in old) i (axis_bits q real) g) e
  entries imaginary g h =
      let e : axis_start q j imaginary + (axis_bits q imaginary - axis_bits q imaginary) ≡ axis_start q j imaginary = omega arith in
      second.each g h ∙ ap (λ (i : ℕ). axis_reach (limit_in one) i (axis_bits q imaginary) g) e
      ∙ axis_same (limit_in one) (limit_in old) (axis_start q j imaginary) (axis_bits q imaginary) g
      (λ i k l. first.kept i (inl (omega (arith, label))))

  pub axes_filled : AxesFilled q old two j
  axes_filled = record { size = second.size ∙ first.size; kept = kept; entry = entries }

-- Where each place has its value already nothing is changed
from_stand : (at : ℕ) (f : ℕ → ℕ) (k : ℕ) (l : List ℕ) → ((i : ℕ) → i < k → get_or l (at + i) 0 ≡ f i) → filled_from at f k l ≡ l
unfolding filled_from
from_stand at f zero l h = refl
from_stand at f (suc k) l h =
    ap₂ (λ (x : List ℕ) (u : ℕ). set x (at + k) u) (from_stand at f k l (λ i m. h i (omega arith))) (sym (h k (omega arith)))
    ∙ set-get_or l (at + k) 0

-- An axis's entries filled in by a rule are its entries
module _ (old : List ℕ) (at w to : ℕ) (room : to + 2 ^ w ≤ length old) where
  abbrev entries_filled : List ℕ
  entries_filled = filled_from to (axis_reach (limit_in old) at w) (2 ^ w) old

  whole_axis : at + (w - w) ≡ at
  whole_axis = omega arith

  axis_by_rule : AxisFilled old entries_filled at w to w
  axis_by_rule = record {
    size = from_length to _ (2 ^ w) old;
    kept = keeps;
    each = λ g h. rw whole_axis (from_at to _ (2 ^ w) old g 0 h room);
  }
    where
      keeps : (i : ℕ) → (i < to) ⊎ (to + 2 ^ w ≤ i) → get_or entries_filled i 0 ≡ get_or old i 0
      keeps i (inl h) = from_before to _ (2 ^ w) old i 0 h
      keeps i (inr h) = from_after to _ (2 ^ w) old i 0 h

-- The entries that an axis's limits give by themselves are those that they give where they stand
axis_made : {own old : List ℕ} {at w : ℕ} (new l : List ℕ) → LimitsLent own old at w
    → new ≡ filled (axis_reach (limit_in own) 0 (length own)) (2 ^ length own) l → new ≡ filled (axis_reach (limit_in old) at w) (2 ^ w) l
axis_made {own} {old} {at} {w} new l lent e =
    rw lent.size at e ∙ filled_same _ _ (2 ^ w) l (λ g h. axis_shift (limit_in old) (limit_in own) at w g lent.each)

-- The two axes of a stream
module _ (q j : ℕ) (old : List ℕ) (few : q ≤ most_width) (label : j * q + q ≤ most_bits) (inside : j < most_streams)
    (room : length old ≡ limits_size) where
  abbrev one : List ℕ
  one = axis_in q (limit_in old) j real old

  one_size : length one ≡ limits_size
  one_size = from_length (entry_place j real) _ (2 ^ axis_bits q real) old ∙ room

  pub real_room : entry_place j real + 2 ^ axis_bits q real ≤ length old
  real_room = omega (arith, pow_mono (axis_few q real few))

  pub imaginary_room : entry_place j imaginary + 2 ^ axis_bits q imaginary ≤ length one
  imaginary_room = omega (arith, one_size, pow_mono (axis_few q imaginary few))

  -- The second finds the limits as they were
  second_same : axis_in q (limit_in one) j imaginary one ≡ axes_in q old j
  unfolding axes_in
  second_same =
      from_same (entry_place j imaginary) _ _ (2 ^ axis_bits q imaginary) one
      (λ g h. axis_same (limit_in one) (limit_in old) (axis_start q j imaginary) (axis_bits q imaginary) g
      (λ i k l. from_before (entry_place j real) _ (2 ^ axis_bits q real) old i 0 (omega (arith, label))))

  pub axes_in_lem : AxesFilled q old (axes_in q old j) j
  axes_in_lem =
      subst (λ (x : List ℕ). AxesFilled q old x j) second_same
      (axes_filled q j few label (axis_by_rule old (axis_start q j real) (axis_bits q real) (entry_place j real) real_room)
      (axis_by_rule one (axis_start q j imaginary) (axis_bits q imaginary) (entry_place j imaginary) imaginary_room))

  -- The limits of a stream's bits are lent as a part of the array, and those of its two axes as parts of that
  module _ (front : List ℕ) (n w : ℕ) (e : front ≡ take axis_entries old) (en : n ≡ q) (ew : w ≡ q - q / 2) where
    abbrev stream : List ℕ
    stream = take n (drop (j * q) front)

    stream_size : length stream ≡ q
    stream_size = rw (en, e) (omega (arith, label, length-take q (drop (j * q) (take axis_entries old)), length-drop (j * q) (take axis_entries old), length-take axis_entries old))

    stream_each : (i : ℕ) → i < q → get_or stream i 0 ≡ limit_in old (j * q + i)
    stream_each i h =
        rw (en, e)
        (get_or-take q (drop (j * q) (take axis_entries old)) i 0 h ∙ get_or-drop (j * q) (take axis_entries old) i 0
        ∙ get_or-take axis_entries old (j * q + i) 0 (omega (arith, label)))

    pub real_lent : LimitsLent (take w stream) old (axis_start q j real) (axis_bits q real)
    real_lent = record {
      size = omega (arith, length-take w stream, stream_size);
      each = λ i h. get_or-take w stream i 0 (omega arith) ∙ stream_each i (omega arith);
    }

    pub imaginary_lent : LimitsLent (drop w stream) old (axis_start q j imaginary) (axis_bits q imaginary)
    imaginary_lent = record {
      size = omega (arith, length-drop w stream, stream_size);
      each = λ i h.
          let d : j * q + (w + i) ≡ axis_start q j imaginary + i = omega arith in
          get_or-drop w stream i 0 ∙ stream_each (w + i) (omega arith) ∙ ap (limit_in old) d;
    }

  -- The two axes are filled, one after the other,
  pub axes_are : (front behind : List ℕ) {re im : List ℕ} (one two : List ℕ) (n n' : ℕ) → front ≡ take axis_entries old → behind ≡ drop axis_entries old
      → n ≡ span → n' ≡ span
      → LimitsLent re old (axis_start q j real) (axis_bits q real) → LimitsLent im old (axis_start q j imaginary) (axis_bits q imaginary)
      → one ≡ filled (axis_reach (limit_in re) 0 (length re)) (2 ^ length re) (mid_of (j * (2 * span)) n behind)
      → two
      ≡ filled (axis_reach (limit_in im) 0 (length im)) (2 ^ length im)
      (mid_of (j * (2 * span) + span) n' (put_mid (j * (2 * span)) n behind one))
      → front ++ put_mid (j * (2 * span) + span) n' (put_mid (j * (2 * span)) n behind one) two ≡ axes_in q old j
  unfolding axes_in
  axes_are front behind one two n n' ef eb en en' re im e₁ e₂ =
      let at = j * (2 * span) in
      let f = axis_reach (limit_in old) (axis_start q j real) (axis_bits q real) in
      let f' = axis_reach (limit_in old) (axis_start q j imaginary) (axis_bits q imaginary) in
      let size : length front ≡ axis_entries = omega (arith, ap length ef, length-take axis_entries old) in
      let size' : length behind ≡ most_streams * (2 * span) = omega (arith, ap length eb, length-drop axis_entries old) in
      let first : put_mid at n behind one ≡ filled_from at f (2 ^ axis_bits q real) behind =
      ap (put_mid at n behind) (axis_made one _ re e₁) ∙ put_filled at n f (2 ^ axis_bits q real) behind (omega (arith, pow_mono (axis_few q real few))) (omega arith) in
      let kept : length (put_mid at n behind one) ≡ length behind = ap length first ∙ from_length at f (2 ^ axis_bits q real) behind in
      let second : put_mid (at + span) n' (put_mid at n behind one) two ≡ filled_from (at + span) f' (2 ^ axis_bits q imaginary) (put_mid at n behind one) =
      ap (put_mid (at + span) n' (put_mid at n behind one)) (axis_made two _ im e₂)
      ∙ put_filled (at + span) n' f' (2 ^ axis_bits q imaginary) (put_mid at n behind one) (omega (arith, pow_mono (axis_few q imaginary few))) (omega arith) in
      let whole : front ++ behind ≡ old = ap₂ ◌++◌ ef eb ∙ take-append-drop axis_entries old in
      let e : axis_entries + (at + span) ≡ entry_place j imaginary = omega arith in
      ap (λ (l : List ℕ). front ++ l) (second ∙ ap (filled_from (at + span) f' (2 ^ axis_bits q imaginary)) first)
      ∙ behind_filled axis_entries (at + span) f' (2 ^ axis_bits q imaginary) front _ size
      ∙ ap₂ (λ (i : ℕ) (l : List ℕ). filled_from i f' (2 ^ axis_bits q imaginary) l) e
      (behind_filled axis_entries at f (2 ^ axis_bits q real) front behind size ∙ ap (filled_from (entry_place j real) f (2 ^ axis_bits q real)) whole)

  -- or they stand already
  pub axes_stand : StreamRight q (limit_in old) old j → old ≡ axes_in q old j
  unfolding axes_in
  axes_stand right =
      let first : one ≡ old = from_stand (entry_place j real) _ (2 ^ axis_bits q real) old (right real) in
      sym (ap (axis_in q (limit_in old) j imaginary) first ∙ from_stand (entry_place j imaginary) _ (2 ^ axis_bits q imaginary) old (right imaginary))

-- and then the widest limit of the streams up to the stream
module _ {q j : ℕ} {old mid : List ℕ} (inside : j < most_streams) (room : length old ≡ limits_size) (axes : AxesFilled q old mid j) where
  own : stream_reach q mid j (2 ^ q - 1) ≡ widest_of (λ _. true) (limit_in old) (j * q) q
  own = stream_is q (limit_in old) mid j (2 ^ q - 1) axes.entry (ones_lt q) ∙ all_ones (limit_in old) (j * q) q

  pub widest_is : max (get_or mid (first_place j) 0) (stream_reach q mid j (2 ^ q - 1))
      ≡ max (get_or old (first_place j) 0) (widest_of (λ _. true) (limit_in old) (j * q) q)
  widest_is = ap₂ max (axes.kept (first_place j) (inl (omega arith))) own

  pub stream_filled : (widest : ℕ) → widest ≡ max (get_or mid (first_place j) 0) (stream_reach q mid j (2 ^ q - 1))
      → StreamFilled q old (set mid (first_place (j + 1)) widest) j
  stream_filled widest e = rw add-one (record {
    size = length-set mid (first_place (suc j)) widest ∙ axes.size;
    before = λ i h. get_or-set_other mid (first_place (suc j)) i widest 0 (ne_of_lt (omega arith)) ∙ axes.kept i (inl (omega arith));
    others = λ i h k. get_or-set_other mid (first_place (suc j)) i widest 0 (ne_of_gt (omega arith)) ∙ axes.kept i k;
    first = get_or-set_same mid (first_place (suc j)) widest 0 (omega (arith, axes.size)) ∙ e
        ∙ ap₂ max (axes.kept (first_place j) (inl (omega arith))) own;
    entry = λ x g h. get_or-set_other mid (first_place (suc j)) (entry_place j x + g) widest 0 (ne_of_gt (behind x g)) ∙ axes.entry x g h;
  })
    where
      behind : (x : Axis) (g : ℕ) → first_place (suc j) < entry_place j x + g
      behind real g = omega arith
      behind imaginary g = omega arith

-- While the streams are filled in: the limits are as before and so are the entries of the streams from j on, and what the first j streams
-- give is there
pub record Filling (q : ℕ) (old now : List ℕ) (j : ℕ) : Type 0 where
  pub same : (i : ℕ) → i < most_bits → get_or now i 0 ≡ get_or old i 0
  pub later : (i : ℕ) → entry_place j real ≤ i → get_or now i 0 ≡ get_or old i 0
  pub made : Reaches q (limit_in old) now j

-- Before the first stream
pub reaches_none : (q : ℕ) (old : List ℕ) → length old ≡ limits_size → Filling q old (set old most_bits 0) 0
unfolding widest_of
reaches_none q old room = record {
  same = λ i h. get_or-set_other old most_bits i 0 0 (ne_of_lt h);
  later = λ i h. get_or-set_other old most_bits i 0 0 (ne_of_gt (omega arith));
  made = record {
    size = length-set old most_bits 0 ∙ room;
    own = λ i h. absurd (omega (arith, zero-mul q));
    first = λ level h.
        let e : level ≡ 0 = omega arith in
        rw (e, zero-mul) (get_or-set_same old most_bits 0 0 (omega arith));
    entry = λ j h. absurd (not-suc-le-zero h);
  };
}

-- The entries of a stream that stood for the limits at first still do
module _ {q j : ℕ} {old now : List ℕ} (label : j * q + q ≤ most_bits) (so_far : Filling q old now j)
    (right : StreamRight q (limit_in old) old j) where
  unmoved : (x : Axis) (g : ℕ) → entry_place j real ≤ entry_place j x + g
  unmoved real g = omega arith
  unmoved imaginary g = omega arith

  pub still_right : StreamRight q (limit_in now) now j
  still_right x g h =
      so_far.later (entry_place j x + g) (unmoved x g) ∙ right x g h
      ∙ axis_same (limit_in old) (limit_in now) (axis_start q j x) (axis_bits q x) g
      (λ i k l. sym (so_far.same i (omega (arith, axis_inside q j label x))))

-- One stream more
module _ {q j : ℕ} (old : List ℕ) {now new : List ℕ} (few : q ≤ most_width) (label : j * q + q ≤ most_bits) (so_far : Filling q old now j)
    (filled : StreamFilled q now new j) where
  firsts : (level : ℕ) → level ≤ suc j → Dec (level < suc j)
      → get_or new (first_place level) 0 ≡ widest_of (λ _. true) (limit_in old) 0 (level * q)
  firsts level h (yes l) = filled.before (first_place level) (omega arith) ∙ so_far.made.first level (omega arith)
  firsts level h (no l) =
      let e : level ≡ suc j = omega arith in
      let z : 0 + j * q ≡ j * q = omega arith in
      let n : level * q ≡ j * q + q = ap (λ (k : ℕ). k * q) e ∙ suc-mul j q in
      ap (λ (k : ℕ). get_or new (first_place k) 0) e ∙ filled.first
      ∙ ap₂ max (so_far.made.first j (omega arith))
      (widest_same (λ _. true) (λ _. true) (limit_in now) (limit_in old) (j * q) q
      (λ i k l. so_far.same i (omega (arith, label))))
      ∙ sym (rw z at (widest_split (λ _. true) (limit_in old) 0 (j * q) q)) ∙ ap (widest_of (λ _. true) (limit_in old) 0) (sym n)

  older : (i : ℕ) → i < j → (x : Axis) (g : ℕ) → g < 2 ^ axis_bits q x
      → get_or new (entry_place i x + g) 0 ≡ get_or now (entry_place i x + g) 0
  older i h real g k =
      filled.others (entry_place i real + g) (omega arith) (inl (omega (arith, pow_mono (axis_few q real few))))
  older i h imaginary g k =
      filled.others (entry_place i imaginary + g) (omega arith) (inl (omega (arith, pow_mono (axis_few q imaginary few))))

  each : (i : ℕ) → i < suc j → (x : Axis) (g : ℕ) → g < 2 ^ axis_bits q x → Dec (i < j)
      → get_or new (entry_place i x + g) 0 ≡ axis_reach (limit_in old) (axis_start q i x) (axis_bits q x) g
  each i h x g k (yes l) = older i l x g k ∙ so_far.made.entry i l x g k
  each i h x g k (no l) =
      let e : i ≡ j = omega arith in
      rw e
      (filled.entry x g k
      ∙ axis_same (limit_in now) (limit_in old) (axis_start q j x) (axis_bits q x) g (λ i k l. so_far.same i (omega (arith, axis_inside q j label x))))

  pub reaches_more : Filling q old new (j + 1)
  reaches_more = rw add-one (record {
    same = λ i h. filled.before i (omega arith) ∙ so_far.same i h;
    later = λ i h. filled.others i (omega arith) (inr h) ∙ so_far.later i (omega arith);
    made = record {
      size = filled.size ∙ so_far.made.size;
      own = λ i h.
          let few : i < most_bits = omega (arith, label, suc-mul j q) in
          filled.before i (omega arith) ∙ so_far.same i few;
      first = λ level h. firsts level h (dec_lt level (suc j));
      entry = λ i h x g k. each i h x g k (dec_lt i j);
    };
  })

-- What filling in a stream makes
pub stream_in_lem : (q j : ℕ) (old : List ℕ) → q ≤ most_width → j * q + q ≤ most_bits → j < most_streams → length old ≡ limits_size
    → StreamFilled q old (stream_in q old j) j
unfolding stream_in
stream_in_lem q j old few label inside room =
    let axes = axes_in_lem q j old few label inside room in
    let widest = max (get_or old (first_place j) 0) (widest_of (λ _. true) (limit_in old) (j * q) q) in
    subst (λ (n : ℕ). StreamFilled q old (set (axes_in q old j) (first_place n) widest) j) (add-one j)
    (stream_filled inside room axes widest (sym (widest_is inside room axes)))

-- and all of the first k
module _ {m q : ℕ} (old : List ℕ) (streams : m ≤ most_streams) (few : q ≤ most_width) (label : m * q ≤ most_bits)
    (room : length old ≡ limits_size) where
  pub filling : (k : ℕ) → k ≤ m → Filling q old (reaches_in q old k) k
  unfolding reaches_in
  filling zero h = reaches_none q old room
  filling (suc k) h =
      let so_far = filling k (omega arith) in
      let bits = bits_few q k m h label in
      subst (Filling q old (reaches_in q old (suc k))) (add-one k)
      (reaches_more old few bits so_far (stream_in_lem q k (reaches_in q old k) few bits (omega arith) so_far.made.size))

  -- The array has what the limits of all streams give
  pub reaches : {new : List ℕ} → new ≡ reaches_in q old m → Reaches q (limit_in old) new m
  reaches e = subst (λ (x : List ℕ). Reaches q (limit_in old) x m) (sym e) (filling m (le_refl m)).made
