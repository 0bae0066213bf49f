-- A limit as one number says what the two bounds say together, and what the limits give decides the pass test.
use Prim.Native.Nat.{ℕ, suc, ◌+◌, ◌-◌, ◌*◌, ◌/◌, ◌%◌, ◌^◌, ◌≤◌, ◌<◌, max}
use mathlib.Core.Path.{◌≡◌, sym, ◌∙◌, ap, ap₂, subst}
use mathlib.Core.Bool.{Bool, true, false, cond, ◌&&◌, ◌||◌}
use mathlib.Core.List.{List}
use native.Mathlib.Decide.{dec_lt}
use native.Mathlib.Nat.{add-mul, mod-lt}
use native.Mathlib.Omega.{arith}
use lib.Bits.{bit_xor, xor_lt}
use lib.Dec.{leb, ltb}
use borrow.Author.Tests.{lt-ltb, le-ltb, le-leb, lt-leb}
use lib.ListN.{length, get_or, drop}
use lib.Seq.{get_or-take, get_or-drop}
use lib.Pow.{pow_pos, pow_mono}
use Rattle.model.specs.Metric.{Vector, label_bits}
use Rattle.model.specs.Block.{most_width}
use Rattle.model.proofs.Lists.{any-up_from}
use Rattle.model.proofs.Numbers.{first_half}
use Rattle.metric.specs.Parts.{axis_width, span, bit_of}
use Rattle.axes.specs.Tables.Axis.{real, imaginary}
use Rattle.search_spec.specs.Program.{above, Taken, opens, lets, passing}
use Rattle.search_spec.specs.Reach.{widest_of}
use Rattle.search_spec.proofs.Reach.{ltb_max, any_widest, widest_split, widest_same}
use Rattle.bounding.specs.Cut.{symbol_reach}
use Rattle.limits.specs.Reach.{first_place, entry_place, entries_of, Reaches, stream_reach, chosen_reach, symbol_of}
use Rattle.metric.proofs.Opposite.{xor_opposite}
use Rattle.limits.proofs.Passing.{chosen_is, chosen_child}
use Rattle.hypotheses.specs.Limits.{limit_at, Limited}
use Rattle.hypotheses.proofs.Limits.{reaches_limit}
use Rattle.expansion.specs.Expand.{WouldCut}
use Rattle.turn.specs.Limits.{passes_at, passes_by, opposite}

-- A stream's entries by themselves
entries_reach : (q : ℕ) (limits : List ℕ) (j s : ℕ) → q ≤ most_width → s < 2 ^ q
    → symbol_reach q (entries_of limits j) s ≡ stream_reach q limits j s
unfolding symbol_reach stream_reach
entries_reach q limits j s few h =
    let place : entry_place j real + (span + s % 2 ^ (q / 2)) ≡ entry_place j imaginary + s % 2 ^ (q / 2) = omega arith in
    ap₂ max (at (s / 2 ^ (q / 2)) (omega (arith, rows)))
    (at (span + s % 2 ^ (q / 2)) (omega (arith, columns)) ∙ ap (λ (i : ℕ). get_or limits i 0) place)
  where
    at : (i : ℕ) → i < 2 * span → get_or (entries_of limits j) i 0 ≡ get_or limits (entry_place j real + i) 0
    at i k = get_or-take (2 * span) (drop (entry_place j real) limits) i 0 k ∙ get_or-drop (entry_place j real) limits i 0

    rows : s / 2 ^ (q / 2) < span
    rows =
        let half : q - q / 2 ≤ axis_width = omega arith in
        omega (arith, first_half q s h, pow_mono half)

    columns : s % 2 ^ (q / 2) < span
    columns =
        let half : q / 2 ≤ axis_width = omega arith in
        omega (arith, mod-lt s (pow_pos (q / 2)), pow_mono half)

-- The pass test by such an array
module _ (v : Vector) (t : Taken) (limits : List ℕ) (m : ℕ) (em : m ≡ length v.rows)
    (reached : Reaches v.width (limit_at v t) limits m) where
  abbrev n : ℕ
  n = label_bits v

  abbrev limit : ℕ → ℕ
  limit = limit_at v t

  -- The bits that are open at a node: all that are not chosen, and the chosen ones opposite to m's
  module _ (level bits : ℕ) (inside : level ≤ m) where
    abbrev free : ℕ
    free = level * v.width

    abbrev opened : ℕ → Bool
    opened = opens n t.label free bits

    split : n ≡ free + (m - level) * v.width
    split =
        let e : length v.rows ≡ level + (m - level) = omega arith in
        ap (λ (x : ℕ). x * v.width) e ∙ add-mul level (m - level) v.width

    unchosen : widest_of opened limit 0 free ≡ get_or limits (first_place level) 0
    unfolding opens
    unchosen =
        widest_same opened (λ _. true) limit limit 0 free (λ i _ h. let e : ltb i free ≡ true = lt-ltb i free (omega arith) in rw e)
        ∙ sym (reached.first level inside)

    chosen_bits : widest_of opened limit (0 + free) ((m - level) * v.width) ≡ chosen_reach m v.width limits level (bit_xor bits t.label)
    unfolding opens
    chosen_bits =
        let start : 0 + free ≡ free = omega arith in
        rw start
        (widest_same opened (bit_of (m * v.width) (bit_xor bits t.label)) limit limit free ((m - level) * v.width)
        (λ i h _.
        let e : ltb i free ≡ false = le-ltb i free h in
        rw (e, em) (ap (λ (b : Bool). cond b (limit i) 0) (sym (xor_opposite n bits t.label i))))
        ∙ sym (chosen_is m v.width reached level (bit_xor bits t.label) inside))

    passing_exact : (d : ℕ) → passing v t d free bits ≡ passes_by m v.width t.label t.best limits d level bits
    unfolding passing lets passes_at
    passing_exact d =
        ap (λ (x : Bool). leb d t.best || x)
        (any-up_from _ _ 0 n (λ i h. ap (λ (x : Bool). opened i && x) (reaches_limit v t d i))
        ∙ any_widest opened limit d 0 n
        ∙ ap (ltb d) (ap (widest_of opened limit 0) split ∙ widest_split opened limit 0 free ((m - level) * v.width))
        ∙ ltb_max d _ _ ∙ ap₂ (λ (x y : ℕ). ltb d x || ltb d y) unchosen chosen_bits)

-- The limits as they are kept
module _ (v : Vector) (t : Taken) (limits : List ℕ) (l : Limited v t limits) (m : ℕ) (em : m ≡ length v.rows) where
  -- The pass test by what the limits give is document 01's; before the first leaf everything passes both
  pub passing_by : (level bits : ℕ) → level ≤ m → (d : ℕ) → d ≤ above
      → passing v t d (level * v.width) bits ≡ passes_by m v.width t.label t.best limits d level bits
  unfolding passing passes_at
  passing_by level bits inside d low = go (dec_lt t.best above)
    where
      go : Dec (t.best < above) → passing v t d (level * v.width) bits ≡ passes_by m v.width t.label t.best limits d level bits
      go (yes h) = passing_exact v t limits m em (subst (Reaches v.width (limit_at v t) limits) (sym em) (l.exact h)) level bits inside d
      go (no h) = let e : leb d t.best ≡ true = le-leb d t.best (omega arith) in rw e

  -- A node's child
  module _ (level node s d : ℕ) (inner : level ≡ 0 → ⊥) (inside : level ≤ m) (placed : node < 2 ^ ((m - level) * v.width))
      (few : v.width ≤ most_width) (symbol : s < 2 ^ v.width) where
    abbrev own : ℕ
    own = symbol_of m v.width t.label (level - 1)

    abbrev diff : ℕ
    diff = bit_xor s own

    up : suc (level - 1) ≡ level
    up = omega arith

    inside_own : own < 2 ^ v.width
    inside_own = mod-lt _ (pow_pos v.width)

    -- The chosen bits of the child: its own symbol's, and the node's
    pub child_reach : opposite m v.width limits t.label (level - 1) (s * 2 ^ ((m - level) * v.width) + node)
        ≡ max (stream_reach v.width limits (level - 1) diff) (opposite m v.width limits t.label level node)
    child_reach =
        subst
        (λ (l : ℕ).
        chosen_reach m v.width limits (level - 1) (bit_xor (s * 2 ^ ((m - l) * v.width) + node) t.label)
        ≡ max (stream_reach v.width limits (level - 1) diff) (chosen_reach m v.width limits l (bit_xor node t.label))) up
        (chosen_child m v.width limits (level - 1) node s t.label (omega arith)
        (subst (λ (l : ℕ). node < 2 ^ ((m - l) * v.width)) (sym up) placed) symbol)

    abbrev child : ℕ
    child = s * 2 ^ ((m - level) * v.width) + node

    -- A child that would be cut fails the pass test
    pub would_cut : (chosen : ℕ) → chosen ≡ opposite m v.width limits t.label level node
        → WouldCut m v.width level chosen t.label t.best limits d s → d ≤ above
        → passing v t d ((level - 1) * v.width) child ≡ false
    unfolding passes_at
    would_cut chosen e w low =
        let own-low : stream_reach v.width limits (level - 1) diff ≤ d =
        rw (← entries_reach v.width limits (level - 1) diff few (xor_lt v.width s own symbol inside_own)) w.above_own in
        passing_by (level - 1) child (omega arith) d low
        ∙ ap₂ ◌||◌ (lt-leb d t.best (omega (arith, w.above_base)))
        (ap₂ ◌||◌ (le-ltb d _ (omega (arith, w.above_base))) (le-ltb d _ (rw child_reach (omega (arith, own-low, w.above_base, e)))))
