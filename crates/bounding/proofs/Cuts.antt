-- An axis's own part of what stands in one list for several axes: of a stream's limits, and of a vector's table.
use Rattle.std.proofs.Common.{◌≡◌, ℕ, zero, suc, ◌+◌, ◌-◌, ◌*◌, ◌/◌, ◌%◌, ◌^◌, ◌<◌, ◌≤◌, min, List, [], length, get_or, take, drop, ℤ, pos, nat_abs, ◌-ℤ◌, refl, ap, ap₂, ◌∙◌, sym, arith, suc-mul, add_assoc, zero-add, add-zero, get_or-drop, get_or-take, drop-drop, pow_mono}
use Rattle.std.specs.Simd.{first_chunks}
use Rattle.std.specs.Int.Bits.{bit_xor, xor_lt}
use Rattle.model.proofs.Lists.{any-up_from}
use Rattle.metric.specs.Parts.{axis_width, span}
use Rattle.axes.specs.Tables.{table_part}
use Rattle.bounding.specs.Axes.{LeastAsked}
use Rattle.bounding.proofs.Runs.{labels_few}
use Rattle.bounding.specs.Answers.{any_bit, bits_open, any_part, over_at, least_part}

-- Of a list in pieces of n places, piece i
pub chunk_at : {A : Type 0} (n k i : ℕ) (l : List A) (d : List A) → i < k → get_or (first_chunks n k l) i d ≡ take n (drop (i * n) l)
chunk_at n zero i l d h = absurd (omega arith)
chunk_at n (suc k) zero l d h = let e : 0 * n ≡ 0 = omega arith in rw e refl
chunk_at n (suc k) (suc i) l d h =
    let e : suc i * n ≡ n + i * n = omega (arith, suc-mul i n) in
    chunk_at n k i (drop n l) d (omega arith) ∙ ap (take n) (drop-drop (i * n) n l ∙ ap (λ (j : ℕ). drop j l) (sym e))

-- A place of n places from a place on
pub cut_at : {A : Type 0} (l : List A) (at n g : ℕ) (d : A) → g < n → get_or (take n (drop at l)) g d ≡ get_or l (at + g) d
cut_at l at n g d h = get_or-take n (drop at l) g d h ∙ get_or-drop at l g d

-- Of the limits of a stream, in two halves, half i, and in it the place of the label of w bits that are all 1
module _ (entries : List ℕ) (halves : List (List ℕ)) (is : halves ≡ first_chunks span (length entries / span) entries) (i : ℕ)
    (few : i < length entries / span) where
  pub half_is : get_or halves i [] ≡ take span (drop (i * span) entries)
  half_is = ap (λ (l : List (List ℕ)). get_or l i []) is ∙ chunk_at span _ i entries [] few

  pub last_is : (w : ℕ) → w ≤ axis_width → get_or (get_or halves i []) (1 * 2 ^ w % 2 ^ 64 - 1) 0 ≡ get_or entries (i * span + (2 ^ w - 1)) 0
  last_is w h =
      let labels = labels_few w h in
      rw (half_is, labels.0) (cut_at entries (i * span) span (2 ^ w - 1) 0 (omega (arith, labels)))

-- The limits of an axis: asking for them from their first place on is asking the stream's from a place on
module _ (entries : List ℕ) (from : ℕ) where
  abbrev pub own_limits : List ℕ
  own_limits = take span (drop from entries)

  limit_cut : (g : ℕ) → g < span → get_or own_limits (0 + g) 0 ≡ get_or entries (from + g) 0
  limit_cut g h = rw zero-add (cut_at entries from span g 0 h)

  bits_cut : (diagonal w other low own k : ℕ) (x : ℤ) → k ≤ axis_width
      → bits_open diagonal w other low own_limits 0 own k x ≡ bits_open diagonal w other low entries from own k x
  unfolding bits_open
  bits_cut diagonal w other low own zero x h = refl
  bits_cut diagonal w other low own (suc k) x h =
      let few : 2 ^ k < span = omega (arith, pow_mono {i = k} {j = axis_width - 1} (omega arith)) in
      rw (limit_cut (2 ^ k) few, bits_cut diagonal w other low own k (pos (diagonal * 2 ^ k) -ℤ pos (nat_abs x)) (omega arith)) refl

  pub bit_cut : (left : ℤ) (diagonal w other low own : ℕ) → w ≤ axis_width
      → any_bit left diagonal w other low own_limits 0 own ≡ any_bit left diagonal w other low entries from own
  bit_cut left diagonal w other low own h =
      let e : get_or own_limits 0 0 ≡ get_or entries from 0 = rw add-zero at (cut_at entries from span 0 0 (omega arith)) in
      rw (e, bits_cut diagonal w other low own w left h) refl

  -- and so it is with the labels' parts, by either of two rules that agree on them
  pub part_cut : (part same : ℕ → ℕ) (other own w : ℕ) → ((g : ℕ) → g < 2 ^ w → part g ≡ same g) → w ≤ axis_width → own < 2 ^ w
      → any_part own_limits 0 part other own 0 (2 ^ w) ≡ any_part entries from same other own 0 (2 ^ w)
  unfolding any_part
  part_cut part same other own w agree h below =
      any-up_from (over_at own_limits 0 part other own) (over_at entries from same other own) 0 (2 ^ w)
      (λ g k.
      let inside : g < 2 ^ w = omega arith in
      let place : bit_xor g own < span = omega (arith, xor_lt w g own inside below, labels_few w h) in
      rw (limit_cut (bit_xor g own) place, agree g inside) refl)

-- The least part by either rule
pub least_cut : (part same : ℕ → ℕ) (n : ℕ) → ((g : ℕ) → g < n + 1 → part g ≡ same g) → least_part part n ≡ least_part same n
unfolding least_part
least_cut part same zero agree = agree 0 (omega arith)
least_cut part same (suc n) agree = ap₂ min (least_cut part same n (λ g h. agree g (omega arith))) (agree (suc n) (omega arith))

-- The entries of an axis, in a table in pieces of an axis each
module _ (tables : List ℤ) (at : ℕ) where
  abbrev pub own_entries : List ℤ
  own_entries = take (2 * span) (drop at tables)

  pub entries_are : (pieces : List (List ℤ)) (i : ℕ) → pieces ≡ first_chunks (2 * span) (length tables / (2 * span)) tables
      → i < length tables / (2 * span) → at ≡ i * (2 * span) → get_or pieces i [] ≡ own_entries
  entries_are pieces i is few here =
      rw here (ap (λ (l : List (List ℤ)). get_or l i []) is ∙ chunk_at (2 * span) _ i tables [] few)

  product_cut : (g : ℕ) → g < span → get_or own_entries (0 + g) (pos 0) ≡ get_or tables (at + g) (pos 0)
  product_cut g h = rw zero-add (cut_at tables at (2 * span) g (pos 0) (omega arith))

  pub cost_cut : (g : ℕ) → g < span → get_or own_entries (0 + span + g) (pos 0) ≡ get_or tables (at + span + g) (pos 0)
  cost_cut g h = rw (add_assoc 0 span g, zero-add, add_assoc at span g) (cut_at tables at (2 * span) (span + g) (pos 0) (omega arith))

  -- make the same parts,
  pub same_part : (left : ℤ) (g : ℕ) → g < span → table_part own_entries 0 left g ≡ table_part tables at left g
  unfolding table_part
  same_part left g h = rw (product_cut g h, cost_cut g h) refl

  -- and ask nothing more
  pub asked_cut : (left : ℤ) (w : ℕ) → LeastAsked tables at left w → LeastAsked own_entries 0 left w
  asked_cut left w asked =
      let few = labels_few w asked.axis.bits in
      record {
        axis = record {
          bits = asked.axis.bits;
          room = omega arith;
          remains = asked.axis.remains;
          product = λ g h. rw (product_cut g (omega (arith, few))) (asked.axis.product g h);
          cost = λ g h. rw (cost_cut g (omega (arith, few))) (asked.axis.cost g h);
        };
        small = λ g h. rw (same_part left g (omega (arith, few))) (asked.small g h);
      }
