-- The two tests turn by turn, and what their false answers mean: every child would be cut.
use Prim.Native.Nat.{ℕ, zero, suc, ◌+◌, ◌-◌, ◌*◌, ◌/◌, ◌%◌, ◌^◌, ◌≤◌, ◌<◌, min}
use mathlib.Core.Path.{◌≡◌, refl, sym, ◌∙◌, ap, subst}
use mathlib.Core.Bool.{Bool, true, false, ◌&&◌, ◌||◌, or_assoc}
use mathlib.Core.List.{List}
use mathlib.Core.Logic.{◌⊎◌, inl, inr, ⊎_elim}
use native.Mathlib.Nat.{add_assoc, le_refl, eq-or-lt_of_le}
use native.Mathlib.Omega.{arith}
use borrow.Author.Tests.{ltb-false, lt-ltb, le-ltb}
use lib.Dec.{ltb}
use lib.IntN.{ℤ, pos, nat_abs, ◌-ℤ◌}
use lib.ListN.{get_or, take, drop}
use lib.Pow.{pow_pos}
use Rattle.model.specs.Constellation.{bits_of}
use Rattle.model.specs.Block.{most_width}
use Rattle.model.specs.Soft.{up_from}
use Rattle.model.proofs.Lists.{or_left, or_right, and_cases, any_false, in-up_from}
use Rattle.model.proofs.Numbers.{first_half}
use Rattle.constellation.specs.Points.{complex_of}
use Rattle.metric.specs.Parts.{span, axis_distance, nearest_of, child_metric}
use Rattle.metric.specs.Rows.{row_start, row_at, remainder_of, child_of}
use Rattle.axes.specs.Tables.Axis.{real, imaginary}
use Rattle.metric.proofs.Rows.{diagonal_within}
use Rattle.axes.proofs.Tables.{axis_few}
use Rattle.bounding.specs.Cut.{OpensAsked, Widest, Beyond}
use Rattle.bounding.specs.Axes.{BitAsked}
use Rattle.bounding.specs.Answers.{reached_by, bits_open, any_bit, over_at, any_part, least_part, opened, some_child_may_pass, some_child_may_pass_by_parts}
use Rattle.bounding.proofs.Runs.{NoneOver, LeastOf, least_more}
use Rattle.bounding.proofs.Cuts.{bit_cut, part_cut, least_cut}
use Rattle.bounding.proofs.Halves.{imaginary_lt, none_wider, parts_beyond}
use Rattle.bounding.proofs.Bits.{NoFurther, BitHeld, none_folded, fold_turn, bit_turn, bits_over}
use Rattle.bounding.proofs.Near.{square_small, near_small, bit_asked, none_wide, all_beyond}

-- The answer of either test by the base and the first axis: below the base, or the axis is asked, or it is not
module _ (base low widest : ℕ) (any : Bool) where
  abbrev pub begun : Bool
  begun = ltb low base || (ltb low widest && any)

  pub begun_base : low < base → ltb low base ≡ begun
  begun_base h = rw (lt-ltb low base h) refl

  pub begun_asked : base ≤ low → low < widest → any ≡ begun
  begun_asked h k = rw (le-ltb low base h, lt-ltb low widest k) refl

  pub begun_unasked : base ≤ low → widest ≤ low → ltb low widest ≡ begun
  begun_unasked h k = rw (le-ltb low base h, le-ltb low widest k) refl

-- and then by the second
module _ (base low widest : ℕ) (any : Bool) (wider : ℕ) (more : Bool) where
  parted : opened base low widest any wider more ≡ (begun base low widest any || (ltb low wider && more))
  parted = sym (or_assoc (ltb low base) (ltb low widest && any) (ltb low wider && more))

  pub first_open : begun base low widest any ≡ true → true ≡ opened base low widest any wider more
  first_open e = sym (parted ∙ ap (λ (t : Bool). t || (ltb low wider && more)) e)

  second_left : begun base low widest any ≡ false → opened base low widest any wider more ≡ (ltb low wider && more)
  second_left e = parted ∙ ap (λ (t : Bool). t || (ltb low wider && more)) e

  pub second_unasked : begun base low widest any ≡ false → wider ≤ low → ltb low wider ≡ opened base low widest any wider more
  second_unasked e k = let f = le-ltb low wider k in f ∙ sym (second_left e ∙ ap (λ (t : Bool). t && more) f)

  pub second_asked : begun base low widest any ≡ false → low < wider → more ≡ opened base low widest any wider more
  second_asked e k = sym (second_left e ∙ ap (λ (t : Bool). t && more) (lt-ltb low wider k))

  -- What its false answer says
  pub shut_base : opened base low widest any wider more ≡ false → base ≤ low
  shut_base e = ltb-false low base (or_left _ _ e)

  unasked : (wide : ℕ) (a : Bool) → (ltb low wide && a) ≡ false → (wide ≤ low) ⊎ (a ≡ false)
  unasked wide a e = ⊎_elim (λ k. inl (ltb-false low wide k)) inr (and_cases (ltb low wide) a e)

  pub shut_first : opened base low widest any wider more ≡ false → (widest ≤ low) ⊎ (any ≡ false)
  shut_first e = unasked widest any (or_left _ _ (or_right (ltb low base) _ e))

  pub shut_second : opened base low widest any wider more ≡ false → (wider ≤ low) ⊎ (more ≡ false)
  shut_second e = unasked wider more (or_right (ltb low widest && any) _ (or_right (ltb low base) _ e))

-- One bit of an axis
module _ (diagonal w other low : ℕ) (entries : List ℕ) (from own : ℕ) where
  -- Where the last n bits are left of an answer, x remains, and the nearest label with the opposite bit comes to r
  module _ (whole : Bool) (n k : ℕ) (x : ℤ) (left : whole ≡ bits_open diagonal w other low entries from own n x) (last : n ≡ suc k) (r place : ℕ)
      (is : r ≡ reached_by diagonal w other low own (w - suc k) x) (here : place ≡ from + 2 ^ k) where
    abbrev next : ℤ
    next = pos (diagonal * 2 ^ k) -ℤ pos (nat_abs x)

    bit_step : whole ≡ (ltb r (get_or entries place 0) || bits_open diagonal w other low entries from own k next)
    unfolding bits_open
    bit_step = left ∙ (rw (is, here, last) refl)

    -- the bit's limit is above that,
    pub bit_open : r < get_or entries place 0 → true ≡ whole
    bit_open over = sym (bit_step ∙ ap (λ (t : Bool). t || bits_open diagonal w other low entries from own k next) (lt-ltb _ _ over))

    -- or it is not
    pub bit_past : get_or entries place 0 ≤ r → whole ≡ bits_open diagonal w other low entries from own k next
    bit_past under = bit_step ∙ ap (λ (t : Bool). t || bits_open diagonal w other low entries from own k next) (le-ltb _ _ under)

  -- Where the rest of the bits opens nothing, no label is below the limit of one in which it differs from own
  bits_held : {left : ℤ} → BitAsked left diagonal w other low entries from own → (k : ℕ) (x : ℤ) → k ≤ w → NoFurther left diagonal w x k
      → bits_open diagonal w other low entries from own k x ≡ false
      → (j : ℕ) → w - k ≤ j → j < w → BitHeld entries from w (axis_distance left (pos diagonal) w) other own j
  unfolding bits_open
  bits_held asked zero x few near e j h l = absurd (omega arith)
  bits_held {left} asked (suc k) x few near e j h l =
      go (eq-or-lt_of_le h)
      (λ m.
      bits_held asked k (pos (diagonal * 2 ^ k) -ℤ pos (nat_abs x)) (omega arith) (fold_turn left diagonal w k x near)
      (or_right (ltb (reached_by diagonal w other low own (w - suc k) x) (get_or entries (from + 2 ^ k) 0)) _ e) j m l)
    where
      back : w - suc (w - suc k) ≡ k
      back = omega arith

      go : (w - suc k ≡ j) ⊎ (w - suc k < j)
          → (w - k ≤ j → BitHeld entries from w (axis_distance left (pos diagonal) w) other own j)
          → BitHeld entries from w (axis_distance left (pos diagonal) w) other own j
      go (inl p) later =
          subst (BitHeld entries from w (axis_distance left (pos diagonal) w) other own) p
          (bit_turn asked (w - suc k) x (subst (λ (n : ℕ). NoFurther left diagonal w x (suc n)) (sym back) near) (from + 2 ^ k) _
          (ap (λ (n : ℕ). from + 2 ^ n) (sym back)) refl (ltb-false _ _ (or_left _ _ e)))
      go (inr p) later = later (omega arith)

  -- so that none is below its entry
  pub bits_shut : {left : ℤ} → BitAsked left diagonal w other low entries from own
      → any_bit left diagonal w other low entries from own ≡ false
      → NoneOver entries from (2 ^ w) (axis_distance left (pos diagonal) w) other own
  bits_shut {left} asked e =
      let n : w - 0 ≡ w = omega arith in
      bits_over asked (ltb-false _ _ (or_left _ _ e))
      (λ j h. bits_held asked w left (le_refl w) (subst (NoFurther left diagonal w left) n (none_folded left diagonal w))
      (or_right (ltb low (get_or entries from 0)) _ e) j (omega arith) h)

-- The parts of an axis
module _ (entries : List ℕ) (from : ℕ) (part : ℕ → ℕ) (other own : ℕ) where
  -- Where none is below its entry
  pub parts_shut : (n : ℕ) → any_part entries from part other own 0 n ≡ false → NoneOver entries from n part other own
  unfolding any_part
  parts_shut n e g h = ltb-false _ _ (any_false (over_at entries from part other own) (up_from 0 n) g e (in-up_from 0 n g (omega arith) (omega arith)))

-- The least part is not above any, and small where they are
least_to : (part : ℕ → ℕ) (n : ℕ) → ((g : ℕ) → g < suc n → part g < 2 ^ 62) → LeastOf part (suc n) (least_part part n)
unfolding least_part
least_to part zero small = record {
  low = small 0 (omega arith);
  least_le = λ g h. let e : g ≡ 0 = omega arith in rw e (le_refl _);
}
least_to part (suc n) small =
    let e : suc (suc n) ≡ suc n + 1 = omega arith in
    rw e (least_more (least_to part n (λ g h. small g (omega arith))) (min (least_part part n) (part (suc n))) (omega arith) (omega arith))

pub least_of_lem : (part : ℕ → ℕ) (n : ℕ) → 1 ≤ n → ((g : ℕ) → g < n → part g < 2 ^ 62) → LeastOf part n (least_part part (n - 1))
least_of_lem part n some small =
    let e : suc (n - 1) ≡ n = omega arith in
    subst (λ (k : ℕ). LeastOf part k (least_part part (n - 1))) e (least_to part (n - 1) (λ g h. small g (omega arith)))

-- The test by distances, from what is asked of each axis in its own half of the limits
pub opens_by : (m q row : ℕ) (re im : ℤ) (partial base : ℕ) (numbers : List ℤ) (entries : List ℕ) (own diagonal : ℕ) → q ≤ most_width
    → diagonal ≡ nat_abs (get_or numbers (row_start m row) (pos 0))
    → let near_re = nearest_of diagonal (q - q / 2) (nat_abs re) in
    let near_im = nearest_of diagonal (q / 2) (nat_abs im) in
    let low = partial + (near_re * near_re + near_im * near_im) in
    opened base low (get_or entries (2 ^ (q - q / 2) - 1) 0)
    (any_bit re diagonal (q - q / 2) (partial + near_im * near_im) low (take span entries) 0 (own / 2 ^ (q / 2))) (get_or entries (span + (2 ^ (q / 2) - 1)) 0)
    (any_bit im diagonal (q / 2) (partial + near_re * near_re) low (take span (drop span entries)) 0 (own % 2 ^ (q / 2)))
    ≡ some_child_may_pass m q row re im partial base numbers entries own
unfolding some_child_may_pass
opens_by m q row re im partial base numbers entries own diagonal h stands =
    let near_re = nearest_of diagonal (q - q / 2) (nat_abs re) in
    let near_im = nearest_of diagonal (q / 2) (nat_abs im) in
    rw (
      ← add_assoc partial (near_re * near_re) (near_im * near_im),
      bit_cut entries 0 re diagonal (q - q / 2) (partial + near_im * near_im) (partial + near_re * near_re + near_im * near_im) (own / 2 ^ (q / 2)) (axis_few q real h),
      bit_cut entries span im diagonal (q / 2) (partial + near_re * near_re) (partial + near_re * near_re + near_im * near_im) (own % 2 ^ (q / 2)) (axis_few q imaginary h),
      stands,
    ) refl

-- and that by the parts, by rules that agree with those of the table on each axis's labels
pub parts_by : (q partial base : ℕ) (re im re' im' : ℕ → ℕ) (entries : List ℕ) (own : ℕ) → q ≤ most_width → own < 2 ^ q
    → ((g : ℕ) → g < 2 ^ (q - q / 2) → re' g ≡ re g) → ((g : ℕ) → g < 2 ^ (q / 2) → im' g ≡ im g)
    → let least-re = least_part re' (2 ^ (q - q / 2) - 1) in
    let least-im = least_part im' (2 ^ (q / 2) - 1) in
    opened base (partial + (least-re + least-im)) (get_or entries (2 ^ (q - q / 2) - 1) 0)
    (any_part (take span entries) 0 re' (partial + least-im) (own / 2 ^ (q / 2)) 0 (2 ^ (q - q / 2))) (get_or entries (span + (2 ^ (q / 2) - 1)) 0)
    (any_part (take span (drop span entries)) 0 im' (partial + least-re) (own % 2 ^ (q / 2)) 0 (2 ^ (q / 2)))
    ≡ some_child_may_pass_by_parts q partial base re im entries own
unfolding some_child_may_pass_by_parts
parts_by q partial base re im re' im' entries own h symbol same-re same-im =
    rw (
      least_cut re' re (2 ^ (q - q / 2) - 1) (λ g k. same-re g (omega (arith, pow_pos (q - q / 2)))),
      least_cut im' im (2 ^ (q / 2) - 1) (λ g k. same-im g (omega (arith, pow_pos (q / 2)))),
      part_cut entries 0 re' re (partial + least_part im (2 ^ (q / 2) - 1)) (own / 2 ^ (q / 2)) (q - q / 2) same-re (axis_few q real h) (first_half q own symbol),
      part_cut entries span im' im (partial + least_part re (2 ^ (q - q / 2) - 1)) (own % 2 ^ (q / 2)) (q / 2) same-im (axis_few q imaginary h) (imaginary_lt q own),
    ) refl

-- Where the test by distances is asked, and is false, every child would be cut
module _ {m q row : ℕ} {re im : ℤ} {partial : ℕ} {numbers : List ℤ} {entries : List ℕ} {own : ℕ}
    (asked : OpensAsked m q row re im partial numbers entries own) (base : ℕ) where
  abbrev diagonal : ℕ
  diagonal = nat_abs (get_or numbers (row_start m row) (pos 0))

  abbrev near_re : ℕ
  near_re = nearest_of diagonal (q - q / 2) (nat_abs re)

  abbrev near_im : ℕ
  near_im = nearest_of diagonal (q / 2) (nat_abs im)

  abbrev low : ℕ
  low = partial + near_re * near_re + near_im * near_im

  small : (near_re * near_re < 2 ^ 60) × (near_im * near_im < 2 ^ 60)
  small =
      let within = diagonal_within asked.vector row asked.inside in (
        square_small near_re (near_small diagonal _ _ within (axis_few q real asked.vector.bits) asked.low_re),
        square_small near_im (near_small diagonal _ _ within (axis_few q imaginary asked.vector.bits) asked.low_im),
      )

  pub opens_shut : some_child_may_pass m q row re im partial base numbers entries own ≡ false
      → (node : ℕ) → complex_of re im ≡ remainder_of q (row_at m q numbers row) (bits_of ((m - suc row) * q) node)
      → (s : ℕ) → s < 2 ^ q → Beyond q base entries own (child_of m q numbers row node partial s) s
  unfolding some_child_may_pass
  opens_shut e =
      all_beyond asked diagonal refl near_re near_im base refl refl (shut_base base low _ _ _ _ e)
      (⊎_elim
      (none_wide asked diagonal refl real re _ near_re low _ refl (omega arith) (first_half q own asked.symbol) _ (omega arith))
      (bits_shut _ _ _ _ _ _ _
      (bit_asked asked diagonal refl real re _ near_re low _ refl (omega arith) (first_half q own asked.symbol) 0 asked.low_re
      (omega (arith, small, asked.low)) refl))
      (shut_first base low _ _ _ _ e))
      (⊎_elim
      (none_wide asked diagonal refl imaginary im _ near_im low _ refl (omega arith) (imaginary_lt q own) _ (omega arith))
      (bits_shut _ _ _ _ _ _ _
      (bit_asked asked diagonal refl imaginary im _ near_im low _ refl (omega arith) (imaginary_lt q own) span asked.low_im
      (omega (arith, small, asked.low)) refl))
      (shut_second base low _ _ _ _ e))

-- The test by the parts
module _ (q partial base : ℕ) (re im : ℕ → ℕ) (entries : List ℕ) (own : ℕ) where
  pub parts_all_shut : ((g : ℕ) → g < 2 ^ (q - q / 2) → re g < 2 ^ 62) → ((g : ℕ) → g < 2 ^ (q / 2) → im g < 2 ^ 62)
      → Widest q entries → own < 2 ^ q → some_child_may_pass_by_parts q partial base re im entries own ≡ false
      → (s : ℕ) → s < 2 ^ q → Beyond q base entries own (child_metric q partial re im s) s
  unfolding some_child_may_pass_by_parts
  parts_all_shut small-re small-im widest label e =
      let least-re = least_of_lem re _ (pow_pos (q - q / 2)) small-re in
      let least-im = least_of_lem im _ (pow_pos (q / 2)) small-im in
      parts_beyond q partial re im _ _ base entries own least-re.least_le least-im.least_le (shut_base base _ _ _ _ _ e)
      (⊎_elim
      (none_wider entries 0 (q - q / 2) re _ _ _ _ widest.real (λ g h. omega (arith, least-re.least_le g h)) (first_half q own label)
      (omega arith))
      (parts_shut entries 0 re _ _ _) (shut_first base _ _ _ _ _ e))
      (⊎_elim
      (none_wider entries span (q / 2) im _ _ _ _ widest.imaginary (λ g h. omega (arith, least-im.least_le g h)) (imaginary_lt q own)
      (omega arith))
      (parts_shut entries span im _ _ _) (shut_second base _ _ _ _ _ e))
