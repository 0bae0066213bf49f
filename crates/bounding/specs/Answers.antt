-- The answers of the two tests, as they are computed. What a false answer means is a law of them (proofs/Answers).
use Rattle.std.specs.Prelude.{ℕ, zero, suc, ◌+◌, ◌-◌, ◌*◌, ◌/◌, ◌%◌, ◌^◌, min, Bool, false, cond, ◌&&◌, ◌||◌, List, ltb, ℤ, pos, nat_abs, ◌-ℤ◌, get_or}
use Rattle.std.specs.Bool.{beq}
use Rattle.std.specs.Int.Bits.{bit_xor}
use Rattle.std.specs.Int.Signed.{lt_z}
use Rattle.model.specs.Soft.{up_from}
use Rattle.model.specs.Walk.{any_of}
use Rattle.metric.specs.Parts.{span, nearest_of, bit_of}
use Rattle.metric.specs.Rows.{row_start}

-- The least that a label of an axis of w bits comes to whose bit i is opposite to own's, where x remains: on the near side of the fold that is
-- `low`, and on the other side the first label's squared distance, with `other` added
abbrev pub reached_by : ℕ → ℕ → ℕ → ℕ → ℕ → ℕ → ℤ → ℕ
reached_by diagonal w other low own i x =
    cond (beq (lt_z x (pos 0)) (bit_of w own i)) low (other + (nat_abs x + diagonal) * (nat_abs x + diagonal))

-- Is that below the limit of one of the last k bits? What remains is folded once for each bit
unfoldable pub bits_open : ℕ → ℕ → ℕ → ℕ → List ℕ → ℕ → ℕ → ℕ → ℤ → Bool
bits_open diagonal w other low entries from own zero x = false
bits_open diagonal w other low entries from own (suc k) x =
    ltb (reached_by diagonal w other low own (w - suc k) x) (get_or entries (from + 2 ^ k) 0)
    || bits_open diagonal w other low entries from own k (pos (diagonal * 2 ^ k) -ℤ pos (nat_abs x))

-- Is `low` below the entry of no bit, or that below the limit of a bit?
abbrev pub any_bit : ℤ → ℕ → ℕ → ℕ → ℕ → List ℕ → ℕ → ℕ → Bool
any_bit left diagonal w other low entries from own =
    ltb low (get_or entries from 0) || bits_open diagonal w other low entries from own w left

-- Is a label's part, with `other` added, below the widest limit of the bits in which the label differs from `own`?
abbrev pub over_at : List ℕ → ℕ → (ℕ → ℕ) → ℕ → ℕ → ℕ → Bool
over_at entries from part other own g = ltb (other + part g) (get_or entries (from + bit_xor g own) 0)

-- Is one of n labels' from label g on?
unfoldable pub any_part : List ℕ → ℕ → (ℕ → ℕ) → ℕ → ℕ → ℕ → ℕ → Bool
any_part entries from part other own g n = any_of (over_at entries from part other own) (up_from g n)

-- The least part of the labels 0 to n
unfoldable pub least_part : (ℕ → ℕ) → ℕ → ℕ
least_part part zero = part 0
least_part part (suc n) = min (least_part part n) (part (suc n))

-- The answer of either test. No child is below `low`; an axis's labels are asked where its widest entry is above that
abbrev pub opened : ℕ → ℕ → ℕ → Bool → ℕ → Bool → Bool
opened base low widest any wider more = ltb low base || ((ltb low widest && any) || (ltb low wider && more))

-- May a child of a node pass, by the distances alone? `re` and `im` are what remains of y in the row
unfoldable pub some_child_may_pass : ℕ → ℕ → ℕ → ℤ → ℤ → ℕ → ℕ → List ℤ → List ℕ → ℕ → Bool
some_child_may_pass m q row re im partial base numbers entries own =
    let diagonal = nat_abs (get_or numbers (row_start m row) (pos 0)) in
    let w = q - q / 2 in
    let v = q / 2 in
    let near_re = nearest_of diagonal w (nat_abs re) in
    let near_im = nearest_of diagonal v (nat_abs im) in
    let low = partial + near_re * near_re + near_im * near_im in
    opened base low (get_or entries (2 ^ w - 1) 0)
    (any_bit re diagonal w (partial + near_im * near_im) low entries 0 (own / 2 ^ v)) (get_or entries (span + (2 ^ v - 1)) 0)
    (any_bit im diagonal v (partial + near_re * near_re) low entries span (own % 2 ^ v))

-- and by the parts of either axis, with prior costs?
unfoldable pub some_child_may_pass_by_parts : ℕ → ℕ → ℕ → (ℕ → ℕ) → (ℕ → ℕ) → List ℕ → ℕ → Bool
some_child_may_pass_by_parts q partial base re im entries own =
    let w = q - q / 2 in
    let v = q / 2 in
    let least-re = least_part re (2 ^ w - 1) in
    let least-im = least_part im (2 ^ v - 1) in
    let low = partial + (least-re + least-im) in
    opened base low (get_or entries (2 ^ w - 1) 0) (any_part entries 0 re (partial + least-im) (own / 2 ^ v) 0 (2 ^ w))
    (get_or entries (span + (2 ^ v - 1)) 0) (any_part entries span im (partial + least-re) (own % 2 ^ v) 0 (2 ^ v))
