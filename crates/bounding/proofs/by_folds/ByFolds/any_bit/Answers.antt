-- A turn: the bit's limit is above what the nearest label with the opposite bit comes to, or what remains is folded in the middle.
use Rattle.std.proofs.Common.{◌≡◌, ℕ, suc, ◌+◌, ◌-◌, ◌*◌, ◌%◌, ◌^◌, ◌<◌, ◌≤◌, Bool, cond, eqb, bit_and, zero-add, ◌/◌, ℤ, pos, nat_abs, ◌-ℤ◌, sym, ◌∙◌, ap, ap₂, arith, mul-le-mul, pow_mono, shl_exact, w64, to_z, of_z, to_z-of_z}
use Rattle.std.proofs.Math.Facts.{to_z_pos}
use Rattle.std.specs.Bool.{beq}
use Rattle.std.specs.Int.Signed.{lt_z}
use Rattle.integers.proofs.Fits.{sfits_abs}
use Rattle.model.specs.Block.{most_entry}
use Rattle.metric.specs.Parts.{axis_width, remainder_bound}
use Rattle.metric.proofs.Folds.{pos_apart}
use Rattle.metric.proofs.Shifts.{one_shifted}
use Rattle.bounding.specs.Answers.{reached_by, bits_open}
use Rattle.bounding.proofs.Bits.{bit_read}
use Rattle.bounding.proofs.Answers.{bit_open, bit_past}
use Rattle.bounding.proofs.by_folds.ByFolds.any_bit.Goals as goal

-- What remains after the fold, as it is written
module _ (diagonal k size : ℕ) (x : ℤ) (entry : diagonal ≤ most_entry) (few : k < axis_width) (is : size ≡ nat_abs x)
    (small : nat_abs x < remainder_bound) where
  abbrev middle : ℕ
  middle = diagonal * 2 ^ k % 2 ^ 64

  middle_is : middle ≡ diagonal * 2 ^ k
  middle_is = shl_exact 11 _ 64 (omega arith) (omega arith)

  middle_small : middle < remainder_bound
  middle_small = omega (arith, middle_is, mul-le-mul entry (pow_mono {i = k} {j = axis_width - 1} (omega arith)))

  abbrev next : ℤ
  next = to_z w64 middle -ℤ to_z w64 size

  next_is : next ≡ pos middle -ℤ pos size
  next_is = ap₂ ◌-ℤ◌ (to_z_pos w64 {n = middle} (omega (arith, middle_small))) (to_z_pos w64 {n = size} (omega arith))

  next_small : nat_abs next < remainder_bound
  next_small = omega (arith, ap nat_abs next_is, pos_apart middle size, middle_small)

  -- as the program holds it
  held : to_z w64 (of_z w64 next) ≡ next
  held = to_z-of_z {w = w64} (sfits_abs next (omega (arith, next_small)))

  folded : to_z w64 (of_z w64 next) ≡ pos (diagonal * 2 ^ k) -ℤ pos (nat_abs x)
  folded = held ∙ next_is ∙ ap₂ (λ (a b : ℕ). pos a -ℤ pos b) middle_is is

  -- What the nearest label with the opposite bit comes to
  reached : (w other low own r : ℕ) → k < w
      → r ≡ cond (beq (lt_z x (pos 0)) (eqb (bit_and (own / 2 ^ k) 1) 1)) low (other + (size + diagonal) * (size + diagonal))
      → r ≡ reached_by diagonal w other low own (w - suc k) x
  reached w other low own r inside e =
      let least : Bool → ℕ → ℕ = λ b n. cond (beq (lt_z x (pos 0)) b) low (other + (n + diagonal) * (n + diagonal)) in
      e ∙ ap₂ least (bit_read w own k inside) is

  -- The place of the bit's limit
  place_is : 1 * 2 ^ k % 2 ^ 64 ≡ 0 + 2 ^ k
  place_is = one_shifted k (omega arith) ∙ sym (zero-add (2 ^ k))

pub bounds-limits-k : goal.bounds-limits-k
bounds-limits-k c =
    omega (arith, one_shifted (c.loop-k.k - 1) (omega arith), pow_mono {i = c.loop-k.k - 1} {j = axis_width - 1} (omega (arith, c.loop-k.auto.k)))

pub returns-then-reached-limits : goal.returns-then-reached-limits
returns-then-reached-limits c =
    let a = c.args.self in
    let k = c.loop-k.k - 1 in
    let x = to_z w64 c.loop-k.x-bits in
    let few : k < axis_width = omega (arith, c.loop-k.auto.k) in
    let last : c.loop-k.k ≡ suc k = omega arith in
    let is = c.magnitude-size.ensures in
    let small = c.loop-k.invariant.small in
    bit_open a.diagonal a.width c.args.other c.args.low c.args.limits.entries.now 0 c.args.limits.own _ c.loop-k.k k x c.loop-k.invariant.rest last _ _
    (reached a.diagonal k c.magnitude-size.result x a.entry few is small a.width c.args.other c.args.low c.args.limits.own _ (omega (arith, c.loop-k.auto.k)) c.least_opposite-reached.ensures)
    (place_is a.diagonal k c.magnitude-size.result x a.entry few is small) c.if-reached-limits.true

pub loop-k-preserved : goal.loop-k-preserved
loop-k-preserved c =
    let a = c.args.self in
    let k = c.loop-k.k - 1 in
    let x = to_z w64 c.loop-k.x-bits in
    let few : k < axis_width = omega (arith, c.loop-k.auto.k) in
    let last : c.loop-k.k ≡ suc k = omega arith in
    let is = c.magnitude-size.ensures in
    let small = c.loop-k.invariant.small in
    record {
      small = rw (held a.diagonal k c.magnitude-size.result x a.entry few is small) (next_small a.diagonal k c.magnitude-size.result x a.entry few is small);
      rest =
          rw (folded a.diagonal k c.magnitude-size.result x a.entry few is small)
          (bit_past a.diagonal a.width c.args.other c.args.low c.args.limits.entries.now 0 c.args.limits.own _ c.loop-k.k k x c.loop-k.invariant.rest last _ _
          (reached a.diagonal k c.magnitude-size.result x a.entry few is small a.width c.args.other c.args.low c.args.limits.own _ (omega (arith, c.loop-k.auto.k)) c.least_opposite-reached.ensures)
          (place_is a.diagonal k c.magnitude-size.result x a.entry few is small) c.if-reached-limits.false);
    }

pub returns : goal.returns
unfolding bits_open
returns c =
    let e : c.loop-k.k ≡ 0 = omega arith in
    sym (rw e at c.loop-k.invariant.rest)
