-- Of the opposed bits those from i on are seen; what is left of `opposed` are its bits before i.
use mathlib.Core.Path.{◌≡◌, ◌∙◌}
use Prim.Native.Nat.{ℕ, ◌<◌, ◌≤◌, ◌-◌, ◌/◌, ◌^◌}
use native.Mathlib.Nat.{lt_of_lt_of_le}
use native.Mathlib.Omega.{arith}
use lib.Count.{count_trailing_zeros}
use lib.Pow.{pow_mono}
use lib.ListN.{length}
use Rattle.model.specs.Block.{most_bits}
use Rattle.hypotheses.specs.Limits.{minima_size}
use Rattle.hypotheses.proofs.Ones.{LastOne, last_one, last_below, left_small, last_is, between, left_before, none_left}
use Rattle.hypotheses.proofs.Narrowed.{one_narrowed, all_narrowed}
use Rattle.hypotheses.proofs.narrow.Goals as goal

-- What is left has at most i bits, the counted zeros stand behind its last one, and so that is one of these
next : (opposed : ℕ) {n i rest : ℕ} → n ≤ most_bits → i ≤ n → rest ≡ opposed / 2 ^ (n - i) → opposed < 2 ^ n → 0 < rest
    → LastOne rest (count_trailing_zeros 32 rest) × (count_trailing_zeros 32 rest < i)
next opposed {rest = rest} few within left small some =
    let bits = left_small opposed within left small in
    let last = last_one 32 rest some (lt_of_lt_of_le bits (pow_mono {j = 32} (omega arith))) in
    (last, last_below _ last bits)

pub loop-rest-preserved : goal.loop-rest-preserved
loop-rest-preserved c =
    let l = c.loop-rest in
    let opposed = c.args.opposed in
    let h = l.invariant in
    let next_one = next opposed c.requires.0 h.0 h.1 c.requires.1 (omega arith) in
    let whole : length c.args.minima.now ≡ minima_size = omega arith in
    let down : l.i - 1 - count_trailing_zeros 32 l.rest < l.i = omega (arith, next_one.1) in (
      omega arith,
      left_before opposed h.0 h.1 next_one.0 next_one.1,
      one_narrowed opposed h.2 c.requires.0 (h.2.size ∙ whole) down h.0
          (last_is opposed h.0 h.1 next_one.0 next_one.1) (between opposed h.0 h.1 next_one.0 next_one.1) c.narrow_at.ensures,
    )

pub returns : goal.returns
returns c =
    let h = c.loop-rest.invariant in
    all_narrowed c.args.opposed c.requires.0 (omega arith) c.requires.2 h.2 (none_left c.args.opposed h.0 h.1 (omega arith))

pub overflow_sub-i-in-loop-rest : goal.overflow_sub-i-in-loop-rest
overflow_sub-i-in-loop-rest c =
    let h = c.loop-rest.invariant in
    omega (arith, next c.args.opposed c.requires.0 h.0 h.1 c.requires.1 (omega arith))
