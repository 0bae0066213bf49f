-- As many groups as the number's size calls for, and no fewer.
use Rattle.std.proofs.Common.{ℕ, suc, ◌*◌, ◌^◌, ◌<◌, ◌≤◌, ◌≡◌, sym, ap, length, arith}
use Rattle.wire.specs.Writing.{bytes_of}
use Rattle.wire.proofs.Writing.{bytes_of-one, bytes_of-short, bytes_of-many}
use Rattle.wire.proofs.group_count.Goals as goal

-- A number of 7 g bits or more, and of no more than 7 (g + 1)
exactly : (g n : ℕ) → g < 4 → 2 ^ (7 * g) ≤ n → n < 2 ^ (7 * suc g) → suc g ≡ length (bytes_of n)
exactly g n h low high = omega (arith, bytes_of-short (suc g) n (omega arith) high, bytes_of-many g n low h)

pub returns-in-0-to-127 : goal.returns-in-0-to-127
returns-in-0-to-127 c = sym (ap length (bytes_of-one c.args.n (omega arith)))

pub returns-in-128-to-16383 : goal.returns-in-128-to-16383
returns-in-128-to-16383 c = exactly 1 c.args.n (omega arith) (omega arith) (omega arith)

pub returns-in-16384-to-2097151 : goal.returns-in-16384-to-2097151
returns-in-16384-to-2097151 c = exactly 2 c.args.n (omega arith) (omega arith) (omega arith)

pub returns-in_default : goal.returns-in_default
returns-in_default c = exactly 3 c.args.n (omega arith) (omega arith) (omega arith)
