-- `wire::fold` meets its contract: for a negative x, -1 - x is a natural number below 2 ^ 31, since x fits, and x folds to 2(-1 - x) + 1.
use Prim.Native.Nat.{◌+◌, ◌*◌}
use mathlib.Core.Path.{◌≡◌}
use mathlib.Core.Bool.{true, false}
use lib.IntN.{pos, negsuc, nat_abs, ◌-ℤ◌}
use lib.Signed.{lt_z}
use mir.Syntax.{w32}
use mir.Val.{SFits}
use mir.Facts.{to_z-of_z}
use Rattle.integers.proofs.Fits.{complement_fits}
use Rattle.wire.specs.Folding.{folded}
use Rattle.wire.proofs.Folding.{folded_negative, folded_other}
use Rattle.wire.proofs.fold.Lts as lts
use Rattle.wire.proofs.fold.Reads as reads
use Rattle.wire.proofs.fold.Goals as goal

-- what the test says of x itself
negative : (c : lts.Then1 reads.Pre reads.Post) → lt_z c.before.args.x (pos 0) ≡ true
negative c = let f = c.before.ranges.x in simp to_z-of_z at c.if-x-lt0.true

other : (c : lts.Else1 reads.Pre reads.Post) → lt_z c.before.args.x (pos 0) ≡ false
other c = let f = c.before.ranges.x in simp to_z-of_z at c.if-x-lt0.false

fits : (c : lts.Then1 reads.Pre reads.Post) → SFits w32 (negsuc 0 -ℤ c.before.args.x)
fits c = complement_fits c.before.args.x (negative c) c.before.ranges.x

-- each branch's result is the folded number, which fits
negative_is : (c : lts.Then1 reads.Pre reads.Post) → 2 * nat_abs (negsuc 0 -ℤ c.before.args.x) + 1 ≡ folded c.before.args.x
negative_is c = folded_negative c.before.args.x (negative c)

other_is : (c : lts.Else1 reads.Pre reads.Post) → 2 * nat_abs c.before.args.x ≡ folded c.before.args.x
other_is c = folded_other c.before.args.x (other c)

pub returns-then-x-lt0 : goal.returns-then-x-lt0
returns-then-x-lt0 c =
    let f = c.before.ranges.x in let g = fits c in simp to_z-of_z (negative_is c)

pub returns-else-x-lt0 : goal.returns-else-x-lt0
returns-else-x-lt0 c =
    let f = c.before.ranges.x in simp to_z-of_z (other_is c)
