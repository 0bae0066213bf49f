-- In each arm the kind is known, and its bound is within twice its range; below 0 there is no number.
use native.Mathlib.Omega.{arith}
use Rattle.block.proofs.Ranges.{sure_right, sure_received, sure_prior}
use Rattle.reader.proofs.sure_below.Goals as goal

pub returns-in-RightPart : goal.returns-in-RightPart
returns-in-RightPart c =
    rw c.in-RightPart.is (sure_right _ (omega arith))

pub returns-in-ReceivedPart : goal.returns-in-ReceivedPart
returns-in-ReceivedPart c =
    rw c.in-ReceivedPart.is (sure_received _ (omega arith))

pub returns-in-BitPrior : goal.returns-in-BitPrior
returns-in-BitPrior c =
    rw c.in-BitPrior.is (sure_prior _ (omega arith))
