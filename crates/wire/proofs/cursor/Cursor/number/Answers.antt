-- `Cursor::number` meets its contract: a first byte without the high bit is the number by one law, and all others are read by the loop.
use mathlib.Core.Path.{sym}
use native.Mathlib.Omega.{arith}
use Rattle.wire.proofs.Reading.{number_of_one}
use Rattle.wire.proofs.RoundTrip.{answered}
use Rattle.wire.proofs.cursor.Cursor.number.Goals as goal

pub returns-then-first-lt128-clause-found : goal.returns-then-first-lt128-clause-found
returns-then-first-lt128-clause-found c =
    answered _ _ _ (sym (number_of_one _ _ (omega arith) (omega arith)))
