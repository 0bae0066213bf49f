-- The symbol shifted past the node's bits has none of them.
use native.Mathlib.Omega.{arith}
use lib.Bits.{or_shifted}
use lib.Pow.{shl_exact}
use Rattle.model.specs.Block.{most_width}
use Rattle.turn.proofs.with_symbol.Goals as goal

pub returns : goal.returns
returns c =
    rw (shl_exact {a = c.args.symbol} most_width c.args.bits 32 c.requires.0 (omega arith))
    (or_shifted c.args.symbol c.args.bits c.args.node c.requires.2)
