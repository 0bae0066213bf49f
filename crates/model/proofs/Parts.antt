-- Document 02, Point 5: a metric is a squared distance and a prior cost, for any width and any list of rows.
use Prim.Native.Nat.{ℕ, ◌+◌, ◌^◌, ◌≤◌, ◌<◌}
use mathlib.Core.Path.{◌≡◌, refl}
use mathlib.Core.List.{List, [], ◌∷◌}
use native.Mathlib.Omega.{arith}
use lib.ListN.{length, drop}
use Rattle.model.specs.Constellation.{Bits}
use Rattle.model.specs.Metric.{Row, increment, metric, distance, cost}
use Rattle.model.specs.Block.{Block, InRange, RowsInRange}
use Rattle.model.proofs.Bounds.{metric_small}

pub metric_parts : (q : ℕ) (rows : List Row) (bits : Bits) → metric q rows bits ≡ distance q rows bits + cost q rows bits
unfolding metric distance cost increment
metric_parts q [] bits = refl
metric_parts q (r ∷ rows) bits = omega (arith, metric_parts q rows (drop q bits))

-- So a squared distance has at most 39 bits, as a metric has
pub distance_small : (b : Block) → InRange b → (rows : List Row) → RowsInRange b.width rows → length rows ≤ b.streams → (bits : Bits)
    → distance b.width rows bits < 2 ^ 39
distance_small b ranged rows h k bits = omega (arith, metric_parts b.width rows bits, metric_small b ranged rows h k bits)
