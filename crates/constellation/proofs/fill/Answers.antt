-- A width other than 8 is at most 6.
use Prim.Native.Nat.{ℕ, ◌≤◌}
use mathlib.Core.Logic.{◌≢◌}
use native.Mathlib.Omega.{arith}
use Rattle.model.specs.Block.{widths}
use Rattle.model.proofs.Bounds.{of_every}
use Rattle.constellation.proofs.fill.Goals as goal

pub fill_by_axes-requires : goal.fill_by_axes-requires
fill_by_axes-requires c = of_every (λ (w : ℕ). w ≢ 8 → w ≤ 6) widths (omega arith) c.requires c.if-q-eq8.false
