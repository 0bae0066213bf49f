-- A row's first number is its diagonal, the others are parts of columns right of it; behind the row is a matrix of one column less.
use Rattle.std.proofs.Common.{◌≡◌, ℕ, zero, suc, ◌+◌, ◌-◌, ◌*◌, ◌≤◌, sym, ◌∙◌, arith}
use native.Mathlib.Nat.{suc-mul, mul-suc}
use Rattle.block.proofs.CalledFor.{matrix_diagonal, matrix_right, matrix_below}
use Rattle.records.proofs.matrix_kind.Goals as goal

first_row : (c : ℕ) → 1 ≤ c → c * c ≡ 1 + 2 * (c - 1) + (c - 1) * (c - 1)
first_row zero h = absurd (omega arith)
first_row (suc c) h = let e : suc c - 1 ≡ c = omega arith in rw e (omega (arith, suc-mul c (suc c), mul-suc c c))

pub loop-right-preserved : goal.loop-right-preserved
loop-right-preserved c =
    let l = c.loop-right in
    let row : 2 * l.right - 1 ≡ 1 + 2 * (l.right - 1) = omega arith in (
      omega (arith, first_row l.right (omega arith)),
      l.invariant.1 ∙ rw (← row) (matrix_below l.right l.place (omega arith) (omega arith)),
    )

pub returns-then-place-eq0 : goal.returns-then-place-eq0
returns-then-place-eq0 c =
    let l = c.loop-right in sym (l.invariant.1 ∙ matrix_diagonal l.right l.place (omega arith) c.if-place-eq0.true)

pub returns-then-place-right : goal.returns-then-place-right
returns-then-place-right c =
    let l = c.loop-right in sym (l.invariant.1 ∙ matrix_right l.right l.place (omega arith) (omega arith))
