-- Why the program's sums stay within their types.
use Prim.Native.Nat.{ℕ, ◌+◌, ◌*◌, ◌≤◌}
use native.Mathlib.Nat.{mul-le-mul}
use native.Mathlib.Omega.{arith}

-- The vectors have at most 3,136 whole numbers, a vector's priors being p; the parts of that sum
pub record Sums (own m n p : ℕ) : Type 0 where
  pub square : m * m ≤ 16
  pub vectors : n * (own + (m * m + 2 * m + p)) ≤ 3136

pub sums : (own m n p : ℕ) → own ≤ 1 → m ≤ 4 → n ≤ 64 → p ≤ 24 → Sums own m n p
sums own m n p few h k l =
    let square : m * m ≤ 16 = mul-le-mul h h in
    let vector : own + (m * m + 2 * m + p) ≤ 49 = omega arith in
    record { square = square; vectors = mul-le-mul k vector }
