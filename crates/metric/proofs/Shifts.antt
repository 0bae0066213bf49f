-- 1 shifted by a few places is a power of 2.
use Prim.Native.Nat.{ℕ, ◌*◌, ◌%◌, ◌^◌, ◌≤◌}
use mathlib.Core.Path.{◌≡◌, ◌∙◌}
use native.Mathlib.Nat.{one-mul}
use native.Mathlib.Omega.{arith}
use lib.Dec.{lit<}
use lib.Pow.{shl_exact}

pub one_shifted : (h : ℕ) → h ≤ 24 → 1 * 2 ^ h % 2 ^ 64 ≡ 2 ^ h
one_shifted h k = shl_exact {a = 1} 1 h 64 (lit< tt) (omega arith) ∙ one-mul (2 ^ h)
