-- Document 01's folding of signed numbers.
use Rattle.std.specs.Prelude.{ℕ, ◌+◌, ◌*◌, ◌/◌, ◌%◌, cond, eqb, ℤ, pos, negsuc}

-- "n as 2n if n is at least 0, else -2n - 1": negsuc n is -n - 1 (the law `folded_is` has the sentence as it stands)
unfoldable pub folded : ℤ → ℕ
folded (pos n) = 2 * n
folded (negsuc n) = 2 * n + 1

-- The number that is "folded" to n
unfoldable pub unfolded : ℕ → ℤ
unfolded n = cond (eqb (n % 2) 0) (pos (n / 2)) (negsuc (n / 2))
