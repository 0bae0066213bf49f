-- The widest limit of some bits: a partial metric is below it where it is below the limit of one of them.
use Rattle.std.specs.Prelude.{ℕ, zero, suc, max, Bool, cond}

-- The widest of n limits from a place on, of the bits that are picked; 0 where none is
unfoldable pub widest_of : (ℕ → Bool) → (ℕ → ℕ) → ℕ → ℕ → ℕ
widest_of pick limit a zero = 0
widest_of pick limit a (suc n) = max (cond (pick a) (limit a) 0) (widest_of pick limit (suc a) n)
