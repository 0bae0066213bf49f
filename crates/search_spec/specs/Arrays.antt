-- The place of the first smallest key.
use Rattle.std.specs.Prelude.{ℕ, zero, suc, cond, List, ltb, get_or}

-- Of the places b and k, k where its key is smaller, else b
unfoldable pub smaller_at : List ℕ → ℕ → ℕ → ℕ
smaller_at keys b k = cond (ltb (get_or keys k 0) (get_or keys b 0)) k b

-- The place of the smallest of the first n keys, the first one of equals
unfoldable pub least_first : List ℕ → ℕ → ℕ
least_first keys zero = 0
least_first keys (suc k) = smaller_at keys (least_first keys k) k
