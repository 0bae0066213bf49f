-- Writing one number of document 01's record or reply, and a run of bytes in a lent buffer.
use Rattle.std.specs.Prelude.{ℕ, zero, suc, ◌+◌, ◌/◌, ◌%◌, ◌≡◌, cond, List, [], ◌∷◌, ltb, length}
use Rattle.std.proofs.lemmas.List.Edits.{sets}

-- At most g groups of n: "groups of seven bits, least significant first, the high bit set on every group but the last, shortest form"
unfoldable pub groups_of : ℕ → ℕ → List ℕ
groups_of zero n = []
groups_of (suc g) n = cond (ltb n 128) (n ∷ []) ((n % 128 + 128) ∷ groups_of g (n / 128))

-- The bytes of n, which is below 2 to the 28: "at most four groups"
unfoldable pub bytes_of : ℕ → List ℕ
bytes_of n = groups_of 4 n

-- The buffer l with the bytes bs from a place on, every other byte as it was
unfoldable pub put : List ℕ → ℕ → List ℕ → List ℕ
put l at bs = sets l at bs

-- The bytes bs were put into the buffer l from a place on, and ended where the next ones begin
pub record Wrote (l : List ℕ) (at : ℕ) (bs after : List ℕ) (next : ℕ) : Type 0 where
  pub ends : next ≡ at + length bs
  pub leaves : after ≡ put l at bs
