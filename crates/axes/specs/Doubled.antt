-- The first entries of a list, doubled
use Rattle.std.specs.Prelude.{ℕ, ◌+◌, ◌<◌, ◌≤◌, ◌≡◌, ◌⊎◌, List, length, get_or}

-- Behind the first n entries stand those that a rule gives of them, of the first k: the others are as before
pub record DoubledTo {A : Type 0} (Rule : A → A → Type 0) (old new : List A) (n k : ℕ) : Type 0 where
  pub size : length new ≡ length old
  pub kept : (i : ℕ) (d : A) → (i < n) ⊎ (n + k ≤ i) → get_or new i d ≡ get_or old i d
  pub more : (g : ℕ) (d : A) → g < k → Rule (get_or old g d) (get_or new (n + g) d)

-- of all n
abbrev pub Doubled : {A : Type 0} → (A → A → Type 0) → List A → List A → ℕ → Type 0
Doubled Rule old new n = DoubledTo Rule old new n n
