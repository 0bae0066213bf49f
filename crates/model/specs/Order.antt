-- The one order of labels and of siblings.
use Rattle.std.specs.Prelude.{ℕ, Bool, false, ◌&&◌, ◌||◌, List, [], ◌∷◌, ltb, eqb}
use Rattle.model.specs.Constellation.{Bits, number}
use Rattle.model.specs.Metric.{Row, metric, cost}

-- Lists of numbers by their first, equal ones by the next, and so on
unfoldable pub earlier : List ℕ → List ℕ → Bool
earlier [] bs = false
earlier (a ∷ ks) [] = false
earlier (a ∷ ks) (b ∷ bs) = ltb a b || (eqb a b && earlier ks bs)

-- What nodes of one level are ordered by, `rows` being theirs: the metric, then the prior cost, then the number of the bits. Of labels:
-- "a tie between labels in any record now goes to the one with less prior cost, and only then to the smaller number" (document 02); "equal
-- siblings follow the same order by partial prior cost, then symbol label" (their other bits are their parent's)
abbrev pub rank : ℕ → List Row → Bits → List ℕ
rank q rows bits = metric q rows bits ∷ cost q rows bits ∷ number bits ∷ []

-- Node a comes before node b of the same level
abbrev pub is_before : ℕ → List Row → Bits → Bits → Bool
is_before q rows a b = earlier (rank q rows a) (rank q rows b)
