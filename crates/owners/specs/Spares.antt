-- How code keeps the shares: for each owner, the nodes that it may walk beyond M for each of its vectors to come. An array of five numbers, of
-- which owner o's is the o-th.
use Rattle.std.specs.Prelude.{ℕ, ◌+◌, ◌*◌, ◌<◌, ◌≡◌, List, length, get_or}
use Rattle.model.specs.Metric.{Row}
use Rattle.model.specs.Block.{Block, total}
use Rattle.owners.specs.Owners.{of_owner, alone}

abbrev pub spare_places : ℕ
spare_places = 5

-- The array before owners `os` and their vectors `vs`, each owner's vectors before them having walked the nodes `spent`: n × D of an owner is
-- what it has to spare, what it has spent, and M for each of its vectors to come
pub record Spares (b : Block) (spare : List ℕ) (spent : ℕ → ℕ) (os : List ℕ) (vs : List (List Row)) : Type 0 where
  pub five : length spare ≡ spare_places
  pub each : (o : ℕ) → o < spare_places → get_or spare o 0 + (spent o + length (of_owner o os vs) * b.streams) ≡ total (alone b o)
