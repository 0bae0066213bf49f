-- The key of a child: its partial metric and the prior cost of its own symbol in one number, by which siblings are put in order. All else of a
-- path's prior cost is their parent's, which they share.
use Rattle.std.specs.Prelude.{ℕ, ◌+◌, ◌*◌, ◌/◌, ◌%◌}

-- 2 ^ 23, above the prior cost of every symbol: eight bits of at most 1,048,575 each
abbrev pub cost_room : ℕ
cost_room = 8388608

-- Keys rise by the metric, equal ones by the cost
abbrev pub keyed : ℕ → ℕ → ℕ
keyed d c = d * cost_room + c

-- The metric in a key, and the cost
unfoldable pub metric_in : ℕ → ℕ
metric_in key = key / cost_room

unfoldable pub cost_in : ℕ → ℕ
cost_in key = key % cost_room
