-- A key gives back the metric and the cost that were put into it, and rises as they do.
use Prim.Native.Nat.{ℕ, ◌≤◌, ◌<◌}
use mathlib.Core.Path.{◌≡◌}
use native.Mathlib.Omega.{arith}
use Rattle.metric.specs.Keys.{cost_room, keyed, metric_in, cost_in}

pub key_metric : (d c : ℕ) → c < cost_room → metric_in (keyed d c) ≡ d
unfolding metric_in
key_metric d c h = omega arith

pub key_cost : (d c : ℕ) → c < cost_room → cost_in (keyed d c) ≡ c
unfolding cost_in
key_cost d c h = omega arith

-- A larger key has no smaller metric
pub metric_rises : (a b : ℕ) → a ≤ b → metric_in a ≤ metric_in b
unfolding metric_in
metric_rises a b h = omega arith
