-- A child's increment in its two parts, by its key: the prior cost behind the metric, and the squared distance, which is the rest.
use Prim.Native.Nat.{ℕ, suc, ◌+◌, ◌-◌, ◌*◌, ◌^◌, ◌≤◌, ◌<◌}
use mathlib.Core.Path.{◌≡◌, ◌∙◌, ap}
use mathlib.Core.List.{List}
use native.Mathlib.Omega.{arith}
use lib.IntN.{ℤ}
use lib.ListN.{length}
use lib.Seq.{take_at}
use Rattle.model.specs.Constellation.{bits_of}
use Rattle.model.specs.Metric.{prior_cost, increment}
use Rattle.model.proofs.Numbers.{length-bits_of}
use Rattle.metric.specs.Keys.{cost_room, metric_in, cost_in}
use Rattle.metric.specs.Parts.{measured_to}
use Rattle.metric.specs.Rows.{row_at, child_bits, child_of, symbol_cost_in, child_key}
use Rattle.metric.specs.Children.{PartedKey, PartedTo}
use Rattle.metric.proofs.Keys.{key_metric, key_cost}
use Rattle.metric.proofs.Pass.{pass_keyed}

-- A child's own key has both parts and their sum
pub parted : (m q : ℕ) (numbers : List ℤ) (i node d c s key : ℕ) → symbol_cost_in m q numbers i s < cost_room
    → key ≡ child_key m q numbers i node (d + c) s → PartedKey m q numbers i node d c s key
unfolding increment child_of
parted m q numbers i node d c s key cheap e = record {
  distance_is = omega (arith, sum, cost, ap (prior_cost (row_at m q numbers i).priors) (take_at (bits_of q s) (bits_of ((m - suc i) * q) node) q (length-bits_of q s)));
  cost_is = ap (λ (n : ℕ). c + n) cost;
  sum_is = sum;
}
  where
    sum : metric_in key ≡ d + c + increment q (row_at m q numbers i) (child_bits m q i node s)
    sum = ap metric_in e ∙ key_metric _ _ cheap

    cost : cost_in key ≡ symbol_cost_in m q numbers i s
    cost = ap cost_in e ∙ key_cost (child_of m q numbers i node (d + c) s) _ cheap

-- Document 02, Points 3 and 5: after the first k children, for every k, each of these has its squared distance, its prior cost and their sum
pub pass_parted : (q shared : ℕ) (axes keys : List ℕ) (k : ℕ) → k ≤ 2 ^ q → 2 ^ q ≤ length keys → (after : List ℕ)
    → after ≡ measured_to q shared axes k keys → PartedTo q shared axes k after
pass_parted q shared axes keys k few room after e m numbers i node d c measured is s h =
    parted m q numbers i node d c s _ (measured.cheap s (omega arith)) (rw (e, is) (pass_keyed q (d + c) axes keys m numbers i node measured room k s few h))
