-- The key of a child that was tried, and the order of keys: by partial metric, then by prior cost.
use Prim.Native.Nat.{ℕ, ◌≤◌, ◌<◌}
use mathlib.Core.Logic.{inl, inr}
use mathlib.Core.List.{[], ◌∷◌}
use native.Mathlib.Omega.{arith}
use Rattle.model.proofs.Ranks.{AtOrBefore}
use Rattle.metric.specs.Keys.{cost_room, keyed, metric_in}
use Rattle.search_spec.specs.Program.{above, tried}

-- It is above every other
pub key_low : (d c : ℕ) → d < above → c < cost_room → keyed d c < tried
key_low d c h k = omega arith

pub low_key : (key : ℕ) → metric_in key < above → key ≤ tried
unfolding metric_in
low_key key h = omega arith

-- By metric, then cost, then x is by key, then x
pub key_order : {d c x e f y : ℕ} → c < cost_room → AtOrBefore (d ∷ c ∷ x ∷ []) (e ∷ f ∷ y ∷ []) → AtOrBefore (keyed d c ∷ x ∷ []) (keyed e f ∷ y ∷ [])
key_order h (inl k) = inl (omega arith)
key_order h (inr (k, inl l)) = inl (omega arith)
key_order h (inr (k, inr (l, m))) = inr (omega arith, m)
