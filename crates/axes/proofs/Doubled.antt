-- The first entries of a list, doubled by a rule that is a function.
use Prim.Native.Nat.{ℕ, ◌+◌, ◌-◌, ◌*◌, ◌≤◌, ◌<◌}
use mathlib.Core.Path.{◌≡◌, sym, ◌∙◌}
use mathlib.Core.List.{List}
use mathlib.Core.Logic.{inl, inr}
use native.Mathlib.Decide.{dec_lt}
use native.Mathlib.Omega.{arith}
use lib.ListN.{length, get_or}
use Rattle.std.proofs.lemmas.List.{ext_get_or}
use Rattle.metric.specs.Parts.{filled_from}
use Rattle.metric.proofs.Filled.{from_length, from_before, from_at}
use Rattle.axes.specs.Doubled.{Doubled}
use Rattle.axes.proofs.Lent.{from_after}

-- Behind the first n entries stand what the function gives of them
module _ {A : Type 0} {Rule : A → A → Type 0} {old new : List A} {n : ℕ} (doubled : Doubled Rule old new n) (room : 2 * n ≤ length old) where
  pub doubled_is : (f : A → A) (d : A) → ((g : ℕ) (y : A) → g < n → Rule (get_or old g d) y → y ≡ f (get_or old g d))
      → new ≡ filled_from n (λ g. f (get_or old g d)) n old
  doubled_is f d says =
      ext_get_or d new made (doubled.size ∙ sym (from_length n rule n old)) (λ i h. go i (dec_lt i n) (dec_lt i (n + n)))
    where
      rule : ℕ → A
      rule g = f (get_or old g d)

      made : List A
      made = filled_from n rule n old

      go : (i : ℕ) → Dec (i < n) → Dec (i < n + n) → get_or new i d ≡ get_or made i d
      go i (yes l) k = doubled.kept i d (inl l) ∙ sym (from_before n rule n old i d l)
      go i (no l) (no k) = doubled.kept i d (inr (omega arith)) ∙ sym (from_after n rule n old i d (omega arith))
      go i (no l) (yes k) =
          let e : n + (i - n) ≡ i = omega arith in
          rw e at
          (says (i - n) _ (omega arith) (doubled.more (i - n) d (omega arith)) ∙ sym (from_at n rule n old (i - n) d (omega arith) (omega arith)))
