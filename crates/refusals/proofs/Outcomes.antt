-- What a call that fills lent memory comes to, and C's number for it.
use Rattle.std.proofs.Common.{◌≡◌, ℕ, ◌^◌, ◌<◌, List, length, drop, refl, ◌∙◌, ap, ap₂, arith, length-append, IfOk, Result}
use Rattle.refusals.specs.declared.Refusal.{Refusal}
use Rattle.refusals.specs.Filling.{Filling, refused, filled, returned, returned_as, counted, Fills, call, filling}

module _ {A : Type 0} where
  pub number_counted : (f : Filling A) → returned_as (counted f) ≡ returned f
  number_counted (refused r) = refl
  number_counted (filled entries) = refl

  -- C's number and the lent memory are the filling's
  pub fills_call : (f : Filling A) (old new : List A) (result : Result ℕ Refusal) → Fills f old result new
      → call (returned_as result) new ≡ filling f old
  fills_call f old new result w = ap₂ call (ap returned_as w.0 ∙ number_counted f) w.1

  -- No more entries are written than the lent memory has
  pub fills_few : (f : Filling A) (old new : List A) (result : Result ℕ Refusal) → Fills f old result new → length new ≡ length old
      → length old < 2 ^ 63 → IfOk result (λ count. count < 2 ^ 63)
  fills_few (refused r) old new result w e h = rw w.0 tt
  fills_few (filled entries) old new result w e h =
      rw w.0 (omega (arith, ap length w.1, length-append entries (drop (length entries) old)))
