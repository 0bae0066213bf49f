-- A call that fills lent memory, for entries of any type: a refusal alters none of it, an acceptance its own entries alone; and whether
-- entries fit.
use Prim.Native.Nat.{ℕ, ◌+◌, ◌-◌, ◌≤◌, ◌<◌}
use mathlib.Core.Path.{◌≡◌, refl, sym, ◌∙◌, ap}
use mathlib.Core.Bool.{Bool, true, false, cond}
use mathlib.Core.List.{List, ◌++◌}
use native.Mathlib.Omega.{arith}
use borrow.Author.Tests.{lt-ltb, le-ltb}
use lib.Dec.{ltb}
use lib.ListN.{length, get_or, take, drop}
use lib.Seq.{get_or-append-add, get_or-drop, take-append_seam}
use Rattle.refusals.specs.Filling.{Filling, refused, filled, buffer_after, fitted}
use Rattle.refusals.specs.declared.Refusal.{Refusal}
use Rattle.refusals.specs.declared.Refusal.TheVariants.{Buffer}

module _ {A : Type 0} where
  -- "a refusal .. alters none"
  pub alters_none : (r : Refusal) (lent : List A) → buffer_after (refused r) lent ≡ lent
  alters_none r lent = refl

  module _ (entries lent : List A) where
    -- An acceptance has its entries in front
    pub holds_own : take (length entries) (buffer_after (filled entries) lent) ≡ entries
    holds_own = take-append_seam entries (drop (length entries) lent)

    -- and "alters no others"
    pub alters_own : (i : ℕ) (d : A) → length entries ≤ i → get_or (buffer_after (filled entries) lent) i d ≡ get_or lent i d
    alters_own i d h =
        let n = i - length entries in
        let e : i ≡ length entries + n = omega arith in
        ap (λ (k : ℕ). get_or (entries ++ drop (length entries) lent) k d) e
        ∙ get_or-append-add entries (drop (length entries) lent) n d
        ∙ get_or-drop (length entries) lent n d
        ∙ ap (λ (k : ℕ). get_or lent k d) (sym e)

  -- A refusal is no acceptance
  pub not_both : {r : Refusal} {entries : List A} {o : Filling A} → o ≡ refused r → o ≡ filled entries → ⊥
  not_both e f = let z : ◌≡◌ {A = ℕ} 0 1 = cc in omega arith

  -- Entries that are more than the places, and no more
  module _ (room : ℕ) (entries : List A) where
    pub fitted_short : room < length entries → fitted room entries ≡ refused Buffer
    unfolding fitted
    fitted_short h = rw (lt-ltb _ _ h)

    pub fitted_enough : length entries ≤ room → fitted room entries ≡ filled entries
    unfolding fitted
    fitted_enough h = rw (le-ltb _ _ h)

    -- What is accepted is what was to be written
    pub fitted_is : (accepted : List A) → fitted room entries ≡ filled accepted → entries ≡ accepted
    unfolding fitted
    fitted_is accepted e = go (ltb room (length entries)) e
      where
        go : (b : Bool) → cond b (refused Buffer) (filled entries) ≡ filled accepted → entries ≡ accepted
        go true f = absurd (not_both refl f)
        go false f = cc
