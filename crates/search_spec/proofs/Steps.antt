-- The loop over a label's bits, by its turns: the minima are, after the first i bits, lowered at these.
use Prim.Native.Nat.{ℕ, ◌+◌, min}
use mathlib.Core.Path.{◌≡◌, sym, ◌∙◌, ap, ap₂}
use mathlib.Core.Bool.{Bool, true, false, beq}
use mathlib.Core.List.{List}
use native.Mathlib.Nat.{le_refl}
use lib.ListN.{get_or, set}
use lib.Seq.{set-get_or}
use Rattle.metric.specs.Parts.{bit_of, filled}
use Rattle.search_spec.specs.Program.{lowered_at}
use Rattle.metric.proofs.Filled.{filled_more, filled_rest}

-- One side's minima, us at first and vs after the first i bits of a label of metric d
module _ (n : ℕ) (x : Bool) (label d : ℕ) (us vs : List ℕ) (i : ℕ) (e : vs ≡ filled (lowered_at n x label d us) i us) where
  old : get_or vs i 0 ≡ get_or us i 0
  old = ap (λ (l : List ℕ). get_or l i 0) e ∙ filled_rest (lowered_at n x label d us) i us i 0 (le_refl i)

  one_more : (u : ℕ) → u ≡ lowered_at n x label d us i → set vs i u ≡ filled (lowered_at n x label d us) (i + 1) us
  one_more u f = ap₂ (λ (l : List ℕ) (y : ℕ). set l i y) e f ∙ filled_more (lowered_at n x label d us) i us

  -- A bit of this side lowers its minimum
  pub lowered_hit : beq (bit_of n label i) x ≡ true → set vs i (min d (get_or vs i 0)) ≡ filled (lowered_at n x label d us) (i + 1) us
  unfolding lowered_at
  lowered_hit h = one_more (min d (get_or vs i 0)) (rw (h, old))

  -- Another leaves it
  pub lowered_miss : beq (bit_of n label i) x ≡ false → vs ≡ filled (lowered_at n x label d us) (i + 1) us
  unfolding lowered_at
  lowered_miss h = sym (set-get_or vs i 0) ∙ one_more (get_or vs i 0) (rw (h, old))
