-- Whether a label has a cost.
use Prim.Native.Nat.{ℕ, suc, ◌+◌, ◌-◌, ◌^◌, ◌≤◌}
use mathlib.Core.Path.{◌≡◌, refl, ap, ◌∙◌, sym}
use mathlib.Core.Bool.{Bool, true, false, not, ◌||◌}
use mathlib.Core.List.{List}
use native.Mathlib.Omega.{arith}
use borrow.Author.Tests.{ne_eqb}
use lib.Dec.{eqb}
use lib.IntN.{ℤ, pos, negsuc, nat_abs}
use lib.ListN.{get_or}
use mir.Syntax.{w32}
use mir.Val.{SFits, of_z}
use Rattle.metric.specs.Parts.{axis_width, span}
use Rattle.bounding.specs.Axes.{has_cost, axis_priced}
use Rattle.bounding.proofs.Runs.{labels_few}
use Rattle.bounding.proofs.Cuts.{own_entries, cost_cut}

-- A number of 32 bits is not 0 where its bits are not
bits_same : (z : ℤ) → SFits w32 z → not (eqb (of_z w32 z) 0) ≡ not (eqb (nat_abs z) 0)
bits_same (pos n) h = refl
bits_same (negsuc n) h = ap not (ne_eqb (of_z w32 (negsuc n)) 0 (λ e. omega (arith, h.sfits)) ∙ sym (ne_eqb (suc n) 0 (λ e. omega arith)))

-- The test of a label's cost at its place
pub cost_read : (tables : List ℤ) (at g place : ℕ) → place ≡ at + span + g → SFits w32 (get_or tables place (pos 0))
    → not (eqb (of_z w32 (get_or tables place (pos 0))) 0) ≡ has_cost tables at g
cost_read tables at g place here h =
    bits_same (get_or tables place (pos 0)) h ∙ ap (λ (i : ℕ). not (eqb (nat_abs (get_or tables i (pos 0))) 0)) here

-- A first test that is met decides, and after one that is not met the second does
pub first_met : (a b : Bool) → a ≡ true → a ≡ (a || b)
first_met a b e = rw e refl

pub second_left : (a b : Bool) → a ≡ false → b ≡ (a || b)
second_left a b e = rw e refl

-- Of an axis's own entries, whether its labels have costs is as it is of the table's
pub priced_cut : (tables : List ℤ) (at w : ℕ) → w ≤ axis_width → axis_priced (own_entries tables at) 0 w ≡ axis_priced tables at w
unfolding axis_priced
priced_cut tables at w h =
    let few = labels_few w h in
    rw (cost_cut tables at 0 (omega arith), cost_cut tables at (2 ^ w - 1) (omega (arith, few))) refl
