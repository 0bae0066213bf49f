-- Each minimum stands in its run.
use Prim.Native.Nat.{ℕ, ◌<◌}
use mathlib.Core.Path.{◌≡◌, ap, ◌∙◌}
use mathlib.Core.Bool.{Bool, true, false, cond, not}
use mathlib.Core.List.{List}
use lib.ListN.{get_or}
use Rattle.model.specs.Block.{most_bits}
use Rattle.search_spec.specs.Program.{zeros_of, ones_of}
use Rattle.search_spec.proofs.Minima.{zero_at, one_at}
use Rattle.hypotheses.specs.Limits.{minimum_place}
use Rattle.hypotheses.proofs.opposite.Goals as goal

opposite_at : (bit : Bool) (minima : List ℕ) (i : ℕ) → i < most_bits
    → get_or minima (minimum_place (not bit) i) 0 ≡ get_or (cond bit (zeros_of minima) (ones_of minima)) i 0
opposite_at true minima i h = zero_at minima i h
opposite_at false minima i h = one_at minima i h

pub returns : goal.returns
returns c =
    let minima = c.args.minima.now in
    ap (λ (at : ℕ). get_or minima at 0) c.minimum_place.ensures.0 ∙ opposite_at c.args.bit minima c.args.i c.requires
