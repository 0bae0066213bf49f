-- A leaf is taken: its metric lowers the minima of its bits, each on its side; then the limits behind them are renewed.
use Prim.Native.Nat.{ℕ, ◌+◌, ◌*◌, ◌<◌, min}
use mathlib.Core.Path.{◌≡◌, refl, sym, ◌∙◌, ap}
use mathlib.Core.Bool.{Bool, true, false, cond, beq}
use mathlib.Core.List.{List}
use native.Mathlib.Omega.{arith}
use lib.ListN.{get_or, set, take, drop, length-set}
use lib.Seq.{take-set-lt, take-set-le, drop-set-lt, drop-set-add}
use Rattle.model.specs.Block.{most_bits}
use Rattle.model.specs.Metric.{Vector, label_bits}
use Rattle.metric.specs.Parts.{bit_of, filled}
use Rattle.search_spec.specs.Program.{taken_of, taken_in, zeros_of, ones_of, limits_of, sooner, noted}
use Rattle.search_spec.proofs.Minima.{zero_at, one_at}
use Rattle.search_spec.proofs.Steps.{lowered_hit, lowered_miss}
use Rattle.hypotheses.specs.Limits.{minimum_place, NotedTo, Renewed}

module _ (n label d : ℕ) (old : List ℕ) where
  -- Before the first bit nothing is lowered
  pub none_noted : NotedTo n label d 0 old old
  unfolding filled
  none_noted = record { size = refl; zeros = refl; ones = refl }

  -- One bit more lowers its minimum on its side, and leaves the other side
  one_more : (new : List ℕ) (i : ℕ) → i < most_bits → NotedTo n label d i old new → (bit : Bool) → bit ≡ bit_of n label i
      → NotedTo n label d (i + 1) old (set new (minimum_place bit i) (min d (get_or new (minimum_place bit i) 0)))
  one_more new i h before false e =
      let is : (x : Bool) → beq (bit_of n label i) x ≡ beq false x = λ x. ap (λ (b : Bool). beq b x) (sym e) in
      let u = min d (get_or new i 0) in record {
        size = length-set new i u ∙ before.size;
        zeros = take-set-lt most_bits new i u h ∙ ap (λ (x : ℕ). set (zeros_of new) i (min d x)) (zero_at new i h)
            ∙ lowered_hit n false label d (zeros_of old) (zeros_of new) i before.zeros (is false);
        ones = ap (take most_bits) (drop-set-lt most_bits new i u h)
            ∙ lowered_miss n true label d (ones_of old) (ones_of new) i before.ones (is true);
      }
  one_more new i h before true e =
      let is : (x : Bool) → beq (bit_of n label i) x ≡ beq true x = λ x. ap (λ (b : Bool). beq b x) (sym e) in
      let u = min d (get_or new (most_bits + i) 0) in record {
        size = length-set new (most_bits + i) u ∙ before.size;
        zeros = take-set-le most_bits new (most_bits + i) u (omega arith)
            ∙ lowered_miss n false label d (zeros_of old) (zeros_of new) i before.zeros (is false);
        ones = ap (take most_bits) (drop-set-add most_bits new i u) ∙ take-set-lt most_bits (drop most_bits new) i u h
            ∙ ap (λ (x : ℕ). set (ones_of new) i (min d x)) (one_at new i h)
            ∙ lowered_hit n true label d (ones_of old) (ones_of new) i before.ones (is true);
      }

  -- The same, at the place that the loop has and with what it leaves there
  pub one_noted : {new after : List ℕ} {i at : ℕ} {bit : Bool} → i < most_bits → NotedTo n label d i old new → bit ≡ bit_of n label i
      → at ≡ minimum_place bit i → after ≡ set new at (min d (get_or new at 0)) → NotedTo n label d (i + 1) old after
  one_noted h before e place lowered = rw (lowered, place) (one_more _ _ h before _ e)

-- All bits, and the best label
pub sides_noted : (v : Vector) {n node d label best : ℕ} (old sides : List ℕ) (label₀ best₀ : ℕ) → n ≡ label_bits v
    → NotedTo n node d n old sides → label ≡ cond (sooner v d node best₀ label₀) node label₀ → best ≡ min d best₀
    → taken_in label best sides ≡ noted v node d (taken_in label₀ best₀ old)
unfolding noted
sides_noted v old sides label₀ best₀ en s el eb = (λ j. taken_of (el j) (eb j) (s.zeros j) (s.ones j)) ∙ rw en

-- and the limits renewed
pub leaf_noted : {v : Vector} {n node d label best : ℕ} {old sides after : List ℕ} (label₀ best₀ : ℕ) → n ≡ label_bits v
    → NotedTo n node d n old sides → label ≡ cond (sooner v d node best₀ label₀) node label₀ → best ≡ min d best₀
    → Renewed v label best sides after → taken_in label best after ≡ noted v node d (taken_in label₀ best₀ old)
leaf_noted {v} {old = old} {sides = sides} label₀ best₀ en s el eb r = r.kept ∙ sides_noted v old sides label₀ best₀ en s el eb

-- The minima stand before the limits
pub limits_kept : (old new : List ℕ) {after : List ℕ} (at u : ℕ) → limits_of new ≡ limits_of old → at < 2 * most_bits → after ≡ set new at u
    → limits_of after ≡ limits_of old
limits_kept old new at u before h e = ap limits_of e ∙ drop-set-lt (2 * most_bits) new at u h ∙ before
