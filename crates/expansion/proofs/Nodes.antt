-- A node of a vector: the sizes that code computes with, and bounds of its own and its children's partial metrics.
use Prim.Native.Nat.{ℕ, suc, ◌-◌, ◌*◌, ◌/◌, ◌^◌, ◌≤◌, ◌<◌}
use mathlib.Core.Path.{◌≡◌, sym, subst}
use mathlib.Core.List.{List}
use native.Mathlib.Nat.{le_refl, le_of_lt, lt_of_le_of_lt, mul-le-mul}
use native.Mathlib.Omega.{arith}
use lib.IntN.{ℤ}
use lib.ListN.{length}
use lib.Pow.{pow_mono}
use Rattle.model.specs.Metric.{Vector}
use Rattle.model.specs.Block.{most_bits}
use Rattle.block.proofs.Places.{rows_count}
use Rattle.metric.specs.Rows.{VectorAsked}
use Rattle.search_spec.specs.Program.{above, Ranged}
use Rattle.search_spec.proofs.Bounds.{chosen_by_lem, partial_under as kid_Under, partial_low}
use Rattle.enumeration.specs.Rows.{key_count}
use Rattle.hypotheses.specs.Limits.{vector_at, SearchAsked}
use Rattle.expansion.specs.Expand.{NodeIn, kid_of}
use Rattle.tree.specs.declared.Node.{Node}
use Rattle.expansion.proofs.Rows.{ranged, partial_by}

-- The symbols behind some streams are few
pub rest_few : {m q : ℕ} {numbers : List ℤ} (level : ℕ) → VectorAsked m q numbers → (m - level) * q ≤ most_bits
rest_few {m} {q} level h = let fewer : m - level ≤ m = omega arith in omega (arith, mul-le-mul fewer (le_refl q), h.label)

-- The keys of wider symbols are more
pub keys_rise : {q w : ℕ} → q ≤ w → key_count q ≤ key_count w
keys_rise {q} {w} h = let half : q - q / 2 ≤ w - w / 2 = omega arith in omega (arith, pow_mono h, pow_mono half)

-- Where there is room for the keys of some levels, there is for one
pub room_for : (level q : ℕ) → 0 < level → (places : ℕ) → level * key_count q ≤ places → key_count q ≤ places
room_for level q some places h = omega (arith, mul-le-mul some (le_refl (key_count q)))

-- A node of a vector that a search may be asked for
module _ {m q clip : ℕ} {numbers : List ℤ} (a : SearchAsked m q clip numbers) {n : Node} (w : NodeIn m q clip numbers n) where
  abbrev v : Vector
  v = vector_at m q clip numbers

  streams : length v.rows ≡ m
  streams = rows_count m q numbers

  pub in_range : Ranged v
  in_range = ranged m q clip numbers a

  pub within : n.level ≤ length v.rows
  within = omega (arith, streams, w.inside)

  -- The sizes that the code computes with
  pub partial_under : n.partial < above
  partial_under = lt_of_le_of_lt w.bounded (partial_low v in_range n.level)

  pub partial_few : n.partial ≤ above
  partial_few = le_of_lt partial_under

  pub node_placed : n.bits < 2 ^ ((m - n.level) * q)
  node_placed = subst (λ (x : ℕ). n.bits < 2 ^ x) (chosen_by_lem v m n.level (sym streams)) w.placed

  pub leaf_placed : n.level ≡ 0 → n.bits < 2 ^ (m * q)
  leaf_placed e = let all : m - n.level ≡ m = omega arith in subst (λ (x : ℕ). n.bits < 2 ^ (x * q)) all node_placed

  -- A node that is no leaf
  module _ (inner : 0 < n.level) where
    pub level_up : n.level ≡ suc (n.level - 1)
    level_up = omega arith

    pub some : n.level ≡ 0 → ⊥
    some e = absurd (omega arith)

    pub row_inside : n.level - 1 < m
    row_inside = omega (arith, w.inside)

    -- No child's partial metric is above the sentinel
    pub kid_low : (s : ℕ) → kid_of m q numbers n s ≤ above
    kid_low s =
        rw (partial_by m q numbers a.vector clip (n.level - 1) n.bits n.partial s row_inside)
        (le_of_lt (kid_Under v n.level some within in_range n.partial w.bounded n.bits s))
