-- Document 01, "The walk". A node is the bits of the symbols chosen for the streams from its own to M, in label order; the root is
-- no bits, a leaf is a whole label, and a child is a symbol before its parent's bits.
use Rattle.std.specs.Prelude.{ℕ, zero, suc, ◌+◌, ◌-◌, ◌*◌, ◌^◌, Bool, true, false, cond, not, ◌&&◌, ◌||◌, leb, ltb, eqb, length, ℤ, pos, ◌+ℤ◌, ◌-ℤ◌}
use Rattle.std.specs.Bool.{beq}
use mathlib.Core.List.{List, [], ◌∷◌, ◌++◌, map, foldl, reverse}
use Rattle.std.specs.Int.Signed.{le_z, lt_z}
use Rattle.model.specs.Constellation.{Bits, symbols}
use Rattle.model.specs.Metric.{Row, Vector, metric, label_bits, bit_at, prior_at}
use Rattle.model.specs.Order.{is_before}
use Rattle.model.specs.Soft.{Least, infinite, finite, least_of, those, least_with, pick, places}

-- A node is a leaf: the symbols of all streams are chosen
abbrev pub is_leaf : Vector → Bits → Bool
is_leaf v node = eqb (length node) (label_bits v)

-- The leaves among nodes
abbrev pub leaves : Vector → List Bits → List Bits
leaves v nodes = those (is_leaf v) nodes

-- "B + C + prior if m's bit is 0 .. B + C - prior if it is 1", of bit i
abbrev pub clip_limit : Vector → ℕ → Bits → ℕ → ℤ
clip_limit v b m i = cond (bit_at i m) (pos (b + v.clip) -ℤ prior_at v i) (pos (b + v.clip) +ℤ prior_at v i)

abbrev pub smaller : Least → ℤ → ℤ
smaller infinite z = z
smaller (finite u) z = cond (le_z (pos u) z) (pos u) z

-- The limit of bit i (document 01's term): "the smaller of U and" the above
abbrev pub limit : Vector → ℕ → Bits → Least → ℕ → ℤ
limit v b m u i = smaller u (clip_limit v b m i)

-- Bit i is at the node "either not yet chosen or chosen opposite to m's"
abbrev pub is_open : Vector → Bits → Bits → ℕ → Bool
is_open v m node i = let free = label_bits v - length node in ltb i free || not (beq (bit_at (i - free) node) (bit_at i m))

abbrev pub any_of : {A : Type 0} → (A → Bool) → List A → Bool
any_of f [] = false
any_of f (x ∷ xs) = f x || any_of f xs

-- The pass test, from B, m and each bit's U: "a child of partial metric d passes if d is at most B, or if d is below the limit of some
-- bit that is" open; "before the first leaf every child passes", B being infinite
unfoldable pub passes : Vector → Least → Bits → (ℕ → Least) → ℕ → Bits → Bool
passes v infinite m u d node = true
passes v (finite b) m u d node = leb d b || any_of (λ i. is_open v m node i && lt_z (pos d) (limit v b m (u i) i)) (places v)

-- Bit i's U: "the least walked metric with that bit opposite to m's (infinite if none)"
abbrev pub opposite : Vector → List Bits → Bits → ℕ → Least
opposite v ls m i = least_with v i (not (bit_at i m)) ls

-- The pass test after the leaves ls: B is "the least leaf metric walked", m "the label that demand 2 picks from the walked leaves"
abbrev pub passes_after : Vector → List Bits → ℕ → Bits → Bool
passes_after v ls d node = passes v (least_of v ls) (pick v ls) (opposite v ls (pick v ls)) d node

-- Insertion sort by a strict order
unfoldable pub insert : {A : Type 0} → (A → A → Bool) → A → List A → List A
insert f x [] = x ∷ []
insert f x (y ∷ ys) = cond (f y x) (y ∷ insert f x ys) (x ∷ y ∷ ys)

unfoldable pub sort : {A : Type 0} → (A → A → Bool) → List A → List A
sort f [] = []
sort f (x ∷ xs) = insert f x (sort f xs)

-- A node's children in the order in which they "are tried". `rows` are those from the children's own on
unfoldable pub children : ℕ → List Row → Bits → List Bits
children q rows node = sort (is_before q rows) (map (λ s. s ++ node) (symbols q))

-- How far a walk has come: the nodes walked and the children cut so far, in their order
pub record Progress : Type 0 where
  pub walked : List Bits
  pub cut : List Bits

-- One more node walked, one more child cut
abbrev pub with_walked : Progress → Bits → Progress
with_walked p node = record { walked = p.walked ++ node ∷ []; cut = p.cut }

abbrev pub with_cut : Progress → Bits → Progress
with_cut p child = record { walked = p.walked; cut = p.cut ++ child ∷ [] }

-- A child is tried: one "that passes is walked, counted, and its subtree finished" (`below`); "otherwise it and its subtree are cut"
abbrev pub visit : Vector → List Row → (Bits → Progress → Progress) → Progress → Bits → Progress
visit v rows below p child =
    let further = below child (with_walked p child) in
    cond (passes_after v (leaves v p.walked) (metric v.width rows child) child) further (with_cut p child)

-- The progress when the subtree below a node is finished: its children tried one after the other. `todo` are the rows above the
-- node's own, the next one first, `done` those from its own on
unfoldable pub walk_below : Vector → List Row → List Row → Bits → Progress → Progress
walk_below v [] done node p = p
walk_below v (r ∷ todo) done node p = foldl (visit v (r ∷ done) (walk_below v todo (r ∷ done))) p (children v.width (r ∷ done) node)

-- From the root, with nothing walked: "the tree's top level is stream M, its leaves stream 1"
abbrev pub walk_whole : Vector → Progress
walk_whole v = walk_below v (reverse v.rows) [] [] (record { walked = []; cut = [] })

-- A vector's walk (document 01's term): "the list of nodes that the rule above takes with no allowance to stop it"
abbrev pub walk : Vector → List Bits
walk v = (walk_whole v).walked

-- The children that were tried and did not pass
abbrev pub cut_children : Vector → List Bits
cut_children v = (walk_whole v).cut

-- How many nodes a tree of m streams with q bits each has: 2^(q k) with k streams chosen, for k from 1 to m
unfoldable pub tree_nodes : ℕ → ℕ → ℕ
tree_nodes q zero = 0
tree_nodes q (suc m) = 2 ^ (q * suc m) + tree_nodes q m
