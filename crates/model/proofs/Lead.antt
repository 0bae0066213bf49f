-- The first M nodes of a walk lead to its first leaf: before a leaf is walked every child passes, so the walk goes straight down. So it
-- has at least M nodes, and a vector that may walk M nodes has a walked label.
use Prim.Native.Nat.{ℕ, zero, suc, ◌+◌, ◌*◌, ◌≤◌, ◌<◌}
use mathlib.Core.Path.{◌≡◌, refl, sym, ◌∙◌, ap, subst}
use mathlib.Core.Bool.{false}
use mathlib.Core.Logic.{◌⊎◌, inl, inr}
use mathlib.Core.List.Memᴰ
use mathlib.Core.List.{List, [], ◌∷◌, ◌++◌, foldl, reverse, append_assoc, append-nil}
use native.Mathlib.Omega.{arith}
use borrow.Author.Tests.{ne_eqb}
use lib.ListN.{length, take, length-append, length-reverse, replicate, length-replicate}
use Rattle.model.specs.Constellation.{Bits}
use Rattle.model.specs.Metric.{Row, Vector, label_bits}
use Rattle.model.specs.Soft.{least_of, those}
use Rattle.model.specs.Walk.{is_leaf, leaves, passes, children, Progress, with_walked, visit, walk_below, walk_whole, walk}
use Rattle.model.specs.Block.{◌∈◌}
use Rattle.model.proofs.Lists.{those_snoc}
use Rattle.model.proofs.Complete.{leaves_in}
use Rattle.model.proofs.Tree.{children_of_lem, children_in, Extends, fold_extends, visit_extends}

-- A path straight down from a node: each is a child of the one before
abbrev pub Descent : ℕ → Bits → List Bits → Type 0
Descent q node [] = Unit {0}
Descent q node (c ∷ cs) = ((s : Bits) × (length s ≡ q) × (s ++ node ≡ c)) × Descent q c cs

-- What lies n levels down has n symbols more
descent_bottom : (q : ℕ) (node : Bits) (path : List Bits) → Descent q node path → 0 < length path → (x : Bits) × (x ∈ path) × (length x ≡ length node + length path * q)
descent_bottom q node [] d h = absurd (omega arith)
descent_bottom q node (c ∷ cs) d h = go cs refl (descent_bottom q c cs d.1)
  where
    longer : length c ≡ q + length node
    longer = omega (arith, d.0.1, ap length d.0.2, length-append d.0.0 node)

    go : (l : List Bits) → cs ≡ l → (0 < length cs → (x : Bits) × (x ∈ cs) × (length x ≡ length c + length cs * q)) → (x : Bits) × (x ∈ c ∷ cs) × (length x ≡ length node + suc (length cs) * q)
    go [] e ih = (c, Memᴰ.head refl, omega (arith, longer, ap (λ (l : List Bits). length l * q) e))
    go (y ∷ ys) e ih = let x = ih (omega (arith, ap length e)) in (x.0, Memᴰ.tail x.1, omega (arith, longer, x.2))

taken : (p s : List Bits) (n : ℕ) → length p ≤ n → (x : Bits) → x ∈ p → x ∈ take n (p ++ s)
taken [] s n h x m = absurd (Memᴰ.not-nil m)
taken (y ∷ p) s zero h x m = absurd (omega arith)
taken (y ∷ p) s (suc n) h x m = go (Memᴰ.cases_cons m) (taken p s n (omega arith) x)
  where
    go : (x ≡ y) ⊎ (x ∈ p) → (x ∈ p → x ∈ take n (p ++ s)) → x ∈ y ∷ take n (p ++ s)
    go (inl e) ih = Memᴰ.head e
    go (inr k) ih = Memᴰ.tail (ih k)

module _ (v : Vector) (q : 0 < v.width) where
  -- No leaf is walked yet, where there are rows to go
  abbrev Fresh : List Row → Progress → Type 0
  Fresh [] p = Unit {0}
  Fresh (r ∷ todo) p = leaves v p.walked ≡ []

  fresh_child : (todo : List Row) (p : Progress) (c : Bits) → length c + length todo * v.width ≡ label_bits v → leaves v p.walked ≡ [] → Fresh todo (with_walked p c)
  fresh_child [] p c e f = tt
  fresh_child (r ∷ todo) p c e f = those_snoc (is_leaf v) p.walked c ∙ rw (ne_eqb (length c) (label_bits v) (omega arith)) f

  -- With no leaf walked a child passes
  passes_first : (rows : List Row) (below : Bits → Progress → Progress) (p : Progress) (c : Bits) → leaves v p.walked ≡ [] → visit v rows below p c ≡ below c (with_walked p c)
  unfolding least_of passes
  passes_first rows below p c f = rw f

  -- A walk goes on with a path straight down, as long as there are rows
  record Leads (todo : List Row) (node : Bits) (p r : Progress) : Type 0 where
    path : List Bits
    rest : List Bits
    is : r.walked ≡ p.walked ++ (path ++ rest)
    long : length path ≡ length todo
    down : Descent v.width node path

  leads : (todo done : List Row) (node : Bits) (p : Progress) → length node + length todo * v.width ≡ label_bits v → Fresh todo p → Leads todo node p (walk_below v todo done node p)
  unfolding walk_below
  leads [] done node p e f = record { path = []; rest = []; is = sym (append-nil p.walked); long = refl; down = tt }
  leads (r ∷ todo) done node p e f =
      go (children v.width (r ∷ done) node) (λ c h. h) (children_in v.width (r ∷ done) node (replicate v.width false) (length-replicate v.width false)) (leads todo (r ∷ done))
    where
      below : Bits → Progress → Progress
      below = walk_below v todo (r ∷ done)

      step : Progress → Bits → Progress
      step = visit v (r ∷ done) below

      go : (cs : List Bits) → ((c : Bits) → c ∈ cs → c ∈ children v.width (r ∷ done) node) → {x : Bits} → x ∈ cs
          → ((c : Bits) (p : Progress) → length c + length todo * v.width ≡ label_bits v → Fresh todo p → Leads todo c p (below c p))
          → Leads (r ∷ todo) node p (foldl step p cs)
      go [] sub h ih = absurd (Memᴰ.not-nil h)
      go (c ∷ cs) sub h ih = record {
        path = c ∷ a.path;
        rest = a.rest ++ b.0;
        is = b.1 ∙ ap (λ (l : List Bits). l ++ b.0) (ap (λ (p : Progress). p.walked) (passes_first (r ∷ done) below p c f) ∙ a.is) ∙ regroup p.walked (c ∷ []) a.path a.rest b.0;
        long = ap suc a.long;
        down = (sc, a.down);
      }
        where
          sc : (s : Bits) × (length s ≡ v.width) × (s ++ node ≡ c)
          sc = children_of_lem v.width (r ∷ done) node c (sub c (Memᴰ.head refl))

          len : length c + length todo * v.width ≡ label_bits v
          len = omega (arith, sc.1, ap length sc.2, length-append sc.0 node, e)

          a : Leads todo c (with_walked p c) (below c (with_walked p c))
          a = ih c (with_walked p c) len (fresh_child todo p c len f)

          b : Extends (step p c) (foldl step (step p c) cs)
          b = fold_extends step (visit_extends v q todo done r) cs (step p c)

          regroup : (w x p s t : List Bits) → w ++ x ++ (p ++ s) ++ t ≡ w ++ (x ++ p ++ (s ++ t))
          regroup w x p s t = simp append_assoc

  start : Progress
  start = record { walked = []; cut = [] }

  whole : Leads (reverse v.rows) [] start (walk_whole v)
  unfolding start
  whole = leads (reverse v.rows) [] [] start (rw length-reverse (omega arith)) (root (reverse v.rows))
    where
      root : (t : List Row) → Fresh t (record { walked = []; cut = [] })
      root [] = tt
      root (r ∷ t) = unfold those in refl

  -- The first M nodes of a walk lead straight down to its first leaf
  pub first_path : (path rest : List Bits) × (walk v ≡ path ++ rest) × (length path ≡ length v.rows) × Descent v.width [] path
  unfolding start
  first_path = (whole.path, whole.rest, whole.is, whole.long ∙ length-reverse v.rows, whole.down)

  -- A walk has at least M nodes
  pub walk_at_least : length v.rows ≤ length (walk v)
  walk_at_least = omega (arith, first_path.3, ap length first_path.2, length-append first_path.0 first_path.1)

  -- Among the first n nodes, n at least M, there is a leaf
  pub some_leaf : 0 < length v.rows → (n : ℕ) → length v.rows ≤ n → (x : Bits) × (x ∈ leaves v (take n (walk v)))
  some_leaf h n k = (y.0, leaves_in v (take n (walk v)) y.0 in_first (y.2 ∙ ap (λ (m : ℕ). m * v.width) first_path.3))
    where
      y : (x : Bits) × (x ∈ first_path.0) × (length x ≡ length first_path.0 * v.width)
      y = let b = descent_bottom v.width [] first_path.0 first_path.4 (omega (arith, first_path.3)) in (b.0, b.1, omega (arith, b.2))

      in_first : y.0 ∈ take n (walk v)
      in_first = subst (λ (z : List Bits). y.0 ∈ take n z) (sym first_path.2) (taken first_path.0 first_path.1 n (omega (arith, first_path.3)) y.0 y.1)
