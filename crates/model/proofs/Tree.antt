-- What a walk adds below a node: each node once and each below the node, nothing at or below a child that it cuts, and no more nodes
-- than the tree has there. Siblings have one length, so what lies below one does not lie below another.
use Prim.Native.Nat.{ℕ, zero, suc, ◌+◌, ◌*◌, ◌^◌, ◌≤◌, ◌<◌}
use mathlib.Core.Path.{◌≡◌, refl, sym, ◌∙◌, ap, subst}
use mathlib.Core.Bool.{Bool, true, false, cond}
use mathlib.Core.Logic.{◌⊎◌, inl, inr, ∥∥₁_elim}
use mathlib.Core.HLevel.{⊥_prop}
use mathlib.Core.List.Memᴰ
use mathlib.Core.List.{List, [], ◌∷◌, ◌++◌, foldl, reverse, append_assoc, append-nil, append_cancel_right, Nodup, Nodup-nil, Nodup-cons}
use native.Mathlib.Nat.{mul-add, mul-one, mul-suc, mul_comm, suc-mul}
use native.Mathlib.Omega.{arith}
use lib.ListN.{length, drop, length-append, length-map, length-reverse}
use lib.Pow.{pow-add}
use lib.Seq.{drop_at}
use Rattle.model.specs.Constellation.{Bits, symbols}
use Rattle.model.specs.Metric.{Row, Vector, metric}
use Rattle.model.specs.Order.{is_before}
use Rattle.model.specs.Walk.{leaves, passes_after, children, Progress, with_walked, with_cut, visit, walk_below, walk_whole, walk, cut_children, tree_nodes}
use Rattle.model.specs.Block.{◌∈◌}
use Rattle.model.proofs.Lists.{in_sort, of_sort, in_symbols, symbols_length, symbols_count, length_sort, Once, once_append, once_map, once_sort, once_symbols}

-- A child is a symbol of q bits before its node's bits, and each such string is a child
pub children_of_lem : (q : ℕ) (rows : List Row) (node c : Bits) → c ∈ children q rows node → (s : Bits) × (length s ≡ q) × (s ++ node ≡ c)
unfolding children
children_of_lem q rows node c h =
    let r = Memᴰ.of_map (λ s. s ++ node) (symbols q) (of_sort _ c _ h) in
    (r.0, symbols_length q r.0 r.1, r.2)

pub children_in : (q : ℕ) (rows : List Row) (node s : Bits) → length s ≡ q → s ++ node ∈ children q rows node
unfolding children
children_in q rows node s e = in_sort _ (s ++ node) _ (Memᴰ.map (λ s. s ++ node) (in_symbols q s e))

pub children_length : (q : ℕ) (rows : List Row) (node c : Bits) → c ∈ children q rows node → length c ≡ q + length node
children_length q rows node c h =
    let s = children_of_lem q rows node c h in
    omega (arith, s.1, length-append s.0 node, ap length s.2)

-- A node has 2^q children, no two the same
pub once_children : (q : ℕ) (rows : List Row) (node : Bits) → Once (children q rows node)
unfolding children
once_children q rows node =
    once_sort (is_before q rows) _ (once_map (λ s. s ++ node) (λ x y e. append_cancel_right x y node e) (symbols q) (once_symbols q))

pub children_count : (q : ℕ) (rows : List Row) (node : Bits) → length (children q rows node) ≡ 2 ^ q
unfolding children
children_count q rows node = length_sort (is_before q rows) _ ∙ length-map (symbols q) (λ s. s ++ node) ∙ symbols_count q

-- The tree below a node is its children with the trees below them
pub tree_step : (q m : ℕ) → tree_nodes q (suc m) ≡ 2 ^ q * suc (tree_nodes q m)
unfolding tree_nodes
tree_step q zero = ap (λ (n : ℕ). 2 ^ n + 0) (mul-one q) ∙ omega (arith, mul-one (2 ^ q))
tree_step q (suc m) =
    omega (
      arith,
      tree_step q m,
      ap (λ (n : ℕ). 2 ^ n) (mul-suc q (suc m)) ∙ pow-add 2 (q * suc m) q,
      mul_comm (2 ^ (q * suc m)) (2 ^ q),
      mul-suc (2 ^ q) (2 ^ (q * suc m) + tree_nodes q m),
      mul-suc (2 ^ q) (tree_nodes q m),
      mul-add (2 ^ q) (2 ^ (q * suc m)) (tree_nodes q m),
    )

-- x is at or below node c; strictly below it; at or below one of cs
abbrev pub Below : Bits → Bits → Type 0
Below c x = (up : Bits) × (up ++ c ≡ x)

abbrev pub Strict : Bits → Bits → Type 0
Strict c x = (up : Bits) × (0 < length up) × (up ++ c ≡ x)

abbrev pub BelowOne : List Bits → Bits → Type 0
BelowOne cs x = (c : Bits) × (c ∈ cs) × Below c x

below_trans : (a b c : Bits) → Below a b → Below b c → Below a c
below_trans a b c p q = (q.0 ++ p.0, append_assoc q.0 p.0 a ∙ ap (λ (l : Bits). q.0 ++ l) p.1 ∙ q.1)

-- A node is below one only of two nodes of one length
below_same : (c c' x : Bits) → Below c x → Below c' x → length c ≡ length c' → c ≡ c'
below_same c c' x p p' h =
    let e : p.0 ++ c ≡ p'.0 ++ c' = p.1 ∙ sym p'.1 in
    let lens : length p.0 ≡ length p'.0 = omega (arith, length-append p.0 c, length-append p'.0 c', ap length e) in
    sym (drop_at p.0 c (length p.0) refl) ∙ ap (drop (length p.0)) e ∙ drop_at p'.0 c' (length p.0) (sym lens)

-- From one progress to a later one: at most `most` nodes walked, each once, nodes and cut children of a kind P, and no node at or below
-- a child that was cut
pub record Adds (most : ℕ) (P : Bits → Type 0) (sooner later : Progress) : Type 0 where
  pub new : List Bits
  pub failed : List Bits
  pub walks : later.walked ≡ sooner.walked ++ new
  pub cuts : later.cut ≡ sooner.cut ++ failed
  pub once : Once new
  pub all : (x : Bits) → x ∈ new → P x
  pub all_cut : (x : Bits) → x ∈ failed → P x
  pub apart : (x c : Bits) → x ∈ new → c ∈ failed → Below c x → ⊥
  pub few : length new ≤ most

nothing : (n : ℕ) (P : Bits → Type 0) (p : Progress) → Adds n P p p
nothing n P p = record {
  new = [];
  failed = [];
  walks = sym (append-nil p.walked);
  cuts = sym (append-nil p.cut);
  once = tt;
  all = λ x h. absurd (Memᴰ.not-nil h);
  all_cut = λ x h. absurd (Memᴰ.not-nil h);
  apart = λ x c h k b. Memᴰ.not-nil h;
  few = omega arith;
}

-- Steps that only add nodes at the end add them there together
abbrev pub Extends : Progress → Progress → Type 0
Extends p r = (new : List Bits) × (r.walked ≡ p.walked ++ new)

pub fold_extends : (f : Progress → Bits → Progress) → ((p : Progress) (c : Bits) → Extends p (f p c)) → (cs : List Bits) (p : Progress) → Extends p (foldl f p cs)
fold_extends f g [] p = ([], sym (append-nil p.walked))
fold_extends f g (c ∷ cs) p =
    let a = g p c in
    let b = fold_extends f g cs (f p c) in
    (a.0 ++ b.0, b.1 ∙ ap (λ (l : List Bits). l ++ b.0) a.1 ∙ append_assoc p.walked a.0 b.0)

module _ (v : Vector) (q : 0 < v.width) where
  -- One child tried
  pub visit_adds : (n : ℕ) (rows : List Row) (below : Bits → Progress → Progress) → ((c : Bits) (p : Progress) → Adds n (Strict c) p (below c p))
      → (p : Progress) (c : Bits) → Adds (suc n) (Below c) p (visit v rows below p c)
  visit_adds n rows below g p c =
      go (passes_after v (leaves v p.walked) (metric v.width rows c) c) (g c (with_walked p c))
    where
      not_above : (d : Bits) → Strict c d → Below d c → ⊥
      not_above d s b = omega (arith, s.1, length-append s.0 c, ap length s.2, length-append b.0 d, ap length b.1)

      weaker : (x : Bits) → Strict c x → Below c x
      weaker x s = (s.0, s.2)

      at : {l : List Bits} → ((x : Bits) → x ∈ l → Strict c x) → (x : Bits) → (x ≡ c) ⊎ (x ∈ l) → Below c x
      at f x (inl e) = ([], sym e)
      at f x (inr h) = weaker x (f x h)

      go : (b : Bool) → Adds n (Strict c) (with_walked p c) (below c (with_walked p c)) → Adds (suc n) (Below c) p (cond b (below c (with_walked p c)) (with_cut p c))
      go true a = record {
        new = c ∷ a.new;
        failed = a.failed;
        walks = a.walks ∙ append_assoc p.walked (c ∷ []) a.new;
        cuts = a.cuts;
        once = (λ h. not_above c (a.all c h) ([], refl), a.once);
        all = λ x h. at a.all x (Memᴰ.cases_cons h);
        all_cut = λ x h. weaker x (a.all_cut x h);
        apart = λ x d h k b. apart x d (Memᴰ.cases_cons h) k b;
        few = omega (arith, a.few);
      }
        where
          apart : (x d : Bits) → (x ≡ c) ⊎ (x ∈ a.new) → d ∈ a.failed → Below d x → ⊥
          apart x d (inl e) k b = not_above d (a.all_cut d k) (b.0, b.1 ∙ e)
          apart x d (inr h) k b = a.apart x d h k b
      go false a = record {
        new = [];
        failed = c ∷ [];
        walks = sym (append-nil p.walked);
        cuts = refl;
        once = tt;
        all = λ x h. absurd (Memᴰ.not-nil h);
        all_cut = λ x h. ([], sym (Memᴰ.eq_of_singleton h));
        apart = λ x d h k b. Memᴰ.not-nil h;
        few = omega arith;
      }

  -- Children of one length, tried one after the other
  fold_adds : (n : ℕ) (f : Progress → Bits → Progress) → ((p : Progress) (c : Bits) → Adds n (Below c) p (f p c)) → (len : ℕ) (cs : List Bits)
      → ((c : Bits) → c ∈ cs → length c ≡ len) → Once cs → (p : Progress) → Adds (length cs * n) (BelowOne cs) p (foldl f p cs)
  fold_adds n f g len [] lens o p = nothing (0 * n) (BelowOne []) p
  fold_adds n f g len (c ∷ cs) lens o p = join (g p c) (fold_adds n f g len cs (λ d h. lens d (Memᴰ.tail h)) o.1 (f p c))
    where
      clash : (x : Bits) → Below c x → BelowOne cs x → ⊥
      clash x a b = o.0 (Memᴰ.cast (below_same c b.0 x a b.2 (lens c (Memᴰ.head refl) ∙ sym (lens b.0 (Memᴰ.tail b.1)))) b.1)

      place : {s t : List Bits} → ((x : Bits) → x ∈ s → Below c x) → ((x : Bits) → x ∈ t → BelowOne cs x) → (x : Bits) → (x ∈ s) ⊎ (x ∈ t) → BelowOne (c ∷ cs) x
      place f g x (inl h) = (c, Memᴰ.head refl, f x h)
      place f g x (inr h) = let b = g x h in (b.0, Memᴰ.tail b.1, b.2)

      join : {r r' : Progress} → Adds n (Below c) p r → Adds (length cs * n) (BelowOne cs) r r' → Adds (suc (length cs) * n) (BelowOne (c ∷ cs)) p r'
      join a b = record {
        new = a.new ++ b.new;
        failed = a.failed ++ b.failed;
        walks = b.walks ∙ ap (λ (l : List Bits). l ++ b.new) a.walks ∙ append_assoc p.walked a.new b.new;
        cuts = b.cuts ∙ ap (λ (l : List Bits). l ++ b.failed) a.cuts ∙ append_assoc p.cut a.failed b.failed;
        once = once_append a.new b.new a.once b.once (λ x h k. clash x (a.all x h) (b.all x k));
        all = λ x h. place a.all b.all x (Memᴰ.append_cases a.new h);
        all_cut = λ x h. place a.all_cut b.all_cut x (Memᴰ.append_cases a.failed h);
        apart = λ x d h k u. apart x d (Memᴰ.append_cases a.new h) (Memᴰ.append_cases a.failed k) u;
        few = omega (arith, a.few, b.few, length-append a.new b.new, suc-mul (length cs) n);
      }
        where
          apart : (x d : Bits) → (x ∈ a.new) ⊎ (x ∈ b.new) → (d ∈ a.failed) ⊎ (d ∈ b.failed) → Below d x → ⊥
          apart x d (inl h) (inl k) u = a.apart x d h k u
          apart x d (inl h) (inr k) u = let e = b.all_cut d k in clash x (a.all x h) (e.0, e.1, below_trans e.0 d x e.2 u)
          apart x d (inr h) (inl k) u = clash x (below_trans c d x (a.all_cut d k) u) (b.all x h)
          apart x d (inr h) (inr k) u = b.apart x d h k u

  -- The subtree below a node finished
  pub walk_adds : (todo done : List Row) (node : Bits) (p : Progress) → Adds (tree_nodes v.width (length todo)) (Strict node) p (walk_below v todo done node p)
  unfolding walk_below
  walk_adds [] done node p = nothing _ (Strict node) p
  walk_adds (r ∷ todo) done node p =
      under
      (fold_adds (suc (tree_nodes v.width (length todo))) (visit v (r ∷ done) below)
      (visit_adds (tree_nodes v.width (length todo)) (r ∷ done) below (walk_adds todo (r ∷ done)))
      (v.width + length node) kids (children_length v.width (r ∷ done) node) (once_children v.width (r ∷ done) node) p)
    where
      below : Bits → Progress → Progress
      below = walk_below v todo (r ∷ done)

      kids : List Bits
      kids = children v.width (r ∷ done) node

      strict : (x : Bits) → BelowOne kids x → Strict node x
      strict x b =
          let s = children_of_lem v.width (r ∷ done) node b.0 b.1 in (
            b.2.0 ++ s.0,
            omega (arith, length-append b.2.0 s.0, s.1),
            append_assoc b.2.0 s.0 node ∙ ap (λ (l : Bits). b.2.0 ++ l) s.2 ∙ b.2.1,
          )

      all_of : length kids * suc (tree_nodes v.width (length todo)) ≡ tree_nodes v.width (suc (length todo))
      all_of = ap (λ (n : ℕ). n * suc (tree_nodes v.width (length todo))) (children_count v.width (r ∷ done) node) ∙ sym (tree_step v.width (length todo))

      under : {p' : Progress} → Adds (length kids * suc (tree_nodes v.width (length todo))) (BelowOne kids) p p' → Adds (tree_nodes v.width (suc (length todo))) (Strict node) p p'
      under a = record {
        new = a.new;
        failed = a.failed;
        walks = a.walks;
        cuts = a.cuts;
        once = a.once;
        all = λ x h. strict x (a.all x h);
        all_cut = λ x h. strict x (a.all_cut x h);
        apart = a.apart;
        few = subst (λ (n : ℕ). length a.new ≤ n) all_of a.few;
      }

  pub visit_extends : (todo done : List Row) (r : Row) (p : Progress) (c : Bits) → Extends p (visit v (r ∷ done) (walk_below v todo (r ∷ done)) p c)
  visit_extends todo done r p c =
      let a = visit_adds _ (r ∷ done) (walk_below v todo (r ∷ done)) (walk_adds todo (r ∷ done)) p c in
      (a.new, a.walks)

  whole_adds : Adds (tree_nodes v.width (length (reverse v.rows))) (Strict []) (record { walked = []; cut = [] }) (walk_whole v)
  whole_adds = walk_adds (reverse v.rows) [] [] (record { walked = []; cut = [] })

  nodup : (xs : List Bits) → Once xs → Nodup xs
  unfolding Nodup-nil Nodup-cons
  nodup [] a = Nodup-nil
  nodup (x ∷ xs) a = Nodup-cons.1 (λ m. ∥∥₁_elim m ⊥_prop a.0, nodup xs a.1)

  -- No node is walked twice
  pub walk_once : Nodup (walk v)
  walk_once = subst Nodup (sym whole_adds.walks) (nodup whole_adds.new whole_adds.once)

  -- A walk is no longer than the tree
  pub walk_at_most : length (walk v) ≤ tree_nodes v.width (length v.rows)
  walk_at_most = rw length-reverse at bound
    where
      bound : length (walk v) ≤ tree_nodes v.width (length (reverse v.rows))
      bound = omega (arith, ap length whole_adds.walks, whole_adds.few)

  -- No node at or below a cut child is walked
  pub cut_not_walked : (x c : Bits) → x ∈ walk v → c ∈ cut_children v → Below c x → ⊥
  cut_not_walked x c h k = whole_adds.apart x c (subst (◌∈◌ x) whole_adds.walks h) (subst (◌∈◌ c) whole_adds.cuts k)
