-- The program's search agrees with the model's at every node. Siblings: one turn is one child tried, since the first smallest key is the
-- next child. Levels: of the rows `todo` are still to come, the next one first, and the node's bits are those of `done`.
use Prim.Native.Nat.{ℕ, suc, ◌+◌, ◌-◌, ◌*◌, ◌^◌, ◌≤◌, ◌<◌}
use mathlib.Core.Path.{◌≡◌, refl, sym, ◌∙◌, ap, ap₂, subst}
use mathlib.Core.Bool.{Bool, true, false, cond}
use mathlib.Core.List.{List, [], ◌∷◌, ◌++◌, foldl, reverse, reverse_aux, reverse-reverse}
use native.Mathlib.Nat.{le_of_eq, add_comm, zero-add, add-zero, suc-mul, add-mul, mul-pos}
use native.Mathlib.Omega.{arith}
use lib.Dec.{ltb}
use lib.ListN.{length, get_or, set, length-append, length-reverse_aux}
use lib.Seq.{take_at, drop_at}
use Rattle.model.specs.Constellation.{Bits, number, bits_of}
use Rattle.model.specs.Metric.{Row, Vector, prior_cost, increment, metric, cost, label_bits}
use Rattle.model.specs.Walk.{children}
use Rattle.model.specs.Search.{Search, start, admits, enter, stop, attempt, search_below, search}
use Rattle.model.proofs.Lists.{length-up_from, get_or-places}
use Rattle.model.proofs.Numbers.{number_append, number-bits_of, bits_of-number, length-bits_of}
use Rattle.model.proofs.Tree.{children_count}
use Rattle.search_spec.specs.Arrays.{least_first}
use Rattle.metric.specs.Keys.{cost_room, keyed, metric_in}
use Rattle.search_spec.specs.Program.{above, tried, Taken, Kept, kept_of, fresh, passing}
use Rattle.search_spec.specs.Program.{no_row, chosen, partial_of, symbol_cost, key_of, child_in, keys_of, onward, siblings, test_of, below}
use Rattle.metric.proofs.Keys.{key_metric}
use Rattle.search_spec.proofs.Order.{child, Remaining, Next, begin, next}
use Rattle.search_spec.proofs.Agree.{Agrees, passing_is, entered, noted_is, stopped_is, fresh_is}

-- The row after those to come
get_or-reverse_aux : {A : Type 0} (todo done : List A) (i : ℕ) (z : A) → get_or (reverse_aux todo done) (length todo + i) z ≡ get_or done i z
get_or-reverse_aux [] done i z = rw zero-add
get_or-reverse_aux (t ∷ todo) done i z =
    let e : suc (length todo) + i ≡ length todo + suc i = omega arith in
    ap (λ (j : ℕ). get_or (reverse_aux todo (t ∷ done)) j z) e ∙ get_or-reverse_aux todo (t ∷ done) (suc i) z

-- One more node counted
abbrev counted : Kept → Kept
counted k = kept_of (k.count + 1) k.stopped k.taken

module _ (v : Vector) (allowance : ℕ) where
  -- The children of a node tried one after the other by the model, `f` being its search below one
  module _ (rows : List Row) (f : Bits → Search → Search) where
    -- A stopped search takes no child
    stays : (cs : List Bits) (s : Search) → s.stopped ≡ true → foldl (attempt v allowance rows f) s cs ≡ s
    stays [] s e = refl
    stays (c ∷ cs) s e = ap (λ (t : Search). foldl (attempt v allowance rows f) t cs) (rw e) ∙ stays cs s e

    -- What becomes of a child, by the pass test and by whether the allowance is not used up
    after : Bool → Bool → Search → Bits → Search
    after passes more s c = cond passes (cond more (f c (enter v s c)) (stop s)) s

    runs : (s : Search) (c : Bits) (count : ℕ) → s.stopped ≡ false → count ≡ s.count
        → attempt v allowance rows f s c ≡ after (admits v s (metric v.width rows c) c) (ltb count allowance) s c
    unfolding after
    runs s c count e h =
        ap₂ (λ (b : Bool) (n : ℕ). cond b s (after (admits v s (metric v.width rows c) c) (ltb n allowance) s c)) e (sym h)

  -- The same by the program, given that the pass tests are one and that the searches below a child agree
  module _ (rows : List Row) (node : Bits) where
    abbrev kid : ℕ → Bits
    kid i = child v.width node i

    -- A child's partial metric, and its key
    abbrev partial : ℕ → ℕ
    partial i = metric v.width rows (child v.width node i)

    module _ (own : ℕ → ℕ) (low : (i : ℕ) → metric v.width rows (child v.width node i) < above) (cheap : (i : ℕ) → own i < cost_room)
        (shared : ℕ) (costs : (i : ℕ) → cost v.width rows (child v.width node i) ≡ own i + shared) (test : ℕ → ℕ → Taken → Bool) (f : Bits → Search → Search) (g : ℕ → ℕ → Kept → Kept)
        (same_test : (i : ℕ) (s : Search) (k : Kept) → i < 2 ^ v.width → Agrees v s k
        → test i (keyed (partial i) (own i)) k.taken ≡ admits v s (partial i) (kid i))
        (same_below : (i : ℕ) (s : Search) (k : Kept) → i < 2 ^ v.width → Agrees v s k → s.stopped ≡ false
        → Agrees v (f (kid i) (enter v s (kid i))) (g i (keyed (partial i) (own i)) (counted k))) where
      fold_agrees : (rest : List Bits) (keys : List ℕ) (s : Search) (k : Kept)
          → Remaining v.width rows node own keys rest → Agrees v s k → s.stopped ≡ false
          → Agrees v (foldl (attempt v allowance rows f) s rest) (siblings test g (2 ^ v.width) allowance (length rest) keys k)
      unfolding siblings after
      fold_agrees [] keys s k r a e = a
      fold_agrees (c ∷ cs) keys s k r a e =
          subst (λ (u : Search). Agrees v (rest u) (siblings test g (2 ^ v.width) allowance (suc (length cs)) keys k))
          (sym (runs rows f s (kid x) k.count e a.count) ∙ ap (attempt v allowance rows f s) n.is)
          (rw (n.key, same_test x s k n.inside a)
          (turn (admits v s (partial x) (kid x)) (ltb k.count allowance) (fold_agrees cs (set keys x tried))))
        where
          x : ℕ
          x = least_first keys (2 ^ v.width)

          n : Next v.width rows node own keys c cs (least_first keys (2 ^ v.width))
          n = next v.width rows node own low cheap shared costs r

          -- after this child, by the model and by the program
          u : Search
          u = f (kid x) (enter v s (kid x))

          w : Kept
          w = g x (keyed (partial x) (own x)) (counted k)

          rest : Search → Search
          rest s' = foldl (attempt v allowance rows f) s' cs

          left : Kept → Kept
          left = siblings test g (2 ^ v.width) allowance (length cs) (set keys x tried)

          Onward : Type 0
          Onward = (s' : Search) (k' : Kept) → Remaining v.width rows node own (set keys x tried) cs → Agrees v s' k' → s'.stopped ≡ false
              → Agrees v (rest s') (left k')

          further : (b : Bool) → w.stopped ≡ b → Agrees v u w → Onward → Agrees v (rest u) (onward b w (left w))
          further true h a' ih = subst (λ (s' : Search). Agrees v s' w) (sym (stays rows f cs u (sym a'.stopped ∙ h))) a'
          further false h a' ih = ih u w n.left a' (sym a'.stopped ∙ h)

          turn : (p l : Bool) → Onward
              → Agrees v (rest (cond p (cond l u (stop s)) s))
              (cond p (cond l (onward w.stopped w (left w)) (kept_of k.count true k.taken)) (left k))
          turn true true ih = further w.stopped refl (same_below x s k n.inside a e) ih
          turn true false ih = rw (stays rows f cs (stop s) refl) (stopped_is v a)
          turn false l ih = ih s k n.left a e

  -- `low`: every partial metric is below the sentinel
  module _ (low : (todo done : List Row) → reverse_aux todo done ≡ v.rows → (bits : Bits) → metric v.width done bits < above)
      (cheap : (level s : ℕ) → symbol_cost v level s < cost_room) (some : 0 < v.width) where
    -- What holds at a node
    record At (todo done : List Row) (node : Bits) : Type 0 where
      rows : reverse_aux todo done ≡ v.rows
      size : length node ≡ length done * v.width

    module _ {todo done : List Row} {node : Bits} (p : At todo done node) where
      height : length v.rows ≡ length todo + length done
      height = ap length (sym p.rows) ∙ length-reverse_aux todo done

      chosen_is : chosen v (length todo) ≡ length node
      unfolding chosen
      chosen_is =
          let rest : length v.rows - length todo ≡ length done = omega (arith, height) in
          ap (λ (h : ℕ). h * v.width) rest ∙ sym p.size

      whole_size : length node + length todo * v.width ≡ label_bits v
      whole_size = omega (arith, p.size, add-mul (length todo) (length done) v.width, ap (λ (h : ℕ). h * v.width) height)

    -- A node is entered and its subtree finished, by both
    Descends : List Row → List Row → Type 0
    Descends todo done = (node : Bits) (s : Search) (k : Kept) → At todo done node → Agrees v s k → s.stopped ≡ false
        → Agrees v (search_below v allowance todo done node (enter v s node))
        (below v allowance (length todo) (number node) (metric v.width done node) (counted k))

    module _ (r : Row) (todo done : List Row) (node : Bits) (p : At (r ∷ todo) done node) where
      -- The node's partial metric, and its child with symbol i
      abbrev d : ℕ
      d = metric v.width done node

      abbrev down : ℕ → Bits
      down i = child v.width node i

      child_is : (i : ℕ) → i < 2 ^ v.width → child_in v (length todo) (number node) i ≡ number (down i)
      child_is i h =
          ap₂ (λ (a b : ℕ). a * 2 ^ b + number node) (sym (number-bits_of v.width i h)) (chosen_is p)
          ∙ sym (number_append (bits_of v.width i) node)

      at_child : (i : ℕ) → At todo (r ∷ done) (down i)
      at_child i =
          let symbol = length-bits_of v.width i in
          let joined = length-append (bits_of v.width i) node in
          record { rows = p.rows; size = omega (arith, p.size, suc-mul (length done) v.width) }

      under : (i : ℕ) → metric v.width (r ∷ done) (down i) < above
      under i = low todo (r ∷ done) p.rows (down i)

      row_is : get_or v.rows (length todo) no_row ≡ r
      row_is =
          ap₂ (λ (rs : List Row) (j : ℕ). get_or rs j no_row) (sym p.rows) (sym (add-zero (length todo)))
          ∙ get_or-reverse_aux todo (r ∷ done) 0 no_row

      -- The prior cost of a child is its symbol's and the node's
      abbrev own : ℕ → ℕ
      own i = symbol_cost v (length todo) i

      costs_are : (i : ℕ) → cost v.width (r ∷ done) (down i) ≡ own i + cost v.width done node
      unfolding symbol_cost cost
      costs_are i =
          ap₂ (λ (bits rest : Bits). prior_cost r.priors bits + cost v.width done rest)
          (take_at (bits_of v.width i) node v.width (length-bits_of v.width i))
          (drop_at (bits_of v.width i) node v.width (length-bits_of v.width i))
          ∙ ap (λ (row : Row). prior_cost row.priors (bits_of v.width i) + cost v.width done node) (sym row_is)

      -- In its key stand its partial metric and its symbol's prior cost
      key_is : (i : ℕ) → partial_of v (length todo) (number node) d i ≡ metric v.width (r ∷ done) (down i)
      unfolding partial_of metric
      key_is i =
          ap₂ (λ (row : Row) (bits : Bits). d + increment v.width row (bits_of v.width i ++ bits)) row_is bits_are
          ∙ add_comm d (increment v.width r (down i))
          ∙ ap (λ (bits : Bits). increment v.width r (down i) + metric v.width done bits)
          (sym (drop_at (bits_of v.width i) node v.width (length-bits_of v.width i)))
        where
          bits_are : bits_of (chosen v (suc (length todo))) (number node) ≡ node
          bits_are = ap (λ (h : ℕ). bits_of h (number node)) (chosen_is p) ∙ bits_of-number node

      -- The children of a node, given the search below each
      level_agrees : (s : Search) (k : Kept) → Descends todo (r ∷ done) → Agrees v s k → s.stopped ≡ false
          → Agrees v (search_below v allowance (r ∷ todo) done node s) (below v allowance (suc (length todo)) (number node) d k)
      unfolding search_below below Descends
      level_agrees s k deeper a t =
          subst (λ (fuel : ℕ). Agrees v whole (siblings test sub (2 ^ v.width) allowance fuel keys k))
          (children_count v.width (r ∷ done) node)
          (fold_agrees (r ∷ done) node own under (cheap (length todo)) (cost v.width done node) costs_are test (search_below v allowance todo (r ∷ done)) sub same_test same_below
          (children v.width (r ∷ done) node) keys s k (begin v.width (r ∷ done) node own keys room values) a t)
        where
          whole : Search
          whole = search_below v allowance (r ∷ todo) done node s

          keys : List ℕ
          keys = keys_of v (length todo) (number node) (metric v.width done node)

          test : ℕ → ℕ → Taken → Bool
          test = test_of v (length todo) (number node)

          sub : ℕ → ℕ → Kept → Kept
          sub i key = below v allowance (length todo) (child_in v (length todo) (number node) i) (metric_in key)

          given : (i : ℕ) → metric_in (keyed (metric v.width (r ∷ done) (down i)) (own i)) ≡ metric v.width (r ∷ done) (down i)
          given i = key_metric (metric v.width (r ∷ done) (down i)) (own i) (cheap (length todo) i)

          same_test : (i : ℕ) (s : Search) (k : Kept) → i < 2 ^ v.width → Agrees v s k
              → test i (keyed (metric v.width (r ∷ done) (down i)) (own i)) k.taken ≡ admits v s (metric v.width (r ∷ done) (down i)) (down i)
          same_test i s k h b =
              let e = metric v.width (r ∷ done) (down i) in
              ap (λ (x : ℕ). passing v k.taken x (length todo * v.width) (child_in v (length todo) (number node) i)) (given i)
              ∙ ap (passing v k.taken e (length todo * v.width)) (child_is i h)
              ∙ passing_is v b e (length todo * v.width) (down i) (under i) (whole_size (at_child i))

          same_below : (i : ℕ) (s : Search) (k : Kept) → i < 2 ^ v.width → Agrees v s k → s.stopped ≡ false
              → Agrees v (search_below v allowance todo (r ∷ done) (down i) (enter v s (down i)))
              (sub i (keyed (metric v.width (r ∷ done) (down i)) (own i)) (counted k))
          same_below i s k h b t = rw (child_is i h, given i) (deeper (down i) s k (at_child i) b t)

          room : 2 ^ v.width ≤ length keys
          room = le_of_eq (sym (length-up_from (key_of v (length todo) (number node) d) 0 (2 ^ v.width)))

          values : (i : ℕ) → i < 2 ^ v.width → get_or keys i 0 ≡ keyed (metric v.width (r ∷ done) (down i)) (own i)
          values i h = get_or-places (key_of v (length todo) (number node) d) 0 (2 ^ v.width) i h ∙ ap (λ (x : ℕ). keyed x (own i)) (key_is i)

    descends : (todo done : List Row) → Descends todo done
    unfolding Descends search_below below
    descends [] done node s k p a t =
        let whole : length node ≡ label_bits v = p.size ∙ ap (λ (rs : List Row). length rs * v.width) p.rows in
        rw p.rows (noted_is v a node whole (low [] v.rows refl node))
    descends (r ∷ todo) done node s k p a t =
        let inside : Agrees v (enter v s node) (counted k) = entered v a node inner in
        let unstopped : (enter v s node).stopped ≡ false = sym inside.stopped ∙ a.stopped ∙ t in
        level_agrees r todo done node p (enter v s node) (counted k) (descends todo (r ∷ done)) inside unstopped
      where
        inner : length node ≡ label_bits v → ⊥
        inner e = let more : 0 < suc (length todo) * v.width = mul-pos (omega arith) some in omega (arith, whole_size p, more)

    -- The whole search
    pub search_agrees : (room : ℕ) → label_bits v ≤ room → 0 < length v.rows
        → Agrees v (search v allowance) (below v allowance (length v.rows) 0 0 (fresh room))
    unfolding number metric
    search_agrees room h m = go (reverse v.rows) (reverse-reverse v.rows)
      where
        go : (todo : List Row) → reverse_aux todo [] ≡ v.rows
            → Agrees v (search_below v allowance todo [] [] (start v)) (below v allowance (length v.rows) 0 0 (fresh room))
        go [] e = absurd (omega (arith, ap length e))
        go (r ∷ todo) e =
            let at : At (r ∷ todo) [] [] = record { rows = e; size = omega arith } in
            let size : length v.rows ≡ suc (length todo) = omega (arith, height at) in
            let agrees = fresh_is v room h in
            rw size (level_agrees r todo [] [] at (start v) (fresh room) (descends todo (r ∷ [])) agrees (sym agrees.stopped))
