-- The search below a node by its steps: the state before a child is tried, and what a turn makes of it.
use Prim.Native.Nat.{ℕ, ◌+◌, ◌-◌, ◌*◌, ◌^◌, ◌≤◌, ◌<◌}
use mathlib.Core.Path.{◌≡◌, refl, sym, ◌∙◌, ap, subst}
use mathlib.Core.Bool.{Bool, true, false}
use mathlib.Core.List.{List, ◌++◌}
use native.Mathlib.Nat.{le_of_lt, le_trans}
use native.Mathlib.Omega.{arith}
use lib.ListN.{length, get_or, set, take, drop, take-append-drop, length-drop}
use lib.Seq.{take_all}
use Rattle.limits.specs.Reach.{limits_size}
use lib.IntN.{ℤ}
use Rattle.model.specs.Metric.{Vector}
use Rattle.block.proofs.Places.{rows_count}
use Rattle.model.specs.Block.{most_bits}
use Rattle.metric.specs.Keys.{metric_in}
use Rattle.search_spec.specs.Arrays.{least_first}
use Rattle.search_spec.specs.Program.{above, tried, Taken, Kept, kept_of, limits_of, passing, noted, chosen, partial_of, key_of, child_in, below, rest_of}
use Rattle.search_spec.proofs.Arrays.{Same, Held, held_least, held_set, held_same, same_part}
use Rattle.search_spec.proofs.Bounds.{kept_falls, symbol_inside, partial_under as kid_Under, keys_held, child_by}
use Rattle.search_spec.proofs.Answer.{symbol_cheap}
use Rattle.search_spec.proofs.Keys.{low_key}
use Rattle.search_spec.proofs.Turns.{rest_start, rest_same, rest_done, rest_cut, rest_halted, rest_stopped, rest_onward}
use Rattle.search_spec.proofs.Early.{rest_beyond, below_shut}
use Rattle.enumeration.specs.Rows.{key_count, RowLeast, Took}
use Rattle.enumeration.proofs.Rows.{row_least_front}
use Rattle.enumeration.proofs.Taking.{took_same}
use Rattle.hypotheses.specs.Limits.{vector_at, SearchAsked, LimitsAsked, Limited, minima_size}
use Rattle.turn.specs.Limits.{passes_at, opposite}
use Rattle.search.specs.Nodes.{NodeAsked, Renewal}
use Rattle.turn.specs.Turn.{behind, NextAsked, next_of}
use Rattle.expansion.specs.Expand.{NodeIn, kid_key, Shut, Filled}
use Rattle.tree.specs.declared.Node.{Node}
use Rattle.expansion.proofs.Rows.{partial_by, key_by}
use Rattle.expansion.proofs.Nodes.{room_for, in_range, within, node_placed, level_up, some, row_inside, kid_low}
use Rattle.turn.proofs.Levels.{room_below}
use Rattle.turn.proofs.Limits.{passing_by, child_reach, would_cut}
use Rattle.turn.proofs.Next.{next_low, next_within, next_bits, next_in}

-- Before a child is tried, `turns` of them were: `whole`, what the search below the node comes to, is what is left to make of k. The keys
-- have room for the levels below
pub record Searching (m q clip : ℕ) (numbers : List ℤ) (allowance : ℕ) (n : Node) (whole : Kept) (turns : ℕ) (keys : List ℕ)
    (k : Kept) (limits : List ℕ) : Type 0 where
  pub node : NodeIn m q clip numbers n
  pub inner : 0 < n.level
  pub room : n.level * key_count q ≤ length keys
  pub rows : RowLeast q keys
  pub lowest : k.taken.best ≤ above
  pub running : k.stopped ≡ false
  pub held : Held tried (2 ^ q) (key_of (vector_at m q clip numbers) (n.level - 1) n.bits n.partial) turns keys
  pub left : whole ≡ rest_of (vector_at m q clip numbers) allowance (n.level - 1) n.bits (2 ^ q - turns) keys k
  pub limited : Limited (vector_at m q clip numbers) k.taken limits
  pub opposed : n.chosen ≡ opposite m q limits k.taken.label n.level n.bits

-- The limits are lent behind the minima
pub limits_lent : (minima : List ℕ) → length minima ≡ minima_size → take limits_size (drop (2 * most_bits) minima) ≡ limits_of minima
limits_lent minima whole = take_all limits_size (drop (2 * most_bits) minima) (omega (arith, length-drop (2 * most_bits) minima))

-- A node of a vector that a search may be asked for
module _ {m q clip : ℕ} {numbers : List ℤ} (a : SearchAsked m q clip numbers) {n : Node} (w : NodeIn m q clip numbers n) where
  abbrev v : Vector
  v = vector_at m q clip numbers

  streams : length v.rows ≡ m
  streams = rows_count m q numbers

  pub limits_asked : (t : Taken) (limits : List ℕ) → Limited v t limits → LimitsAsked m q limits
  limits_asked t limits limited = subst (λ (k : ℕ). LimitsAsked k q limits) streams limited.asked

  -- A leaf is noted
  pub leaf_noted : (t : Taken) (allowance : ℕ) → n.level ≡ 0 → (count : ℕ) (stopped : Bool) → stopped ≡ false
      → kept_of count stopped (noted v n.bits n.partial t) ≡ below v allowance n.level n.bits n.partial (kept_of count false t)
  unfolding below
  leaf_noted t allowance leaf count stopped e = rw (leaf, e)

  -- Another node
  module _ (inner : 0 < n.level) where
    -- All children would be cut: the search below the node changes nothing
    module _ (t : Taken) (limits : List ℕ) (limited : Limited v t limits)
        (opposed : n.chosen ≡ opposite m q limits t.label n.level n.bits) where
      pub shut : (allowance : ℕ) → Shut m q numbers n t.label t.best limits → (count : ℕ) (stopped : Bool) → stopped ≡ false
          → kept_of count stopped t ≡ below v allowance n.level n.bits n.partial (kept_of count false t)
      shut allowance cuts count stopped f =
          ap (λ (x : Bool). kept_of count x t) f
          ∙ sym (ap (λ (l : ℕ). below v allowance l n.bits n.partial (kept_of count false t)) (level_up a w inner)
          ∙ below_shut v allowance (n.level - 1) n.bits n.partial (kept_of count false t)
          (λ s h. (kid_Under v n.level (some a w inner) (within a w) (in_range a w) n.partial w.bounded n.bits s, symbol_cheap v (in_range a w) (n.level - 1) s))
          fails)
        where
          fails : (s : ℕ) → s < 2 ^ q
              → passing v t (partial_of v (n.level - 1) n.bits n.partial s) ((n.level - 1) * q) (child_in v (n.level - 1) n.bits s) ≡ false
          fails s h =
              let e = child_by v n.level (some a w inner) (within a w) m n.bits s (s * 2 ^ ((m - n.level) * q) + n.bits) (sym streams) refl in
              rw (← partial_by m q numbers a.vector clip (n.level - 1) n.bits n.partial s (row_inside a w inner), ← e)
              (would_cut v t limits limited m (sym streams) n.level n.bits s _ (some a w inner) w.inside (node_placed a w) a.vector.bits h
              n.chosen opposed (cuts s h) (kid_low a w inner s))

    -- Before the first child, with the keys of all
    pub start : (t : Taken) (limits : List ℕ) → t.best ≤ above → Limited v t limits
        → n.chosen ≡ opposite m q limits t.label n.level n.bits → (allowance : ℕ) (keys : List ℕ)
        → n.level * key_count q ≤ length keys → Filled m q numbers n keys → (count : ℕ) (stopped : Bool) → stopped ≡ false
        → Searching m q clip numbers allowance n (below v allowance n.level n.bits n.partial (kept_of count false t)) 0 keys
        (kept_of count stopped t) limits
    start t limits lowest limited opposed allowance keys wide filled count stopped f =
        let g : (s : ℕ) → s < 2 ^ q → get_or keys s 0 ≡ key_of v (n.level - 1) n.bits n.partial s =
        λ s h. filled.each s h ∙ key_by m q numbers a.vector clip (n.level - 1) n.bits n.partial s (row_inside a w inner)
        in
        record {
          node = w;
          inner = inner;
          room = wide;
          rows = filled.rows;
          lowest = lowest;
          running = f;
          held = keys_held v n.level (some a w inner) (within a w) (in_range a w) n.partial w.bounded n.bits keys g;
          left = rw f
              (rest_start v (2 ^ q) refl allowance n.bits n.level (some a w inner) n.partial keys (omega (arith, room_for n.level q inner (length keys) wide)) g (kept_of count false t));
          limited = limited;
          opposed = opposed;
        }

-- A turn
module _ {m q clip : ℕ} {numbers : List ℤ} (a : SearchAsked m q clip numbers) {allowance : ℕ} {n : Node} {whole : Kept} {turns : ℕ}
    {keys : List ℕ} {k : Kept} {limits : List ℕ} (h : Searching m q clip numbers allowance n whole turns keys k limits) where
  abbrev w : NodeIn m q clip numbers n
  w = h.node

  abbrev at : Vector
  at = vector_at m q clip numbers

  -- No child is left
  pub done : 2 ^ q ≤ turns → k ≡ whole
  done e = sym (h.left ∙ rest_done at (2 ^ q) refl allowance n.bits (n.level - 1) turns keys k e)

  module _ (more : turns < 2 ^ q) where
    -- The next child: its symbol, and the metric in its key, which is that of the node's child
    abbrev s : ℕ
    s = least_first keys (2 ^ q)

    abbrev d : ℕ
    d = metric_in (get_or keys s 0)

    abbrev next : Node
    next = next_of m q n k.taken.label limits keys

    symbol : s < 2 ^ q
    symbol = symbol_inside keys q (2 ^ q) s refl refl

    key_is : get_or keys s 0 ≡ kid_key m q numbers n s
    key_is =
        held_least h.held more s refl
        ∙ sym (key_by m q numbers a.vector clip (n.level - 1) n.bits n.partial s (row_inside a w h.inner))

    metric_low : d < above
    metric_low = next_low a w h.inner keys key_is

    -- A key left is not above that of a tried child
    key_low : get_or keys s 0 ≤ tried
    key_low = low_key (get_or keys s 0) metric_low

    child_is : next.bits ≡ child_in at (n.level - 1) n.bits s
    child_is = next_bits a w h.inner keys key_is k.taken.label limits

    -- It is a node of the vector
    pub child_in_lem : NodeIn m q clip numbers next
    child_in_lem = next_in a w h.inner keys key_is k.taken.label limits

    -- What a turn asks of the node, its limits and keys
    pub next_asked : NextAsked m q n limits keys
    next_asked = record {
      inner = h.inner;
      inside = w.inside;
      placed = node_placed a w;
      size = h.limited.asked.size;
      rows = h.rows;
      low = metric_low;
      within = next_within a w h.inner keys key_is;
    }

    -- What its chosen bits give
    opposed : next.chosen ≡ opposite m q limits k.taken.label next.level next.bits
    opposed =
        rw h.opposed
        (sym (child_reach at k.taken limits h.limited m (sym (streams a w)) n.level n.bits s d (some a w h.inner) w.inside (node_placed a w)
        a.vector.bits symbol))

    -- The pass tests that the code makes are the definition's
    passes_is : passes_at k.taken.best limits next.chosen next.partial next.level
        ≡ passing at k.taken d ((n.level - 1) * q) next.bits
    passes_is =
        ap (λ (x : ℕ). passes_at k.taken.best limits x d (n.level - 1)) opposed
        ∙ sym (passing_by at k.taken limits h.limited m (sym (streams a w)) (n.level - 1) next.bits (omega (arith, w.inside)) d (le_of_lt metric_low))

    -- The children end
    pub ended : passes_at k.taken.best limits n.chosen next.partial n.level ≡ false → k ≡ whole
    ended fails =
        sym
        (h.left
        ∙ rest_beyond at allowance n.bits (n.level - 1) (2 ^ q - turns) keys k (omega (arith, within a w, h.inner))
        (subst (λ (l : ℕ). n.bits < 2 ^ chosen at l) (level_up a w h.inner) w.placed) key_low
        (subst (λ (l : ℕ). false ≡ passing at k.taken d (l * q) n.bits) (level_up a w h.inner) (sym node_fails)))
      where
        node_fails : passing at k.taken d (n.level * q) n.bits ≡ false
        node_fails =
            passing_by at k.taken limits h.limited m (sym (streams a w)) n.level n.bits w.inside d (le_of_lt metric_low)
            ∙ ap (λ (x : ℕ). passes_at k.taken.best limits x d n.level) (sym h.opposed) ∙ fails

    -- The allowance is used up
    pub halts : passes_at k.taken.best limits next.chosen next.partial next.level ≡ true → allowance ≤ k.count
        → kept_of k.count true k.taken ≡ whole
    halts passes full =
        rest_halted at (2 ^ q) refl allowance n.bits (n.level - 1) turns keys k more s refl next.bits child_is
        (sym (sym passes_is ∙ passes)) full ∙ sym h.left

    module _ {after : List ℕ} (took : Took q keys after s) where
      next_same : Same (2 ^ q) (set keys s tried) after
      next_same = took_same took

      next_room : n.level * key_count q ≤ length after
      next_room = omega (arith, h.room, took.size)

      -- One child more is tried
      abbrev Further : Kept → Type 0
      Further u = Searching m q clip numbers allowance n whole (turns + 1) after u limits

      onward_with : (u : Kept) → u.taken ≡ k.taken → u.stopped ≡ false
          → whole ≡ rest_of at allowance (n.level - 1) n.bits (2 ^ q - (turns + 1)) (set keys s tried) u → Further u
      onward_with u e f g = record {
        node = w;
        inner = h.inner;
        room = next_room;
        rows = took.rows;
        lowest = rw e h.lowest;
        running = f;
        held = held_same next_same (held_set h.held s);
        left = g ∙ rest_same at (2 ^ q) refl allowance n.bits (n.level - 1) next_same (2 ^ q - (turns + 1)) u;
        limited = rw e h.limited;
        opposed = rw e h.opposed;
      }

      -- The child is cut
      pub cut : passes_at k.taken.best limits next.chosen next.partial next.level ≡ false → Further k
      cut fails =
          onward_with k refl h.running
          (h.left
          ∙ rest_cut at (2 ^ q) refl allowance n.bits (n.level - 1) turns keys k more s refl next.bits child_is
          (sym (sym passes_is ∙ fails)))

      -- It is counted
      module _ (passes : passes_at k.taken.best limits next.chosen next.partial next.level ≡ true) (counts : k.count < allowance) where
        -- What the search below it is asked
        pub child_asked : NodeAsked m q clip numbers next k.taken limits (behind q after)
        child_asked = record {
          node = child_in_lem;
          lowest = h.lowest;
          limited = h.limited;
          opposed = opposed;
          room = room_below n.level q h.inner after next_room;
        }

        abbrev Found : Kept → Type 0
        Found u = u ≡ below at allowance next.level next.bits next.partial (kept_of (k.count + 1) false k.taken)

        -- All of its own children would be cut: the search goes on
        pub past : 0 < next.level → Shut m q numbers next k.taken.label k.taken.best limits
            → Further (kept_of (k.count + 1) k.stopped k.taken)
        past inner cuts =
            let u = kept_of (k.count + 1) k.stopped k.taken in
            onward_with u refl h.running
            (h.left
            ∙ rest_onward at (2 ^ q) refl allowance n.bits (n.level - 1) turns keys k more s refl next.bits child_is
            (sym (sym passes_is ∙ passes)) h.running counts u
            (shut a child_in_lem inner k.taken limits h.limited opposed allowance cuts (k.count + 1) k.stopped h.running) h.running)

        -- It is searched
        module _ (u : Kept) (is : Found u) where
          -- to the end of the allowance
          pub stops : u.stopped ≡ true → u ≡ whole
          stops x =
              rest_stopped at (2 ^ q) refl allowance n.bits (n.level - 1) turns keys k more s refl next.bits child_is
              (sym (sym passes_is ∙ passes)) h.running counts u is x ∙ sym h.left

          -- or its subtree is finished, and the keys behind the children's are others; what the node's chosen bits give is looked up anew
          pub onward : u.stopped ≡ false → {limits' : List ℕ} → Limited at u.taken limits'
              → (tail : List ℕ) → length (take (key_count q) after ++ tail) ≡ length after
              → (new : Node) → Renewal m q u.taken.label limits' n new
              → Searching m q clip numbers allowance new whole (turns + 1) (take (key_count q) after ++ tail) u limits'
          onward x {limits'} l tail lt new e =
              let wide : key_count q ≤ length after = room_for n.level q h.inner (length after) next_room in
              let same = same_part (2 ^ q) (key_count q) after tail (omega arith) wide in
              rw (e.level_is, e.bits_is, e.partial_is) (record {
                node = record {
                  inside = w.inside;
                  placed = w.placed;
                  bounded = w.bounded;
                  parts = record {
                    partial_is = w.parts.partial_is;
                    distance_is = e.distance_is ∙ w.parts.distance_is;
                    cost_is = e.cost_is ∙ w.parts.cost_is;
                  };
                };
                inner = h.inner;
                room = omega (arith, next_room);
                rows = row_least_front q after tail took.rows;
                lowest = le_trans (kept_falls at allowance (n.level - 1) next.bits d _ u is).best h.lowest;
                running = x;
                held = held_same same (held_same next_same (held_set h.held s));
                left = h.left
                    ∙ rest_onward at (2 ^ q) refl allowance n.bits (n.level - 1) turns keys k more s refl next.bits child_is
                    (sym (sym passes_is ∙ passes)) h.running counts u is x
                    ∙ rest_same at (2 ^ q) refl allowance n.bits (n.level - 1) next_same (2 ^ q - (turns + 1)) u
                    ∙ rest_same at (2 ^ q) refl allowance n.bits (n.level - 1) same (2 ^ q - (turns + 1)) u;
                limited = l;
                opposed = e.chosen_is;
              })

          -- The same where nothing is put there: the child is a leaf
          pub onward_here : u.stopped ≡ false → {limits' : List ℕ} → Limited at u.taken limits'
              → (new : Node) → Renewal m q u.taken.label limits' n new
              → Searching m q clip numbers allowance new whole (turns + 1) after u limits'
          onward_here x {limits'} l new e =
              let same = take-append-drop (key_count q) after in
              subst (λ (l : List ℕ). Searching m q clip numbers allowance new whole (turns + 1) l u limits') same
              (onward x l (drop (key_count q) after) (ap length same) new e)
