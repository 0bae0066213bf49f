-- The soft values that code writes are the model's, and so is what a search of one vector returns.
use Prim.Native.Nat.{ℕ, ◌-◌, ◌*◌, ◌≤◌, ◌<◌}
use mathlib.Core.Path.{◌≡◌, refl, sym, ◌∙◌, ap, ap₂, subst}
use mathlib.Core.Bool.{Bool}
use mathlib.Core.Logic.{⊎_elim}
use mathlib.Core.List.{List, [], map, ◌++◌}
use native.Mathlib.Nat.{le_refl, le_trans, mul-le-mul}
use native.Mathlib.Omega.{arith}
use lib.IntN.{ℤ}
use lib.ListN.{length, drop, replicate}
use lib.Pow.{pow_pos}
use lib.Seq.{drop-length}
use Rattle.model.specs.Constellation.{Bits, bits_of}
use Rattle.model.specs.Metric.{Row, Vector, metric, distance, cost, distance_of, label_bits}
use Rattle.model.specs.Soft.{places}
use Rattle.model.specs.Block.{Answer, empty_side, answer, most_bits}
use Rattle.model.proofs.Bounds.{largest_pair}
use Rattle.block.proofs.Places.{rows_count}
use Rattle.metric.specs.Parts.{filled}
use Rattle.metric.proofs.Filled.{filled_same}
use Rattle.search_spec.specs.Program.{above, Taken, taken_of, taken_in, limits_of, kept_of, fresh, chosen, below, value_of, answer_of}
use Rattle.search_spec.specs.Reach.{widest_of}
use Rattle.search_spec.specs.Parts.{node_sum, BestParts}
use Rattle.limits.specs.Reach.{limits_size, chosen_reach}
use Rattle.enumeration.specs.Rows.{key_count}
use Rattle.hypotheses.specs.Limits.{vector_at, SearchAsked, minima_size, LimitsAsked}
use Rattle.search.specs.Nodes.{key_places}
use Rattle.turn.specs.Limits.{opposite}
use Rattle.search.specs.Nodes.{NodeAsked}
use Rattle.hypotheses.specs.Values.{MinimaLow}
use Rattle.hypotheses.proofs.Limits.{all_same}
use Rattle.hypotheses.proofs.Values.{bits_are, value_same}
use Rattle.search.specs.Values.{Answered}
use Rattle.search_spec.proofs.Answer.{answered, soft_is}
use Rattle.search_spec.proofs.Bounds.{minima_low, best_found}
use Rattle.expansion.proofs.Rows.{ranged}
use Rattle.expansion.proofs.Nodes.{keys_rise}
use Rattle.tree.specs.declared.Kept.{Kept as Held}

-- The root has no chosen bits
none_chosen : (m q : ℕ) (limits : List ℕ) (label : ℕ) → 0 ≡ opposite m q limits label m 0
unfolding chosen_reach widest_of
none_chosen m q limits label = let e : m - m ≡ 0 = omega arith in rw e

module _ {m q clip : ℕ} {numbers : List ℤ} (h : SearchAsked m q clip numbers) where
  -- The keys of all levels have room
  pub keys_many : m * key_count q ≤ key_places
  keys_many =
      ⊎_elim (λ p. le_trans (mul-le-mul p.1 (keys_rise p.0)) (omega arith)) (λ p. mul-le-mul p.1 (keys_rise p.0))
      (largest_pair q m h.vector.bits h.vector.streams h.vector.label)

  -- Before the first leaf every place has the sentinel
  abbrev pub untaken : List ℕ
  untaken = replicate minima_size above

  -- No row's term is in the root's sums
  none_yet : (sum : ℕ → List Row → Bits → ℕ) → ((b : Bits) → sum q [] b ≡ 0) → 0 ≡ node_sum sum (vector_at m q clip numbers) m 0
  none_yet sum none =
      let v = vector_at m q clip numbers in
      let rows : drop m v.rows ≡ [] = ap (λ (n : ℕ). drop n v.rows) (sym (rows_count m q numbers)) ∙ drop-length v.rows in
      sym (ap (λ (l : List Row). sum q l (bits_of (chosen v m) 0)) rows ∙ none _)

  -- What the walk from the root asks
  pub root_asked : (keys : List ℕ) → m * key_count q ≤ length keys
      → NodeAsked m q clip numbers (record { level = m; bits = 0; partial = 0; distance = 0; cost = 0; chosen = 0 }) (taken_in 0 above untaken) (limits_of untaken) keys
  root_asked keys wide = record {
    node = record {
      inside = le_refl m;
      placed = pow_pos (chosen (vector_at m q clip numbers) m);
      bounded = omega arith;
      parts = record {
        partial_is = none_yet metric (λ b. unfold metric in refl);
        distance_is = none_yet distance (λ b. unfold distance in refl);
        cost_is = none_yet cost (λ b. unfold cost in refl);
      };
    };
    lowest = le_refl above;
    limited = record {
      placed = pow_pos (label_bits (vector_at m q clip numbers));
      asked = subst (λ (k : ℕ). LimitsAsked k q (replicate limits_size above)) (sym (rows_count m q numbers))
          (all_same m q above h.vector.streams h.vector.bits);
      own = λ found. absurd (omega arith);
      exact = λ found. absurd (omega arith);
    };
    opposed = none_chosen m q (limits_of untaken) 0;
    room = wide;
  }

  -- What the walk from the root has kept at the end
  module _ (allowance : ℕ) {count : ℕ} {stopped : Bool} {t : Taken}
      (e : kept_of count stopped t ≡ below (vector_at m q clip numbers) allowance m 0 0 (fresh most_bits)) where
    -- has low minima
    pub end_low : MinimaLow t.zeros t.ones
    end_low = record {
      zeros_low = λ i. (minima_low (vector_at m q clip numbers) allowance m 0 0 most_bits e i).0;
      ones_low = λ i. (minima_low (vector_at m q clip numbers) allowance m 0 0 most_bits e i).1;
    }

    -- and is the model's answer, where `empty` is what an empty side gives
    pub end_answered : (weak : ℕ) {empty : ℕ} → empty ≡ empty_side stopped weak clip → (before after : List ℤ) → length before ≡ most_bits
        → after ≡ filled (value_of (vector_at m q clip numbers) empty (taken_of 0 0 t.zeros t.ones)) (m * q) before
        → m ≤ allowance → (k : Held) → k.best ≡ t.best → k.label ≡ t.label → BestParts (vector_at m q clip numbers) k
        → Answered (vector_at m q clip numbers) weak allowance stopped count t.label k.distance before after
    end_answered weak {empty} chosen before after room f most k eb el kept = record {
      stopped_is = ap (λ (x : Answer). x.stopped) same;
      count_is = ap (λ (x : Answer). x.count) same;
      label_is = ap (λ (x : Answer). x.result.label) same;
      distance_is = kept.distance_is found ∙ ap (λ (l : ℕ). distance_of v (bits_of (label_bits v) l)) (el ∙ ap (λ (x : Answer). x.result.label) same);
      soft_is = f ∙ values ∙ ap₂ (λ (e n : ℕ). filled (value_of v e t) n before) chosen bits ∙ front;
    }
      where
        v : Vector
        v = vector_at m q clip numbers

        bits : m * q ≡ label_bits v
        bits = bits_are m q clip numbers

        wide : label_bits v ≤ most_bits
        wide = omega (arith, h.vector.label, bits)

        from : kept_of count stopped t ≡ below v allowance (length v.rows) 0 0 (fresh most_bits)
        from = e ∙ ap (λ (l : ℕ). below v allowance l 0 0 (fresh most_bits)) (sym (rows_count m q numbers))

        -- There is a best label
        found : k.best < above
        found =
            rw eb (best_found v (ranged _ _ _ _ h) allowance most_bits wide (rw (rows_count m q numbers) most) from)

        value : ℕ → ℤ
        value = value_of v (empty_side stopped weak clip) t

        same : answer_of stopped count t.label (map value (places v)) ≡ answer v weak allowance
        same = answered v (ranged _ _ _ _ h) weak allowance most_bits wide from

        front : filled value (label_bits v) before ≡ (answer v weak allowance).result.soft ++ drop (label_bits v) before
        front = soft_is v (ranged _ _ _ _ h) weak allowance most_bits wide from before (omega (arith, wide, room))

        values : filled (value_of v empty (taken_of 0 0 t.zeros t.ones)) (m * q) before ≡ filled (value_of v empty t) (m * q) before
        values = filled_same _ _ (m * q) before (λ i k. value_same v empty (taken_of 0 0 t.zeros t.ones) t refl refl i)
