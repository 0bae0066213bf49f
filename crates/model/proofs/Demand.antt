-- Demands 2 and 3 hold of the answers, and only of them: a complete vector's walk is whole, so pruning-exact and the laws of `pick` and
-- the least metrics over all labels apply; the allowance leaves each vector M nodes or more.
use Prim.Native.Nat.{ℕ, zero, suc, ◌+◌, ◌*◌, ◌≤◌, ◌<◌, min}
use mathlib.Core.Path.{◌≡◌, refl, sym, ◌∙◌, ap, ap₂, subst}
use mathlib.Core.Bool.{Bool, true, false}
use mathlib.Core.Logic.{inl, inr}
use mathlib.Core.List.Nodup
use mathlib.Core.List.{List, [], ◌∷◌, map, Nodup}
use native.Mathlib.Nat.{mul-le-mul_left}
use native.Mathlib.Omega.{arith}
use borrow.Author.Tests.{ltb-true, ltb-false, lt-ltb}
use lib.ListN.{length, take, drop, get_or, length-take, take-append-drop, replicate, length-replicate}
use lib.Seq.{take_all}
use lib.IntN.{pos}
use Rattle.model.specs.Constellation.{Bits, number, symbols}
use Rattle.model.specs.Metric.{Row, Vector, metric_of, cost_of, label_bits, bit_at, prior_at}
use Rattle.model.specs.Soft.{Least, infinite, finite, least_with, pick, soft_value, soft_at, places, report}
use Rattle.model.specs.Walk.{walk, leaves}
use Rattle.model.specs.Block.{Block, vector_of, Answer, walked_nodes, walked_labels, is_stopped, empty_side, answer, total, allowance, answers_from, answers, total_count, ◌∈◌, Every, Shaped}
use Rattle.model.specs.Demand.{First, LeastMetric, SoftValue, Demand2, LeastOver, Demand2Over, Result, ResultsFrom, Demand3}
use Rattle.model.proofs.Lists.{in_symbols, symbols_length, length-up_from, get_or-places}
use Rattle.model.proofs.Ranks.{order_head}
use Rattle.model.proofs.Least.{AtMost, Lex, pick_in, pick_least, least_le, least_in, Attained}
use Rattle.model.proofs.Tree.{walk_once}
use Rattle.model.proofs.Complete.{leaves_of, exact, pruning_exact}
use Rattle.model.proofs.Lead.{walk_at_least, some_leaf}
use Rattle.model.proofs.Search.{search_answers}

at_replicate : (x : Bool) (n i : ℕ) → i < n → bit_at i (replicate n x) ≡ x
at_replicate x zero i h = absurd (omega arith)
at_replicate x (suc n) zero h = refl
at_replicate x (suc n) (suc i) h = at_replicate x n i (omega arith)

module _ (v : Vector) where
  all : List Bits
  all = symbols (label_bits v)

  in_all : (l : Bits) → length l ≡ label_bits v → l ∈ all
  unfolding all
  in_all l e = in_symbols (label_bits v) l e

  whole_label : (l : Bits) → l ∈ all → length l ≡ label_bits v
  unfolding all
  whole_label l h = symbols_length (label_bits v) l h

  -- Over all labels each side of a bit has a label
  side : (i : ℕ) (x : Bool) → i < label_bits v → (a : ℕ) × (least_with v i x all ≡ finite a) × LeastMetric v i x a
  side i x h = go (least_with v i x all) refl (least_le v i x all (replicate (label_bits v) x) (in_all _ (length-replicate (label_bits v) x)) (at_replicate x (label_bits v) i h))
    where
      go : (u : Least) → least_with v i x all ≡ u → AtMost u (metric_of v (replicate (label_bits v) x)) → (a : ℕ) × (least_with v i x all ≡ finite a) × LeastMetric v i x a
      go infinite e k = absurd k
      go (finite a) e k =
          let t : Attained v i x all a = least_in v i x all a e in (
            a,
            e,
            record {
              label = t.label;
              whole = whole_label t.label t.member;
              bit = t.bit;
              value = t.value;
              least = λ l w b. subst (λ (u : Least). AtMost u (metric_of v l)) e (least_le v i x all l (in_all l w) b);
            },
          )

  -- A label that is at or before others is the first of them
  first_of : {among : Bits → Type 0} {m : Bits} → ((l : Bits) → among l → Lex v m l) → First v among m
  first_of {among} {m} before = record {
    least = λ l h. order_head (before l h);
    cheapest = λ l h e. second l e (before l h);
    smallest = λ l h e f. third l e f (before l h);
  }
    where
      second : (l : Bits) → metric_of v l ≡ metric_of v m → Lex v m l → cost_of v m ≤ cost_of v l
      second l e (inl h) = absurd (omega arith)
      second l e (inr h) = order_head h.1

      third : (l : Bits) → metric_of v l ≡ metric_of v m → cost_of v l ≡ cost_of v m → Lex v m l → number m ≤ number l
      third l e f (inl h) = absurd (omega arith)
      third l e f (inr (h, inl k)) = absurd (omega arith)
      third l e f (inr (h, inr k)) = order_head k.1

  -- Demand 2 over all labels
  over_all : Demand2 v (report v v.clip all)
  over_all = record {
    label = m;
    whole = whole_label m (pick_in v all (in_all (replicate (label_bits v) false) (length-replicate (label_bits v) false)));
    shown = refl;
    first = first_of (λ l w. pick_least v all (in_all l w));
    many = length-up_from (soft_at v v.clip all) 0 (label_bits v);
    soft = λ i h. value i h (side i true h) (side i false h);
  }
    where
      m : Bits
      m = pick v all

      value : (i : ℕ) → i < label_bits v → (a : ℕ) × (least_with v i true all ≡ finite a) × LeastMetric v i true a
          → (a : ℕ) × (least_with v i false all ≡ finite a) × LeastMetric v i false a → SoftValue v i (get_or (map (soft_at v v.clip all) (places v)) i (pos 0))
      value i h s t = record {
        one = s.0;
        zero = t.0;
        with1 = s.2;
        with0 = t.2;
        value = get_or-places (soft_at v v.clip all) (pos 0) (label_bits v) i h ∙ ap₂ (soft_value v.clip v.clip (prior_at v i)) s.1 t.1;
      }

  -- A list's least metric with a bit is one, or there is none
  least_over : (i : ℕ) (x : Bool) (ls : List Bits) → LeastOver v ls i x (least_with v i x ls)
  least_over i x ls = go (least_with v i x ls) refl
    where
      go : (u : Least) → least_with v i x ls ≡ u → LeastOver v ls i x u
      go infinite e = λ l h b. subst (λ (u : Least). AtMost u (metric_of v l)) e (least_le v i x ls l h b)
      go (finite a) e =
          let t : Attained v i x ls a = least_in v i x ls a e in
          (t.label, t.member, t.bit, t.value, λ k h b. subst (λ (u : Least). AtMost u (metric_of v k)) e (least_le v i x ls k h b))

  -- Label and soft values over any labels, of which there is one, are demand 2's with these in place of all labels
  pub report_over : (empty : ℕ) (ls : List Bits) → (x : Bits) × (x ∈ ls) → Demand2Over v empty ls (report v empty ls)
  report_over empty ls some = record {
    label = pick v ls;
    member = pick_in v ls some.1;
    shown = refl;
    first = first_of (λ l h. pick_least v ls h);
    many = length-up_from (soft_at v empty ls) 0 (label_bits v);
    soft = λ i h. record {
      one = least_with v i true ls;
      zero = least_with v i false ls;
      with1 = least_over i true ls;
      with0 = least_over i false ls;
      value = get_or-places (soft_at v empty ls) (pos 0) (label_bits v) i h;
    };
  }

  -- A vector marked complete walked its whole walk
  complete : (n : ℕ) → is_stopped v n ≡ false → walked_nodes v n ≡ walk v
  complete n e = take_all n (walk v) (ltb-false n (length (walk v)) e)

  -- and reports over it with C, whatever W is
  whole_report : (weak n : ℕ) → (answer v weak n).stopped ≡ false → (answer v weak n).result ≡ report v v.clip (leaves v (walk v))
  unfolding answer
  whole_report weak n e = ap₂ (λ (t : Bool) (w : List Bits). report v (empty_side t weak v.clip) (leaves v w)) e (complete n e)

  -- A count is the smaller of the allowance and the walk's length
  pub count_is : (weak n : ℕ) → (answer v weak n).count ≡ min n (length (walk v))
  unfolding answer
  count_is weak n = length-take n (walk v)

module _ (v : Vector) (q : 0 < v.width) (some-row : 0 < length v.rows) where
  -- Demand 2, of a vector marked complete
  pub demand2 : (weak n : ℕ) → (answer v weak n).stopped ≡ false → Demand2 v (answer v weak n).result
  demand2 weak n e =
      subst (Demand2 v)
      (exact v q some-row (all v) (λ l h. in_all v l (leaves_of v (walk v) l h).1) (whole_label v) ∙ sym (whole_report v weak n e))
      (over_all v)

  result : (b : Block) (spent after n : ℕ) → n + (spent + after * b.streams) ≡ total b → length v.rows ≡ b.streams → b.streams ≤ n → Result b spent after n v (answer v b.weak n)
  unfolding answer
  result b spent after n allowed e h = record {
    allowed = allowed;
    stopped = (λ t. ltb-true n (length (walk v)) t, λ k. lt-ltb n (length (walk v)) k);
    count = omega (arith, count_is v b.weak n);
    least = omega (arith, count_is v b.weak n, walk_at_least v q);
    tally = search_answers v q n b.weak;
    once = Nodup.of_append_left (drop n (walk v)) (subst Nodup (sym (take-append-drop n (walk v))) (walk_once v q));
    some = some_leaf v q some-row n (omega arith);
    walked = refl;
    over = report_over v (empty_side (is_stopped v n) b.weak v.clip) (walked_labels v n) (some_leaf v q some-row n (omega arith));
    pruned = λ c s x. pruning_exact v q some-row s x ∙ sym (whole_report v b.weak n c);
    exact = demand2 b.weak n;
  }

module _ (b : Block) (stream : 1 ≤ b.streams) (bit : 1 ≤ b.width) where
  -- Each vector in record order, as long as M nodes are left for each
  results_from : (vs : List (List Row)) → Every (λ (rows : List Row). length rows ≡ b.streams) vs → (spent : ℕ) → spent + length vs * b.streams ≤ total b
      → ResultsFrom b spent vs (answers_from b spent vs)
  unfolding answers_from
  results_from [] shape spent h = tt
  results_from (rows ∷ later) shape spent h =
      let n : ℕ = allowance b spent (length later) in
      let e : length rows ≡ b.streams = shape.0 in
      let a : Answer = answer (vector_of b rows) b.weak n in
      let c : a.count ≡ min n (length (walk (vector_of b rows))) = count_is (vector_of b rows) b.weak n in (
        (n, result (vector_of b rows) bit (omega arith) b spent (length later) n (omega arith) e (omega arith)),
        results_from later shape.1 (spent + a.count) (omega arith),
      )

  sum_from : (vs : List (List Row)) (spent : ℕ) → spent + length vs * b.streams ≤ total b → spent + total_count (answers_from b spent vs) ≤ total b
  unfolding total_count answers_from
  sum_from [] spent h = omega arith
  sum_from (rows ∷ later) spent h =
      let a : Answer = answer (vector_of b rows) b.weak (allowance b spent (length later)) in
      let c : a.count ≡ min (allowance b spent (length later)) (length (walk (vector_of b rows))) = count_is (vector_of b rows) b.weak _ in
      omega (arith, sum_from later (spent + a.count) (omega arith))

-- Demand 3 holds of a block's answers
pub demand3 : (b : Block) → Shaped b → Demand3 b (answers b)
demand3 b s = record {
  sum = omega (arith, sum_from b s.stream s.bit b.vectors 0 room);
  each = results_from b s.stream s.bit b.vectors s.rows 0 room;
}
  where
    room : 0 + length b.vectors * b.streams ≤ total b
    room = omega (arith, mul-le-mul_left (length b.vectors) s.reserve)

-- What demand 3 finds of a vector is its answer
result_is : (b : Block) (spent after n : ℕ) (v : Vector) (a : Answer) → Result b spent after n v a → a ≡ answer v b.weak n
unfolding answer
result_is b spent after n v a r =
    λ j. record { stopped = same_mark j; count = same_count j; result = (r.walked ∙ same_report) j }
  where
    same_count : a.count ≡ length (take n (walk v))
    same_count = omega (arith, r.count, length-take n (walk v))

    mark : (t : Bool) → is_stopped v n ≡ t → (x : Bool) → a.stopped ≡ x → a.stopped ≡ is_stopped v n
    mark true e x f = r.stopped.1 (ltb-true n (length (walk v)) e) ∙ sym e
    mark false e true f = absurd (omega (arith, r.stopped.0 f, ltb-false n (length (walk v)) e))
    mark false e false f = f ∙ sym e

    same_mark : a.stopped ≡ is_stopped v n
    same_mark = mark (is_stopped v n) refl a.stopped refl

    same_report : report v (empty_side a.stopped b.weak v.clip) (walked_labels v n) ≡ report v (empty_side (is_stopped v n) b.weak v.clip) (walked_labels v n)
    same_report = ap (λ (t : Bool). report v (empty_side t b.weak v.clip) (walked_labels v n)) same_mark

results_are : (b : Block) (vs : List (List Row)) (spent : ℕ) (found : List Answer) → ResultsFrom b spent vs found → found ≡ answers_from b spent vs
unfolding answers_from
results_are b [] spent [] r = refl
results_are b [] spent (a ∷ rest) r = absurd r
results_are b (rows ∷ later) spent [] r = absurd r
results_are b (rows ∷ later) spent (a ∷ rest) r = ap₂ ◌∷◌ first (results_are b later (spent + a.count) rest r.1 ∙ ap (λ (c : Answer). answers_from b (spent + c.count) later) first)
  where
    n : ℕ
    n = r.0.0

    enough : n ≡ allowance b spent (length later)
    enough = omega (arith, r.0.1.allowed)

    first : a ≡ answer (vector_of b rows) b.weak (allowance b spent (length later))
    first = result_is b spent (length later) n (vector_of b rows) a r.0.1 ∙ ap (answer (vector_of b rows) b.weak) enough

-- Answers that meet demand 3 are the answers
pub demand3_unique : (b : Block) (found : List Answer) → Demand3 b found → found ≡ answers b
demand3_unique b found d = results_are b b.vectors 0 found d.each
