-- A node's children: by the entries of their stream all of them would be cut, or their keys are filled in.
use Prim.Native.Nat.{ℕ, ◌+◌, ◌-◌, ◌*◌, ◌≤◌, ◌<◌}
use mathlib.Core.Path.{◌≡◌, refl, sym, ◌∙◌}
use mathlib.Core.Bool.{Bool, true, false, not, ◌&&◌, ◌||◌}
use mathlib.Core.Logic.{⊎_elim}
use mathlib.Core.List.{List}
use native.Mathlib.Nat.{mod-lt}
use native.Mathlib.Omega.{arith}
use lib.Dec.{eqb}
use lib.IntN.{ℤ}
use lib.ListN.{length, take, drop, replicate, length-drop}
use lib.Pow.{pow_pos}
use lib.Seq.{length-take-le}
use Rattle.model.proofs.Lists.{or_right, and_cases}
use Rattle.metric.specs.Parts.{span}
use Rattle.metric.specs.Rows.{Measured}
use Rattle.axes.specs.Tables.{axis_place, table_part, parts_in, Tabled}
use Rattle.axes.specs.Tables.Axis.{real, imaginary}
use Rattle.axes.proofs.Bridge.{measured_by}
use Rattle.metric.proofs.Filled.{zeros_small}
use Rattle.metric.proofs.Remainders.{remains_small}
use Rattle.bounding.specs.Cut.{OpensAsked}
use Rattle.bounding.specs.Axes.{priced_by}
use Rattle.bounding.specs.Answers.{some_child_may_pass, some_child_may_pass_by_parts}
use Rattle.bounding.proofs.Answers.{opens_shut}
use Rattle.bounding.proofs.Parts.{parts_cut}
use Rattle.limits.specs.Reach.{entry_place, entries_of, symbol_of}
use Rattle.enumeration.specs.Rows.{key_count}
use Rattle.enumeration.proofs.Filling.{placed}
use Rattle.hypotheses.specs.Limits.{SearchAsked, Asked}
use Rattle.tree.specs.declared.Task.{Task}
use Rattle.expansion.specs.Expand.{base_of, OpenAsked, may_pass_at, Shut, NodeIn, left_of, Remains, keys_for, ExpandAsked, Filled, Expanded, Told}
use Rattle.tree.specs.declared.Node.{Node}
use Rattle.expansion.proofs.Nodes.{room_for, partial_few, row_inside}

-- The entries of stream j are lent as a part of the limits
pub entries_are : (limits : List ℕ) (j : ℕ) → let at = entry_place j real in take (at + 2 * span - at) (drop at limits) ≡ entries_of limits j
entries_are limits j = let at = entry_place j real in let e : at + 2 * span - at ≡ 2 * span = omega arith in rw e

-- The test of a node's children, from what it works out first and the two tests: `asks` is whether the parts are asked
pub opens_at : (m q : ℕ) (numbers tables : List ℤ) (n : Node) (label best : ℕ) (re im : ℤ) (limits : List ℕ) {base own : ℕ} {entries : List ℕ}
    {by_distances asks by_parts : Bool}
    → base ≡ base_of best limits n.chosen n.level → entries ≡ entries_of limits (n.level - 1) → own ≡ symbol_of m q label (n.level - 1)
    → by_distances ≡ some_child_may_pass m q (n.level - 1) re im n.partial base numbers entries own
    → asks ≡ (eqb (n.level - 1) 0 && priced_by q tables (n.level - 1))
    → by_parts
    ≡ some_child_may_pass_by_parts q n.partial base (table_part tables (axis_place (n.level - 1) real) re)
    (table_part tables (axis_place (n.level - 1) imaginary) im) entries own
    → (by_distances && (not asks || by_parts)) ≡ may_pass_at m q numbers tables n label best re im limits
unfolding may_pass_at
opens_at m q numbers tables n label best re im limits eb ee eo ed ea ep = rw (ed, ea, ep, eb, ee, eo) refl

-- A node of a vector that a search may be asked for
module _ {t : Task} {numbers : List ℤ} {n : Node} {best : ℕ} {re im : ℤ} {limits : List ℕ}
    (asked : Asked t numbers) (a : OpenAsked t numbers n best re im limits) (label : ℕ) where
  abbrev row : ℕ
  row = n.level - 1

  -- The test by distances may be asked
  pub opens_asked : {entries : List ℕ} → entries ≡ entries_of limits row → {own : ℕ} → own ≡ symbol_of t.streams t.width label row
      → OpensAsked t.streams t.width row re im n.partial numbers entries own
  opens_asked ee eo =
      let inside = row_inside asked a.node a.inner in
      rw (ee, eo) (record {
        vector = asked.vector;
        inside = inside;
        low_re = a.left.low_re;
        low_im = a.left.low_im;
        low = omega (arith, partial_few asked a.node);
        stream =
            length-take-le (2 * span) (drop (entry_place row real) limits)
            (omega (arith, length-drop (entry_place row real) limits, a.limited.size, asked.vector.streams, inside));
        widest = a.limited.widest row inside;
        symbol = mod-lt _ (pow_pos t.width);
      })

  -- Where the test of its children is false all would be cut
  pub shut : {tables : List ℤ} → Tabled t.streams t.width numbers tables
      → may_pass_at t.streams t.width numbers tables n label best re im limits ≡ false → Shut t.streams t.width numbers n label best limits
  unfolding may_pass_at
  shut {tables} tabled e =
      let entries = entries_of limits row in
      let base = base_of best limits n.chosen n.level in
      let opens = opens_asked refl refl in
      ⊎_elim (λ f. opens_shut opens _ f n.bits a.left.is)
      (λ f. parts_cut opens tabled _ (or_right (not (eqb row 0 && priced_by t.width tables row)) _ f) n.bits a.left.is)
      (and_cases (some_child_may_pass t.streams t.width row re im n.partial base numbers entries (symbol_of t.streams t.width label row)) _ e)

-- The keys of a node's children are filled in by the vector's table
module _ {m q clip : ℕ} {numbers : List ℤ} (asked : SearchAsked m q clip numbers) {n : Node} (w : NodeIn m q clip numbers n) (inner : 0 < n.level)
    {tables : List ℤ} (tabled : Tabled m q numbers tables) where
  -- from what remains of y,
  pub measured : {re im : ℤ} → Remains m q numbers n re im
      → Measured m q numbers (n.level - 1) n.bits (parts_in q tables (n.level - 1) re im (replicate (2 * span) 0))
  measured r =
      measured_by asked.vector (n.level - 1) (row_inside asked w inner) n.bits _ r.is tabled r.low_re r.low_im (replicate (2 * span) 0) refl
      (zeros_small (2 * span)) _ refl

  remains : let left = left_of m q numbers n in Remains m q numbers n left.re left.im
  remains =
      let small = remains_small asked.vector (n.level - 1) n.bits (row_inside asked w inner) in
      record { is = refl; low_re = omega (arith, small.re); low_im = omega (arith, small.im) }

  -- and they are theirs
  pub filled_in : (old : List ℕ) {new : List ℕ} → n.level * key_count q ≤ length old → new ≡ keys_for m q numbers tables n old
      → Filled m q numbers n new
  unfolding keys_for
  filled_in old room e =
      let p = placed (room_for n.level q inner (length old) room) e in
      record { each = λ s h. p.each s h ∙ sym ((measured remains).child n.partial s h); rows = p.rows }

-- What a node's children are told to be, they are
module _ {t : Task} {numbers : List ℤ} {n : Node} {best : ℕ} {limits old : List ℕ}
    (asked : Asked t numbers) (a : ExpandAsked t numbers n best limits old) (label : ℕ) {tables : List ℤ}
    (tabled : Tabled t.streams t.width numbers tables) where
  pub expanded : (new : List ℕ) (r : Bool) → Told t.streams t.width numbers tables n label best limits old new r
      → Expanded t.streams t.width numbers n label best limits new r
  expanded new false told =
      let left = left_of t.streams t.width numbers n in
      let open_asked : OpenAsked t numbers n best left.re left.im limits =
      record { node = a.node; inner = a.inner; limited = a.limited; lowest = a.lowest; left = remains asked a.node a.inner tabled } in
      shut asked open_asked label tabled (sym told.answer)
  expanded new true told = filled_in asked a.node a.inner tabled old a.room told.keys
