-- The minima, the best label and the limits are those of the state with the leaf noted.
use mathlib.Core.Path.{◌≡◌, refl, sym, ap, ◌∙◌, subst}
use mathlib.Core.Bool.{Bool, false, cond}
use mathlib.Core.List.{List, [], ◌∷◌}
use Prim.Native.Nat.{ℕ, ◌≤◌, ◌<◌, ◌*◌, ◌^◌}
use native.Mathlib.Omega.{arith}
use lib.Bits.{bit_xor, xor_lt}
use lib.IntN.{ℤ}
use lib.ListN.{length}
use Rattle.model.specs.Block.{most_bits}
use Rattle.model.specs.Metric.{Vector, label_bits}
use Rattle.model.specs.Order.{earlier}
use Rattle.model.proofs.Ranks.{order_head, earlier_true, earlier_false}
use Rattle.block.proofs.Places.{rows_count}
use Rattle.limits.specs.Reach.{limit_in, StandsFor, Reaches, reaches_in}
use Rattle.limits.proofs.Streams.{reaches}
use Rattle.search_spec.proofs.Agree.{sooner_kept}
use Rattle.search_spec.specs.Parts.{BestParts}
use Rattle.search_spec.specs.Program.{above, taken_in, limits_of, kept_of, sooner, cost_at}
use Rattle.tree.specs.declared.Task.{Task}
use Rattle.tree.specs.declared.Node.{Node}
use Rattle.tree.specs.declared.Kept.{Kept}
use Rattle.hypotheses.specs.Limits.{vector_for, Asked, limit_at, minima_size, NarrowedTo, LowBeside, OwnLow, Limited, Renewed}
use Rattle.hypotheses.proofs.Limits.{reached_limited}
use Rattle.hypotheses.proofs.Leaves.{sides_noted, leaf_noted}
use Rattle.hypotheses.proofs.Own.{own_new, own_kept, low_beside}
use Rattle.hypotheses.proofs.Renewed.{lent_limits, lent_is, lent_whole, limits_after_lem, renewed, narrowed_whole, narrowed_right, narrowed_stands, after_best, after_other}
use Rattle.hypotheses.proofs.Values.{bits_are}
use Rattle.hypotheses.proofs.take.Goals as goal

-- What is asked before the call
record Begin (task : Task) (leaf : Node) (kept : Kept) (numbers : List ℤ) (minima : List ℕ) : Type 0 where
  asked : Asked task numbers
  below : leaf.partial < above
  whole : length minima ≡ minima_size
  small : leaf.bits < 2 ^ (task.streams * task.width)
  limited : Limited (vector_for task numbers) (taken_in kept.label kept.best minima) (limits_of minima)
  cost : leaf.cost ≡ cost_at (vector_for task numbers) leaf.bits
  best : BestParts (vector_for task numbers) kept

module _ {task : Task} {leaf : Node} {kept : Kept} {numbers : List ℤ} {minima : List ℕ} (b : Begin task leaf kept numbers minima) where
  abbrev v : Vector
  v = vector_for task numbers

  -- M rows, and M times Q bits in a label
  abbrev n : ℕ
  n = task.streams * task.width

  rows : task.streams ≡ length v.rows
  rows = sym (rows_count task.streams task.width numbers)

  bits : n ≡ label_bits v
  bits = bits_are task.streams task.width task.clip numbers

  few : n ≤ most_bits
  few = b.asked.vector.label

  -- The test is by the labels' own prior costs
  decided : {found yes : Bool} → found ≡ earlier (leaf.partial ∷ leaf.cost ∷ leaf.bits ∷ []) (kept.best ∷ kept.cost ∷ kept.label ∷ [])
      → found ≡ yes → sooner v leaf.partial leaf.bits kept.best kept.label ≡ yes
  decided e is = sym (sooner_kept v _ _ _ _ _ _ b.below b.cost b.best.cost_is) ∙ sym e ∙ is

  -- What is kept after the call, from what its steps say
  limited : {label best : ℕ} {mid after : List ℕ} → label < 2 ^ n → OwnLow v (taken_in label best mid) → Renewed v label best mid after
      → Limited v (taken_in label best after) (limits_of after)
  limited {label} placed own r =
      reached_limited b.asked.vector.bits (subst (λ (n : ℕ). label < 2 ^ n) bits placed) (subst (OwnLow v) (sym r.kept) own) r.reached

  -- The leaf does not come before the best label: so there is one, its own sides are low, and the limits are right
  module _ (later : sooner v leaf.partial leaf.bits kept.best kept.label ≡ false) where
    lowest : kept.best ≤ leaf.partial
    lowest = order_head (earlier_false _ _ refl later)

    there : kept.best < above
    there = omega (arith, lowest, b.below)

    placed : kept.label < 2 ^ n
    placed = subst (λ (n : ℕ). kept.label < 2 ^ n) (sym bits) b.limited.placed

    reached : Reaches task.width (limit_at v (taken_in kept.label kept.best minima)) (limits_of minima) task.streams
    reached = subst (Reaches task.width (limit_at v (taken_in kept.label kept.best minima)) (limits_of minima)) (sym rows) (b.limited.exact there)

    beside : LowBeside n leaf.bits (bit_xor leaf.bits kept.label) leaf.partial minima
    beside = low_beside v n bits few kept.label kept.best leaf.bits leaf.partial minima (b.limited.own there) lowest

    -- Minima and limits are narrowed
    module _ {mid : List ℕ} (narrowed : NarrowedTo n leaf.bits (bit_xor leaf.bits kept.label) leaf.partial n minima mid) where
      mid_whole : length mid ≡ minima_size
      mid_whole = narrowed_whole v task.streams rows few kept.label kept.best leaf.bits leaf.partial minima mid b.whole reached narrowed

      stands : StandsFor task.streams task.width (bit_xor leaf.bits kept.label) (lent_limits mid)
      stands = narrowed_stands v task.streams rows few kept.label kept.best leaf.bits leaf.partial minima mid b.whole reached narrowed

      right : (i : ℕ) → i < n → limit_in (limits_of mid) i ≡ limit_at v (taken_in kept.label kept.best mid) i
      right = narrowed_right v task.streams rows few kept.label kept.best leaf.bits leaf.partial minima mid b.whole reached narrowed

      own_then : OwnLow v (taken_in kept.label kept.best mid)
      own_then = own_kept few b.whole narrowed.sides v bits kept.label kept.best (b.limited.own there)

pub narrow-requires : goal.narrow-requires
narrow-requires c =
    let a = c.args in
    let h = c.requires in
    let b : Begin a.task a.leaf a.kept a.numbers.now a.minima.now = record { asked = h.0; below = h.1; whole = omega arith; small = h.2; limited = h.3; cost = h.4; best = h.5 } in
    let later = decided b c.comes_sooner.ensures c.if-not-comes_sooner.true in
    let n = c.bits-n.ensures.0 in (
      c.bits-n.ensures.1,
      rw n (xor_lt _ a.leaf.bits a.kept.label h.2 (placed b later)),
      rw n (beside b later),
    )

pub fill-requires : goal.fill-requires
fill-requires c =
    let a = c.args in
    let h = c.requires in
    let b : Begin a.task a.leaf a.kept a.numbers.now a.minima.now = record { asked = h.0; below = h.1; whole = omega arith; small = h.2; limited = h.3; cost = h.4; best = h.5 } in
    let p = h.0.vector in
    let later = decided b c.comes_sooner.ensures c.if-not-comes_sooner.true in
    let narrowed = rw c.bits-n.ensures.0 at c.narrow.ensures in
    (p.streams, p.bits, p.label, lent_whole c.narrow.new.minima (mid_whole b later narrowed), stands b later narrowed)

pub returns-then-not-comes_sooner : goal.returns-then-not-comes_sooner
returns-then-not-comes_sooner c =
    let a = c.args in
    let h = c.requires in
    let b : Begin a.task a.leaf a.kept a.numbers.now a.minima.now = record { asked = h.0; below = h.1; whole = omega arith; small = h.2; limited = h.3; cost = h.4; best = h.5 } in
    let m = a.task.streams in
    let p = h.0.vector in
    let u = v b in
    let mid = c.narrow.new.minima in
    let later = decided b c.comes_sooner.ensures c.if-not-comes_sooner.true in
    let narrowed = rw c.bits-n.ensures.0 at c.narrow.ensures in
    let whole = mid_whole b later narrowed in
    let limits = right b later narrowed in
    let gives = reaches (lent_limits mid) p.streams p.bits p.label (lent_whole mid whole) c.fill.ensures in
    let r = renewed u m (rows b) a.kept.label a.kept.best mid whole limits _ gives in
    let label = ap (λ (b : Bool). cond b a.leaf.bits a.kept.label) (sym later) in (
      ap (kept_of a.kept.count a.kept.stopped)
          (leaf_noted a.kept.label a.kept.best (bits b) narrowed.sides label (omega (arith, lowest b later)) r),
      limits_after_lem u m (rows b) a.kept.label a.kept.best mid whole limits _ gives ∙ c.fill.ensures
          ∙ ap (λ (l : List ℕ). reaches_in a.task.width l m) (lent_is mid whole ∙ narrowed.limits)
          ∙ after_other u m a.leaf.bits a.leaf.partial (taken_in a.kept.label a.kept.best a.minima.now) (limits_of a.minima.now) later,
      limited b (placed b later) (own_then b later narrowed) r,
      r.size ∙ whole,
      record {
        distance_is = ap (λ (b : Bool). cond b a.leaf.distance a.kept.distance) (sym later);
        cost_is = ap (λ (b : Bool). cond b a.leaf.cost a.kept.cost) (sym later);
      },
    )

-- It does: it is the best label, and all limits are renewed
pub returns : goal.returns
returns c =
    let a = c.args in
    let h = c.requires in
    let b : Begin a.task a.leaf a.kept a.numbers.now a.minima.now = record { asked = h.0; below = h.1; whole = omega arith; small = h.2; limited = h.3; cost = h.4; best = h.5 } in
    let u = v b in
    let first = decided b c.comes_sooner.ensures c.if-not-comes_sooner.false in
    let noted = rw c.bits-n.ensures.0 at c.note.ensures.0 in
    let label = ap (λ (b : Bool). cond b a.leaf.bits a.kept.label) (sym first) in
    let low : a.leaf.partial ≤ a.kept.best = order_head (earlier_true _ _ first) in (
      ap (kept_of a.kept.count a.kept.stopped)
          (leaf_noted a.kept.label a.kept.best (bits b) noted label (omega (arith, low)) c.renew_limits.ensures.0),
      c.renew_limits.ensures.1
          ∙ after_best u a.task.streams a.leaf.bits a.leaf.partial (taken_in a.kept.label a.kept.best a.minima.now)
          (limits_of a.minima.now) first _ _
          (sides_noted u _ _ a.kept.label a.kept.best (bits b) noted label (omega (arith, low))) c.note.ensures.1,
      limited b h.2 (own_new (few b) b.whole noted u (bits b)) c.renew_limits.ensures.0,
      c.renew_limits.ensures.0.size ∙ noted.size ∙ b.whole,
      record {
        distance_is = ap (λ (b : Bool). cond b a.leaf.distance a.kept.distance) (sym first);
        cost_is = ap (λ (b : Bool). cond b a.leaf.cost a.kept.cost) (sym first);
      },
    )
