-- The keys of the levels below stand behind a node's own: what is put there changes nothing of the node's, and is what is lent there next.
use Prim.Native.Nat.{ℕ, suc, ◌-◌, ◌*◌, ◌^◌, ◌≤◌, ◌<◌}
use mathlib.Core.Path.{◌≡◌, sym, ◌∙◌, ap, ap₂, subst}
use mathlib.Core.List.{List, ◌++◌}
use native.Mathlib.Nat.{suc-mul}
use native.Mathlib.Omega.{arith}
use borrow.Rule.Slice.PartMut.{put_mid, post_of, same_len_mid}
use lib.ListN.{length, take, drop}
use lib.Seq.{length-take-le, take-append_seam, drop-append_seam}
use Rattle.search_spec.proofs.Arrays.{same_part, part_length}
use Rattle.enumeration.specs.Rows.{key_count, Took}
use Rattle.enumeration.proofs.Rows.{row_least_front}
use Rattle.search_spec.specs.Arrays.{least_first}
use Rattle.axes.specs.Tables.{Tabled}
use Rattle.hypotheses.specs.Limits.{Asked}
use Rattle.expansion.specs.Expand.{ExpandAsked, Told, Expanded}
use Rattle.expansion.proofs.Nodes.{room_for}
use Rattle.expansion.proofs.Kids.{expanded}
use Rattle.turn.specs.Turn.{behind, next_of, AdvanceAsked, Counts}
use Rattle.turn.specs.Limits.{passes_at}
use Rattle.tree.specs.declared.Task.{Task}
use Rattle.tree.specs.declared.Node.{Node}
use Rattle.tree.specs.declared.Kept.{Kept}
use mathlib.Core.Bool.{Bool, true}
use lib.IntN.{ℤ}

-- Behind a node's keys there is room for those of the levels below
pub room_below : (level q : ℕ) → 0 < level → (keys : List ℕ) → level * key_count q ≤ length keys
    → (level - 1) * key_count q ≤ length (take (length keys - key_count q) (drop (key_count q) keys))
room_below level q some keys h =
    let up : level ≡ suc (level - 1) = omega arith in
    omega (arith, ap (λ (l : ℕ). l * key_count q) up, suc-mul (level - 1) (key_count q), part_length (key_count q) keys)

-- `lower` is put behind the keys
abbrev pub with_lower : ℕ → List ℕ → List ℕ → List ℕ
with_lower q keys lower = put_mid (key_count q) (length keys - key_count q) keys lower

module _ (q : ℕ) (keys lower : List ℕ) (wide : key_count q ≤ length keys) (many : length lower ≡ length (behind q keys)) where
  lower_length : length (with_lower q keys lower) ≡ length keys
  lower_length = same_len_mid (key_count q) (length keys - key_count q) keys lower many

  lower_behind : behind q (with_lower q keys lower) ≡ lower
  lower_behind =
      ap₂ take (ap (λ (x : ℕ). x - key_count q) lower_length ∙ sym (many ∙ part_length (key_count q) keys))
      (subst (λ (x : ℕ). drop x (with_lower q keys lower) ≡ lower ++ post_of (key_count q) (length keys - key_count q) keys) (length-take-le (key_count q) keys wide)
      (drop-append_seam (take (key_count q) keys) (lower ++ post_of (key_count q) (length keys - key_count q) keys)))
      ∙ take-append_seam lower (post_of (key_count q) (length keys - key_count q) keys)

  -- A child that was taken stays taken
  lower_took : {old : List ℕ} {symbol : ℕ} → Took q old keys symbol → Took q old (with_lower q keys lower) symbol
  lower_took t = record {
    size = lower_length ∙ t.size;
    first = t.first;
    each = λ s h. sym ((same_part (2 ^ q) (key_count q) keys _ (omega arith) wide).keys s h) ∙ t.each s h;
    rows = row_least_front q keys _ t.rows;
  }

-- The next child is counted, it is no leaf, and its own children are looked at: their keys stand behind the node's
module _ {t : Task} {numbers tables : List ℤ} {n : Node} {k : Kept} {limits old taken : List ℕ}
    (asked : Asked t numbers) (tabled : Tabled t.streams t.width numbers tables) (a : AdvanceAsked t numbers n k limits old)
    (took : Took t.width old taken (least_first old (2 ^ t.width))) where
  abbrev child : Node
  child = next_of t.streams t.width n k.label limits old

  pub looked : {lower : List ℕ} {r : Bool} → passes_at k.best limits child.chosen child.partial child.level ≡ true → k.count < t.allowance → (0 < child.level)
      → Told t.streams t.width numbers tables child k.label k.best limits (behind t.width taken) lower r
      → length lower ≡ length (behind t.width taken)
      → let new = with_lower t.width taken lower in
      Counts t numbers n k limits old new × (0 < child.level)
      × Expanded t.streams t.width numbers child k.label k.best limits (behind t.width new) r
  looked {lower} {r} passes more inner told many =
      let room : n.level * key_count t.width ≤ length taken = omega (arith, a.room, took.size) in
      let wide = room_for n.level t.width a.next.inner (length taken) room in
      let asks : ExpandAsked t numbers child k.best limits (behind t.width taken) =
      record {
        node = a.child;
        inner = inner;
        limited = a.limited;
        lowest = a.lowest;
        room = room_below n.level t.width a.next.inner taken room;
      } in (
        record { took = lower_took t.width taken lower wide many took; passes = passes; more = more },
        inner,
        rw (lower_behind t.width taken lower wide many) (expanded asked asks k.label tabled lower r told),
      )
