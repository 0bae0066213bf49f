-- The opening is written, and behind it number by number what is called for.
use Rattle.std.proofs.Common.{ℕ, ◌≡◌, ◌∙◌, ap, ap₂, ◌+◌, ◌≤◌, List, length, get_or, ℤ, pos, arith, rules, SFits, w32, to_z, of_z, to_z-of_z}
use Rattle.refusals.specs.declared.Kind.{Kind}
use Rattle.block.specs.declared.Layout.{Layout}
use Rattle.block.specs.Conditions.{called_for}
use Rattle.block.proofs.Openings.{four}
use Rattle.block.proofs.Parts.{allowed_length}
use Rattle.wire.specs.Writing.{put}
use Rattle.wire.proofs.Runs.{left_more, left_none, writes_then}
use Rattle.records.specs.Writing.{plain_of, record_of}
use Rattle.records.specs.Steps.{kind_at}
use Rattle.records.proofs.Places.{all_asked, all_written}
use Rattle.records.proofs.Checking.{bytes_from, record_length, bytes_more, bytes_none}
use Rattle.records.proofs.Writing.{fine_allowed, number_room}
use Rattle.records.proofs.write_all.Goals as goal

pub opening-requires-2 : goal.opening-requires-2
opening-requires-2 c =
    let w = c.new-writer.ensures in
    omega (arith, w.start, ap length w.bytes, c.requires.buffer, record_length c.args.layout c.args.numbers.now)

pub kind_at-requires : goal.kind_at-requires
kind_at-requires c =
    all_asked c.args.layout _ (fine_allowed _ _ c.requires.fine_is) _ c.loop-i-test.true

-- The number that is written
number_is : (layout : Layout) (list : List ℤ) (i : ℕ) (k : Kind) (n : ℕ) → SFits w32 (get_or list i (pos 0)) → k ≡ kind_at layout list i
    → n ≡ plain_of k (to_z w32 (of_z w32 (get_or list i (pos 0)))) → n ≡ plain_of (kind_at layout list i) (get_or list i (pos 0))
number_is layout list i k n f e h = h ∙ ap₂ plain_of e (to_z-of_z {w = w32} f)

pub number-requires : goal.number-requires
number-requires c =
    let o = c.args.layout in
    let list = c.args.numbers.now in
    let i = c.loop-i.i in
    let f : SFits w32 (get_or list i (pos 0)) = search rules in
    let n = number_is o list i _ _ f c.kind_at.ensures c.plain.ensures in
    let passed = fine_allowed _ _ c.requires.fine_is in
    let a = all_asked o _ passed _ c.loop-i-test.true in
    let room : c.opening-2.new.self.at + length (bytes_from o list 0) ≤ length c.opening-2.new.self.buffer.now = omega (
      arith,
      c.opening-2.ensures.wrote.ends,
      c.opening-2.ensures.size,
      c.new-writer.ensures.start,
      ap length c.new-writer.ensures.bytes,
      ap length c.opening.ensures,
      four o,
      c.requires.buffer,
      record_length o list,
    ) in
    rw n ((all_written o list passed i a.inside).small, number_room o list i a.called a.inside c.loop-i.invariant room)

pub loop-i-preserved : goal.loop-i-preserved
loop-i-preserved c =
    let o = c.args.layout in
    let list = c.args.numbers.now in
    let i = c.loop-i.i in
    let f : SFits w32 (get_or list i (pos 0)) = search rules in
    let n = number_is o list i _ _ f c.kind_at.ensures c.plain.ensures in
    let a = all_asked o _ (fine_allowed _ _ c.requires.fine_is) _ c.loop-i-test.true in
    left_more c.loop-i.invariant (bytes_more o list i a.called a.inside) (rw n at c.number.ensures)

pub returns : goal.returns
unfolding record_of
returns c =
    let o = c.args.layout in
    let list = c.args.numbers.now in
    let w = c.new-writer.ensures in
    let many = allowed_length (called_for o list) list (fine_allowed _ _ c.requires.fine_is) in
    let done = writes_then (rw c.opening.ensures at c.opening-2.ensures) (left_none c.loop-i.invariant (bytes_none o list c.loop-i.i (omega arith))) in
    let same = done.same_buffer ∙ w.same_buffer in
    let e : c.loop-i.writer.buffer.now ≡ put c.args.record.now 0 (record_of o list) = rw (w.bytes, w.start) at done.wrote.leaves in
    search rules
