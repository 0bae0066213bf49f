-- The head, and behind it all answers.
use Rattle.std.proofs.Common.{◌≡◌, ◌+◌, ◌∙◌, sym, ap, arith, rules, length}
use Rattle.wire.specs.Writing.{put}
use Rattle.wire.proofs.Runs.{writes_then, writes_same}
use Rattle.block.specs.Contents.{block_of}
use Rattle.replies.specs.Reply.{reply_of}
use Rattle.detector.proofs.Held.{streams_are, width_are, vectors_are, few_streams, few_bits, few_vectors, room_is}
use Rattle.detector.proofs.Writing.{all_ready, all_taken, reply_is}
use Rattle.detector.proofs.answer_all.Goals as goal

pub write_head-requires : goal.write_head-requires
write_head-requires c =
    let p = c.requires in
    let w = c.new-writer.ensures in (
      omega (arith, p.buffer, room_is p.headed, w.start, ap length w.bytes),
      omega (arith, few_streams p.held p.headed),
      omega (arith, few_bits p.held p.headed),
      omega (arith, few_vectors p.held p.headed),
    )

pub for_each_answer-requires-clause-ready : goal.for_each_answer-requires-clause-ready
for_each_answer-requires-clause-ready c =
    let p = c.requires in
    let w = c.new-writer.ensures in
    let head = c.write_head.ensures in
    let e = room_is p.headed in
    all_ready (block_of c.args.h.layout c.args.numbers.now) p.held.ranged c.write_head.new.reply
    (rw (sym (streams_are p.headed), sym (width_are p.headed), sym (vectors_are p.headed)) (omega (arith, p.buffer, e, head.0, head.1.size, w.start, ap length w.bytes)))

pub returns : goal.returns
returns c =
    let p = c.requires in
    let w = c.new-writer.ensures in
    let b = block_of c.args.h.layout c.args.numbers.now in
    let done = writes_same (sym (reply_is p.headed)) (writes_then c.write_head.ensures.1 (all_taken b p.held.ranged _ _ c.for_each_answer.ensures)) in
    let same = done.same_buffer ∙ w.same_buffer in
    let e : c.for_each_answer.new.sink.buffer.now ≡ put c.args.reply.now 0 (reply_of b) = rw (w.bytes, w.start) at done.wrote.leaves in
    let n : c.for_each_answer.new.sink.at ≡ 0 + length (reply_of b) = rw w.start at done.wrote.ends in
    record { ends = n; leaves = search rules }
