-- The first line, the vectors' lines and the last one, of what the lent list says.
use Rattle.std.proofs.Common.{◌≡◌, ◌+◌, ◌∙◌, ap, length, arith, rules}
use Rattle.wire.specs.Writing.{put}
use Rattle.wire.specs.Writer.{Writes}
use Rattle.wire.proofs.Runs.{writes_then, writes_same}
use Rattle.block.specs.Contents.{block_of}
use Rattle.lines.specs.Text.{block_text}
use Rattle.detector.proofs.Held.{few_streams, few_bits, few_vectors}
use Rattle.listing.proofs.Lines.{block_parts}
use Rattle.listing.proofs.write_block.Goals as goal

pub overflow_cast-m : goal.overflow_cast-m
overflow_cast-m c =
    let h = c.header_of-h.ensures in omega (arith, few_streams (rw h.0 c.requires.held) h.1)

pub overflow_cast-q : goal.overflow_cast-q
overflow_cast-q c =
    let h = c.header_of-h.ensures in omega (arith, few_bits (rw h.0 c.requires.held) h.1)

pub overflow_cast-n : goal.overflow_cast-n
overflow_cast-n c =
    let h = c.header_of-h.ensures in omega (arith, few_vectors (rw h.0 c.requires.held) h.1)

pub write_vectors-total-requires : goal.write_vectors-total-requires
write_vectors-total-requires c =
    let h = c.header_of-h.ensures in
    let head = c.write_head.ensures in
    let w = c.new-writer.ensures in
    record {
      asked = record { held = rw h.0 c.requires.held; headed = h.1 };
      buffer = omega (arith, head.0, head.1.size, w.start, ap length w.bytes, c.requires.buffer);
    }

pub write_last-requires : goal.write_last-requires
write_last-requires c =
    let head = c.write_head.ensures in
    let w = c.new-writer.ensures in
    let vectors = c.write_vectors-total.ensures in
    omega (arith, vectors.room, vectors.lines.size, head.0, head.1.size, w.start, ap length w.bytes, c.requires.buffer)

pub returns : goal.returns
returns c =
    let h = c.header_of-h.ensures in
    let list = c.args.numbers.now in
    let head = c.write_head.ensures in
    let w = c.new-writer.ensures in
    let vectors = c.write_vectors-total.ensures in
    let last = c.write_last.ensures in
    let parts = block_parts c.header_of-h.result.layout list h.1.streams_is h.1.width_is h.1.vectors_is h.1.clip_is h.1.share_is vectors.total_is in
    let done : Writes c.new-writer.result (block_text (block_of c.args.layout list)) c.write_last.new.text =
    rw h.0 at (writes_same parts (writes_then (writes_then head.1 vectors.lines) last.1)) in
    let same = done.same_buffer ∙ w.same_buffer in
    let e : c.write_last.new.text.buffer.now ≡ put c.args.text.now 0 (block_text (block_of c.args.layout list)) = rw (w.bytes, w.start) at done.wrote.leaves in
    let n : c.write_last.new.text.at ≡ 0 + length (block_text (block_of c.args.layout list)) = rw w.start at done.wrote.ends in
    (omega (arith, last.0, vectors.room, head.0, w.start), record { ends = n; leaves = search rules })
