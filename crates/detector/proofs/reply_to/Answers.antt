-- The header gives the room that is checked, and a reply fits it.
use mathlib.Core.Path.{◌≡◌, refl, ap, ◌∙◌}
use native.Mathlib.Nat.{le_trans}
use native.Mathlib.Omega.{arith}
use lib.ListN.{length}
use Rattle.std.proofs.Common.{Ok}
use Rattle.block.specs.Contents.{block_of}
use Rattle.wire.proofs.Writing.{put_start}
use Rattle.search.specs.Holds.{Holds}
use Rattle.replies.specs.Reply.{reply_of, reply_room}
use Rattle.replies.proofs.Replies.{reply_room_lem}
use Rattle.detector.proofs.Held.{few_streams, few_bits, few_vectors, room_is, room_small}
use Rattle.detector.proofs.Outcomes.{room_short, room_enough}
use Rattle.detector.proofs.reply_to.Goals as goal

pub room-requires : goal.room-requires
room-requires c =
    let h = c.header_of-h.ensures in
    let held : Holds c.header_of-h.result.layout c.args.numbers.now = rw h.0 c.requires in
    (few_streams held h.1, few_bits held h.1, few_vectors held h.1)

-- The room that was worked out is the definition's
pub returns-then-reply-room : goal.returns-then-reply-room
returns-then-reply-room c =
    let h = c.header_of-h.ensures in
    let asked : c.room.result ≡ reply_room (block_of c.args.layout c.args.numbers.now) = omega (arith, c.room.ensures, rw h.0 at (room_is h.1)) in
    rw (room_short _ _ (rw asked at c.if-reply-room.true)) (refl, refl)

pub answer_all-requires : goal.answer_all-requires
answer_all-requires c =
    let h = c.header_of-h.ensures in
    record { held = rw h.0 c.requires; headed = h.1; buffer = rw h.0 (omega (arith, c.room.ensures, rw h.0 at (room_is h.1), c.if-reply-room.false)) }

pub returns : goal.returns
returns c =
    let h = c.header_of-h.ensures in
    let b = block_of c.args.layout c.args.numbers.now in
    let wrote = rw h.0 at c.answer_all.ensures in
    let asked : c.room.result ≡ reply_room b = omega (arith, c.room.ensures, rw h.0 at (room_is h.1)) in
    let enough = rw asked at c.if-reply-room.false in
    let fits = le_trans (reply_room_lem b c.requires.ranged) enough in
    let size : c.answer_all.result ≡ length (reply_of b) = omega (arith, wrote.ends) in
    rw (room_enough _ b enough) (ap Ok size, wrote.leaves ∙ put_start _ _ fits)
