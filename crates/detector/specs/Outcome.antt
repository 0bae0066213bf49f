-- What a call comes to, from the record's bytes and the buffer's length alone. What it returns and leaves in the buffer is that of any call
-- that fills lent memory: "The call returns the reply's length, or minus the refusal number"; "Every refusal leaves the whole reply buffer
-- untouched".
use Rattle.std.specs.Prelude.{ℕ, cond, List, ltb, ℤ, Ok, Err}
use Rattle.model.specs.Block.{Block}
use Rattle.block.specs.Reading.{layout_of, read_whole, Read}
use Rattle.block.specs.declared.Layout.{Layout}
use Rattle.block.specs.Contents.{block_of}
use Rattle.refusals.specs.Filling.{Filling, refused, filled}
use Rattle.refusals.specs.declared.Refusal.TheVariants.{Buffer}
use Rattle.replies.specs.Reply.{reply_of, reply_room}

-- Of a record that is read: a buffer "shorter than 7 + N × (9 + 4 × M × Q)" is refused
unfoldable pub by_room : ℕ → Block → Filling ℕ
by_room room b = cond (ltb room (reply_room b)) (refused Buffer) (filled (reply_of b))

abbrev pub by_reading : ℕ → Layout → List ℤ → Read → Filling ℕ
by_reading room layout numbers (Ok at) = by_room room (block_of layout numbers)
by_reading room layout numbers (Err r) = refused r

-- Of any bytes, with a buffer of `room` bytes
unfoldable pub outcome : List ℕ → ℕ → Filling ℕ
outcome bytes room = by_reading room (layout_of bytes) (read_whole bytes).numbers (read_whole bytes).read
