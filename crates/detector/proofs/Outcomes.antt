-- What a call comes to, case by case.
use Prim.Native.Nat.{ℕ, ◌≤◌, ◌<◌}
use mathlib.Core.Path.{◌≡◌, ap}
use mathlib.Core.List.{List}
use borrow.Author.Tests.{lt-ltb, le-ltb}
use lib.IntN.{ℤ}
use lib.ListN.{length}
use Rattle.model.specs.Block.{Block}
use Rattle.block.specs.Reading.{layout_of, read_whole, Got, got, into, most_numbers}
use Rattle.block.specs.Contents.{block_of}
use Rattle.refusals.specs.declared.Refusal.{Refusal}
use Rattle.refusals.specs.declared.Refusal.TheVariants.{Buffer}
use Rattle.std.specs.Prelude.{Ok, Err}
use Rattle.replies.specs.Reply.{reply_of, reply_room}
use Rattle.refusals.specs.Filling.{refused, filled}
use Rattle.detector.specs.Outcome.{by_room, outcome}
use Rattle.block.proofs.Lent.{lent_block}

module _ (room : ℕ) (b : Block) where
  -- A buffer that is too short, and one that is not
  pub room_short : room < reply_room b → by_room room b ≡ refused Buffer
  unfolding by_room
  room_short h = rw (lt-ltb _ _ h)

  pub room_enough : reply_room b ≤ room → by_room room b ≡ filled (reply_of b)
  unfolding by_room
  room_enough h = rw (le-ltb _ _ h)

module _ (bytes : List ℕ) (room : ℕ) (list list' : List ℤ) where
  -- A record that was read into the lent list, and one that was refused
  pub when_ended : (at : ℕ) → length list ≡ most_numbers → got (Ok at) list' ≡ into 0 (read_whole bytes) list
      → outcome bytes room ≡ by_room room (block_of (layout_of bytes) list')
  unfolding outcome
  when_ended at size e = rw (← ap (λ (g : Got). g.read) e, lent_block bytes at list list' size e)

  pub when_refused : (r : Refusal) → got (Err r) list' ≡ into 0 (read_whole bytes) list → outcome bytes room ≡ refused r
  unfolding outcome
  when_refused r e = rw (← ap (λ (g : Got). g.read) e)
