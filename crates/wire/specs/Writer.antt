-- What a writer does: it puts bytes into its buffer from its place on.
use Rattle.std.specs.Prelude.{ℕ, ◌≡◌, List, length}
use Rattle.wire.specs.Writing.{Wrote}
use Rattle.wire.specs.declared.buffer.Writer.{Writer}

-- The writer put the bytes bs and ended where the next ones go; it has the same buffer still, which keeps its length
pub record Writes (w : Writer) (bs : List ℕ) (v : Writer) : Type 0 where
  pub same_buffer : v.buffer.ghost_name ≡ w.buffer.ghost_name
  pub size : length v.buffer.now ≡ length w.buffer.now
  pub wrote : Wrote w.buffer.now w.at bs v.buffer.now v.at
