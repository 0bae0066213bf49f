-- A writer's runs of bytes: one after the other, and what of a run is left to write.
use Rattle.std.proofs.Common.{ℕ, ◌+◌, ◌≡◌, refl, sym, ◌∙◌, ap, List, [], ◌∷◌, ◌++◌, length, arith, length-append}
use lib.ListN.{set}
use Rattle.wire.specs.Writing.{put, Wrote}
use Rattle.wire.specs.Writer.{Writes}
use Rattle.wire.specs.declared.buffer.Writer.{Writer}
use Rattle.wire.proofs.Writing.{put_length, put_nil, put_cons, put_append}

-- A buffer keeps its length
pub wrote_length : {l : List ℕ} {at : ℕ} {bs after : List ℕ} {next : ℕ} → Wrote l at bs after next → length after ≡ length l
wrote_length {l} {at} {bs} w = ap length w.leaves ∙ put_length l at bs

-- One part is written and then another
pub wrote_both : {l : List ℕ} {at : ℕ} {all bs cs mid end : List ℕ} {next last : ℕ} → all ≡ bs ++ cs → Wrote l at bs mid next
    → Wrote mid next cs end last → Wrote l at all end last
wrote_both {l} {at} {all} {bs} {cs} e w u = record {
  ends = omega (arith, w.ends, u.ends, ap length e, length-append bs cs);
  leaves = u.leaves ∙ rw (w.leaves, w.ends, e, put_append bs cs l at);
}

-- One byte
pub wrote_byte : (l : List ℕ) (at b : ℕ) → Wrote l at (b ∷ []) (set l at b) (at + 1)
wrote_byte l at b = record { ends = refl; leaves = sym (put_cons l at b [] ∙ put_nil (set l at b) (at + 1)) }

module _ {w : Writer} where
  -- No byte
  pub writes_none : Writes w [] w
  writes_none = record { same_buffer = refl; size = refl; wrote = record { ends = omega arith; leaves = sym (put_nil w.buffer.now w.at) } }

  -- Some bytes and then others
  pub writes_then : {bs cs : List ℕ} {v u : Writer} → Writes w bs v → Writes v cs u → Writes w (bs ++ cs) u
  writes_then h k = record {
    same_buffer = k.same_buffer ∙ h.same_buffer;
    size = k.size ∙ h.size;
    wrote = wrote_both refl h.wrote k.wrote;
  }

  -- The same bytes
  pub writes_same : {bs cs : List ℕ} {v : Writer} → bs ≡ cs → Writes w bs v → Writes w cs v
  writes_same e h = rw (← e) h

-- What is left to write: all of it, put at the first writer's place, is the rest put at the present one's
pub record Left (w : Writer) (all : List ℕ) (v : Writer) (rest : List ℕ) : Type 0 where
  pub same_buffer : v.buffer.ghost_name ≡ w.buffer.ghost_name
  pub size : length v.buffer.now ≡ length w.buffer.now
  pub ends : w.at + length all ≡ v.at + length rest
  pub leaves : put w.buffer.now w.at all ≡ put v.buffer.now v.at rest

pub left_all : {w : Writer} {all : List ℕ} → Left w all w all
left_all = record { same_buffer = refl; size = refl; ends = refl; leaves = refl }

module _ {w : Writer} {all : List ℕ} {v : Writer} {todo : List ℕ} (left : Left w all v todo) where
  -- Some of it is written
  pub left_more : {bs rest : List ℕ} {u : Writer} → todo ≡ bs ++ rest → Writes v bs u → Left w all u rest
  left_more {bs} {rest} e h = record {
    same_buffer = h.same_buffer ∙ left.same_buffer;
    size = h.size ∙ left.size;
    ends = omega (arith, left.ends, h.wrote.ends, ap length e, length-append bs rest);
    leaves = left.leaves ∙ rw (e, put_append bs rest v.buffer.now v.at, h.wrote.leaves, h.wrote.ends);
  }

  -- Nothing is left
  pub left_none : todo ≡ [] → Writes w all v
  left_none e = record {
    same_buffer = left.same_buffer;
    size = left.size;
    wrote = record { ends = omega (arith, left.ends, ap length e); leaves = sym (left.leaves ∙ rw (e, put_nil v.buffer.now v.at)) };
  }
