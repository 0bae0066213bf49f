-- What was before the run, the run, and what was behind it.
use Rattle.std.proofs.Common.{ℕ, refl, sym, ap, ◌∙◌, ◌+◌, ◌≡◌, ◌≤◌, List, ◌++◌, length, take, drop, drop-drop, append_assoc, arith}
use Rattle.wire.specs.Writing.{put}
use Rattle.wire.proofs.Writing.{put_is, put_length}
use Rattle.wire.proofs.buffer.Writer.bytes.Goals as goal

-- A run copied over k bytes is put there
copied : (l : List ℕ) (at : ℕ) (bs part : List ℕ) (k : ℕ) → part ≡ bs → k ≡ length bs → at + length bs ≤ length l
    → take at l ++ (part ++ drop k (drop at l)) ≡ put l at bs
copied l at bs part k e n h = rw (e, n, drop-drop, ← append_assoc) (sym (put_is l at bs h))

pub returns : goal.returns
returns c =
    let w = c.args.self.now in
    let bs = c.args.bytes.now in
    let leaves = copied w.buffer.now w.at bs _ _ c.copy_from_slice.ensures.after (omega arith) c.requires in
    record { same_buffer = refl; size = ap length leaves ∙ put_length w.buffer.now w.at bs; wrote = record { ends = refl; leaves = leaves } }
