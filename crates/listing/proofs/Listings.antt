-- What is listed of a record that was read, and of one that was refused.
use Prim.Native.Nat.{ℕ, ◌≤◌}
use mathlib.Core.Path.{◌≡◌, sym, ◌∙◌, ap}
use mathlib.Core.List.{List, ◌++◌}
use native.Mathlib.Omega.{arith}
use lib.IntN.{ℤ}
use lib.ListN.{length, drop, length-append}
use lib.Seq.{length-take-le}
use Rattle.io.specs.Counts.{IsPrefixLen}
use Rattle.wire.specs.Writing.{Wrote}
use Rattle.wire.proofs.Writing.{put_start}
use Rattle.refusals.specs.Table.{refusal_number}
use Rattle.refusals.specs.declared.Refusal.{Refusal}
use Rattle.block.specs.Reading.{layout_of, read_whole, Got, got, into, most_numbers}
use Rattle.block.specs.Contents.{block_of}
use Rattle.std.specs.Prelude.{Ok, Err}
use Rattle.block.proofs.Lent.{lent_block}
use Rattle.lines.specs.Text.{line_end, refused_word, field, block_text, refused_line, listing_of}

-- All of a text that was written from the start on
pub whole : {text bs all after : List ℕ} {r : ℕ} → all ≡ bs → r ≤ length text → Wrote text 0 bs after r
    → (r ≡ length all) × ((after ≡ all ++ drop r text) × IsPrefixLen r after)
whole {text} {bs} {all} {after} {r} e fits w =
    let size : r ≡ length bs = omega (arith, w.ends) in
    let is : after ≡ bs ++ drop r text = w.leaves ∙ rw size (put_start text bs (omega arith)) in
    let inside : r ≤ length after = omega (arith, ap length is, length-append bs (drop r text)) in
    rw e (size, (is, (inside, sym (length-take-le r after inside))))

module _ (bytes : List ℕ) (list list' : List ℤ) where
  -- Of a record that was read into the lent list
  module _ (at : ℕ) (size : length list ≡ most_numbers) (e : got (Ok at) list' ≡ into 0 (read_whole bytes) list) where
    pub listed_block : listing_of bytes ≡ block_text (block_of (layout_of bytes) list')
    unfolding listing_of
    listed_block = rw (← ap (λ (g : Got). g.read) e, lent_block bytes at list list' size e)

  -- Of one that was refused by a number
  pub listed_refused : (r : Refusal) → got (Err r) list' ≡ into 0 (read_whole bytes) list → {n : ℕ} → n ≡ refusal_number r
      → listing_of bytes ≡ field refused_word n ++ line_end
  unfolding listing_of refused_line
  listed_refused r e same = rw (← ap (λ (g : Got). g.read) e, same)
