-- Any record, accepted or not, is one reading of the kinds that its own first numbers call for, and no other numbers are such a reading. An
-- accepted one has all of them, each in the range of its kind.
use Prim.Native.Nat.{ℕ, ◌+◌, ◌≤◌}
use mathlib.Core.Path.{◌≡◌, refl, sym, ◌∙◌, ap, subst}
use mathlib.Core.Bool.{Bool, true, false, cond}
use mathlib.Core.List.{List, [], append-nil}
use native.Mathlib.Omega.{arith}
use lib.ListN.{length, take}
use lib.Seq.{get_or-take}
use lib.IntN.{ℤ, pos}
use Rattle.block.specs.Reading.{opening, Parse, numbers_at, kinds_of, runs_of, starts_with, layout_of, limit_stage, vector_stage, stages, stages_at, read_record, Read}
use Rattle.block.specs.Contents.{record_kinds}
use Rattle.block.specs.Conditions.{called_for}
use Rattle.refusals.specs.declared.Kind.{Kind}
use Rattle.block.specs.declared.Layout.{Layout}
use Rattle.std.specs.Prelude.{Ok, Err}
use Rattle.refusals.specs.declared.Refusal.TheVariants.{Opening}
use Rattle.block.proofs.Parts.{AllAllowed, all_allowed}
use Rattle.block.proofs.Stages.{ended_count, stages_read, stages_only, called_whole, called_whole_lem}

module _ (bytes : List ℕ) (opens : starts_with (opening (layout_of bytes)) bytes ≡ true) where
  opened : read_record bytes ≡ stages_at (stages (layout_of bytes)) [] bytes 4
  unfolding read_record
  opened = rw opens

  -- A record's numbers, all or those before a refusal, are a reading of what they call for
  pub called_reads : read_record bytes ≡ numbers_at (called_for (layout_of bytes) (read_record bytes).numbers) bytes 4
  called_reads =
      opened ∙ stages_read (stages (layout_of bytes)) [] bytes 4
      ∙ ap (λ (p : Parse). numbers_at (called_for (layout_of bytes) p.numbers) bytes 4) (sym opened)

  -- and no others are
  pub called_only : (zs : List ℤ) (r : Read) → numbers_at (called_for (layout_of bytes) zs) bytes 4 ≡ record { numbers = zs; read = r }
      → read_record bytes ≡ record { numbers = zs; read = r }
  called_only zs r e = opened ∙ stages_only (stages (layout_of bytes)) [] zs bytes 4 r e

-- The vectors are told by the numbers in front
told_vectors : (o : Layout) (n : ℕ) (zs : List ℤ) → 3 ≤ n → vector_stage o (take n zs) ≡ vector_stage o zs
told_vectors o n zs h = rw (get_or-take n zs 0 (pos 0) (omega arith), get_or-take n zs 1 (pos 0) (omega arith), get_or-take n zs 2 (pos 0) (omega arith))

-- All stages of a record
pub whole_kinds : (o : Layout) (zs : List ℤ) → called_whole (stages o) 0 zs ≡ record_kinds o zs
unfolding called_whole record_kinds kinds_of runs_of
whole_kinds o zs =
    let behind = 4 + length (limit_stage o (take 4 zs)) in
    rw (told_vectors o behind zs (omega arith), get_or-take 4 zs 0 (pos 0) (omega arith), get_or-take 4 zs 3 (pos 0) (omega arith), get_or-take 1 zs 0 (pos 0) (omega arith), append-nil (vector_stage o zs))

-- Numbers that are as many as they call for are a whole record's
called_kinds : (o : Layout) (zs : List ℤ) → length zs ≡ length (called_for o zs) → called_for o zs ≡ record_kinds o zs
called_kinds o zs e = called_whole_lem (stages o) 0 zs (omega arith) ∙ whole_kinds o zs

module _ (bytes : List ℕ) (at : ℕ) (e : (read_record bytes).read ≡ Ok at) where
  -- An accepted record has its opening
  pub accepted_opens : starts_with (opening (layout_of bytes)) bytes ≡ true
  unfolding read_record
  accepted_opens = go (starts_with (opening (layout_of bytes)) bytes) e
    where
      go : (b : Bool) → (cond b (stages_at (stages (layout_of bytes)) [] bytes 4) (record { numbers = []; read = Err Opening })).read ≡ Ok at
          → b ≡ true
      go true f = refl
      go false f = cc

  -- It is one reading of what its numbers call for, behind the opening
  pub accepted_called : let numbers = (read_record bytes).numbers in
      numbers_at (called_for (layout_of bytes) numbers) bytes 4 ≡ record { numbers = numbers; read = Ok at }
  accepted_called = sym (called_reads bytes accepted_opens) ∙ λ j. record { numbers = (read_record bytes).numbers; read = e j }

  -- They are all that they call for
  pub accepted_all : let numbers = (read_record bytes).numbers in length numbers ≡ length (called_for (layout_of bytes) numbers)
  accepted_all =
      ap (λ (p : Parse). length p.numbers) (sym accepted_called)
      ∙ ended_count (called_for (layout_of bytes) (read_record bytes).numbers) bytes 4 at (ap (λ (p : Parse). p.read) accepted_called)

  -- So it ends where the kinds of its numbers do
  accepted_kinds : let numbers = (read_record bytes).numbers in
      numbers_at (record_kinds (layout_of bytes) numbers) bytes 4 ≡ record { numbers = numbers; read = Ok at }
  accepted_kinds =
      ap (λ (ks : List Kind). numbers_at ks bytes 4) (sym (called_kinds (layout_of bytes) (read_record bytes).numbers accepted_all)) ∙ accepted_called

  pub accepted_ends : (numbers_at (record_kinds (layout_of bytes) (read_record bytes).numbers) bytes 4).read ≡ Ok at
  accepted_ends = ap (λ (p : Parse). p.read) accepted_kinds

  -- Each of its numbers is in the range of its kind
  pub accepted_allowed : AllAllowed (record_kinds (layout_of bytes) (read_record bytes).numbers) (read_record bytes).numbers
  accepted_allowed =
      let kinds = record_kinds (layout_of bytes) (read_record bytes).numbers in
      subst (λ (p : Parse). AllAllowed kinds p.numbers) accepted_kinds (all_allowed kinds bytes 4 at accepted_ends)
