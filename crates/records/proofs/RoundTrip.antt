-- Document 02, Point 2: "The reader on a written record returns the very numbers, and each accepted record is the one that the writer makes
-- from what was read", told the record's own opening. Number by number: what is written of one is read as that one, and what is read as
-- one is what writing it makes.
use Prim.Native.Nat.{ℕ, ◌+◌, ◌≤◌}
use mathlib.Core.Path.{◌≡◌, refl, sym, ◌∙◌, ap, ap₂, subst}
use mathlib.Core.Bool.{Bool, true, false, cond, ◌&&◌, true≢false}
use mathlib.Core.List.{List, [], ◌∷◌, ◌++◌, append_assoc, append-nil}
use native.Mathlib.Omega.{arith}
use borrow.Author.Tests.{eqb-true, eq-eqb, le-ltb}
use lib.Dec.{ltb, eqb}
use lib.ListN.{length, drop, length-append}
use lib.Seq.{drop-drop, drop-append_seam, drop_at, drop-length}
use lib.IntN.{ℤ, pos, nat_abs}
use Rattle.wire.specs.Reading.{Bytes}
use Rattle.wire.specs.Writing.{bytes_of}
use Rattle.wire.specs.Folding.{folded, unfolded}
use Rattle.wire.proofs.RoundTrip.{folded_unfolded, read_at, read_splits}
use Rattle.refusals.specs.Table.{allowed, is_folded}
use Rattle.block.specs.Reading.{opening, whole_of, Parse, numbers_at, starts_with, layout_of, read_record, at_end, read_whole, longest_record, Read}
use Rattle.block.specs.Conditions.{called_for}
use Rattle.refusals.specs.Filling.{filled}
use Rattle.refusals.specs.declared.Kind.{Kind}
use Rattle.block.specs.declared.Layout.{Layout}
use Rattle.block.specs.declared.Layout.TheVariants.{Base, Weakened, Owned}
use Rattle.refusals.specs.declared.Refusal.{Refusal}
use Rattle.refusals.specs.declared.Refusal.TheVariants.{Opening}
use Rattle.std.specs.Prelude.{Result, Ok, Err}
use Rattle.block.proofs.Reading.{numbers_taken, first_read}
use Rattle.refusals.proofs.Fillings.{not_both, fitted_enough, fitted_is}
use Rattle.block.proofs.Parts.{AllAllowed, all_allowed}
use Rattle.block.proofs.Flat.{called_only, accepted_opens, accepted_called}
use Rattle.block.proofs.Conditions.{ends_last}
use Rattle.block.proofs.Size.{accepted_size}
use Rattle.block.proofs.Openings.{four, layout_only}
use Rattle.records.specs.Writing.{Verdict, fine, turned, checked, plain_of, bytes_for, record_of, by_verdict, writing_in, opening_number, told_by, by_told, writing, numbers_read, reading}
use Rattle.records.proofs.Places.{AllWritten, each_written}
use Rattle.records.proofs.Checking.{record_length}
use Rattle.records.proofs.Writing.{fine_allowed, allowed_fine, write_enough}

-- Numbers that are written at a place are read there
read_bytes : (ks : List Kind) (zs : List ℤ) → AllAllowed ks zs → AllWritten ks zs → (l : List ℕ) (at : ℕ) (after : List ℕ)
    → drop at l ≡ bytes_for ks zs ++ after → numbers_at ks l at ≡ record { numbers = zs; read = Ok (at + length (bytes_for ks zs)) }
unfolding bytes_for numbers_at
read_bytes [] [] a g l at after e = let same : at + 0 ≡ at = omega arith in rw same
read_bytes [] (z ∷ zs) a g l at after e = absurd a
read_bytes (k ∷ ks) [] a g l at after e = absurd a
read_bytes (k ∷ ks) (z ∷ zs) a g l at after e =
    let n = plain_of k z in
    let rest = bytes_for ks zs in
    let w = g.0 in
    let splits : drop at l ≡ bytes_of n ++ (rest ++ after) = e ∙ append_assoc (bytes_of n) rest after in
    let next = at + length (bytes_of n) in
    let further : drop next l ≡ rest ++ after =
    sym (drop-drop (length (bytes_of n)) at l) ∙ ap (drop (length (bytes_of n))) splits ∙ drop-append_seam (bytes_of n) (rest ++ after) in
    numbers_taken k ks l at n next (read_at l at (rest ++ after) n w.small splits) (ap (allowed k) w.back ∙ a.0)
    ∙ ap (λ (p : Parse). record { numbers = whole_of k n ∷ p.numbers; read = p.read }) (read_bytes ks zs a.1 g.1 l next after further)
    ∙ ap₂ (λ (x : ℤ) (m : ℕ). record { numbers = x ∷ zs; read = Ok m }) w.back (omega (arith, length-append (bytes_of n) rest))

-- A plain number that was read is what its whole number is written as
plain_whole : (k : Kind) (n : ℕ) → plain_of k (whole_of k n) ≡ n
plain_whole k n = go (is_folded k)
  where
    go : (b : Bool) → cond b (folded (cond b (unfolded n) (pos n))) (nat_abs (cond b (unfolded n) (pos n))) ≡ n
    go true = folded_unfolded n
    go false = refl

-- Numbers that were read to their end are what is written there
bytes_read : (ks : List Kind) (l : List ℕ) (at end : ℕ) → Bytes l → (numbers_at ks l at).read ≡ Ok end
    → drop at l ≡ bytes_for ks (numbers_at ks l at).numbers ++ drop end l
unfolding bytes_for numbers_at
bytes_read [] l at end b e = let same : at ≡ end = cc in ap (λ (n : ℕ). drop n l) same
bytes_read (k ∷ ks) l at end b e =
    let f = first_read k ks l at end e in
    let rest = bytes_for ks (numbers_at ks l f.next).numbers in
    read_splits l at f.n f.next b f.value
    ∙ ap (λ (x : List ℕ). bytes_of f.n ++ x) (bytes_read ks l f.next end b f.others)
    ∙ sym (append_assoc (bytes_of f.n) rest (drop end l))
    ∙ ap (λ (n : ℕ). (bytes_of n ++ rest) ++ drop end l) (sym (plain_whole k f.n))
    ∙ ap (λ (zs : List ℤ). bytes_for (k ∷ ks) zs ++ drop end l) (sym f.are)

-- A list that begins with another
starts_splits : (p l : List ℕ) → starts_with p l ≡ true → l ≡ p ++ drop (length p) l
unfolding starts_with
starts_splits [] l e = refl
starts_splits (x ∷ p) [] e = absurd (true≢false (sym e))
starts_splits (x ∷ p) (y ∷ l) e = go (eqb x y) refl e (starts_splits p l)
  where
    go : (b : Bool) → eqb x y ≡ b → (b && starts_with p l) ≡ true → (starts_with p l ≡ true → l ≡ p ++ drop (length p) l)
        → y ∷ l ≡ x ∷ p ++ drop (length p) l
    go true f g ih = ap₂ ◌∷◌ (sym (eqb-true x y f)) (ih g)
    go false f g ih = absurd (true≢false (sym g))

-- and a list in front of another
starts_append : (p l : List ℕ) → starts_with p (p ++ l) ≡ true
unfolding starts_with
starts_append [] l = refl
starts_append (x ∷ p) l = rw (eq-eqb x x refl) (starts_append p l)

-- The record of a list in a layout has that layout
record_layout : (o : Layout) (numbers : List ℤ) → starts_with (opening o) (record_of o numbers) ≡ true
unfolding record_of
record_layout o numbers = starts_append (opening o) (bytes_for (called_for o numbers) numbers)

-- and its numbers' bytes behind the opening
record_behind : (o : Layout) (numbers : List ℤ) → drop 4 (record_of o numbers) ≡ bytes_for (called_for o numbers) numbers
unfolding record_of
record_behind o numbers = drop_at (opening o) (bytes_for (called_for o numbers) numbers) 4 (four o)

-- A list that passed is read from its record, to its end
record_read : (o : Layout) (numbers : List ℤ) → checked (called_for o numbers) numbers ≡ fine
    → ((read_whole (record_of o numbers)).numbers ≡ numbers) × ((read_whole (record_of o numbers)).read ≡ Ok (length (record_of o numbers)))
    × (layout_of (record_of o numbers) ≡ o)
unfolding read_whole
record_read o numbers e =
    let record_is = record_of o numbers in
    let bytes = bytes_for (called_for o numbers) numbers in
    let same = layout_only o record_is (record_layout o numbers) in
    let opens : starts_with (opening (layout_of record_is)) record_is ≡ true =
    ap (λ (x : Layout). starts_with (opening x) record_is) same ∙ record_layout o numbers in
    let a = fine_allowed (called_for o numbers) numbers e in
    let reads = read_bytes (called_for o numbers) numbers a (each_written o numbers a) record_is 4 [] (record_behind o numbers ∙ sym (append-nil bytes)) in
    let is = called_only record_is opens numbers _ (ap (λ (x : Layout). numbers_at (called_for x numbers) record_is 4) same ∙ reads) in
    let end : 4 + length bytes ≡ length record_is = sym (record_length o numbers) in
    let size = length record_is in
    let last : ltb size size ≡ false = le-ltb size size (omega arith) in (
      ap (λ (p : Parse). p.numbers) is,
      ap (λ (p : Parse). at_end size p.read) is ∙ rw (end, last),
      same,
    )

-- A record that is read to its end is that of its numbers in its layout, and they pass
read_record_lem : (bytes : List ℕ) (at : ℕ) → Bytes bytes → (read_whole bytes).read ≡ Ok at → let numbers = (read_whole bytes).numbers in
    (checked (called_for (layout_of bytes) numbers) numbers ≡ fine) × (record_of (layout_of bytes) numbers ≡ bytes)
unfolding read_whole record_of
read_record_lem bytes at b e =
    let o = layout_of bytes in
    let numbers = (read_record bytes).numbers in
    let last = ends_last bytes at e in
    let called = accepted_called bytes at last.0 in
    let ks = called_for o numbers in
    let read_is : (numbers_at ks bytes 4).read ≡ Ok at = ap (λ (p : Parse). p.read) called in
    let are : (numbers_at ks bytes 4).numbers ≡ numbers = ap (λ (p : Parse). p.numbers) called in
    let none : drop at bytes ≡ [] = ap (λ (n : ℕ). drop n bytes) last.1 ∙ drop-length bytes in
    let behind : drop 4 bytes ≡ bytes_for ks numbers =
    bytes_read ks bytes 4 at b read_is ∙ rw (are, none) (append-nil (bytes_for ks numbers)) in
    let front = rw (four o) at (starts_splits (opening o) bytes (accepted_opens bytes at last.0)) in (
      allowed_fine ks numbers (subst (λ (zs : List ℤ). AllAllowed ks zs) are (all_allowed ks bytes 4 at read_is)),
      sym (front ∙ ap (λ (x : List ℕ). opening o ++ x) behind),
    )

-- The number of an opening tells its layout, and no other number does
told_number : (o : Layout) → told_by (opening_number o) ≡ Ok o
told_number Base = refl
told_number Weakened = refl
told_number Owned = refl

told_only : (told : ℕ) (o : Layout) → told_by told ≡ Ok o → opening_number o ≡ told
told_only told o e = test Base _ (test Weakened _ (test Owned (Err Opening) (λ g. let z : ◌≡◌ {A = ℕ} 0 1 = cc in absurd (omega arith)))) e
  where
    -- A test for one opening, and what is told where it fails
    test : (x : Layout) (other : Result Layout Refusal) → (other ≡ Ok o → opening_number o ≡ told)
        → cond (eqb told (opening_number x)) (Ok x) other ≡ Ok o → opening_number o ≡ told
    test x other further = go (eqb told (opening_number x)) refl
      where
        go : (b : Bool) → eqb told (opening_number x) ≡ b → cond b (Ok x) other ≡ Ok o → opening_number o ≡ told
        go true f g = let same : x ≡ o = cc in ap opening_number (sym same) ∙ sym (eqb-true told (opening_number x) f)
        go false f g = further g

-- A list that is accepted is told a layout by its number and passed, and what is written is its record in that layout
pub record Accepted (told : ℕ) (numbers : List ℤ) (bytes : List ℕ) : Type 0 where
  pub layout : Layout
  pub number : opening_number layout ≡ told
  pub passes : checked (called_for layout numbers) numbers ≡ fine
  pub is : record_of layout numbers ≡ bytes

write_accepted : (told : ℕ) (numbers : List ℤ) (room : ℕ) (bytes : List ℕ) → writing told numbers room ≡ filled bytes
    → Accepted told numbers bytes
unfolding writing writing_in
write_accepted told numbers room bytes e = go (told_by told) refl e
  where
    by : (o : Layout) → told_by told ≡ Ok o → (v : Verdict) → checked (called_for o numbers) numbers ≡ v
        → by_verdict room (record_of o numbers) v ≡ filled bytes → Accepted told numbers bytes
    by o t fine f g = record { layout = o; number = told_only told o t; passes = f; is = fitted_is room (record_of o numbers) bytes g }
    by o t (turned r) f g = absurd (not_both refl g)

    go : (t : Result Layout Refusal) → told_by told ≡ t → by_told numbers room t ≡ filled bytes → Accepted told numbers bytes
    go (Ok o) t g = by o t (checked (called_for o numbers) numbers) refl g
    go (Err r) t g = absurd (not_both refl g)

-- A record that is accepted was read to its end, and its numbers are handed out
pub read_accepted : (bytes : List ℕ) (places : ℕ) (numbers : List ℤ) → reading bytes places ≡ filled numbers
    → (at : ℕ) × ((read_whole bytes).read ≡ Ok at) × ((read_whole bytes).numbers ≡ numbers)
unfolding reading
read_accepted bytes places numbers e = go (read_whole bytes).read refl e
  where
    go : (r : Read) → (read_whole bytes).read ≡ r → numbers_read places (read_whole bytes).numbers r ≡ filled numbers
        → (at : ℕ) × ((read_whole bytes).read ≡ Ok at) × ((read_whole bytes).numbers ≡ numbers)
    go (Ok at) f g = (at, f, fitted_is places (read_whole bytes).numbers numbers g)
    go (Err r) f g = absurd (not_both refl g)

-- "The reader on a written record returns the very numbers", into any list that has the places; and its opening is the one that was told
pub written_read : (told : ℕ) (numbers : List ℤ) (room : ℕ) (bytes : List ℕ) → writing told numbers room ≡ filled bytes
    → ((places : ℕ) → length numbers ≤ places → reading bytes places ≡ filled numbers) × (opening_number (layout_of bytes) ≡ told)
unfolding reading
written_read told numbers room bytes e =
    let w = write_accepted told numbers room bytes e in
    let r = record_read w.layout numbers w.passes in (
      λ places h. rw (← w.is, r.1, r.0) (fitted_enough places numbers h),
      ap (λ (l : List ℕ). opening_number (layout_of l)) (sym w.is) ∙ ap opening_number r.2 ∙ w.number,
    )

-- "each accepted record is the one that the writer makes from what was read", told its opening, into any buffer that has the room
pub read_written : (bytes : List ℕ) (places : ℕ) (numbers : List ℤ) → Bytes bytes → reading bytes places ≡ filled numbers → (room : ℕ)
    → length bytes ≤ room → writing (opening_number (layout_of bytes)) numbers room ≡ filled bytes
unfolding writing
read_written bytes places numbers b e room h =
    let a = read_accepted bytes places numbers e in
    let r = read_record_lem bytes a.0 b a.1 in
    let passes = rw a.2 at r.0 in
    let is = rw a.2 at r.1 in
    rw (told_number (layout_of bytes))
    (write_enough (layout_of bytes) numbers room (length bytes) (record { fine_is = passes; size_is = ap length (sym is) }) h ∙ ap filled is)

-- A written record is no longer than any that is accepted
pub written_size : (told : ℕ) (numbers : List ℤ) (room : ℕ) (bytes : List ℕ) → writing told numbers room ≡ filled bytes
    → length bytes ≤ longest_record
written_size told numbers room bytes e =
    let w = write_accepted told numbers room bytes e in
    let r = record_read w.layout numbers w.passes in
    let size = length (record_of w.layout numbers) in
    let last = ends_last (record_of w.layout numbers) size r.1 in
    omega (arith, ap length w.is, accepted_size (record_of w.layout numbers) size last.0)
