-- What the first numbers of a list, each in its range, say: M, Q and N are within their ranges, how many numbers are called for, and that
-- each fits its groups.
use Prim.Native.Nat.{ℕ, suc, ◌+◌, ◌≤◌, ◌<◌}
use mathlib.Core.Path.{◌≡◌, refl, sym, ◌∙◌, ap, subst}
use mathlib.Core.Bool.{Bool, true, false}
use mathlib.Core.List.{List, [], ◌∷◌}
use native.Mathlib.Omega.{arith}
use borrow.Author.Tests.{ltb-true, ltb-false, lt-ltb, le-ltb}
use lib.Dec.{ltb, leb-zero}
use lib.ListN.{length, get_or}
use lib.IntN.{ℤ, pos}
use lib.Signed.{le_z}
use Rattle.model.specs.Block.{most_streams, most_vectors, most_clip}
use Rattle.refusals.specs.Table.{allowed}
use Rattle.block.specs.Reading.{header_size, kinds_of, runs_of, count_at}
use Rattle.block.specs.Contents.{header_kinds}
use Rattle.block.specs.Conditions.{called_for}
use Rattle.refusals.specs.declared.Kind.{Kind}
use Rattle.refusals.specs.declared.Kind.TheVariants.{StreamCount}
use Rattle.block.specs.declared.Layout.{Layout}
use Rattle.refusals.proofs.Tests.{and_right}
use Rattle.block.proofs.Ranges.{between_plain, allowed_width}
use Rattle.block.proofs.Runs.{kind_in, weak_kind, share_kind}
use Rattle.block.proofs.Parts.{AllAllowed, allowed_at, allowed_length, plain_most, width_most, label_most, weak_few, own_few, all_fit}
use Rattle.block.proofs.Accepted.{kinds_count}
use Rattle.block.proofs.CalledFor.{record_header, record_vector, called_at, called_few, called_more, Grounded, record_grounded}
use Rattle.records.specs.Steps.{kind_at, FirstAllowed, Asked, Called, Sized, number_count}
use Rattle.records.proofs.Numbers.{Written, written}

-- Each number fits its groups
abbrev pub AllWritten : List Kind → List ℤ → Type 0
AllWritten [] zs = Unit {0}
AllWritten (k ∷ ks) [] = Unit {0}
AllWritten (k ∷ ks) (z ∷ zs) = Written k z × AllWritten ks zs

written_each : (ks : List Kind) (zs : List ℤ) → AllAllowed ks zs → ((i : ℕ) → i < length ks → Written (kind_in ks i) (get_or zs i (pos 0)))
    → AllWritten ks zs
written_each [] zs a w = tt
written_each (k ∷ ks) [] a w = tt
written_each (k ∷ ks) (z ∷ zs) a w = (w 0 (omega arith), written_each ks zs a.1 (λ i h. w (suc i) (omega arith)))

-- How many numbers are called for: within the header all of it, behind it as many as M, Q and N say
module _ (o : Layout) (numbers : List ℤ) (i : ℕ) (l : i ≤ length numbers) where
  pub called_within : i < header_size o → Called o numbers i (header_size o)
  called_within h = record {
    tells = lt-ltb i (header_size o) h ∙ sym (lt-ltb i (length (called_for o numbers)) (called_more o numbers i l (omega (arith, kinds_count o numbers))));
    most = omega (arith, weak_few o);
  }

  pub called_behind : (end : ℕ) → Sized o numbers → end ≡ number_count o numbers → Called o numbers i end
  called_behind end s e = record {
    tells = go (ltb i (number_count o numbers)) refl;
    most =
        omega (arith, e, all_fit o (count_at 0 numbers) (count_at 1 numbers) (count_at 2 numbers) s.streams s.label s.vectors);
  }
    where
      go : (b : Bool) → ltb i (number_count o numbers) ≡ b → ltb i end ≡ ltb i (length (called_for o numbers))
      go true f =
          let more = called_more o numbers i l (omega (arith, kinds_count o numbers, ltb-true i (number_count o numbers) f)) in
          rw (e, f) (sym (lt-ltb i (length (called_for o numbers)) more))
      go false f =
          let less : length (called_for o numbers) ≤ number_count o numbers = omega (arith, called_few o numbers, kinds_count o numbers) in
          rw (e, f) (sym (le-ltb i (length (called_for o numbers)) (omega (arith, ltb-false i (number_count o numbers) f))))

-- What such a bound says of the place itself
pub called_here : {o : Layout} {numbers : List ℤ} {i end : ℕ} → Called o numbers i end → i < end → i < length (called_for o numbers)
called_here {o} {numbers} {i} {end} c h = ltb-true i (length (called_for o numbers)) (sym c.tells ∙ lt-ltb i end h)

pub called_none : {o : Layout} {numbers : List ℤ} {i end : ℕ} → Called o numbers i end → end ≤ i → length (called_for o numbers) ≤ i
called_none {o} {numbers} {i} {end} c h = ltb-false i (length (called_for o numbers)) (sym c.tells ∙ le-ltb i end h)

-- A list whose first numbers are in their ranges
module _ (o : Layout) (numbers : List ℤ) (i : ℕ) (l : i ≤ length numbers) (first : FirstAllowed o numbers i) where
  abbrev m : ℤ
  m = get_or numbers 0 (pos 0)

  abbrev c : ℤ
  c = get_or numbers 3 (pos 0)

  -- The header's numbers have its kinds
  header_at : (j : ℕ) → j < i → j < header_size o → allowed (kind_in (header_kinds o m c) j) (get_or numbers j (pos 0)) ≡ true
  header_at j h k =
      let called = called_more o numbers j (omega arith) (omega (arith, kinds_count o numbers)) in
      ap (λ (x : Kind). allowed x (get_or numbers j (pos 0))) (sym (called_at o numbers j called ∙ record_header o numbers j k)) ∙ first j h

  streams_plain : 1 ≤ i → le_z (pos 0) m ≡ true
  unfolding kinds_of runs_of
  streams_plain h = let p = between_plain 1 most_streams m (header_at 0 h (omega arith)) in rw p.is (leb-zero p.value)

  clip_most : 4 ≤ i → le_z c (pos most_clip) ≡ true
  unfolding kinds_of runs_of
  clip_most h = and_right (le_z (pos 0) c) (le_z c (pos most_clip)) (header_at 3 h (omega arith))

  pub sized : header_size o ≤ i → Sized o numbers
  unfolding kinds_of runs_of
  sized h =
      let q = get_or numbers 1 (pos 0) in
      let m-is = header_at 0 (omega arith) (omega arith) in
      let q-is = header_at 1 (omega arith) (omega arith) in
      let p = between_plain 1 most_streams m m-is in
      record {
        header = omega arith;
        stream = rw p.is p.low;
        streams = plain_most p;
        width = width_most (allowed_width m q q-is);
        label = label_most m q m-is q-is;
        vectors = plain_most (between_plain 1 most_vectors (get_or numbers 2 (pos 0)) (header_at 2 (omega arith) (omega arith)));
      }

  -- The kind of the next number is grounded
  grounded_at : i < length (called_for o numbers) → Grounded (kind_at o numbers i)
  grounded_at h =
      subst Grounded (sym (called_at o numbers i h))
      (record_grounded o numbers i (omega (arith, called_few o numbers)) streams_plain clip_most)

-- Behind C the header's kinds are those of W and D by the place
pub ruleset header_laws = (weak_kind, share_kind)

-- The kind at a place is that of the header, or of the vectors behind it
pub ruleset kind_laws = (record_header, record_vector, called_at, called_few, own_few, sized)

-- so where it is in its range too, it fits its groups
pub written_at : (o : Layout) (numbers : List ℤ) (i : ℕ) → i < length (called_for o numbers) → i < length numbers → FirstAllowed o numbers (i + 1)
    → Written (kind_at o numbers i) (get_or numbers i (pos 0))
written_at o numbers i h l first =
    written (kind_at o numbers i) (get_or numbers i (pos 0))
    (grounded_at o numbers i (omega arith) (λ j k. first j (omega arith)) h)
    (first i (omega arith))

-- A list all of whose numbers are in their ranges
module _ (o : Layout) (numbers : List ℤ) (a : AllAllowed (called_for o numbers) numbers) (i : ℕ) (h : i < length numbers) where
  is_called : i < length (called_for o numbers)
  is_called = omega (arith, allowed_length (called_for o numbers) numbers a)

  first_allowed : FirstAllowed o numbers (i + 1)
  first_allowed j k = allowed_at (called_for o numbers) numbers a j StreamCount (omega (arith, is_called))

  -- Each number may be asked for,
  pub all_asked : Asked o numbers i
  all_asked = record { inside = h; called = is_called; before = λ j k. first_allowed j (omega arith) }

  -- and fits its groups
  pub all_written : Written (kind_at o numbers i) (get_or numbers i (pos 0))
  all_written = written_at o numbers i is_called h first_allowed

-- All of them do
pub each_written : (o : Layout) (numbers : List ℤ) → AllAllowed (called_for o numbers) numbers → AllWritten (called_for o numbers) numbers
each_written o numbers a =
    written_each (called_for o numbers) numbers a
    (λ i h. all_written o numbers a i (omega (arith, allowed_length (called_for o numbers) numbers a)))
