-- Demand 1: a record is turned back exactly under the table's conditions, and is accepted exactly where it is whole. Where the reading of
-- some kinds stops, the numbers before were read and the next one was turned back.
use Prim.Native.Nat.{ℕ, suc, ◌≤◌, ◌<◌}
use mathlib.Core.Path.{◌≡◌, refl, sym, ◌∙◌, ap, subst}
use mathlib.Core.Bool.{Bool, true, false, cond, not, ◌&&◌}
use mathlib.Core.Logic.{◌↔◌}
use mathlib.Core.List.{List, [], ◌∷◌, append-nil}
use native.Mathlib.Omega.{arith}
use borrow.Author.Tests.{ltb-true, ltb-false, lt-ltb, le-ltb, not-false}
use lib.Dec.{ltb}
use lib.ListN.{length, get_or, take, drop}
use lib.Seq.{take_all, split_at}
use lib.IntN.{ℤ, pos}
use Rattle.wire.specs.Reading.{number_at, number_refusal, Sound, Number}
use Rattle.wire.specs.declared.NumberError.TheVariants.{Short, Malformed as NoNumber}
use Rattle.std.specs.Prelude.{Ok, Err}
use Rattle.wire.proofs.Reading.{is_short, is_malformed}
use Rattle.wire.proofs.RoundTrip.{read_sound}
use Rattle.model.specs.Block.{InRange, widths}
use Rattle.refusals.specs.Table.{one_of, crowded, allowed, refusal_of}
use Rattle.block.specs.Reading.{whole_of, by_number, one_at, Parse, by_one, numbers_at, and_then, opening, starts_with, layout_of, stages, stages_at, read_record, at_end, read_whole, One, Read}
use Rattle.block.specs.Contents.{block_of}
use Rattle.block.specs.Conditions.{called_for, Passed, Next, NextIs, OutOfRange, Whole, TurnedBack}
use Rattle.refusals.specs.declared.Kind.{Kind}
use Rattle.refusals.specs.declared.Kind.TheVariants.{StreamCount, SymbolWidth, VectorCount, ClipLevel, WeakLevel, NodeShare, OwnerNumber}
use Rattle.refusals.specs.declared.Kind.TheVariants.{DiagonalEntry, RightPart, ReceivedPart, BitPrior}
use Rattle.block.specs.declared.Layout.{Layout}
use Rattle.refusals.specs.declared.Refusal.{Refusal}
use Rattle.refusals.specs.declared.Refusal.TheVariants.{Opening, Ends, Malformed, Streams, Width, Vectors, Clip, Share, Diagonal}
use Rattle.refusals.specs.declared.Refusal.TheVariants.{Entry, Received, Prior, Trailing, Buffer, Crowded, Weak, Owner}
use Rattle.block.proofs.Ranges.{crowded_is}
use Rattle.block.proofs.Reading.{by_turned, one_found, numbers_keep}
use Rattle.block.proofs.Openings.{starts_short, four, layout_only, unopened}
use Rattle.block.proofs.Stages.{joined, numbers_append}
use Rattle.block.proofs.Flat.{called_reads, called_only, accepted_opens, accepted_called, accepted_all}
use Rattle.block.proofs.Accepted.{accepted_in_range}

-- Numbers of some kinds that were turned back at the next one
record Stop (ks : List Kind) (bytes : List ℕ) (at : ℕ) (zs : List ℤ) (r : Refusal) : Type 0 where
  place : ℕ
  more : length zs < length ks
  before : numbers_at (take (length zs) ks) bytes at ≡ record { numbers = zs; read = Ok place }
  turned : one_at (get_or ks (length zs) StreamCount) bytes place ≡ Err r

-- Where numbers are refused, all before were read, and the next one turned back
stop : (ks : List Kind) (bytes : List ℕ) (at : ℕ) (r : Refusal) → (numbers_at ks bytes at).read ≡ Err r
    → Stop ks bytes at (numbers_at ks bytes at).numbers r
unfolding numbers_at
stop [] bytes at r e = cc
stop (k ∷ ks) bytes at r e = go (one_at k bytes at) refl e (λ next. stop ks bytes next r)
  where
    go : (o : One) → one_at k bytes at ≡ o → (by_one (numbers_at ks bytes) o).read ≡ Err r
        → ((next : ℕ) → (numbers_at ks bytes next).read ≡ Err r → Stop ks bytes next (numbers_at ks bytes next).numbers r)
        → Stop (k ∷ ks) bytes at (by_one (numbers_at ks bytes) o).numbers r
    go (Ok (z, next)) f g ih =
        let s = ih next g in
        record { place = s.place; more = omega (arith, s.more); before = rw f (ap (joined (z ∷ [])) s.before); turned = s.turned }
    go (Err t) f g ih =
        let same : t ≡ r = cc in record { place = at; more = omega arith; before = refl; turned = f ∙ ap Err same }

-- and the other way
stopped : (ks : List Kind) (bytes : List ℕ) (at : ℕ) (zs : List ℤ) (r : Refusal) → Stop ks bytes at zs r
    → numbers_at ks bytes at ≡ record { numbers = zs; read = Err r }
unfolding numbers_at
stopped ks bytes at zs r s =
    let k = get_or ks (length zs) StreamCount in
    let rest = drop (suc (length zs)) ks in
    ap (λ (l : List Kind). numbers_at l bytes at) (split_at ks (length zs) StreamCount s.more)
    ∙ numbers_append (take (length zs) ks) (k ∷ rest) bytes at
    ∙ ap (λ (p : Parse). and_then p (λ numbers next. numbers_at (k ∷ rest) bytes next)) s.before
    ∙ ap (λ (o : One). joined zs (by_one (numbers_at rest bytes) o)) s.turned
    ∙ λ j. record { numbers = append-nil zs j; read = Err r }

-- An accepted record's numbers are all that it calls for
whole_at : (bytes : List ℕ) (at : ℕ) → (read_record bytes).read ≡ Ok at
    → (w : Whole bytes at) × ((read_record bytes).numbers ≡ w.numbers) × (layout_of bytes ≡ w.layout)
whole_at bytes at e = (
  record {
    layout = layout_of bytes;
    numbers = zs;
    passed = record {
      opens = accepted_opens bytes at e;
      each =
          ap (λ (ks : List Kind). numbers_at ks bytes 4)
          (take_all (length zs) (called_for (layout_of bytes) zs) (omega (arith, accepted_all bytes at e)))
          ∙ accepted_called bytes at e;
    };
    all = accepted_all bytes at e;
  },
  refl,
  refl,
)
  where
    zs : List ℤ
    zs = (read_record bytes).numbers

-- Checks that are passed in a layout are passed in the one that the opening tells
passed_only : {bytes : List ℕ} {o : Layout} {zs : List ℤ} {at : ℕ} → Passed bytes o zs at → layout_of bytes ≡ o
passed_only {bytes} {o} p = layout_only o bytes p.opens

passed_opens : {bytes : List ℕ} {o : Layout} {zs : List ℤ} {at : ℕ} → Passed bytes o zs at → starts_with (opening (layout_of bytes)) bytes ≡ true
passed_opens {bytes} p = ap (λ (x : Layout). starts_with (opening x) bytes) (passed_only p) ∙ p.opens

-- and the other way
whole_is : (bytes : List ℕ) (at : ℕ) (w : Whole bytes at) → read_record bytes ≡ record { numbers = w.numbers; read = Ok at }
whole_is bytes at w =
    let zs = w.numbers in
    called_only bytes (passed_opens w.passed) zs (Ok at)
    (ap (λ (o : Layout). numbers_at (called_for o zs) bytes 4) (passed_only w.passed)
    ∙ ap (λ (ks : List Kind). numbers_at ks bytes 4) (sym (take_all (length zs) (called_for w.layout zs) (omega (arith, w.all)))) ∙ w.passed.each)

-- A refused record's next number was turned back
next_at : (bytes : List ℕ) (r : Refusal) → starts_with (opening (layout_of bytes)) bytes ≡ true → (read_record bytes).read ≡ Err r
    → (k : Kind) × (at : ℕ) × Next bytes k at × (one_at k bytes at ≡ Err r)
next_at bytes r opens e = (
  get_or called (length zs) StreamCount,
  s.place,
  record { layout = layout_of bytes; numbers = zs; passed = record { opens = opens; each = s.before }; more = s.more; kind = refl },
  s.turned,
)
  where
    zs : List ℤ
    zs = (read_record bytes).numbers

    called : List Kind
    called = called_for (layout_of bytes) zs

    s : Stop called bytes 4 zs r
    s =
        let reads = called_reads bytes opens in
        subst (λ (p : Parse). Stop called bytes 4 p.numbers r) (sym reads)
        (stop called bytes 4 r (ap (λ (p : Parse). p.read) (sym reads) ∙ e))

-- and the other way
next_is : (bytes : List ℕ) (k : Kind) (at : ℕ) (r : Refusal) → Next bytes k at → one_at k bytes at ≡ Err r
    → (read_whole bytes).read ≡ Err r
unfolding read_whole
next_is bytes k at r n e =
    let zs = n.numbers in
    let called = called_for n.layout zs in
    let s : Stop called bytes 4 zs r =
    record { place = at; more = n.more; before = n.passed.each; turned = ap (λ (l : Kind). one_at l bytes at) n.kind ∙ e } in
    ap (λ (p : Parse). at_end (length bytes) p.read)
    (called_only bytes (passed_opens n.passed) zs (Err r)
    (ap (λ (o : Layout). numbers_at (called_for o zs) bytes 4) (passed_only n.passed) ∙ stopped called bytes 4 zs r s))

-- A Q out of its range is none of the widths, or 8 where M is 4
by_width : (bytes : List ℕ) (m : ℤ) (o : OutOfRange bytes (SymbolWidth m)) → TurnedBack bytes (refusal_of (SymbolWidth m) (pos o.n))
by_width bytes m o = go (one_of widths (pos o.n)) refl o.holds
  where
    is : {Holds : ℤ → Type 0} → Holds (pos o.n) → NextIs bytes (SymbolWidth m) Holds
    is h = record { at = o.at; next = o.next; n = o.n; after = o.after; value = o.value; holds = h }

    go : (b : Bool) → one_of widths (pos o.n) ≡ b → (b && not (crowded m (pos o.n))) ≡ false → TurnedBack bytes (cond b Crowded Width)
    go true e f =
        let both = crowded_is m (pos o.n) (not-false (crowded m (pos o.n)) f) in
        subst (λ (x : ℤ). NextIs bytes (SymbolWidth x) (λ (q : ℤ). q ≡ pos 8)) both.1 (is both.0)
    go false e f = (m, is e)

-- A number out of its range, by its kind
by_kind : (bytes : List ℕ) (k : Kind) (o : OutOfRange bytes k) → TurnedBack bytes (refusal_of k (whole_of k o.n))
by_kind bytes StreamCount o = o
by_kind bytes (SymbolWidth m) o = by_width bytes m o
by_kind bytes VectorCount o = o
by_kind bytes ClipLevel o = o
by_kind bytes (WeakLevel c) o = (c, o)
by_kind bytes (NodeShare m) o = (m, o)
by_kind bytes OwnerNumber o = o
by_kind bytes DiagonalEntry o = o
by_kind bytes RightPart o = o
by_kind bytes ReceivedPart o = o
by_kind bytes BitPrior o = o

-- A number that was turned back ends too early, is malformed, or is out of its range
by_number_lem : (bytes : List ℕ) (k : Kind) (at : ℕ) (r : Refusal) → Next bytes k at → one_at k bytes at ≡ Err r → TurnedBack bytes r
unfolding by_number
by_number_lem bytes k at r next e = go (number_at bytes at) refl e
  where
    ranged : (n after : ℕ) → number_at bytes at ≡ Ok (n, after) → (b : Bool) → allowed k (whole_of k n) ≡ b
        → cond {A = One} b (Ok (whole_of k n, after)) (Err (refusal_of k (whole_of k n))) ≡ Err r → TurnedBack bytes r
    ranged n after f true a g = cc
    ranged n after f false a g =
        let same : refusal_of k (whole_of k n) ≡ r = cc in
        subst (TurnedBack bytes) same (by_kind bytes k (record { at = at; next = next; n = n; after = after; value = f; holds = a }))

    go : (x : Number) → number_at bytes at ≡ x → by_number k x ≡ Err r → TurnedBack bytes r
    go (Ok (n, after)) f g = ranged n after f (allowed k (whole_of k n)) refl g
    go (Err Short) f g = let same : Ends ≡ r = cc in subst (TurnedBack bytes) same (k, at, next, ap number_refusal f)
    go (Err NoNumber) f g = let same : Malformed ≡ r = cc in subst (TurnedBack bytes) same (k, at, next, ap number_refusal f)

-- A refused record meets its refusal's condition
refused_by_lem : (bytes : List ℕ) (r : Refusal) → (read_whole bytes).read ≡ Err r → TurnedBack bytes r
unfolding read_whole read_record
refused_by_lem bytes r e = go (starts_with (opening (layout_of bytes)) bytes) refl e
  where
    trailing : (at : ℕ) → (read_record bytes).read ≡ Ok at → (b : Bool) → ltb at (length bytes) ≡ b
        → cond b (Err Trailing) (Ok at) ≡ Err r → TurnedBack bytes r
    trailing at g true h i =
        let same : Trailing ≡ r = cc in
        subst (TurnedBack bytes) same (at, (whole_at bytes at g).0, ltb-true at (length bytes) h)
    trailing at g false h i = cc

    opened_by : starts_with (opening (layout_of bytes)) bytes ≡ true → (read : Read) → (read_record bytes).read ≡ read → at_end (length bytes) read ≡ Err r
        → TurnedBack bytes r
    opened_by f (Ok at) g h = trailing at g (ltb at (length bytes)) refl h
    opened_by f (Err s) g h = let n = next_at bytes r f (g ∙ h) in by_number_lem bytes n.0 n.1 r n.2 n.3

    go : (b : Bool) → starts_with (opening (layout_of bytes)) bytes ≡ b
        → at_end (length bytes) (cond b (stages_at (stages (layout_of bytes)) [] bytes 4) (record { numbers = []; read = Err Opening })).read
        ≡ Err r
        → TurnedBack bytes r
    go true f g = opened_by f (read_record bytes).read refl e
    go false f g = let same : Opening ≡ r = cc in subst (TurnedBack bytes) same (unopened bytes f)

-- A number out of its range is turned back
is_refused : (bytes : List ℕ) (k : Kind) {Holds : ℤ → Type 0} (o : NextIs bytes k Holds) → allowed k (whole_of k o.n) ≡ false
    → (read_whole bytes).read ≡ Err (refusal_of k (whole_of k o.n))
is_refused bytes k o outside =
    let turned = ap (by_number k) o.value ∙ by_turned k o.n o.after outside in
    next_is bytes k o.at (refusal_of k (whole_of k o.n)) o.next turned

range_refused : (bytes : List ℕ) (k : Kind) (o : OutOfRange bytes k) → (read_whole bytes).read ≡ Err (refusal_of k (whole_of k o.n))
range_refused bytes k o = is_refused bytes k o o.holds

-- A record that meets a refusal's condition has that refusal
refused_of : (bytes : List ℕ) (r : Refusal) → TurnedBack bytes r → (read_whole bytes).read ≡ Err r
unfolding read_whole read_record by_number
refused_of bytes Opening f = rw (f (layout_of bytes))
refused_of bytes Ends t = next_is bytes t.0 t.1 Ends t.2 (ap (by_number t.0) (is_short (number_at bytes t.1) t.3))
refused_of bytes Malformed t =
    next_is bytes t.0 t.1 Malformed t.2 (ap (by_number t.0) (is_malformed (number_at bytes t.1) t.3))
refused_of bytes Streams o = range_refused bytes StreamCount o
refused_of bytes Width t =
    let width = t.1.holds in rw width at (is_refused bytes (SymbolWidth t.0) t.1 (rw width))
refused_of bytes Vectors o = range_refused bytes VectorCount o
refused_of bytes Clip o = range_refused bytes ClipLevel o
refused_of bytes Weak t = range_refused bytes (WeakLevel t.0) t.1
refused_of bytes Share t = range_refused bytes (NodeShare t.0) t.1
refused_of bytes Owner o = range_refused bytes OwnerNumber o
refused_of bytes Diagonal o = range_refused bytes DiagonalEntry o
refused_of bytes Entry o = range_refused bytes RightPart o
refused_of bytes Received o = range_refused bytes ReceivedPart o
refused_of bytes Prior o = range_refused bytes BitPrior o
refused_of bytes Trailing t =
    ap (λ (p : Parse). at_end (length bytes) p.read) (whole_is bytes t.0 t.1)
    ∙ ap (λ (b : Bool). cond b (Err Trailing) (Ok t.0)) (lt-ltb t.0 (length bytes) t.2)
refused_of bytes Buffer f = absurd f
refused_of bytes Crowded o =
    is_refused bytes (SymbolWidth (pos 4)) o (ap (allowed (SymbolWidth (pos 4))) o.holds)
    ∙ ap (λ (q : ℤ). Err (refusal_of (SymbolWidth (pos 4)) q)) o.holds

-- Demand 1, of any bytes: a record has a refusal exactly where the table's condition for it holds
pub turned_back : (bytes : List ℕ) (r : Refusal) → ((read_whole bytes).read ≡ Err r) ↔ TurnedBack bytes r
turned_back bytes r = (refused_by_lem bytes r, refused_of bytes r)

-- A record's opening is in its bytes
four_bytes : (o : Layout) (bytes : List ℕ) → starts_with (opening o) bytes ≡ true → 4 ≤ length bytes
four_bytes o bytes opens = go (ltb (length bytes) 4) refl
  where
    go : (b : Bool) → ltb (length bytes) 4 ≡ b → 4 ≤ length bytes
    go true f =
        let no = starts_short (opening o) bytes (omega (arith, ltb-true (length bytes) 4 f, four o)) in
        let z : ◌≡◌ {A = ℕ} 0 1 = cc in
        absurd (omega arith)
    go false f = ltb-false (length bytes) 4 f

-- and so is the end of each of its numbers
inside : (bytes : List ℕ) (k : Kind) (at next : ℕ) (z : ℤ) → one_at k bytes at ≡ Ok (z, next) → next ≤ length bytes
inside bytes k at next z e =
    (subst (λ (x : Number). Sound x (length bytes)) (one_found k bytes at z next e).value (read_sound bytes at)).1

ends_inside : (bytes : List ℕ) (at : ℕ) → (read_record bytes).read ≡ Ok at → at ≤ length bytes
ends_inside bytes at e =
    numbers_keep (λ ks place. place ≤ length bytes) bytes (λ k ks place next z t h. inside bytes k place next z t)
    (called_for (layout_of bytes) (read_record bytes).numbers) 4 at (four_bytes (layout_of bytes) bytes (accepted_opens bytes at e))
    (ap (λ (p : Parse). p.read) (accepted_called bytes at e))

-- A record that is the whole of its bytes ends with them
pub ends_last : (bytes : List ℕ) (at : ℕ) → (read_whole bytes).read ≡ Ok at → ((read_record bytes).read ≡ Ok at) × (at ≡ length bytes)
unfolding read_whole
ends_last bytes at e = go (read_record bytes).read refl e
  where
    last : (place : ℕ) → (read_record bytes).read ≡ Ok place → (b : Bool) → ltb place (length bytes) ≡ b
        → cond b (Err Trailing) (Ok place) ≡ Ok at → ((read_record bytes).read ≡ Ok at) × (at ≡ length bytes)
    last place f true h g = cc
    last place f false h g =
        let same : place ≡ at = cc in
        (f ∙ ap Ok same, omega (arith, ltb-false place (length bytes) h, ends_inside bytes place f))

    go : (r : Read) → (read_record bytes).read ≡ r → at_end (length bytes) r ≡ Ok at
        → ((read_record bytes).read ≡ Ok at) × (at ≡ length bytes)
    go (Ok place) f g = last place f (ltb place (length bytes)) refl g
    go (Err r) f g = cc

-- A record that is read to its end is whole
pub whole_read : (bytes : List ℕ) (at : ℕ) → (read_whole bytes).read ≡ Ok at
    → (w : Whole bytes (length bytes)) × ((read_record bytes).numbers ≡ w.numbers) × (layout_of bytes ≡ w.layout) × (at ≡ length bytes)
whole_read bytes at e =
    let last = ends_last bytes at e in
    let w = whole_at bytes (length bytes) (last.0 ∙ ap Ok last.1) in
    (w.0, w.1, w.2, last.1)

-- and the other way
pub read_whole_lem : (bytes : List ℕ) (w : Whole bytes (length bytes))
    → ((read_whole bytes).read ≡ Ok (length bytes)) × ((read_record bytes).numbers ≡ w.numbers) × (layout_of bytes ≡ w.layout)
unfolding read_whole
read_whole_lem bytes w =
    let is = whole_is bytes (length bytes) w in
    let end : ltb (length bytes) (length bytes) ≡ false = le-ltb (length bytes) (length bytes) (omega arith) in (
      ap (λ (p : Parse). at_end (length bytes) p.read) is
          ∙ ap (λ (b : Bool). cond b (Err Trailing) (Ok (length bytes))) end,
      ap (λ (p : Parse). p.numbers) is,
      passed_only w.passed,
    )

-- A whole record's block is in range
pub whole_in_range : (bytes : List ℕ) (at : ℕ) (w : Whole bytes at) → InRange (block_of w.layout w.numbers)
whole_in_range bytes at w =
    let is = whole_is bytes at w in
    subst (λ (o : Layout). InRange (block_of o w.numbers)) (passed_only w.passed)
    (subst (λ (p : Parse). InRange (block_of (layout_of bytes) p.numbers)) is (accepted_in_range bytes at (ap (λ (p : Parse). p.read) is)))
