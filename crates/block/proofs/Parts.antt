-- Parts one after the other, and what is known of the numbers of a part that was read whole: each is in the range of its kind.
use Prim.Native.Nat.{ℕ, zero, suc, ◌+◌, ◌-◌, ◌*◌, ◌≤◌, ◌<◌}
use mathlib.Core.Path.{◌≡◌, refl, sym, ◌∙◌, ap, subst}
use mathlib.Core.Bool.{true, false, true≢false}
use mathlib.Core.Logic.{◌≢◌, ⊎_elim}
use mathlib.Core.List.{List, [], ◌∷◌, ◌++◌}
use native.Mathlib.Omega.{arith}
use native.Mathlib.Nat.{suc-mul, mul-le-mul, eq-or-lt_of_le}
use lib.ListN.{length, get_or, set}
use lib.Seq.{sets, length-sets}
use lib.IntN.{ℤ, pos, nat_abs}
use Rattle.model.proofs.Bounds.{of_every, width_small}
use Rattle.model.specs.Block.{◌∈◌, widths, most_streams, most_width, most_bits, most_vectors}
use Rattle.refusals.specs.Table.{crowded, allowed}
use Rattle.block.proofs.Ranges.{Plain, between_plain, OneOf, allowed_width, allowed_uncrowded}
use Rattle.block.proofs.Reading.{one_found, into_none, append_ended, append_refused}
use Rattle.block.specs.Reading.{weak_count, own_count, header_size, one_at, Parse, by_one, numbers_at, and_then, part_kinds, part_at, owned_size, vector_kinds, read_record, at_end, read_whole, Got, got, into, most_numbers, One, Read}
use Rattle.refusals.specs.declared.Kind.{Kind}
use Rattle.refusals.specs.declared.Kind.TheVariants.{StreamCount, SymbolWidth}
use Rattle.std.specs.Prelude.{Ok, Err}
use Rattle.refusals.specs.declared.Refusal.{Refusal}
use Rattle.block.specs.declared.Part.TheVariants.{Vector}
use Rattle.block.specs.declared.Layout.{Layout}
use Rattle.block.specs.declared.Layout.TheVariants.{Base, Weakened, Owned}
use Rattle.block.proofs.Runs.{owned_numbers}

-- A run of stores after another
pub sets_append : {A : Type 0} (a b l : List A) (i : ℕ) → sets l i (a ++ b) ≡ sets (sets l i a) (i + length a) b
sets_append [] b l i = let e : i + 0 ≡ i = omega arith in rw e
sets_append (x ∷ a) b l i = let e : i + suc (length a) ≡ suc i + length a = omega arith in rw e (sets_append a b (set l i x) (suc i))

-- Storing keeps the list's length
pub into_length : (from : ℕ) (p : Parse) (r : Read) (list list' : List ℤ) → got r list' ≡ into from p list → length list' ≡ length list
into_length from p r list list' e = ap (λ (g : Got). length g.list) e ∙ length-sets list from p.numbers

-- Where a parse was stored whole, what follows goes on behind it; where it was turned back, nothing follows
module _ (p : Parse) (f : List ℤ → ℕ → Parse) (from : ℕ) (list list' : List ℤ) where
  pub then_ended : (next : ℕ) → got (Ok next) list' ≡ into from p list
      → into from (and_then p f) list ≡ into (from + length p.numbers) (f p.numbers next) list'
  then_ended next e = go p.read refl (ap (λ (g : Got). g.read) e)
    where
      go : (r : Read) → p.read ≡ r → Ok next ≡ p.read
          → into from (and_then p f) list ≡ into (from + length p.numbers) (f p.numbers next) list'
      go r is h =
          rw (sym h)
          (λ j. got (f p.numbers next).read
          ((sets_append p.numbers (f p.numbers next).numbers list from
          ∙ ap (λ (l : List ℤ). sets l (from + length p.numbers) (f p.numbers next).numbers) (sym (ap (λ (g : Got). g.list) e))) j))

  pub then_refused : (r : Refusal) → got (Err r) list' ≡ into from p list → into from (and_then p f) list ≡ got (Err r) list'
  then_refused r e = let h : Err r ≡ p.read = ap (λ (g : Got). g.read) e in rw (sym h) (λ j. got (Err r) (sym (ap (λ (g : Got). g.list) e) j))

-- Each number is in the range of its kind, and there are as many
abbrev pub AllAllowed : List Kind → List ℤ → Type 0
AllAllowed [] [] = Unit {0}
AllAllowed [] (z ∷ zs) = ⊥
AllAllowed (k ∷ ks) [] = ⊥
AllAllowed (k ∷ ks) (z ∷ zs) = (allowed k z ≡ true) × AllAllowed ks zs

pub allowed_length : (ks : List Kind) (zs : List ℤ) → AllAllowed ks zs → length zs ≡ length ks
allowed_length [] [] h = refl
allowed_length [] (z ∷ zs) h = absurd h
allowed_length (k ∷ ks) [] h = absurd h
allowed_length (k ∷ ks) (z ∷ zs) h = ap suc (allowed_length ks zs h.1)

-- Numbers that were read whole
pub all_allowed : (ks : List Kind) (bytes : List ℕ) (at next : ℕ) → (numbers_at ks bytes at).read ≡ Ok next → AllAllowed ks (numbers_at ks bytes at).numbers
unfolding numbers_at
all_allowed [] bytes at next e = tt
all_allowed (k ∷ ks) bytes at next e = go (one_at k bytes at) refl e (λ place. all_allowed ks bytes place next)
  where
    go : (o : One) → one_at k bytes at ≡ o → (by_one (numbers_at ks bytes) o).read ≡ Ok next
        → ((place : ℕ) → (numbers_at ks bytes place).read ≡ Ok next → AllAllowed ks (numbers_at ks bytes place).numbers)
        → AllAllowed (k ∷ ks) (by_one (numbers_at ks bytes) o).numbers
    go (Ok (z, place)) f g ih =
        let n = one_found k bytes at z place f in (subst (λ (w : ℤ). allowed k w ≡ true) n.is n.ranged, ih place g)
    go (Err r) f g ih = cc

-- Numbers that are all in range, by their place
pub allowed_at : (ks : List Kind) (zs : List ℤ) → AllAllowed ks zs → (i : ℕ) (d : Kind) → i < length ks
    → allowed (get_or ks i d) (get_or zs i (pos 0)) ≡ true
allowed_at [] zs a i d h = absurd (omega arith)
allowed_at (k ∷ ks) [] a i d h = absurd a
allowed_at (k ∷ ks) (z ∷ zs) a zero d h = a.0
allowed_at (k ∷ ks) (z ∷ zs) a (suc i) d h = allowed_at ks zs a.1 i d (omega arith)

-- n vectors, after k of them
module _ (n k own m q : ℕ) (bytes : List ℕ) (place to : ℕ) (list : List ℤ) where
  pub rest_none : n ≤ k → into to (numbers_at (vector_kinds (n - k) own m q) bytes place) list ≡ got (Ok place) list
  unfolding vector_kinds
  rest_none h = let e : n - k ≡ 0 = omega arith in rw e (into_none bytes place to list)

  module _ (h : k < n) where
    more : n - k ≡ suc (n - (k + 1))
    more = omega arith

    pub rest_room : (s : ℕ) → (n - k) * s ≡ (n - (k + 1)) * s + s
    rest_room s = ap (λ (x : ℕ). x * s) more ∙ suc-mul (n - (k + 1)) s

    pub rest_ended : (list' : List ℤ) (next : ℕ) → got (Ok next) list' ≡ into to (part_at (Vector own m q) bytes place) list
        → into to (numbers_at (vector_kinds (n - k) own m q) bytes place) list
        ≡ into (to + owned_size own m q) (numbers_at (vector_kinds (n - (k + 1)) own m q) bytes next) list'
    unfolding vector_kinds
    rest_ended list' next e =
        rw more
        (append_ended (vector_kinds (n - (k + 1)) own m q) bytes (part_kinds (Vector own m q)) place to next list list' e
        ∙ ap (λ (s : ℕ). into (to + s) (numbers_at (vector_kinds (n - (k + 1)) own m q) bytes next) list') (owned_numbers own m q))

    pub rest_refused : (list' : List ℤ) (r : Refusal) → got (Err r) list' ≡ into to (part_at (Vector own m q) bytes place) list
        → into to (numbers_at (vector_kinds (n - k) own m q) bytes place) list ≡ got (Err r) list'
    unfolding vector_kinds
    rest_refused list' r e =
        rw more (append_refused (vector_kinds (n - (k + 1)) own m q) bytes (part_kinds (Vector own m q)) place to r list list' e)

-- No layout has more than one W
pub weak_few : (o : Layout) → weak_count o ≤ 1
weak_few Base = omega arith
weak_few Weakened = omega arith
weak_few Owned = omega arith

-- or more than one owner before a vector
pub own_few : (o : Layout) → own_count o ≤ 1
own_few Base = omega arith
own_few Weakened = omega arith
own_few Owned = omega arith

-- A vector with its owner has at most 49 numbers
pub size_most : (own m q : ℕ) → own ≤ 1 → m ≤ most_streams → m * q ≤ most_bits → owned_size own m q ≤ 49
size_most own m q few h k = omega (arith, mul-le-mul h h)

-- All vectors of a record fit the list behind the header
pub all_fit : (o : Layout) (m q n : ℕ) → m ≤ most_streams → m * q ≤ most_bits → n ≤ most_vectors
    → header_size o + n * owned_size (own_count o) m q ≤ most_numbers
all_fit o m q n h k l = omega (arith, weak_few o, mul-le-mul l (size_most (own_count o) m q (own_few o) h k))

-- A plain number is its magnitude
pub plain_most : {a b : ℕ} {z : ℤ} → Plain a b z → nat_abs z ≤ b
plain_most p = rw p.is p.high

pub width_most : {z : ℤ} → OneOf widths z → nat_abs z ≤ most_width
width_most p = rw p.is (width_small p.value p.member)

-- No symbol has 7 bits, so all widths but 8 are at most 6
width_other : (q : ℕ) → q ∈ widths → q ≢ 8 → q ≤ 6
width_other q h n = omega (arith, width_small q h, of_every (λ (w : ℕ). w ≢ 7) widths (omega arith) h)

-- M in its range and a Q that goes with it: a label of at most 24 bits. Three streams have room for any width, and four for all but 8
pub label_most : (m z : ℤ) → allowed StreamCount m ≡ true → allowed (SymbolWidth m) z ≡ true → nat_abs m * nat_abs z ≤ most_bits
label_most m z a b = ⊎_elim four three (eq-or-lt_of_le streams.high)
  where
    streams : Plain 1 most_streams m
    streams = between_plain 1 most_streams m a

    width : OneOf widths z
    width = allowed_width m z b

    uncrowded : crowded (pos streams.value) (pos width.value) ≡ false
    uncrowded = rw (streams.is, width.is) at (allowed_uncrowded m z b)

    three : streams.value < 4 → nat_abs m * nat_abs z ≤ most_bits
    three h =
        let s : streams.value ≤ 3 = omega arith in
        rw (streams.is, width.is) (mul-le-mul s (width_small width.value width.member))

    four : streams.value ≡ 4 → nat_abs m * nat_abs z ≤ most_bits
    four e =
        let not_eight : width.value ≢ 8 = λ f. true≢false (rw (e, f) at uncrowded) in
        rw (streams.is, width.is) (mul-le-mul streams.high (width_other width.value width.member not_eight))

-- The end
module _ (bytes : List ℕ) (list list' : List ℤ) where
  pub whole_ended : (at : ℕ) → got (Ok at) list' ≡ into 0 (read_record bytes) list → (r : Read) → at_end (length bytes) (Ok at) ≡ r → got r list' ≡ into 0 (read_whole bytes) list
  unfolding read_whole
  whole_ended at e r f = λ j. got ((sym f ∙ ap (λ (g : Got). at_end (length bytes) g.read) e) j) (e j).list

  pub whole_refused : (r : Refusal) → got (Err r) list' ≡ into 0 (read_record bytes) list → got (Err r) list' ≡ into 0 (read_whole bytes) list
  unfolding read_whole
  whole_refused r e = λ j. got (at_end (length bytes) (e j).read) (e j).list
