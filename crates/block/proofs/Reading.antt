-- Reading by cases: what one number that was read does, how numbers go on, and what becomes of the lent list.
use Prim.Native.Nat.{ℕ, suc, ◌+◌, ◌-◌, ◌≤◌, ◌<◌}
use mathlib.Core.Path.{◌≡◌, refl, sym, ◌∙◌, ap, subst}
use mathlib.Core.Bool.{Bool, true, false, cond}
use mathlib.Core.List.{List, [], ◌∷◌, ◌++◌}
use native.Mathlib.Omega.{arith}
use lib.ListN.{length, set, replicate}
use lib.IntN.{ℤ}
use Rattle.wire.specs.Reading.{number_at, groups, last_group, Number}
use Rattle.wire.proofs.Reading.{ok_is}
use Rattle.std.specs.Prelude.{Ok, Err}
use Rattle.refusals.specs.Table.{allowed, refusal_of}
use Rattle.block.specs.Reading.{whole_of, by_number, one_at, by_one, numbers_at, Got, got, into, One}
use Rattle.refusals.specs.declared.Kind.{Kind}
use Rattle.refusals.specs.declared.Kind.TheVariants.{StreamCount}
use Rattle.refusals.specs.declared.Refusal.{Refusal}
use Rattle.refusals.specs.declared.Refusal.TheVariants.{Streams}

-- "each number is read, then ranged, before the next": an M of 5 is out of range, though nothing follows it
pub ranged_first : one_at StreamCount (5 ∷ []) 0 ≡ Err Streams
unfolding by_number number_at groups last_group
ranged_first = refl

-- A number in range is taken, any other turned back
module _ (k : Kind) (n next : ℕ) where
  pub by_taken : allowed k (whole_of k n) ≡ true → by_number k (Ok (n, next)) ≡ Ok (whole_of k n, next)
  unfolding by_number
  by_taken e = rw e

  pub by_turned : allowed k (whole_of k n) ≡ false → by_number k (Ok (n, next)) ≡ Err (refusal_of k (whole_of k n))
  unfolding by_number
  by_turned e = rw e

-- A number that was taken
pub record Found (k : Kind) (bytes : List ℕ) (at : ℕ) (z : ℤ) (next : ℕ) : Type 0 where
  pub n : ℕ
  pub value : number_at bytes at ≡ Ok (n, next)
  pub is : whole_of k n ≡ z
  pub ranged : allowed k (whole_of k n) ≡ true

-- was read, and is in range
pub one_found : (k : Kind) (bytes : List ℕ) (at : ℕ) (z : ℤ) (next : ℕ) → one_at k bytes at ≡ Ok (z, next) → Found k bytes at z next
unfolding by_number
one_found k bytes at z next e = go (number_at bytes at) refl e
  where
    by_range : (n place : ℕ) → number_at bytes at ≡ Ok (n, place) → (b : Bool) → allowed k (whole_of k n) ≡ b
        → cond {A = One} b (Ok (whole_of k n, place)) (Err (refusal_of k (whole_of k n))) ≡ Ok (z, next) → Found k bytes at z next
    by_range n place f true a g =
        let same = ok_is g in record { n = n; value = f ∙ ap (λ (p : ℕ). Ok (n, p)) same.1; is = same.0; ranged = a }
    by_range n place f false a g = cc

    go : (x : Number) → number_at bytes at ≡ x → by_number k x ≡ Ok (z, next) → Found k bytes at z next
    go (Ok (n, place)) f g = by_range n place f (allowed k (whole_of k n)) refl g
    go (Err x) f g = cc

-- A number that is read and in range, and then others
pub numbers_taken : (k : Kind) (ks : List Kind) (bytes : List ℕ) (at n next : ℕ) → number_at bytes at ≡ Ok (n, next)
    → allowed k (whole_of k n) ≡ true → numbers_at (k ∷ ks) bytes at
    ≡ record { numbers = whole_of k n ∷ (numbers_at ks bytes next).numbers; read = (numbers_at ks bytes next).read }
unfolding numbers_at
numbers_taken k ks bytes at n next found e = rw (found, by_taken k n next e)

-- The first of some numbers that were read to their end, and the others
pub record FirstRead (k : Kind) (ks : List Kind) (bytes : List ℕ) (at end : ℕ) : Type 0 where
  pub n : ℕ
  pub next : ℕ
  pub value : number_at bytes at ≡ Ok (n, next)
  pub others : (numbers_at ks bytes next).read ≡ Ok end
  pub are : (numbers_at (k ∷ ks) bytes at).numbers ≡ whole_of k n ∷ (numbers_at ks bytes next).numbers

pub first_read : (k : Kind) (ks : List Kind) (bytes : List ℕ) (at end : ℕ) → (numbers_at (k ∷ ks) bytes at).read ≡ Ok end
    → FirstRead k ks bytes at end
unfolding numbers_at
first_read k ks bytes at end e = go (one_at k bytes at) refl e
  where
    go : (o : One) → one_at k bytes at ≡ o → (by_one (numbers_at ks bytes) o).read ≡ Ok end → FirstRead k ks bytes at end
    go (Ok (z, next)) f g =
        let r = one_found k bytes at z next f in
        record {
          n = r.n;
          next = next;
          value = r.value;
          others = g;
          are = rw f (ap (λ (x : ℤ). x ∷ (numbers_at ks bytes next).numbers) (sym r.is));
        }
    go (Err r) f g = cc

-- What each number that is taken keeps holds where the numbers end
pub numbers_keep : (P : List Kind → ℕ → Type 0) (bytes : List ℕ)
    → ((k : Kind) (ks : List Kind) (at next : ℕ) (z : ℤ) → one_at k bytes at ≡ Ok (z, next) → P (k ∷ ks) at → P ks next)
    → (ks : List Kind) (at next : ℕ) → P ks at → (numbers_at ks bytes at).read ≡ Ok next → P [] next
unfolding numbers_at
numbers_keep P bytes step [] at next h e = let same : at ≡ next = cc in subst (P []) same h
numbers_keep P bytes step (k ∷ ks) at next h e = go (one_at k bytes at) refl e (λ place. numbers_keep P bytes step ks place next)
  where
    go : (o : One) → one_at k bytes at ≡ o → (by_one (numbers_at ks bytes) o).read ≡ Ok next
        → ((place : ℕ) → P ks place → (numbers_at ks bytes place).read ≡ Ok next → P [] next) → P [] next
    go (Ok (z, place)) f g ih = ih place (step k ks at place z f h) g
    go (Err r) f g ih = cc

module _ (k : Kind) (ks : List Kind) (bytes : List ℕ) (at from : ℕ) (list : List ℤ) where
  -- A number taken is stored, and the rest goes on from there
  pub into_taken : (z : ℤ) (next : ℕ) → one_at k bytes at ≡ Ok (z, next)
      → into from (numbers_at (k ∷ ks) bytes at) list ≡ into (suc from) (numbers_at ks bytes next) (set list from z)
  unfolding numbers_at
  into_taken z next e = rw e

  -- A number turned back ends it
  pub into_turned : (r : Refusal) → one_at k bytes at ≡ Err r → into from (numbers_at (k ∷ ks) bytes at) list ≡ got (Err r) list
  unfolding numbers_at
  into_turned r e = rw e

-- Nothing more to read
pub into_none : (bytes : List ℕ) (at from : ℕ) (list : List ℤ) → into from (numbers_at [] bytes at) list ≡ got (Ok at) list
unfolding numbers_at
into_none bytes at from list = refl

-- A run of `count` numbers of one kind, after k of them
module _ (kind : Kind) (count : ℕ) (bytes : List ℕ) (place k : ℕ) (list : List ℤ) where
  abbrev rest_of_run : Got
  rest_of_run = into k (numbers_at (replicate (count - k) kind) bytes place) list

  pub run_none : count ≤ k → rest_of_run ≡ got (Ok place) list
  run_none h = let e : count - k ≡ 0 = omega arith in rw e (into_none bytes place k list)

  module _ (h : k < count) where
    more : count - k ≡ suc (count - (k + 1))
    more = omega arith

    pub run_taken : (z : ℤ) (next : ℕ) → one_at kind bytes place ≡ Ok (z, next)
        → rest_of_run ≡ into (k + 1) (numbers_at (replicate (count - (k + 1)) kind) bytes next) (set list k z)
    run_taken z next e =
        let s : suc k ≡ k + 1 = omega arith in
        let later = numbers_at (replicate (count - (k + 1)) kind) bytes next in
        rw more
        (into_taken kind (replicate (count - (k + 1)) kind) bytes place k list z next e ∙ ap (λ (n : ℕ). into n later (set list k z)) s)

    pub run_turned : (r : Refusal) → one_at kind bytes place ≡ Err r → rest_of_run ≡ got (Err r) list
    run_turned r e = rw more (into_turned kind (replicate (count - (k + 1)) kind) bytes place k list r e)

-- Ended and turned back are two things
not_both : {at : ℕ} {r : Refusal} {l l' : List ℤ} → got (Ok at) l ≡ got (Err r) l' → ⊥
not_both {at} {r} e =
    let p : Ok at ≡ Err r = ap (λ (g : Got). g.read) e in
    let z : ◌≡◌ {A = ℕ} 0 1 = cc in
    omega arith

-- Some numbers and then others: the others go on where the first ended, and are not read where those were turned back
module _ (b : List Kind) (bytes : List ℕ) where
  pub append_ended : (a : List Kind) (at from next : ℕ) (list list' : List ℤ) → got (Ok next) list' ≡ into from (numbers_at a bytes at) list
      → into from (numbers_at (a ++ b) bytes at) list ≡ into (from + length a) (numbers_at b bytes next) list'
  append_ended [] at from next list list' e =
      let f = e ∙ into_none bytes at from list in
      let p : Ok next ≡ Ok at = ap (λ (g : Got). g.read) f in
      let n : next ≡ at = cc in
      let l : list' ≡ list = ap (λ (g : Got). g.list) f in
      let z : from + 0 ≡ from = omega arith in
      rw (n, l, z)
  append_ended (k ∷ a) at from next list list' e = go (one_at k bytes at) refl (append_ended a)
    where
      shift : suc from + length a ≡ from + suc (length a)
      shift = omega arith

      go : (o : One) → one_at k bytes at ≡ o
          → ((at from next : ℕ) (list list' : List ℤ) → got (Ok next) list' ≡ into from (numbers_at a bytes at) list
          → into from (numbers_at (a ++ b) bytes at) list ≡ into (from + length a) (numbers_at b bytes next) list')
          → into from (numbers_at (k ∷ a ++ b) bytes at) list ≡ into (from + suc (length a)) (numbers_at b bytes next) list'
      go (Ok (z, place)) f ih =
          into_taken k (a ++ b) bytes at from list z place f
          ∙ ih place (suc from) next (set list from z) list' (e ∙ into_taken k a bytes at from list z place f)
          ∙ ap (λ (n : ℕ). into n (numbers_at b bytes next) list') shift
      go (Err r) f ih = absurd (not_both (e ∙ into_turned k a bytes at from list r f))

  pub append_refused : (a : List Kind) (at from : ℕ) (r : Refusal) (list list' : List ℤ) → got (Err r) list' ≡ into from (numbers_at a bytes at) list
      → into from (numbers_at (a ++ b) bytes at) list ≡ got (Err r) list'
  append_refused [] at from r list list' e = absurd (not_both (sym (e ∙ into_none bytes at from list)))
  append_refused (k ∷ a) at from r list list' e = go (one_at k bytes at) refl (append_refused a)
    where
      go : (o : One) → one_at k bytes at ≡ o
          → ((at from : ℕ) (r : Refusal) (list list' : List ℤ) → got (Err r) list' ≡ into from (numbers_at a bytes at) list
          → into from (numbers_at (a ++ b) bytes at) list ≡ got (Err r) list')
          → into from (numbers_at (k ∷ a ++ b) bytes at) list ≡ got (Err r) list'
      go (Ok (z, place)) f ih =
          into_taken k (a ++ b) bytes at from list z place f
          ∙ ih place (suc from) r (set list from z) list' (e ∙ into_taken k a bytes at from list z place f)
      go (Err s) f ih = into_turned k (a ++ b) bytes at from list s f ∙ sym (e ∙ into_turned k a bytes at from list s f)
