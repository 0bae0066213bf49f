-- Stages of a record. Reading them one after the other is one reading of the kinds that the numbers call for, and no other numbers are such
-- a reading; and where each stage was stored whole, the next one is told by the front of the list.
use Prim.Native.Nat.{ℕ, zero, suc, ◌+◌, ◌-◌, ◌≤◌, ◌<◌}
use mathlib.Core.Path.{◌≡◌, refl, sym, ◌∙◌, ap}
use mathlib.Core.Bool.{Bool, true, false, cond}
use mathlib.Core.List.{List, [], ◌∷◌, ◌++◌, append_assoc, append-nil}
use native.Mathlib.Omega.{arith}
use borrow.Author.Tests.{leb-false, le-leb, ltb-true, ltb-false}
use lib.Dec.{leb, ltb}
use lib.ListN.{length, get_or, take, drop, length-append, get_or-append}
use lib.Seq.{sets-eq, length-take-le, take_at, take-append_seam, take-take, get_or-append-add, get_or-take}
use lib.IntN.{ℤ, pos}
use Rattle.refusals.specs.Table.{allowed}
use Rattle.block.specs.Reading.{one_at, Parse, by_one, numbers_at, by_read, and_then, stages_at, Got, got, into, One, Read}
use Rattle.block.specs.Conditions.{called_by}
use Rattle.refusals.specs.declared.Kind.{Kind}
use Rattle.std.specs.Prelude.{Ok, Err}
use Rattle.refusals.specs.declared.Refusal.{Refusal}
use Rattle.block.proofs.Parts.{allowed_length, all_allowed, allowed_at, into_length, then_ended, then_refused}

-- Some numbers in front of what was read
abbrev pub joined : List ℤ → Parse → Parse
joined zs p = record { numbers = zs ++ p.numbers; read = p.read }

-- Some numbers and, from where they ended, others
pub numbers_append : (a b : List Kind) (bytes : List ℕ) (at : ℕ)
    → numbers_at (a ++ b) bytes at ≡ and_then (numbers_at a bytes at) (λ numbers next. numbers_at b bytes next)
unfolding numbers_at
numbers_append [] b bytes at = refl
numbers_append (k ∷ a) b bytes at = go (one_at k bytes at) (numbers_append a b bytes)
  where
    further : List ℤ → ℕ → Parse
    further numbers next = numbers_at b bytes next

    under : (z : ℤ) (zs : List ℤ) (r : Read) → joined (z ∷ []) (by_read zs further r) ≡ by_read (z ∷ zs) further r
    under z zs (Ok next) = refl
    under z zs (Err r) = refl

    go : (o : One) → ((at : ℕ) → numbers_at (a ++ b) bytes at ≡ and_then (numbers_at a bytes at) further)
        → by_one (numbers_at (a ++ b) bytes) o ≡ and_then (by_one (numbers_at a bytes) o) further
    go (Ok (z, next)) ih = ap (joined (z ∷ [])) (ih next) ∙ under z (numbers_at a bytes next).numbers (numbers_at a bytes next).read
    go (Err r) ih = refl

-- As many numbers as kinds
pub ended_count : (ks : List Kind) (bytes : List ℕ) (at next : ℕ) → (numbers_at ks bytes at).read ≡ Ok next
    → length (numbers_at ks bytes at).numbers ≡ length ks
ended_count ks bytes at next e = allowed_length ks (numbers_at ks bytes at).numbers (all_allowed ks bytes at next e)

-- What follows some numbers matters only where they ended
then_same : (p : Parse) (f g : List ℤ → ℕ → Parse) → ((n : ℕ) → p.read ≡ Ok n → f p.numbers n ≡ g p.numbers n)
    → and_then p f ≡ and_then p g
then_same p f g same = go p.read same
  where
    go : (r : Read) → ((n : ℕ) → r ≡ Ok n → f p.numbers n ≡ g p.numbers n) → by_read p.numbers f r ≡ by_read p.numbers g r
    go (Ok n) h = ap (joined p.numbers) (h n refl)
    go (Err r) h = refl

-- and stands behind them
then_front : (p : Parse) (f : List ℤ → ℕ → Parse) (n : ℕ) → p.read ≡ Ok n
    → (and_then p f).numbers ≡ p.numbers ++ (f p.numbers n).numbers
then_front p f n e = rw e

-- What numbers that go on from known ones call for behind a stage
abbrev behind_stage : (List ℤ → List Kind) → List (List ℤ → List Kind) → List ℤ → List ℤ → List Kind
behind_stage s later known zs = called_by later (length known + length (s known)) (known ++ zs)

-- A stage and those after it
module _ (s : List ℤ → List Kind) (later : List (List ℤ → List Kind)) (known zs : List ℤ) (bytes : List ℕ) (at : ℕ) where
  called_stage : numbers_at (called_by (s ∷ later) (length known) (known ++ zs)) bytes at
      ≡ and_then (numbers_at (s known) bytes at) (λ numbers next. numbers_at (behind_stage s later known zs) bytes next)
  unfolding called_by
  called_stage =
      rw (take-append_seam known zs, le-leb (length known) (length (known ++ zs)) (omega (arith, length-append known zs)))
      (numbers_append (s known) (behind_stage s later known zs) bytes at)

  -- Where the stage ended, its numbers are known as well
  behind_stage_lem : (n : ℕ) → (numbers_at (s known) bytes at).read ≡ Ok n → (rest : List ℤ)
      → let stage = (numbers_at (s known) bytes at).numbers in
      zs ≡ stage ++ rest → behind_stage s later known zs ≡ called_by later (length (known ++ stage)) (known ++ stage ++ rest)
  behind_stage_lem n e rest is =
      let stage = (numbers_at (s known) bytes at).numbers in
      let many : length known + length (s known) ≡ length (known ++ stage) =
      omega (arith, length-append known stage, ended_count (s known) bytes at n e) in
      λ j. called_by later (many j) ((ap (λ (l : List ℤ). known ++ l) is ∙ sym (append_assoc known stage rest)) j)

-- The numbers of stages, all or those before a refusal, are a reading of what they call for
pub stages_read : (ss : List (List ℤ → List Kind)) (known : List ℤ) (bytes : List ℕ) (at : ℕ)
    → stages_at ss known bytes at ≡ numbers_at (called_by ss (length known) (known ++ (stages_at ss known bytes at).numbers)) bytes at
unfolding stages_at called_by numbers_at
stages_read [] known bytes at = refl
stages_read (s ∷ later) known bytes at =
    then_same stage others called (same (λ told n. stages_read later told bytes n)) ∙ sym (called_stage s later known all bytes at)
  where
    stage : Parse
    stage = numbers_at (s known) bytes at

    all : List ℤ
    all = (stages_at (s ∷ later) known bytes at).numbers

    others : List ℤ → ℕ → Parse
    others numbers next = stages_at later (known ++ numbers) bytes next

    called : List ℤ → ℕ → Parse
    called numbers next = numbers_at (behind_stage s later known all) bytes next

    same : ((told : List ℤ) (n : ℕ) → stages_at later told bytes n ≡ numbers_at (called_by later (length told) (told ++ (stages_at later told bytes n).numbers)) bytes n)
        → (n : ℕ) → stage.read ≡ Ok n → others stage.numbers n ≡ called stage.numbers n
    same ih n e =
        ih (known ++ stage.numbers) n
        ∙ ap (λ (ks : List Kind). numbers_at ks bytes n)
        (sym (behind_stage_lem s later known all bytes at n e (others stage.numbers n).numbers (then_front stage others n e)))

-- and no others are
pub stages_only : (ss : List (List ℤ → List Kind)) (known zs : List ℤ) (bytes : List ℕ) (at : ℕ) (r : Read)
    → numbers_at (called_by ss (length known) (known ++ zs)) bytes at ≡ record { numbers = zs; read = r }
    → stages_at ss known bytes at ≡ record { numbers = zs; read = r }
unfolding stages_at called_by numbers_at
stages_only [] known zs bytes at r e = e
stages_only (s ∷ later) known zs bytes at r e =
    then_same stage others called (same (λ told rest n t. stages_only later told rest bytes n t)) ∙ sym (called_stage s later known zs bytes at) ∙ e
  where
    stage : Parse
    stage = numbers_at (s known) bytes at

    others : List ℤ → ℕ → Parse
    others numbers next = stages_at later (known ++ numbers) bytes next

    called : List ℤ → ℕ → Parse
    called numbers next = numbers_at (behind_stage s later known zs) bytes next

    same : ((told rest : List ℤ) (n : ℕ) (t : Read) → numbers_at (called_by later (length told) (told ++ rest)) bytes n ≡ record { numbers = rest; read = t }
        → stages_at later told bytes n ≡ record { numbers = rest; read = t })
        → (n : ℕ) → stage.read ≡ Ok n → others stage.numbers n ≡ called stage.numbers n
    same ih n f =
        let rest = (called stage.numbers n).numbers in
        let front : zs ≡ stage.numbers ++ rest =
        ap (λ (p : Parse). p.numbers) (sym e ∙ called_stage s later known zs bytes at) ∙ then_front stage called n f in
        ih (known ++ stage.numbers) rest n (called stage.numbers n).read
        (ap (λ (ks : List Kind). numbers_at ks bytes n) (sym (behind_stage_lem s later known zs bytes at n f rest front)))

-- Two lists of kinds with one front are alike at a place if they are behind it
joined_same : (a b c : List Kind) (d : Kind) (i : ℕ) → (length a ≤ i → get_or b (i - length a) d ≡ get_or c (i - length a) d)
    → get_or (a ++ b) i d ≡ get_or (a ++ c) i d
joined_same [] b c d i same = let e : i - 0 ≡ i = omega arith in rw e at (same (omega arith))
joined_same (k ∷ a) b c d zero same = refl
joined_same (k ∷ a) b c d (suc i) same =
    joined_same a b c d i (λ h. let e : suc i - suc (length a) ≡ i - length a = omega arith in rw e at (same (omega arith)))

-- The kinds of all stages
unfoldable pub called_whole : List (List ℤ → List Kind) → ℕ → List ℤ → List Kind
called_whole [] before numbers = []
called_whole (s ∷ later) before numbers =
    let kinds = s (take before numbers) in kinds ++ called_whole later (before + length kinds) numbers

-- Numbers that are as many as they call for call for all stages
pub called_whole_lem : (ss : List (List ℤ → List Kind)) (before : ℕ) (numbers : List ℤ)
    → before + length (called_by ss before numbers) ≡ length numbers → called_by ss before numbers ≡ called_whole ss before numbers
unfolding called_by called_whole
called_whole_lem [] before numbers e = refl
called_whole_lem (s ∷ later) before numbers e = go (leb before (length numbers)) refl e (called_whole_lem later (before + length kinds) numbers)
  where
    kinds : List Kind
    kinds = s (take before numbers)

    go : (b : Bool) → leb before (length numbers) ≡ b
        → before + length (cond b (kinds ++ called_by later (before + length kinds) numbers) []) ≡ length numbers
        → (before + length kinds + length (called_by later (before + length kinds) numbers) ≡ length numbers
        → called_by later (before + length kinds) numbers ≡ called_whole later (before + length kinds) numbers)
        → cond b (kinds ++ called_by later (before + length kinds) numbers) [] ≡ kinds ++ called_whole later (before + length kinds) numbers
    go true f g ih =
        ap (λ (l : List Kind). kinds ++ l) (ih (omega (arith, length-append kinds (called_by later (before + length kinds) numbers))))
    go false f g ih = absurd (omega (arith, leb-false before (length numbers) f))

-- What numbers call for is the front of that
pub called_front : (ss : List (List ℤ → List Kind)) (before : ℕ) (numbers : List ℤ) (d : Kind) (i : ℕ) → i < length (called_by ss before numbers)
    → get_or (called_by ss before numbers) i d ≡ get_or (called_whole ss before numbers) i d
unfolding called_by called_whole
called_front [] before numbers d i h = refl
called_front (s ∷ later) before numbers d i h = go (leb before (length numbers)) h (called_front later (before + length kinds) numbers d)
  where
    kinds : List Kind
    kinds = s (take before numbers)

    go : (b : Bool) → i < length (cond b (kinds ++ called_by later (before + length kinds) numbers) [])
        → ((j : ℕ) → j < length (called_by later (before + length kinds) numbers)
        → get_or (called_by later (before + length kinds) numbers) j d ≡ get_or (called_whole later (before + length kinds) numbers) j d)
        → get_or (cond b (kinds ++ called_by later (before + length kinds) numbers) []) i d
        ≡ get_or (kinds ++ called_whole later (before + length kinds) numbers) i d
    go true l ih =
        joined_same kinds (called_by later (before + length kinds) numbers) (called_whole later (before + length kinds) numbers) d i
        (λ f. ih (i - length kinds) (omega (arith, length-append kinds (called_by later (before + length kinds) numbers))))
    go false l ih = absurd (omega arith)

-- which is no shorter,
pub called_most : (ss : List (List ℤ → List Kind)) (before : ℕ) (numbers : List ℤ)
    → length (called_by ss before numbers) ≤ length (called_whole ss before numbers)
unfolding called_by called_whole
called_most [] before numbers = omega arith
called_most (s ∷ later) before numbers = go (leb before (length numbers)) (called_most later (before + length kinds) numbers)
  where
    kinds : List Kind
    kinds = s (take before numbers)

    go : (b : Bool) → length (called_by later (before + length kinds) numbers) ≤ length (called_whole later (before + length kinds) numbers)
        → length (cond b (kinds ++ called_by later (before + length kinds) numbers) []) ≤ length (kinds ++ called_whole later (before + length kinds) numbers)
    go true ih =
        omega (
          arith,
          length-append kinds (called_by later (before + length kinds) numbers),
          length-append kinds (called_whole later (before + length kinds) numbers),
        )
    go false ih = omega arith

-- and goes on up to the number behind the last: wherever the stages do
pub called_reach : (ss : List (List ℤ → List Kind)) (before : ℕ) (numbers : List ℤ) (i : ℕ) → before ≤ i → i ≤ length numbers
    → i < before + length (called_whole ss before numbers) → i < before + length (called_by ss before numbers)
unfolding called_by called_whole
called_reach [] before numbers i h k l = absurd (omega arith)
called_reach (s ∷ later) before numbers i h k l =
    rw (le-leb before (length numbers) (omega arith)) (go (ltb i (before + length kinds)) refl (called_reach later (before + length kinds) numbers i))
  where
    kinds : List Kind
    kinds = s (take before numbers)

    go : (b : Bool) → ltb i (before + length kinds) ≡ b
        → (before + length kinds ≤ i → i ≤ length numbers → i < before + length kinds + length (called_whole later (before + length kinds) numbers)
        → i < before + length kinds + length (called_by later (before + length kinds) numbers))
        → i < before + length (kinds ++ called_by later (before + length kinds) numbers)
    go true e ih = omega (arith, ltb-true i (before + length kinds) e, length-append kinds (called_by later (before + length kinds) numbers))
    go false e ih =
        let further =
        ih (ltb-false i (before + length kinds) e) k (omega (arith, length-append kinds (called_whole later (before + length kinds) numbers))) in
        omega (arith, length-append kinds (called_by later (before + length kinds) numbers))

-- The first k of them call for the same up to the number behind the last: as many, and of the same kinds
pub record SameAt (a b : List Kind) (d : Kind) (i : ℕ) : Type 0 where
  pub kind : get_or a i d ≡ get_or b i d
  pub less : i < length a → i < length b
  pub more : i < length b → i < length a

same_behind : (a b c : List Kind) (d : Kind) (i : ℕ) → (length a ≤ i → SameAt b c d (i - length a)) → SameAt (a ++ b) (a ++ c) d i
same_behind [] b c d i same = let e : i - 0 ≡ i = omega arith in rw e at (same (omega arith))
same_behind (k ∷ a) b c d zero same = record { kind = refl; less = λ h. omega arith; more = λ h. omega arith }
same_behind (k ∷ a) b c d (suc i) same =
    let later =
    same_behind a b c d i (λ h. let e : suc i - suc (length a) ≡ i - length a = omega arith in rw e at (same (omega arith))) in
    record { kind = later.kind; less = λ h. omega (arith, later.less (omega arith)); more = λ h. omega (arith, later.more (omega arith)) }

pub beginning_calls : (ss : List (List ℤ → List Kind)) (before k : ℕ) (numbers : List ℤ) (d : Kind) (i : ℕ) → k ≤ length numbers
    → before + i ≤ k → SameAt (called_by ss before (take k numbers)) (called_by ss before numbers) d i
unfolding called_by
beginning_calls [] before k numbers d i most h = record { kind = refl; less = λ l. l; more = λ l. l }
beginning_calls (s ∷ later) before k numbers d i most h =
    rw (take-take before k numbers (omega arith), le-leb before (length (take k numbers)) (omega (arith, length-take-le k numbers most)), le-leb before (length numbers) (omega arith))
    (same_behind kinds (called_by later (before + length kinds) (take k numbers)) (called_by later (before + length kinds) numbers) d i
    (λ l. beginning_calls later (before + length kinds) k numbers d (i - length kinds) most (omega arith)))
  where
    kinds : List Kind
    kinds = s (take before numbers)

-- Numbers that were stored whole from a place on
module _ (ks : List Kind) (bytes : List ℕ) (at next n : ℕ) (list list' : List ℤ) (room : n + length ks ≤ length list)
    (e : got (Ok next) list' ≡ into n (numbers_at ks bytes at) list) where
  abbrev stored : List ℤ
  stored = (numbers_at ks bytes at).numbers

  were_ended : (numbers_at ks bytes at).read ≡ Ok next
  were_ended = sym (ap (λ (g : Got). g.read) e)

  many : length stored ≡ length ks
  many = ended_count ks bytes at next were_ended

  -- stand behind the front, which stays
  list_is : list' ≡ take n list ++ stored ++ drop (n + length stored) list
  list_is = ap (λ (g : Got). g.list) e ∙ sets-eq stored list n (omega (arith, many))

  front : length (take n list ++ stored) ≡ n + length ks
  front = length-append (take n list) stored ∙ (omega (arith, many, length-take-le n list (omega arith)))

  pub stored_length : length list' ≡ length list
  stored_length = into_length n (numbers_at ks bytes at) (Ok next) list list' e

  pub stored_front : take (n + length ks) list' ≡ take n list ++ stored
  stored_front = ap (take (n + length ks)) list_is ∙ take_at (take n list ++ stored) (drop (n + length stored) list) (n + length ks) front

  pub stored_before : (j : ℕ) → j < n → get_or list' j (pos 0) ≡ get_or list j (pos 0)
  stored_before j h =
      sym (get_or-take (n + length ks) list' j (pos 0) (omega arith))
      ∙ ap (λ (l : List ℤ). get_or l j (pos 0)) stored_front
      ∙ get_or-append (take n list) stored (pos 0) j (omega (arith, length-take-le n list (omega arith)))
      ∙ get_or-take n list j (pos 0) h

  -- and each is in the range of its kind
  pub stored_allowed : (j : ℕ) (d : Kind) → j < length ks → allowed (get_or ks j d) (get_or list' (n + j) (pos 0)) ≡ true
  stored_allowed j d h =
      let place : n + j ≡ length (take n list) + j = omega (arith, length-take-le n list (omega arith)) in
      let is : get_or list' (n + j) (pos 0) ≡ get_or stored j (pos 0) =
      sym (get_or-take (n + length ks) list' (n + j) (pos 0) (omega arith))
      ∙ ap (λ (l : List ℤ). get_or l (n + j) (pos 0)) stored_front
      ∙ ap (λ (i : ℕ). get_or (take n list ++ stored) i (pos 0)) place
      ∙ get_or-append-add (take n list) stored j (pos 0) in
      ap (allowed (get_or ks j d)) is ∙ allowed_at ks stored (all_allowed ks bytes at next were_ended) j d h

-- A stage behind the front of a list, and those after it
module _ (s : List ℤ → List Kind) (later : List (List ℤ → List Kind)) (bytes : List ℕ) (at n : ℕ) (list list' : List ℤ) where
  abbrev kinds : List Kind
  kinds = s (take n list)

  -- Where it was stored whole, the front goes on behind it
  pub stage_ended : (next : ℕ) → n + length kinds ≤ length list → got (Ok next) list' ≡ into n (numbers_at kinds bytes at) list
      → into n (stages_at (s ∷ later) (take n list) bytes at) list
      ≡ into (n + length kinds) (stages_at later (take (n + length kinds) list') bytes next) list'
  unfolding stages_at
  stage_ended next room e =
      then_ended (numbers_at kinds bytes at) (λ zs after. stages_at later (take n list ++ zs) bytes after) n list list' next e
      ∙ λ j. into (n + many kinds bytes at next n list list' room e j)
      (stages_at later (sym (stored_front kinds bytes at next n list list' room e) j) bytes next) list'

  -- Where it was turned back, so are all
  pub stage_refused : (r : Refusal) → got (Err r) list' ≡ into n (numbers_at kinds bytes at) list
      → into n (stages_at (s ∷ later) (take n list) bytes at) list ≡ got (Err r) list'
  unfolding stages_at
  stage_refused r e = then_refused (numbers_at kinds bytes at) (λ zs after. stages_at later (take n list ++ zs) bytes after) n list list' r e

-- A last stage
pub stage_last : (s : List ℤ → List Kind) (known : List ℤ) (bytes : List ℕ) (at : ℕ)
    → stages_at (s ∷ []) known bytes at ≡ numbers_at (s known) bytes at
unfolding stages_at
stage_last s known bytes at = go (numbers_at (s known) bytes at).numbers (numbers_at (s known) bytes at).read
  where
    go : (zs : List ℤ) (r : Read)
        → by_read zs (λ numbers next. record { numbers = []; read = Ok next }) r ≡ record { numbers = zs; read = r }
    go zs (Ok next) = λ j. record { numbers = append-nil zs j; read = Ok next }
    go zs (Err r) = refl
