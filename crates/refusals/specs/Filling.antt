-- Document 02, Point 2: what a call that fills lent memory comes to, whatever its entries are. "Here and in every later call that fills lent
-- memory, unless it says otherwise, an acceptance returns how many entries it wrote and alters no others, a refusal returns minus its number
-- and alters none." Document 01 says the same of the reply.
use Rattle.std.specs.Prelude.{ℕ, ◌≡◌, cond, List, ◌++◌, ltb, length, drop, ℤ, pos, neg_ℤ, Result, Ok, Err}
use Rattle.refusals.specs.Table.{refusal_number}
use Rattle.refusals.specs.declared.Refusal.{Refusal}
use Rattle.refusals.specs.declared.Refusal.TheVariants.{Buffer}

-- A refusal, or the entries that were written
pub data Filling (A : Type 0) : Type 0 where
  refused : Refusal → Filling A
  filled : List A → Filling A

-- "an acceptance returns how many entries it wrote", "a refusal returns minus its number"
abbrev pub returned : {A : Type 0} → Filling A → ℤ
returned (refused r) = neg_ℤ (pos (refusal_number r))
returned (filled entries) = pos (length entries)

-- The same of a call that says how many entries it wrote
abbrev pub returned_as : Result ℕ Refusal → ℤ
returned_as (Ok count) = pos count
returned_as (Err r) = neg_ℤ (pos (refusal_number r))

-- The lent memory afterwards: an acceptance "alters no others", a refusal "alters none"
abbrev pub buffer_after : {A : Type 0} → Filling A → List A → List A
buffer_after (refused r) lent = lent
buffer_after (filled entries) lent = entries ++ drop (length entries) lent

-- What such a call comes to before it is told as a number: how many entries it wrote, or its refusal; and the lent memory afterwards
abbrev pub counted : {A : Type 0} → Filling A → Result ℕ Refusal
counted (refused r) = Err r
counted (filled entries) = Ok (length entries)

abbrev pub Fills : {A : Type 0} → Filling A → List A → Result ℕ Refusal → List A → Type 0
Fills f old result new = (result ≡ counted f) × (new ≡ buffer_after f old)

-- The returned number and the whole lent memory afterwards, as one
pub record Call (A : Type 0) : Type 0 where
  pub number : ℤ
  pub lent : List A

abbrev pub call : {A : Type 0} → ℤ → List A → Call A
call number lent = record { number = number; lent = lent }

abbrev pub filling : {A : Type 0} → Filling A → List A → Call A
filling f lent = call (returned f) (buffer_after f lent)

-- Entries for a lent memory of `room` of them: 14 where they are more
unfoldable pub fitted : {A : Type 0} → ℕ → List A → Filling A
fitted room entries = cond (ltb room (length entries)) (refused Buffer) (filled entries)
