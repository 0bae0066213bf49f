-- What a cursor reads, in one with the place where it then stands.
use Rattle.std.specs.Prelude.{ℕ, Result, Ok, Err}

-- What was read and the place behind it, or why nothing is read
abbrev pub with_place : {A E : Type 0} → Result A E → ℕ → Result (A × ℕ) E
with_place (Ok a) at = Ok (a, at)
with_place (Err e) at = Err e

-- The place where what was to be read ended, or why it was not read
abbrev pub ended : {E : Type 0} → Result Unit E → ℕ → Result ℕ E
ended (Ok u) at = Ok at
ended (Err e) at = Err e
