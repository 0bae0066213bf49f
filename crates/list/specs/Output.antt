-- What is known of the bytes that a writer took before it failed.
use Rattle.std.specs.Prelude.{ℕ, ◌≤◌, List, length, take}
use Rattle.std.specs.Io.KnownBytes.{Appends}
use Rattle.std.specs.declared.option.Option.{Option}

-- Some of the first bytes, where its bytes are known
abbrev pub HasTaken : Option (List ℕ) → Option (List ℕ) → List ℕ → Type 0
HasTaken old new bytes = (n : ℕ) × (n ≤ length bytes) × Appends old new (take n bytes)
