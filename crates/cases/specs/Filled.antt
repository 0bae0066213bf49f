-- How many bytes of a buffer were read, whether or not a read failed.
use Rattle.std.specs.Prelude.{ℕ, Ok, Err, Result}
use Rattle.cases.specs.declared.Stopped.{Stopped}

abbrev pub filled : Result ℕ Stopped → ℕ
filled (Ok n) = n
filled (Err stopped) = stopped.count
