-- In each arm the part is known, and so is its list of runs.
use mathlib.Core.Path.{sym}
use Rattle.block.specs.Reading.{runs_of}
use Rattle.block.proofs.Runs.{vector_runs_lem}
use Rattle.block.proofs.Part.run_count.Goals as goal

pub returns-in-First : goal.returns-in-First
unfolding runs_of
returns-in-First c = rw c.in-First.is

pub returns-in-Sizes : goal.returns-in-Sizes
unfolding runs_of
returns-in-Sizes c = rw c.in-Sizes.is

pub returns-in-Limits : goal.returns-in-Limits
unfolding runs_of
returns-in-Limits c = rw c.in-Limits.is

pub returns-in-Vector : goal.returns-in-Vector
returns-in-Vector c =
    rw c.in-Vector.is (sym (vector_runs_lem _ _ _))
