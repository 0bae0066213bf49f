-- Document 01's listing, computed from its record, and a count of bits that go against their priors.
use mathlib.Core.Path.{◌≡◌, refl}
use mathlib.Core.List.{[], ◌∷◌}
use lib.IntN.{pos, negsuc}
use Rattle.model.specs.Constellation.{bits_of, number, symbols, amplitude, point}
use Rattle.model.specs.Metric.{dot, residual, prior_cost, increment, metric, distance, cost, all_priors}
use Rattle.model.specs.Order.{earlier}
use Rattle.model.specs.Soft.{least_of, those, pick, up_from}
use Rattle.model.specs.Walk.{passes, insert, sort, children, walk_below}
use Rattle.model.specs.Block.{answer, total_count}
use Rattle.owners.specs.Owners.{of_owner, shared_from}
use Rattle.wire.specs.Reading.{number_at, groups, above_digits, last_group}
use Rattle.wire.specs.Folding.{unfolded}
use Rattle.block.specs.Reading.{by_number, numbers_at, kinds_of, runs_of, matrix_runs, vector_kinds, starts_with, layout_of, stages_at}
use Rattle.block.specs.Reading.{read_record, read_whole}
use Rattle.block.specs.Contents.{complexes, rows_from, rows_of, block_of}
use Rattle.block.proofs.Readings.{listing_record}
use Rattle.lines.specs.Against.{against_in, against}
use Rattle.lines.specs.Text.{decimals, decimal_of, field, value_text, soft_text, head_line, vector_line, lines_from, total_line}
use Rattle.lines.specs.Text.{block_text, listing_of}

-- Bits 1, 0, 1, 1 of priors 5, -3, 0, -2: the first two go against
pub against_reading : against (pos 5 ∷ negsuc 2 ∷ pos 0 ∷ negsuc 1 ∷ []) 11 ≡ 2
unfolding against_in bits_of
against_reading = refl

-- All that is printed of document 01's record
pub listing_reading : listing_of listing_record
    ≡ 115 ∷ 116 ∷ 114 ∷ 101 ∷ 97 ∷ 109 ∷ 115 ∷ 32 ∷ 50 ∷ 32 ∷ 98 ∷ 105 ∷ 116 ∷ 115 ∷ 32 ∷ 49 ∷ 32 ∷ 118 ∷ 101 ∷ 99 ∷ 116 ∷ 111 ∷ 114
    ∷ 115 ∷ 32 ∷ 50 ∷ 32 ∷ 99 ∷ 108 ∷ 105 ∷ 112 ∷ 32 ∷ 49 ∷ 48 ∷ 32 ∷ 115 ∷ 104 ∷ 97 ∷ 114 ∷ 101 ∷ 32 ∷ 51 ∷ 10
    ∷ 49 ∷ 32 ∷ 115 ∷ 116 ∷ 111 ∷ 112 ∷ 112 ∷ 101 ∷ 100 ∷ 32 ∷ 52 ∷ 32 ∷ 50 ∷ 32 ∷ 48 ∷ 32 ∷ 45 ∷ 56 ∷ 32 ∷ 49 ∷ 48 ∷ 32 ∷ 49 ∷ 10
    ∷ 50 ∷ 32 ∷ 115 ∷ 116 ∷ 111 ∷ 112 ∷ 112 ∷ 101 ∷ 100 ∷ 32 ∷ 50 ∷ 32 ∷ 50 ∷ 32 ∷ 48 ∷ 32 ∷ 45 ∷ 49 ∷ 48 ∷ 32 ∷ 49 ∷ 48 ∷ 32 ∷ 49 ∷ 10
    ∷ 116 ∷ 111 ∷ 116 ∷ 97 ∷ 108 ∷ 32 ∷ 54 ∷ 10
    ∷ []
unfolding listing_of read_whole read_record layout_of stages_at vector_kinds numbers_at kinds_of runs_of matrix_runs by_number number_at groups above_digits
    last_group unfolded starts_with block_of rows_of rows_from complexes up_from number symbols amplitude point dot residual prior_cost increment
    metric distance cost all_priors earlier least_of those pick passes insert sort children walk_below answer of_owner shared_from block_text head_line lines_from
    total_line total_count vector_line field decimal_of decimals against_in bits_of soft_text value_text
listing_reading = refl
