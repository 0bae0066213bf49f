-- Document 01's reply to its listing record, and those to records with W and with owners, computed from the definitions.
use Prim.Native.Nat.{ℕ}
use mathlib.Core.Path.{◌≡◌, refl}
use mathlib.Core.List.{List, [], ◌∷◌, ◌++◌}
use Rattle.model.specs.Constellation.{number, symbols, amplitude, point}
use Rattle.model.specs.Metric.{dot, residual, prior_cost, increment, metric, cost, all_priors}
use Rattle.model.specs.Order.{earlier}
use Rattle.model.specs.Soft.{least_of, those, pick, up_from}
use Rattle.model.specs.Walk.{passes, insert, sort, children, walk_below}
use Rattle.model.specs.Block.{answer}
use Rattle.owners.specs.Owners.{of_owner, shared_from}
use Rattle.wire.specs.Reading.{number_at, groups, above_digits, last_group}
use Rattle.wire.specs.Writing.{groups_of, bytes_of}
use Rattle.wire.specs.Folding.{folded, unfolded}
use Rattle.block.specs.Reading.{by_number, numbers_at, kinds_of, runs_of, matrix_runs, vector_kinds, starts_with, layout_of, stages_at}
use Rattle.block.specs.Reading.{read_record, read_whole}
use Rattle.block.specs.Contents.{complexes, rows_from, rows_of, block_of}
use Rattle.refusals.specs.Filling.{filled}
use Rattle.block.proofs.Readings.{listing_record, weakened_record, vector_bytes, owned_record}
use Rattle.replies.specs.Reply.{answers_numbers, written, reply_of, reply_room}
use Rattle.detector.specs.Outcome.{by_room, outcome}

-- A record of four vectors, the same two in turn, with C = W = 10 and D = 3
abbrev in_turn : List ℕ → List ℕ → List ℕ
in_turn v w = (0x43 ∷ 0x42 ∷ 0x52 ∷ 0x33 ∷ 0x02 ∷ 0x01 ∷ 0x04 ∷ 0x0A ∷ 0x0A ∷ 0x03 ∷ []) ++ v ++ w ++ v ++ w

-- "Reply: 43 42 53 31 02 01 02 01 04 02 0F 14 01 02 02 13 14", into the 7 + 2 × (9 + 4 × 2 × 1) = 41 bytes that are asked for. And the
-- same vector once, with C = 10, W = 7 and D = 4: stopped at 4 nodes, label 2; bit 1 has both sides, -8, and bit 2 no walked label with 1: +7.
-- One vector of owner 4, which is stopped at its first label; and the pair's vector of owners 1, 2, 1, 2, C = W = 10, D = 3: each owner has
-- 6 nodes, 4 for its first vector and 2 for its second
pub reply_readings : (outcome listing_record 41
    ≡ filled
    (0x43 ∷ 0x42 ∷ 0x53 ∷ 0x31 ∷ 0x02 ∷ 0x01 ∷ 0x02 ∷ 0x01 ∷ 0x04 ∷ 0x02 ∷ 0x0F ∷ 0x14 ∷ 0x01 ∷ 0x02 ∷ 0x02 ∷ 0x13 ∷ 0x14 ∷ []))
    × (outcome weakened_record 24
    ≡ filled (0x43 ∷ 0x42 ∷ 0x53 ∷ 0x31 ∷ 0x02 ∷ 0x01 ∷ 0x01 ∷ 0x01 ∷ 0x04 ∷ 0x02 ∷ 0x0F ∷ 0x0E ∷ []))
    × (outcome owned_record 20
    ≡ filled (0x43 ∷ 0x42 ∷ 0x53 ∷ 0x31 ∷ 0x01 ∷ 0x01 ∷ 0x01 ∷ 0x01 ∷ 0x01 ∷ 0x00 ∷ 0x06 ∷ []))
    × (outcome (in_turn (0x01 ∷ vector_bytes) (0x02 ∷ vector_bytes)) 75
    ≡ filled
    (0x43 ∷ 0x42 ∷ 0x53 ∷ 0x31 ∷ 0x02 ∷ 0x01 ∷ 0x04 ∷ 0x01 ∷ 0x04 ∷ 0x02 ∷ 0x0F ∷ 0x14 ∷ 0x01 ∷ 0x04 ∷ 0x02 ∷ 0x0F ∷ 0x14 ∷ 0x01 ∷ 0x02 ∷ 0x02 ∷ 0x13
    ∷ 0x14 ∷ 0x01 ∷ 0x02 ∷ 0x02 ∷ 0x13 ∷ 0x14 ∷ []))
unfolding outcome by_room reply_room reply_of answers_numbers written bytes_of groups_of folded read_whole read_record layout_of stages_at vector_kinds
    numbers_at kinds_of runs_of matrix_runs by_number number_at groups above_digits last_group unfolded starts_with block_of rows_of rows_from complexes
    up_from number symbols amplitude point dot residual prior_cost increment metric cost all_priors earlier least_of those pick passes insert sort
    children walk_below answer of_owner shared_from
reply_readings = (refl, refl, refl, refl)
