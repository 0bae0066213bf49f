-- A record is read or refused. Where it is read the lent list is handed on.
use Rattle.std.proofs.Common.{List, ℤ, pos, replicate, arith}
use Rattle.std.proofs.lemmas.List.{length-replicate}
use Rattle.block.specs.Reading.{most_numbers}
use Rattle.search.proofs.Records.{lent_holds}
use Rattle.listing.proofs.Listings.{whole, listed_block, listed_refused}
use Rattle.listing.proofs.list.Goals as goal

-- The lent list, before it is filled
abbrev empty : List ℤ
empty = replicate most_numbers (pos 0)

pub write_block-requires : goal.write_block-requires
write_block-requires c =
    let held = lent_holds _ _ empty _ (length-replicate most_numbers (pos 0)) c.in-Ok.ensures in
    rw c.layout_of.ensures (record { held = held; buffer = omega (arith, c.told-text) })

pub returns-in-Ok-clause-value : goal.returns-in-Ok-clause-value
returns-in-Ok-clause-value c =
    let wrote = rw c.layout_of.ensures at c.write_block.ensures in
    let block = listed_block c.args.record.now empty c.read_whole.new.numbers _ (length-replicate most_numbers (pos 0)) c.in-Ok.ensures in
    (whole block (omega (arith, wrote.0, c.told-text)) wrote.1).0

pub returns-in-Ok-clause-text_after : goal.returns-in-Ok-clause-text_after
returns-in-Ok-clause-text_after c =
    let wrote = rw c.layout_of.ensures at c.write_block.ensures in
    let block = listed_block c.args.record.now empty c.read_whole.new.numbers _ (length-replicate most_numbers (pos 0)) c.in-Ok.ensures in
    (whole block (omega (arith, wrote.0, c.told-text)) wrote.1).1.0

pub returns-in-Err-clause-value : goal.returns-in-Err-clause-value
returns-in-Err-clause-value c =
    let refused = listed_refused c.args.record.now empty _ _ c.in-Err.ensures c.refusal_number.ensures in
    let w = c.new-writer.ensures in
    let wrote = rw (w.start, w.bytes) at c.write_last.ensures.1.wrote in
    (whole refused (omega (arith, c.write_last.ensures.0, w.start, c.told-text)) wrote).0

pub returns-in-Err-clause-text_after : goal.returns-in-Err-clause-text_after
returns-in-Err-clause-text_after c =
    let refused = listed_refused c.args.record.now empty _ _ c.in-Err.ensures c.refusal_number.ensures in
    let w = c.new-writer.ensures in
    let wrote = rw (w.start, w.bytes) at c.write_last.ensures.1.wrote in
    (whole refused (omega (arith, c.write_last.ensures.0, w.start, c.told-text)) wrote).1.0
