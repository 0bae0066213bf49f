-- All lines can be written, and then they are.
use Rattle.std.proofs.Common.{refl, rules}
use Rattle.block.specs.Contents.{block_of}
use Rattle.listing.proofs.Lines.{all_ready, all_taken, all_listed}
use Rattle.listing.proofs.write_vectors.Goals as goal

pub for_each_answer-requires-clause-ready : goal.for_each_answer-requires-clause-ready
for_each_answer-requires-clause-ready c =
    let p = c.requires in all_ready (block_of c.args.h.layout c.args.numbers.now) p.asked.held.ranged _ refl p.buffer

pub returns : goal.returns
returns c =
    let b = block_of c.args.h.layout c.args.numbers.now in
    let ranged = c.requires.asked.held.ranged in
    let w = all_taken b ranged _ c.for_each_answer.new.sink c.for_each_answer.ensures in
    let same = w.same_text in
    all_listed b ranged refl w (search rules)
