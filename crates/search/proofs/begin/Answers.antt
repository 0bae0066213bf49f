-- The keys of the root's children are filled in.
use Rattle.expansion.proofs.Kids.{filled_in}
use Rattle.search.proofs.begin.Goals as goal

pub walk-requires-clause-filled : goal.walk-requires-clause-filled
walk-requires-clause-filled c =
    let v = c.args.vector in
    filled_in v.asked c.requires.asked.node c.requires.inner v.tabled c.args.keys.now c.requires.asked.room c.fill_keys.ensures
