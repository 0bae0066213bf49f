-- The two parts that are written are the answer's numbers.
use Rattle.std.proofs.Common.{sym, [], ◌∷◌, map}
use Rattle.wire.specs.Folding.{folded}
use Rattle.wire.proofs.Runs.{writes_then, writes_same}
use Rattle.replies.specs.Reply.{mark_of}
use Rattle.replies.proofs.Replies.{written_append}
use Rattle.detector.proofs.WriterSink.take.Goals as goal

pub returns : goal.returns
returns c =
    let f = c.args.found in
    writes_same (sym (written_append (mark_of f.stopped ∷ f.count ∷ f.label ∷ []) (map folded c.args.soft.now)))
    (writes_then c.write_found.ensures.1 c.write_soft.ensures)
