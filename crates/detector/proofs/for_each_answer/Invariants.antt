-- Before vector k it is its turn.
use Rattle.std.proofs.Common.{◌≡◌, length}
use Rattle.model.specs.Block.{most_bits}
use Rattle.search.specs.Nodes.{key_places}
use Rattle.detector.proofs.Turns.{Turn}
use Rattle.detector.proofs.for_each_answer.Given as goal

abbrev pub invariant-loop-k : goal.invariant-loop-k
invariant-loop-k g l = record {
  keys : length l.keys ≡ key_places;
  soft : length l.soft ≡ most_bits;
  turn : Turn g.S.Sink.can_take g.S.Sink.takes l.h.layout l.numbers l.initial.sink l.k l.spare l.sink;
}
