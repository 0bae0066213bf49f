-- The walk below a node ends: each goes one level down. Before each turn over the node's children the state is that of the search below the
-- node after the children that were tried.
use Rattle.std.proofs.Common.{◌-◌, ◌≡◌, false, ◌^◌, length}
use Rattle.search_spec.specs.Program.{taken_in, limits_of, kept_of, below}
use Rattle.search_spec.specs.Parts.{BestParts}
use Rattle.hypotheses.specs.Limits.{vector_for, minima_size}
use Rattle.search.proofs.Search.{Searching}
use Rattle.search.proofs.+walk.Given as goal

abbrev pub decreases-walk : goal.decreases-walk
decreases-walk l = l.node.level

abbrev pub invariant-loop-left : goal.invariant-loop-left
invariant-loop-left l =
    let t = l.vector.task in
    let v = vector_for t l.vector.numbers.now in
    record {
      whole : length l.minima ≡ minima_size;
      same : l.parent.level ≡ l.fn.node.level;
      state : Searching t.streams t.width t.clip l.vector.numbers.now t.allowance l.parent
          (below v t.allowance l.fn.node.level l.fn.node.bits l.fn.node.partial
          (kept_of l.fn.kept.count false (taken_in l.fn.kept.label l.fn.kept.best l.fn.minima))) (2 ^ t.width - l._left) l.keys
          (kept_of l.k.count l.k.stopped (taken_in l.k.label l.k.best l.minima)) (limits_of l.minima);
      parts : BestParts v l.k;
    }
