-- Of the rows' smallest keys, which stand behind the children's, the first one of the smallest.
use Prim.Native.Nat.{◌+◌, ◌-◌, ◌/◌, ◌≤◌, ◌<◌}
use mathlib.Core.Path.{◌∙◌}
use native.Mathlib.Omega.{arith}
use lib.ListN.{length}
use lib.Pow.{pow_pos}
use Rattle.enumeration.proofs.Least.{least_part, part_at}
use Rattle.enumeration.proofs.Taking.{least_row}
use Rattle.enumeration.proofs.least_row.Goals as goal

pub returns : goal.returns
returns c =
    let q = c.args.q in
    let keys = c.args.keys.now in
    let g = c.of-grid.result in
    let e = c.of-grid.ensures in
    let some : 0 < g.rows = omega (arith, pow_pos (q - q / 2)) in
    let room : g.children + g.rows ≤ length keys = omega (arith, c.requires.1.wide) in
    let first = c.least_first-row.ensures.0 ∙ least_part keys g.children g.rows some room in
    rw (part_at keys g.children g.rows c.least_first-row.result (omega arith))
    (least_row q g.children g.rows c.least_first-row.result keys e.0 e.1 c.requires.1 first)
