-- Both axes by the table, each with its own entries.
use Rattle.std.proofs.Common.{◌+◌, ◌*◌, arith, rules, ◌∙◌, w64, SFits, to_z-of_z}
use Rattle.axes.specs.Tables.{axis_place, axis_bits, table_part}
use Rattle.axes.specs.Tables.Axis.{real, imaginary}
use Rattle.bounding.proofs.Answers.{parts_by}
use Rattle.bounding.proofs.Cuts.{own_entries, entries_are, asked_cut, same_part}
use Rattle.bounding.proofs.Halves.{labels}
use Rattle.bounding.proofs.some_child_may_pass_by_parts.Goals as goal

pub invariant_of-re : goal.invariant_of-re
invariant_of-re c =
    let a = c.args in
    let re : SFits w64 a.left.re = search rules in
    let at = axis_place a.row real in
    let is = entries_are a.tables.now at c.as_chunks.result.0.now (2 * a.row) c.as_chunks.ensures.front (omega arith) (omega arith) in
    record { asked = rw (is, to_z-of_z re) (asked_cut a.tables.now at a.left.re (axis_bits a.q real) c.requires.first) }

pub invariant_of-im : goal.invariant_of-im
invariant_of-im c =
    let a = c.args in
    let im : SFits w64 a.left.im = search rules in
    let at = axis_place a.row imaginary in
    let is = entries_are a.tables.now at c.as_chunks.result.0.now (2 * a.row + 1) c.as_chunks.ensures.front (omega arith) (omega arith) in
    record { asked = rw (is, to_z-of_z im) (asked_cut a.tables.now at a.left.im (axis_bits a.q imaginary) c.requires.second) }

pub returns : goal.returns
returns c =
    let a = c.args in
    let re : SFits w64 a.left.re = search rules in
    let im : SFits w64 a.left.im = search rules in
    let place_re = axis_place a.row real in
    let place_im = axis_place a.row imaginary in
    let first = entries_are a.tables.now place_re c.as_chunks.result.0.now (2 * a.row) c.as_chunks.ensures.front (omega arith) (omega arith) in
    let second = entries_are a.tables.now place_im c.as_chunks.result.0.now (2 * a.row + 1) c.as_chunks.ensures.front (omega arith) (omega arith) in
    rw (first, second, to_z-of_z re, to_z-of_z im) at c.some_child_below.ensures
    ∙ parts_by a.q a.partial a.base (table_part a.tables.now place_re a.left.re) (table_part a.tables.now place_im a.left.im)
    (table_part (own_entries a.tables.now place_re) 0 a.left.re) (table_part (own_entries a.tables.now place_im) 0 a.left.im) a.entries.now a.own c.requires.bits
    c.requires.symbol
    (λ g h. same_part a.tables.now place_re a.left.re g (omega (arith, labels a.q real c.requires.bits)))
    (λ g h. same_part a.tables.now place_im a.left.im g (omega (arith, labels a.q imaginary c.requires.bits)))
