-- What the test by the parts asks, and what it says of the children, where the tables are those of a vector.
use Prim.Native.Nat.{ℕ, suc, ◌-◌, ◌*◌, ◌^◌, ◌<◌}
use mathlib.Core.Path.{◌≡◌}
use mathlib.Core.Bool.{false}
use mathlib.Core.List.{List}
use lib.IntN.{ℤ}
use Rattle.model.specs.Constellation.{bits_of}
use Rattle.constellation.specs.Points.{complex_of}
use Rattle.metric.specs.Rows.{row_at, remainder_of, child_of}
use Rattle.axes.specs.Tables.{axis_place, table_part, Tabled}
use Rattle.axes.specs.Tables.Axis.{real, imaginary}
use Rattle.axes.proofs.Bridge.{axis_asked, part_small, child_parts}
use Rattle.bounding.specs.Cut.{OpensAsked, TableAsked, Beyond}
use Rattle.bounding.specs.Answers.{some_child_may_pass_by_parts}
use Rattle.bounding.proofs.Answers.{parts_all_shut}

module _ {m q row : ℕ} {re im : ℤ} {partial : ℕ} {numbers tables : List ℤ} {entries : List ℕ} {own : ℕ}
    (asked : OpensAsked m q row re im partial numbers entries own) (tabled : Tabled m q numbers tables) where
  -- It asks nothing that is not known where the test by distances was asked
  pub parts_asked : TableAsked q row re im partial tables entries own
  parts_asked = record {
    bits = asked.vector.bits;
    first = record {
      axis = axis_asked asked.vector row asked.inside tabled real re asked.low_re;
      small = part_small asked.vector row asked.inside tabled real re asked.low_re;
    };
    second = record {
      axis = axis_asked asked.vector row asked.inside tabled imaginary im asked.low_im;
      small = part_small asked.vector row asked.inside tabled imaginary im asked.low_im;
    };
    low = asked.low;
    stream = asked.stream;
    widest = asked.widest;
    symbol = asked.symbol;
  }

  -- Where it is false every child would be cut
  pub parts_cut : (base : ℕ)
      → some_child_may_pass_by_parts q partial base (table_part tables (axis_place row real) re) (table_part tables (axis_place row imaginary) im) entries own ≡ false
      → (node : ℕ) → complex_of re im ≡ remainder_of q (row_at m q numbers row) (bits_of ((m - suc row) * q) node)
      → (s : ℕ) → s < 2 ^ q → Beyond q base entries own (child_of m q numbers row node partial s) s
  parts_cut base shut node is s h =
      rw (child_parts asked.vector row asked.inside node (complex_of re im) is tabled asked.low_re asked.low_im partial s h)
      (parts_all_shut q partial base _ _ entries own parts_asked.first.small parts_asked.second.small asked.widest asked.symbol shut s h)
