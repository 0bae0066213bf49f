-- The invariant: the first g products are filled in.
use mathlib.Core.Path.{◌≡◌}
use Rattle.metric.specs.Parts.{filled}
use Rattle.axes.specs.Tables.{label_product}
use Rattle.axes.proofs.table.Amplitudes.fill_label_products.Given as goal

abbrev pub invariant-loop-g : goal.invariant-loop-g
invariant-loop-g l = l.products ≡ filled (label_product l.diagonal l.self.bits) l.g l.initial.products
