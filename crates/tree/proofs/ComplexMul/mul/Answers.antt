-- No step wraps, so the parts are those of the product.
use lib.IntN.{◌+ℤ◌, ◌-ℤ◌}
use Rattle.integers.proofs.Magnitudes.{nat_abs-add, nat_abs-sub}
use Rattle.tree.proofs.Products.{product_fits, joined_fits, joined_is}
use Rattle.tree.proofs.ComplexMul.mul.Goals as goal

pub overflow_sub-re : goal.overflow_sub-re
overflow_sub-re c =
    joined_fits ◌-ℤ◌ nat_abs-sub c.args.self.re c.args.other.re c.args.self.im c.args.other.im c.requires.0 c.requires.2 c.requires.1 c.requires.3

pub overflow_mul-im : goal.overflow_mul-im
overflow_mul-im c = product_fits c.args.self.re c.args.other.im c.requires.0 c.requires.3

pub overflow_mul-im-2 : goal.overflow_mul-im-2
overflow_mul-im-2 c = product_fits c.args.self.im c.args.other.re c.requires.1 c.requires.2

pub overflow_add-im : goal.overflow_add-im
overflow_add-im c =
    joined_fits ◌+ℤ◌ nat_abs-add c.args.self.re c.args.other.im c.args.self.im c.args.other.re c.requires.0 c.requires.3 c.requires.1 c.requires.2

pub returns : goal.returns
returns c =
    let s = c.args.self in
    let o = c.args.other in (
      joined_is ◌-ℤ◌ nat_abs-sub s.re o.re s.im o.im c.requires.0 c.requires.2 c.requires.1 c.requires.3,
      joined_is ◌+ℤ◌ nat_abs-add s.re o.im s.im o.re c.requires.0 c.requires.3 c.requires.1 c.requires.2,
    )
