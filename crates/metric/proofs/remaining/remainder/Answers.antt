-- The invariant: what is left so far, less the entries from t on times their points, is what remains in the end; and each turn adds at
-- most the largest term to the magnitude of a part.
use mathlib.Core.Path.{◌≡◌, ap, sym, subst, ◌∙◌}
use Prim.Native.Nat.{ℕ, ◌%◌, ◌≤◌, ◌<◌, ◌^◌}
use native.Mathlib.Nat.{mod-lt}
use native.Mathlib.Omega.{arith}
use mathlib.Core.List.{List}
use lib.IntN.{ℤ, nat_abs}
use lib.Pow.{pow_pos}
use Rattle.integers.proofs.Magnitudes.{nat_abs-sub}
use Rattle.model.specs.Constellation.{Complex, ◌⊗◌, point, bits_of}
use Rattle.constellation.specs.Points.{complex_of, point_in, Points}
use Rattle.metric.proofs.Rows.{received_within}
use Rattle.metric.proofs.Remainders.{rest_start, rest_turn, rest_done, term_few, term_asked}
use Rattle.metric.proofs.remaining.remainder.Goals as goal

pub loop-t-init : goal.loop-t-init
loop-t-init c =
    let y = received_within c.requires.0 c.args.level c.requires.1 in
    let r = ap (λ (z : Complex). z.re) c.entry-left.ensures in
    let i = ap (λ (z : Complex). z.im) c.entry-left.ensures in
    (omega (arith, ap nat_abs r, y.re), omega (arith, ap nat_abs i, y.im), rest_start c.args.m c.args.q c.args.numbers.now c.args.level c.args.node _ _ r i)

-- A turn's symbol is one of the constellation, and its point is that of the Gray rule
below : (q n symbol : ℕ) → symbol ≡ n % 2 ^ q → symbol < 2 ^ q
below q n symbol e = subst (λ (x : ℕ). x < 2 ^ q) (sym e) (mod-lt n (pow_pos q))

product : {q : ℕ} {points : List ℤ} → Points q points → (n symbol : ℕ) → symbol ≡ n % 2 ^ q → (x y : ℤ) (z : Complex)
    → complex_of x y ≡ z ⊗ point_in points symbol → complex_of x y ≡ z ⊗ point (bits_of q symbol)
product {q} made n symbol is x y z e = e ∙ ap (λ (p : Complex). z ⊗ p) (made.each symbol (below q n symbol is))

pub term-requires : goal.term-requires
term-requires c =
    let symbol = c.symbol_at-symbol in
    term_asked c.requires.0 c.requires.2 c.args.level c.loop-t.t symbol.result c.requires.1 c.loop-t-test.true (below c.args.q _ symbol.result symbol.ensures)

pub sub-left-requires : goal.sub-left-requires
sub-left-requires c =
    let t = c.loop-t.t in
    let short : t ≤ 3 = omega (arith, c.requires.0.streams) in
    let p = product c.requires.2 _ c.symbol_at-symbol.result c.symbol_at-symbol.ensures _ _ _ c.term.ensures in
    let few = term_few c.requires.0 c.args.level t _ c.requires.1 c.loop-t-test.true _ _ p in
    (omega arith, omega arith, omega arith, omega arith)

pub loop-t-preserved : goal.loop-t-preserved
loop-t-preserved c =
    let a = c.args in
    let l = c.loop-t in
    let d = c.term.result in
    let p = product c.requires.2 _ c.symbol_at-symbol.result c.symbol_at-symbol.ensures _ _ _ c.term.ensures in
    let few = term_few c.requires.0 a.level l.t _ c.requires.1 c.loop-t-test.true _ _ p in (
      omega (arith, ap nat_abs c.sub-left.ensures.0, nat_abs-sub l.left.re d.re),
      omega (arith, ap nat_abs c.sub-left.ensures.1, nat_abs-sub l.left.im d.im),
      rest_turn a.m a.q a.numbers.now a.level a.node l.t l.left.re l.left.im l.invariant.2 c.loop-t-test.true d.re d.im _
          c.symbol_at-symbol.ensures p _ _ c.sub-left.ensures.0 c.sub-left.ensures.1,
    )

pub returns : goal.returns
returns c =
    let s = c.args in
    let few : c.loop-t.t ≤ 3 = omega (arith, c.requires.0.streams) in
    (rest_done s.m s.q s.numbers.now s.level s.node c.loop-t.t _ _ c.loop-t.invariant.2 (omega arith), omega arith, omega arith)
