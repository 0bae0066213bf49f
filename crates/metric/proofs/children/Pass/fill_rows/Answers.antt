-- The invariant: the children of the first a real labels have their whole shared metric, and the other places are as before the pass.
use mathlib.Core.Path.{◌≡◌, sym, ap}
use Prim.Native.Nat.{ℕ, ◌+◌, ◌-◌, ◌*◌, ◌/◌, ◌^◌, ◌≤◌, ◌<◌}
use native.Mathlib.Nat.{zero-mul}
use native.Mathlib.Omega.{arith}
use lib.ListN.{length, length-take, length-drop}
use lib.Pow.{pow_mono}
use Rattle.metric.specs.Parts.{axis_width, span}
use Rattle.metric.proofs.Grid.{row_room, row_more, row_written, small_part}
use Rattle.metric.proofs.Pass.{pass_none}
use Rattle.metric.proofs.children.Pass.fill_rows.Goals as goal

-- A row's places are within the keys
room : (q a n : ℕ) → n ≡ 2 ^ (q / 2) → a < 2 ^ (q - q / 2) → a * n + n ≤ 2 ^ q
room q a n e h = rw e (row_room q a h)

pub loop-a-init : goal.loop-a-init
loop-a-init c = let z : 0 * c.columns-n.result ≡ 0 = zero-mul _ in rw z (sym (pass_none _ _ _ _))

pub bounds-axes-a : goal.bounds-axes-a
bounds-axes-a c =
    let r : c.args.self.now.q - c.args.self.now.q / 2 ≤ axis_width = omega (arith, c.args.self.now.asked.0) in
    let few : 2 ^ (c.args.self.now.q - c.args.self.now.q / 2) ≤ span = pow_mono r in
    omega arith

pub slice_bounds-fill_sums-end : goal.slice_bounds-fill_sums-end
slice_bounds-fill_sums-end c = omega (arith, room c.args.self.now.q c.loop-a.a c.columns-n.result c.columns-n.ensures.0 (omega arith))

pub fill_sums-requires : goal.fill_sums-requires
fill_sums-requires c =
    let a = c.args in
    let s = a.self.now in
    let copied = simp (length-take, length-drop) at (ap length c.copy_from_slice.ensures.after) in (
      omega (arith, c.args.self.now.asked.2 c.loop-a.a),
      rw c.copy_from_slice.ensures.after (small_part s.axes.now c.args.self.now.asked.2 _ span),
      simp (length-take, length-drop) (omega (arith, copied, room s.q c.loop-a.a c.columns-n.result c.columns-n.ensures.0 (omega arith))),
    )

pub loop-a-preserved : goal.loop-a-preserved
loop-a-preserved c =
    let a = c.args in
    let s = a.self.now in
    let n = c.columns-n.result in
    let whole : c.loop-a.a * n + n - c.loop-a.a * n ≡ n = omega arith in
    let same : 16 + n - 16 ≡ n = omega arith in
    row_more s.q s.shared s.axes.now c.loop-a.a n a.keys.now c.loop-a.keys _ c.columns-n.ensures.0 c.loop-a.invariant
    (rw (whole, c.fill_sums.ensures, c.copy_from_slice.ensures.after, same)
    (row_written _ (c.loop-a.a * n) n s.axes.now c.loop-a.keys (omega arith) (omega (arith, room s.q c.loop-a.a n c.columns-n.ensures.0 (omega arith)))))
