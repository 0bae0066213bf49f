-- Whole rows, and the first columns of the next one: together the first k children.
use mathlib.Core.Path.{◌≡◌, ap, ◌∙◌}
use mathlib.Core.List.{List}
use Prim.Native.Nat.{ℕ, ◌+◌, ◌-◌, ◌*◌, ◌/◌, ◌%◌, ◌^◌, ◌≤◌, ◌<◌}
use native.Mathlib.Nat.{le_of_suc-le-suc, div-lt_iff_lt-mul, div-add-mod', mod-lt, suc-mul}
use native.Mathlib.Omega.{arith}
use lib.ListN.{length, length-take, length-drop}
use lib.Pow.{pow_mono, pow_pos}
use Rattle.metric.specs.Parts.{axis_width, span, real_in, row_metric, measured_to, filled_from}
use Rattle.metric.proofs.Grid.{rows_all, row_reached, row_written, small_part}
use Rattle.metric.proofs.Parted.{pass_parted}
use Rattle.metric.proofs.Pass.{pass_length}
use Rattle.metric.proofs.children.Pass.fill_first.Goals as goal

rows_few : (q k n : ℕ) → n ≡ 2 ^ (q / 2) → k ≤ 2 ^ q → k / n ≤ 2 ^ (q - q / 2)
rows_few q k n e h =
    rw e
    (le_of_suc-le-suc
    ((div-lt_iff_lt-mul (pow_pos (q / 2))).1
    (omega (arith, rows_all q, suc-mul (2 ^ (q - q / 2)) (2 ^ (q / 2)), pow_pos (q / 2)))))

first_is : (q shared : ℕ) (axes : List ℕ) (k n : ℕ) (keys mid after : List ℕ) → n ≡ 2 ^ (q / 2)
    → mid ≡ measured_to q shared axes (k / n * 2 ^ (q / 2)) keys
    → after ≡ filled_from (k / n * n) (row_metric (shared + real_in axes (k / n)) axes) (k % n) mid → after ≡ measured_to q shared axes k keys
first_is q shared axes k n keys mid after e em ea =
    ea ∙ ap (filled_from (k / n * n) (row_metric (shared + real_in axes (k / n)) axes) (k % n)) em ∙ rw e (row_reached q shared axes k keys)

pub fill_rows-requires : goal.fill_rows-requires
fill_rows-requires c =
    (c.requires.0, rows_few c.args.self.now.q c.args.k c.columns-n.result c.columns-n.ensures.0 c.requires.1)

pub bounds-axes-rows : goal.bounds-axes-rows
bounds-axes-rows c =
    let r : c.args.self.now.q - c.args.self.now.q / 2 ≤ axis_width = omega (arith, c.args.self.now.asked.0) in
    omega (arith, rows_few c.args.self.now.q c.args.k c.columns-n.result c.columns-n.ensures.0 c.requires.1, pow_mono r)

pub fill_sums-requires : goal.fill_sums-requires
fill_sums-requires c =
    let a = c.args in
    let s = a.self.now in
    let n = c.columns-n.result in
    let some : 0 < n = omega (arith, pow_pos (s.q / 2)) in (
      omega (arith, c.args.self.now.asked.2 (a.k / n)),
      small_part s.axes.now c.args.self.now.asked.2 _ span,
      simp (length-take, length-drop) (omega (arith, mod-lt a.k some, div-add-mod' a.k n, ap length c.fill_rows.ensures ∙ pass_length _ _ _ _ _)),
    )

pub returns : goal.returns
returns c =
    let a = c.args in
    let s = a.self.now in
    let n = c.columns-n.result in
    let some : 0 < n = omega (arith, pow_pos (s.q / 2)) in
    let rest : a.k - a.k / n * n ≡ a.k % n = omega (arith, div-add-mod' a.k n) in
    let same : 16 + a.k % n - 16 ≡ a.k % n = omega arith in
    let whole = first_is s.q s.shared s.axes.now a.k n a.keys.now _ _ c.columns-n.ensures.0 c.fill_rows.ensures
    (rw (rest, c.fill_sums.ensures, same) (row_written _ (a.k / n * n) (a.k % n) s.axes.now c.fill_rows.new.keys (omega (arith, mod-lt a.k some)) (omega (arith, div-add-mod' a.k n)))) in
    (whole, pass_parted s.q s.shared s.axes.now a.keys.now a.k c.requires.1 c.requires.0 _ whole)
