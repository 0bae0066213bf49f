-- What remains of y in a row, entry by entry: the entries from t on and the last bits of the node give what has still to be taken away.
use Prim.Native.Nat.{ℕ, suc, ◌+◌, ◌-◌, ◌*◌, ◌/◌, ◌%◌, ◌^◌, ◌≤◌, ◌<◌}
use mathlib.Core.Path.{◌≡◌, sym, ◌∙◌, ap, ap₂}
use mathlib.Core.List.{List, map}
use native.Mathlib.Nat.{add_comm, suc-mul, mul-le-mul}
use native.Mathlib.Numerals.{add-one}
use native.Mathlib.Omega.{arith}
use lib.ListN.{length, get_or}
use lib.IntN.{ℤ, pos, nat_abs, ◌-ℤ◌, +ℤ_idr}
use lib.Pow.{pow_mono}
use Rattle.model.specs.Constellation.{Complex, Bits, bits_of, ◌⊕◌, ◌⊖◌, ◌⊗◌, point}
use Rattle.model.specs.Metric.{dot}
use Rattle.model.specs.Soft.{up_from}
use Rattle.model.specs.Block.{BothWithin, most_width, most_entry}
use Rattle.model.proofs.Bounds.{largest_amplitude, largest_term, point_bound, product_bound, difference_bound, dot_bound}
use Rattle.model.proofs.Numbers.{length-bits_of, take_bits, drop_bits, low_bits}
use Rattle.constellation.specs.Points.{complex_of, Points}
use Rattle.block.specs.Contents.{complex_at}
use Rattle.metric.specs.Parts.{remainder_bound, span}
use Rattle.metric.specs.Rows.{row_start, row_at, remainder_of, VectorAsked, TermAsked}
use Rattle.metric.proofs.Increments.{less_sum}
use Rattle.metric.proofs.Rows.{row_end, entry_within, row_in_range}

-- One entry more is taken away
module _ (q : ℕ) (f : ℕ → Complex) (node t : ℕ) (left : Complex) where
  one_more : (u : ℕ) → left ⊖ dot q (map f (up_from t (suc u))) (bits_of (suc u * q) node)
      ≡ left ⊖ f t ⊗ point (bits_of q (node / 2 ^ (u * q))) ⊖ dot q (map f (up_from (suc t) u)) (bits_of (u * q) node)
  unfolding dot up_from
  one_more u =
      rw bits
      (ap₂ (λ (a b : Bits). left ⊖ (f t ⊗ point a ⊕ dot q (map f (up_from (suc t) u)) b))
      (take_bits q (u * q) node) (drop_bits q (u * q) node)
      ∙ less_sum left (f t ⊗ point (bits_of q (node / 2 ^ (u * q)))) (dot q (map f (up_from (suc t) u)) (bits_of (u * q) node)))
    where
      bits : suc u * q ≡ q + u * q
      bits = suc-mul u q ∙ add_comm (u * q) q

-- The parts of a symbol's point
pub point_parts : (q symbol : ℕ) → q ≤ most_width → (x y : ℤ) → complex_of x y ≡ point (bits_of q symbol)
    → (nat_abs x < span) × (nat_abs y < span)
unfolding largest_amplitude
point_parts q symbol h x y e =
    let b = point_bound most_width (bits_of q symbol) (omega (arith, length-bits_of q symbol)) in
    (omega (arith, ap (λ (z : Complex). nat_abs z.re) e, b.re), omega (arith, ap (λ (z : Complex). nat_abs z.im) e, b.im))

module _ (m q : ℕ) (numbers : List ℤ) (level node : ℕ) where
  abbrev pub remains : Complex
  remains = remainder_of q (row_at m q numbers level) (bits_of ((m - suc level) * q) node)

  entry : ℕ → Complex
  entry j = complex_at numbers (row_start m level + 1 + 2 * j)

  -- What has still to be taken away before turn t
  pub rest_of : ℕ → Complex
  rest_of t = dot q (map entry (up_from t (m - (level + 1) - t))) (bits_of ((m - (level + 1) - t) * q) node)

  pub rest_start : (a b : ℤ) → a ≡ get_or numbers (m * m + 2 * level) (pos 0) → b ≡ get_or numbers (m * m + 2 * level + 1) (pos 0)
      → remains ≡ complex_of a b ⊖ rest_of 0
  unfolding remainder_of row_at rest_of entry
  rest_start a b ea eb =
      let z : m - (level + 1) - 0 ≡ m - suc level = omega arith in
      rw z
      (ap (λ (y : Complex). y ⊖ dot q (map entry (up_from 0 (m - suc level))) (bits_of ((m - suc level) * q) node))
      (sym (ap₂ complex_of ea eb)))

  module _ (t : ℕ) (a b : ℤ) (so_far : remains ≡ complex_of a b ⊖ rest_of t) where
    pub rest_turn : t < m - (level + 1) → (x y : ℤ) (symbol : ℕ) → symbol ≡ node / 2 ^ ((m - (level + 1) - t - 1) * q) % 2 ^ q
        → complex_of x y ≡ complex_at numbers (row_start m level + 1 + 2 * t) ⊗ point (bits_of q symbol)
        → (a' b' : ℤ) → a' ≡ a -ℤ x → b' ≡ b -ℤ y → remains ≡ complex_of a' b' ⊖ rest_of (t + 1)
    unfolding rest_of entry
    rest_turn h x y symbol es ep a' b' ea eb =
        so_far
        ∙ ap (λ (n : ℕ). complex_of a b ⊖ dot q (map entry (up_from t n)) (bits_of (n * q) node)) fuel
        ∙ one_more q entry node t (complex_of a b) last
        ∙ ap (λ (z : Complex). complex_of a b ⊖ z ⊖ dot q (map entry (up_from (suc t) last)) (bits_of (last * q) node)) (sym product)
        ∙ ap₂ (λ (z : Complex) (n : ℕ). z ⊖ dot q (map entry (up_from n last)) (bits_of (last * q) node))
        (sym (ap₂ complex_of ea eb)) (sym (add-one t))
        ∙ ap (λ (n : ℕ). complex_of a' b' ⊖ dot q (map entry (up_from (t + 1) n)) (bits_of (n * q) node)) fewer
      where
        last : ℕ
        last = m - (level + 1) - t - 1

        fuel : m - (level + 1) - t ≡ suc last
        fuel = omega arith

        fewer : last ≡ m - (level + 1) - (t + 1)
        fewer = omega arith

        product : complex_of x y ≡ entry t ⊗ point (bits_of q (node / 2 ^ (last * q)))
        product = ep ∙ ap (λ (l : Bits). entry t ⊗ point l) (ap (bits_of q) es ∙ low_bits q (node / 2 ^ (last * q)))

    pub rest_done : m - (level + 1) ≤ t → complex_of a b ≡ remains
    unfolding rest_of dot up_from
    rest_done h = let e : m - (level + 1) - t ≡ 0 = omega arith in sym (so_far ∙ rw e (ap₂ complex_of (+ℤ_idr a) (+ℤ_idr b)))

-- The size of an entry times a point
abbrev pub most_term : ℕ
most_term = 2 * (most_entry * span)

pub term_few : {m q : ℕ} {numbers : List ℤ} → VectorAsked m q numbers → (level t symbol : ℕ) → level < m → t < m - (level + 1) → (x y : ℤ)
    → complex_of x y ≡ complex_at numbers (row_start m level + 1 + 2 * t) ⊗ point (bits_of q symbol)
    → (nat_abs x ≤ most_term) × (nat_abs y ≤ most_term)
unfolding largest_amplitude
term_few {m} {q} {numbers} asked level t symbol h k x y e =
    let z = entry_within asked level h t (omega arith) in
    let p = point_bound most_width (bits_of q symbol) (omega (arith, length-bits_of q symbol, asked.bits)) in
    let w = product_bound (complex_at numbers (row_start m level + 1 + 2 * t)) z.re z.im p in
    (omega (arith, ap (λ (z : Complex). nat_abs z.re) e, w.re), omega (arith, ap (λ (z : Complex). nat_abs z.im) e, w.im))

-- What multiplying an entry right of the diagonal with a symbol's point asks
pub term_asked : {m q : ℕ} {points numbers : List ℤ} → VectorAsked m q numbers → Points q points → (level t symbol : ℕ) → level < m
    → t < m - (level + 1) → symbol < 2 ^ q → TermAsked points numbers (row_start m level + 1 + 2 * t) symbol
term_asked {m} {q} asked made level t symbol h k below =
    let e = entry_within asked level h t (omega arith) in
    let p = point_parts q symbol asked.bits _ _ (made.each symbol below) in
    record {
      below = omega (arith, pow_mono asked.bits);
      point_re = p.0;
      point_im = p.1;
      room = omega (arith, row_end m level h, asked.room);
      real = e.re;
      imaginary = e.im;
    }

-- What remains is small
pub remains_small : {m q : ℕ} {numbers : List ℤ} → VectorAsked m q numbers → (level node : ℕ) → level < m
    → BothWithin (remainder_bound - 1) (remains m q numbers level node)
unfolding remainder_of largest_term largest_amplitude
remains_small {m} {q} {numbers} asked level node h =
    let r = row_in_range asked level h in
    let half : q - q / 2 ≤ 4 = omega (arith, asked.bits) in
    let few : length (row_at m q numbers level).right ≤ 3 = omega (arith, r.entries, asked.streams) in
    let term : 2 * largest_term q ≤ most_term = omega (arith, pow_mono half) in
    let all = difference_bound r.received (dot_bound q (row_at m q numbers level).right (bits_of ((m - suc level) * q) node) r.right) in
    let sum = mul-le-mul few term in
    record { re = omega (arith, all.re); im = omega (arith, all.im) }
