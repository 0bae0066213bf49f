-- A child's increment by its two axes: the diagonal entry is real, and the symbol's bits, points and priors fall into two halves.
use Prim.Native.Nat.{ℕ, zero, suc, ◌+◌, ◌-◌, ◌/◌, ◌%◌, ◌^◌}
use mathlib.Core.Path.{◌≡◌, refl, sym, ◌∙◌, ap, ap₂}
use mathlib.Core.List.{List, [], ◌∷◌, ◌++◌, map, map-append}
use native.Mathlib.Nat.{add-zero, zero-add, add_assoc, add-suc}
use native.Mathlib.Omega.{arith}
use lib.ListN.{length, get_or, take-append-drop}
use lib.Seq.{take_at, drop_at}
use lib.IntN.{ℤ, pos, ◌+ℤ◌, ◌-ℤ◌, ◌*ℤ◌, +ℤ_idr, zero-*ℤ}
use Rattle.std.proofs.lemmas.Int.{ints}
use Rattle.model.specs.Constellation.{Complex, Bits, bits_of, real, ◌⊕◌, ◌⊖◌, ◌⊗◌, square, point}
use Rattle.model.specs.Metric.{Row, dot, residual, prior_cost, increment}
use Rattle.model.specs.Soft.{up_from}
use Rattle.model.proofs.Lists.{length-up_from, map-up_from}
use Rattle.model.proofs.Numbers.{up_from-append, length-bits_of, take_bits, drop_bits, low_bits}
use Rattle.constellation.specs.Points.{complex_of}
use Rattle.constellation.proofs.Tables.{point_halves}
use Rattle.metric.specs.Parts.{part, axis_part}
use Rattle.metric.specs.Rows.{remainder_of}

-- Taking away a sum, in either order
pub less_sum : (a b c : Complex) → a ⊖ (b ⊕ c) ≡ a ⊖ b ⊖ c
less_sum a b c = ap₂ complex_of (omega (arith, ints)) (omega (arith, ints))

pub less_other : (a b c : Complex) → a ⊖ (b ⊕ c) ≡ a ⊖ c ⊖ b
less_other a b c = ap₂ complex_of (omega (arith, ints)) (omega (arith, ints))

-- A diagonal entry is real
real_times : (n : ℕ) (p : Complex) → real n ⊗ p ≡ complex_of (pos n *ℤ p.re) (pos n *ℤ p.im)
real_times n p =
    ap₂ complex_of
    (ap (λ (z : ℤ). pos n *ℤ p.re -ℤ z) (zero-*ℤ p.im) ∙ +ℤ_idr (pos n *ℤ p.re))
    (ap (λ (z : ℤ). pos n *ℤ p.im +ℤ z) (zero-*ℤ p.re) ∙ +ℤ_idr (pos n *ℤ p.im))

-- The residual, by what remains and the symbol's point
pub residual_by : (q : ℕ) (r : Row) (s rest : Bits) → length s ≡ q
    → residual q r (s ++ rest)
    ≡ complex_of
    ((remainder_of q r rest).re -ℤ pos r.diagonal *ℤ (point s).re)
    ((remainder_of q r rest).im -ℤ pos r.diagonal *ℤ (point s).im)
unfolding residual dot remainder_of
residual_by q r s rest e =
    ap₂ (λ (a b : Bits). r.received ⊖ (real r.diagonal ⊗ point a ⊕ dot q r.right b)) (take_at s rest q e) (drop_at s rest q e)
    ∙ less_other r.received (real r.diagonal ⊗ point s) (dot q r.right rest)
    ∙ ap (λ (b : Complex). r.received ⊖ dot q r.right rest ⊖ b) (real_times r.diagonal (point s))

-- The prior cost of joined bits
pub cost_append : (ps ps' : List ℤ) (s t : Bits) → length ps ≡ length s → prior_cost (ps ++ ps') (s ++ t) ≡ prior_cost ps s + prior_cost ps' t
unfolding prior_cost
cost_append [] ps' [] t e = omega arith
cost_append [] ps' (b ∷ s) t e = absurd (omega arith)
cost_append (p ∷ ps) ps' [] t e = absurd (omega arith)
cost_append (p ∷ ps) ps' (b ∷ s) t e = omega (arith, cost_append ps ps' s t (omega arith))

-- Numbers side by side
shifted : {A : Type 0} (f : ℕ → A) (c i n : ℕ) → map f (up_from (c + i) n) ≡ map (λ j. f (c + j)) (up_from i n)
unfolding up_from
shifted f c i zero = refl
shifted f c i (suc n) = ap (◌∷◌ (f (c + i))) (ap (λ (k : ℕ). map f (up_from k n)) (sym (add-suc c i)) ∙ shifted f c (suc i) n)

pub part_append : (numbers : List ℤ) (at a b : ℕ) → part numbers at (a + b) ≡ part numbers at a ++ part numbers (at + a) b
unfolding part
part_append numbers at a b =
    ap (map f) (up_from-append 0 a b)
    ∙ map-append f (up_from 0 a) (up_from (0 + a) b)
    ∙ ap (λ (l : List ℤ). map f (up_from 0 a) ++ l)
    (ap (λ (k : ℕ). map f (up_from k b)) (zero-add a ∙ sym (add-zero a))
    ∙ shifted f a 0 b
    ∙ map-up_from _ _ 0 b (λ i h. ap (λ (k : ℕ). get_or numbers k (pos 0)) (sym (add_assoc at a i))))
  where
    f : ℕ → ℤ
    f j = get_or numbers (at + j) (pos 0)

pub part_length : (numbers : List ℤ) (at n : ℕ) → length (part numbers at n) ≡ n
unfolding part
part_length numbers at n = length-up_from (λ j. get_or numbers (at + j) (pos 0)) 0 n

-- A symbol's priors are those of its real half and those of the other
pub priors_split : (numbers : List ℤ) (at q : ℕ) → part numbers at q ≡ part numbers at (q - q / 2) ++ part numbers (at + (q - q / 2)) (q / 2)
priors_split numbers at q =
    let e : q ≡ q - q / 2 + q / 2 = omega arith in
    ap (part numbers at) e ∙ part_append numbers at (q - q / 2) (q / 2)

-- The real half of a symbol's label has w bits, the other h: the increment is the sum of the two axes' parts
module _ (q : ℕ) (r : Row) (s : ℕ) (rest : Bits) (re im : List ℤ) (split : r.priors ≡ re ++ im) (half : length re ≡ q - q / 2) where
  whole : q ≡ q - q / 2 + q / 2
  whole = omega arith

  bits : bits_of q s ≡ bits_of (q - q / 2) (s / 2 ^ (q / 2)) ++ bits_of (q / 2) (s % 2 ^ (q / 2))
  bits =
      ap (λ (n : ℕ). bits_of n s) whole
      ∙ sym (take-append-drop (q - q / 2) (bits_of (q - q / 2 + q / 2) s))
      ∙ ap₂ (λ (a b : Bits). a ++ b) (take_bits (q - q / 2) (q / 2) s) (drop_bits (q - q / 2) (q / 2) s ∙ sym (low_bits (q / 2) s))

  pub costs_by : prior_cost r.priors (bits_of q s)
      ≡ prior_cost re (bits_of (q - q / 2) (s / 2 ^ (q / 2))) + prior_cost im (bits_of (q / 2) (s % 2 ^ (q / 2)))
  costs_by =
      ap₂ prior_cost split bits
      ∙ cost_append re im (bits_of (q - q / 2) (s / 2 ^ (q / 2))) (bits_of (q / 2) (s % 2 ^ (q / 2)))
      (half ∙ sym (length-bits_of (q - q / 2) (s / 2 ^ (q / 2))))

  pub increment_by : increment q r (bits_of q s ++ rest)
      ≡ axis_part (remainder_of q r rest).re (pos r.diagonal) re (q - q / 2) (s / 2 ^ (q / 2))
      + axis_part (remainder_of q r rest).im (pos r.diagonal) im (q / 2) (s % 2 ^ (q / 2))
  unfolding increment axis_part
  increment_by =
      omega (
        arith,
        ap (prior_cost r.priors) (take_at (bits_of q s) rest q (length-bits_of q s)) ∙ costs_by,
        ap square (residual_by q r (bits_of q s) rest (length-bits_of q s)
            ∙ ap (λ (p : Complex). complex_of
            ((remainder_of q r rest).re -ℤ pos r.diagonal *ℤ p.re)
            ((remainder_of q r rest).im -ℤ pos r.diagonal *ℤ p.im)) (point_halves q s)),
      )
