-- A row read off a vector's numbers is in range: its places lie within R, y and the priors, whose numbers are in range.
use Prim.Native.Nat.{ℕ, suc, ◌+◌, ◌-◌, ◌*◌, ◌≤◌, ◌<◌}
use mathlib.Core.Path.{◌≡◌, sym, ◌∙◌, ap, ap₂, subst}
use mathlib.Core.List.{List}
use native.Mathlib.Nat.{le_refl, mul-le-mul, mul-add, add-mul, mul_comm, suc-mul, mul_assoc}
use native.Mathlib.Omega.{arith}
use lib.ListN.{length, get_or}
use lib.IntN.{ℤ, pos}
use Rattle.model.specs.Block.{Within, BothWithin, RowInRange, most_width, most_entry, most_received, most_prior}
use Rattle.model.proofs.Lists.{length-up_from, every-up_from}
use Rattle.metric.specs.Parts.{part}
use Rattle.block.specs.Contents.{complex_at}
use Rattle.metric.specs.Rows.{row_start, row_at, VectorAsked}

-- Row l's numbers end within R
row_ends : (l k : ℕ) → l * (2 * (l + suc k) - l) + 2 * k + 1 ≤ (l + suc k) * (l + suc k)
row_ends l k =
    let a : 2 * (l + suc k) - l ≡ l + 2 * suc k = omega arith in
    let b : l * (2 * (l + suc k) - l) ≡ l * l + l * (2 * suc k) = ap (λ (x : ℕ). l * x) a ∙ mul-add l l (2 * suc k) in
    let c : l * (2 * suc k) ≡ 2 * (suc k * l) = mul_comm l (2 * suc k) ∙ mul_assoc 2 (suc k) l in
    let d : (l + suc k) * (l + suc k) ≡ l * l + suc k * l + (l * suc k + suc k * suc k) =
    mul-add (l + suc k) l (suc k) ∙ ap₂ ◌+◌ (add-mul l (suc k) l) (add-mul l (suc k) (suc k)) in
    let e : suc k * suc k ≡ k * suc k + suc k = suc-mul k (suc k) in
    let f : k * suc k ≡ k * k + k = mul_comm k (suc k) ∙ suc-mul k k in
    omega (arith, b, c, d, e, f, mul_comm l (suc k))

pub row_end : (m l : ℕ) → l < m → row_start m l + 2 * (m - suc l) + 1 ≤ m * m
row_end m l h =
    let e : m ≡ l + suc (m - suc l) = omega arith in
    subst (λ (x : ℕ). l * (2 * x - l) + 2 * (m - suc l) + 1 ≤ x * x) (sym e) (row_ends l (m - suc l))

module _ {m q : ℕ} {numbers : List ℤ} (asked : VectorAsked m q numbers) (level : ℕ) (inside : level < m) where
  -- The sizes that the program computes with
  pub square_few : m * m ≤ 16
  square_few = omega (arith, mul-le-mul asked.streams asked.streams)

  pub priors_few : level * q ≤ 3 * most_width
  priors_few = let h : level ≤ 3 = omega (arith, asked.streams) in omega (arith, mul-le-mul h asked.bits)

  pub priors_room : m * m + 2 * m + level * q + q ≤ length numbers
  priors_room = omega (arith, asked.room, suc-mul level q, mul-le-mul inside (le_refl q))

  -- The row's entries right of the diagonal, its y and its priors
  pub entry_within : (j : ℕ) → j < m - suc level → BothWithin most_entry (complex_at numbers (row_start m level + 1 + 2 * j))
  entry_within j k = record {
    re = asked.entries (row_start m level + 1 + 2 * j) (omega (arith, row_end m level inside));
    im = asked.entries (row_start m level + 1 + 2 * j + 1) (omega (arith, row_end m level inside));
  }

  pub received_within : BothWithin most_received (complex_at numbers (m * m + 2 * level))
  received_within =
      let e : m * m + 2 * level + 1 ≡ m * m + (2 * level + 1) = omega arith in
      record { re = asked.received (2 * level) (omega arith); im = rw e (asked.received (2 * level + 1) (omega arith)) }

  pub prior_within : (b : ℕ) → b < q → Within most_prior (get_or numbers (m * m + 2 * m + level * q + b) (pos 0))
  prior_within b k =
      let e : m * m + 2 * m + level * q + b ≡ m * m + 2 * m + (level * q + b) = omega arith in
      rw e (asked.priors (level * q + b) (omega (arith, suc-mul level q, mul-le-mul inside (le_refl q))))

  pub diagonal_within : Within most_entry (get_or numbers (row_start m level) (pos 0))
  diagonal_within = asked.entries (row_start m level) (omega (arith, row_end m level inside))

  pub row_in_range : RowInRange q (m - suc level) (row_at m q numbers level)
  unfolding row_at part
  row_in_range = record {
    positive = asked.positive level inside;
    diagonal = diagonal_within;
    entries = length-up_from (λ j. complex_at numbers (row_start m level + 1 + 2 * j)) 0 (m - suc level);
    right =
        every-up_from (BothWithin most_entry) (λ j. complex_at numbers (row_start m level + 1 + 2 * j)) 0 (m - suc level)
        (λ j k. entry_within j (omega arith));
    received = received_within;
    bits = length-up_from (λ b. get_or numbers (m * m + 2 * m + level * q + b) (pos 0)) 0 q;
    priors =
        every-up_from (Within most_prior) (λ b. get_or numbers (m * m + 2 * m + level * q + b) (pos 0)) 0 q
        (λ b k. prior_within b (omega arith));
  }
