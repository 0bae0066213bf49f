-- The runs of the array of minima: the least metrics with a bit 0, those with it 1, and the limits with what they give.
use Prim.Native.Nat.{ℕ, suc, ◌+◌, ◌-◌, ◌*◌, ◌≤◌, ◌<◌}
use mathlib.Core.Path.{◌≡◌, sym, ◌∙◌, ap, ap₂}
use mathlib.Core.List.{List, [], ◌∷◌, ◌++◌}
use native.Mathlib.Omega.{arith}
use lib.ListN.{length, get_or, set, take, drop, length-append, length-drop}
use lib.Seq.{get_or-take, get_or-drop, take-take, take-append-le, drop-append-le, drop_at, length-take-le, take-add, take_all}
use Rattle.model.specs.Block.{most_bits}
use Rattle.search_spec.specs.Program.{taken_of, taken_in, zeros_of, ones_of, limits_of}

-- The least metric with a bit 0, and with it 1
pub zero_at : (minima : List ℕ) (i : ℕ) → i < most_bits → get_or minima i 0 ≡ get_or (zeros_of minima) i 0
zero_at minima i h = sym (get_or-take most_bits minima i 0 h)

pub one_at : (minima : List ℕ) (i : ℕ) → i < most_bits → get_or minima (most_bits + i) 0 ≡ get_or (ones_of minima) i 0
one_at minima i h = sym (get_or-take most_bits (drop most_bits minima) i 0 h ∙ get_or-drop most_bits minima i 0)

-- The limits, as a part that is lent
pub limits_part : (minima : List ℕ) → take (length minima - 2 * most_bits) (drop (2 * most_bits) minima) ≡ limits_of minima
limits_part minima = take_all (length minima - 2 * most_bits) (drop (2 * most_bits) minima) (omega (arith, length-drop (2 * most_bits) minima))

pub limits_length : (minima : List ℕ) → length (limits_of minima) ≡ length minima - 2 * most_bits
limits_length minima = length-drop (2 * most_bits) minima

set_behind : (a b : List ℕ) (i u : ℕ) → set (a ++ b) (length a + i) u ≡ a ++ set b i u
set_behind [] b i u = let e : 0 + i ≡ i = omega arith in rw e
set_behind (x ∷ a) b i u =
    let e : suc (length a) + i ≡ suc (length a + i) = omega arith in
    rw e (ap (λ (l : List ℕ). x ∷ l) (set_behind a b i u))

-- The two runs of minima, without the limits
abbrev pub sides_of : List ℕ → List ℕ
sides_of minima = take (2 * most_bits) minima

-- Other limits behind the minima
module _ (minima : List ℕ) (whole : 2 * most_bits ≤ length minima) (limits : List ℕ) where
  front : length (sides_of minima) ≡ 2 * most_bits
  front = length-take-le (2 * most_bits) minima (omega arith)

  -- leave these
  pub taken_kept : (label best : ℕ) → taken_in label best (sides_of minima ++ limits) ≡ taken_in label best minima
  taken_kept label best = ap₂ (taken_of label best) zeros ones
    where
      zeros : zeros_of (sides_of minima ++ limits) ≡ zeros_of minima
      zeros =
          take-append-le most_bits (sides_of minima) limits (omega (arith, front))
          ∙ take-take most_bits (2 * most_bits) minima (omega arith)

      behind : drop most_bits (sides_of minima) ≡ ones_of minima
      behind =
          ap (drop most_bits) (take-add most_bits most_bits minima)
          ∙ drop_at (zeros_of minima) _ most_bits (length-take-le most_bits minima (omega arith))

      one_room : length (ones_of minima) ≡ most_bits
      one_room = length-take-le most_bits (drop most_bits minima) (omega (arith, length-drop most_bits minima))

      ones : ones_of (sides_of minima ++ limits) ≡ ones_of minima
      ones =
          ap (take most_bits)
          (drop-append-le most_bits (sides_of minima) limits (omega (arith, front)) ∙ ap (λ (l : List ℕ). l ++ limits) behind)
          ∙ take-append-le most_bits (ones_of minima) limits (omega (arith, one_room))
          ∙ take-take most_bits most_bits (drop most_bits minima) (omega arith)

  -- and stand behind them
  pub limits_are : limits_of (sides_of minima ++ limits) ≡ limits
  limits_are = drop_at (sides_of minima) limits (2 * most_bits) front

  pub limits_whole : length limits ≡ length minima - 2 * most_bits → length (sides_of minima ++ limits) ≡ length minima
  limits_whole h = omega (arith, length-append (sides_of minima) limits, front)

  -- One of them is written
  pub limit_set : (i u : ℕ) → set (sides_of minima ++ limits) (2 * most_bits + i) u ≡ sides_of minima ++ set limits i u
  limit_set i u = ap (λ (n : ℕ). set (sides_of minima ++ limits) (n + i) u) (sym front) ∙ set_behind (sides_of minima) limits i u
