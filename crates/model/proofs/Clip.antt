-- A value at or beyond a bit's clip limit is clipped to the clip.
use Prim.Native.Nat.{ℕ, zero, suc, ◌+◌}
use mathlib.Core.Path.{◌≡◌, refl, sym, ◌∙◌, ap, subst}
use mathlib.Core.Bool.{Bool, true, false, cond}
use lib.Dec.{T}
use lib.IntN.{ℤ, pos, neg_ℤ, ◌+ℤ◌, ◌-ℤ◌, +ℤ_comm, +ℤ_assoc}
use lib.Signed.{le_z}
use Rattle.integers.proofs.Order.{le_z-trans, le_z-sub_left, le_z-sub_right}
use Rattle.integers.specs.Clip.{clipped}

-- Above B + C + p, the difference from B less p is at least C
pub limit_high : (b c s : ℕ) (p : ℤ) → T (le_z (pos (b + c) +ℤ p) (pos s)) → T (le_z (pos c) (pos s -ℤ pos b -ℤ p))
limit_high b c s p h = subst T (sym (le_z-sub_right (pos c) (pos s -ℤ pos b) p ∙ le_z-sub_right (pos c +ℤ p) (pos s) (pos b) ∙ ap (λ (z : ℤ). le_z z (pos s)) sums)) h
  where
    sums : pos c +ℤ p +ℤ pos b ≡ pos (b + c) +ℤ p
    sums = +ℤ_comm (pos c +ℤ p) (pos b) ∙ sym (+ℤ_assoc (pos b) (pos c) p)

-- Above B + C - p, B's difference from it less p is at most -C
pub limit_low : (b c s : ℕ) (p : ℤ) → T (le_z (pos (b + c) -ℤ p) (pos s)) → T (le_z (pos b -ℤ pos s -ℤ p) (neg_ℤ (pos c)))
limit_low b c s p h = subst T (sym eq) (subst T (le_z-sub_left (pos (b + c)) (pos s) p) h)
  where
    sums : neg_ℤ (pos c) +ℤ p +ℤ pos s ≡ pos s +ℤ p -ℤ pos c
    sums = +ℤ_comm (neg_ℤ (pos c) +ℤ p) (pos s) ∙ ap (λ (z : ℤ). pos s +ℤ z) (+ℤ_comm (neg_ℤ (pos c)) p) ∙ sym (+ℤ_assoc (pos s) p (neg_ℤ (pos c)))

    eq : le_z (pos b -ℤ pos s -ℤ p) (neg_ℤ (pos c)) ≡ le_z (pos (b + c)) (pos s +ℤ p)
    eq = le_z-sub_left (pos b -ℤ pos s) (neg_ℤ (pos c)) p ∙ le_z-sub_left (pos b) (neg_ℤ (pos c) +ℤ p) (pos s) ∙ ap (le_z (pos b)) sums ∙ le_z-sub_right (pos b) (pos s +ℤ p) (pos c)

-- The clip at either end
pub clip_high : (c : ℕ) (z : ℤ) → T (le_z (pos c) z) → clipped c z ≡ pos c
clip_high c z h = go (le_z (pos c) z) h
  where
    go : (b : Bool) → T b → cond b (pos c) (cond (le_z z (neg_ℤ (pos c))) (neg_ℤ (pos c)) z) ≡ pos c
    go true t = refl
    go false t = absurd t

pub clip_low : (c : ℕ) (z : ℤ) → T (le_z z (neg_ℤ (pos c))) → clipped c z ≡ neg_ℤ (pos c)
clip_low c z h = go (le_z (pos c) z) (le_z z (neg_ℤ (pos c))) refl h
  where
    zero_only : (c : ℕ) → T (le_z (pos c) (neg_ℤ (pos c))) → pos c ≡ neg_ℤ (pos c)
    zero_only zero t = refl
    zero_only (suc n) t = absurd t

    go : (a b : Bool) → le_z (pos c) z ≡ a → T b → cond a (pos c) (cond b (neg_ℤ (pos c)) z) ≡ neg_ℤ (pos c)
    go true b e t = zero_only c (le_z-trans (pos c) z (neg_ℤ (pos c)) (subst T (sym e) tt) h)
    go false true e t = refl
    go false false e t = absurd t
