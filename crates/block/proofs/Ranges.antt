-- What a range test that passed says of the number.
use Prim.Native.Nat.{ℕ, zero, suc, ◌+◌, ◌*◌, ◌/◌, ◌%◌, ◌≤◌}
use mathlib.Core.Path.{◌≡◌, refl, sym, ◌∙◌, ap}
use mathlib.Core.Bool.{Bool, true, false, cond, not, ◌||◌, true≢false}
use mathlib.Core.List.Memᴰ
use mathlib.Core.List.{List, [], ◌∷◌}
use native.Mathlib.Omega.{arith}
use lib.Dec.{leb, eqb}
use borrow.Author.Tests.{leb-true, le-leb, eqb-false, not-true}
use lib.IntN.{ℤ, pos, negsuc, neg_ℤ, nat_abs}
use lib.Signed.{le_z}
use Rattle.model.specs.Block.{◌∈◌, widths, most_entry, most_received, most_prior}
use Rattle.wire.specs.Folding.{unfolded}
use Rattle.refusals.specs.Table.{between, one_of, crowded, allowed}
use Rattle.block.specs.Reading.{by_number, Sure}
use Rattle.refusals.proofs.Tests.{and_left, and_right}
use Rattle.refusals.specs.declared.Kind.TheVariants.{SymbolWidth, RightPart, ReceivedPart, BitPrior}

-- A plain number from a to b
pub record Plain (a b : ℕ) (z : ℤ) : Type 0 where
  pub value : ℕ
  pub is : z ≡ pos value
  pub low : a ≤ value
  pub high : value ≤ b

pub between_plain : (a b : ℕ) (z : ℤ) → between (pos a) (pos b) z ≡ true → Plain a b z
between_plain a b (pos n) e = record { value = n; is = refl; low = leb-true a n (and_left (leb a n) (leb n b) e); high = leb-true n b (and_right (leb a n) (leb n b) e) }
between_plain a b (negsuc n) e = absurd (true≢false (sym e))

-- One number alone
pub between_one : (a : ℕ) (z : ℤ) → between (pos a) (pos a) z ≡ true → z ≡ pos a
between_one a z e = let p = between_plain a a z e in let same : p.value ≡ a = omega arith in p.is ∙ ap pos same

-- A signed one from -b to b
pub between_signed : (b : ℕ) (z : ℤ) → between (neg_ℤ (pos b)) (pos b) z ≡ true → nat_abs z ≤ b
between_signed b (pos n) e = leb-true n b (and_right (le_z (neg_ℤ (pos b)) (pos n)) (leb n b) e)
between_signed zero (negsuc n) e = absurd (true≢false (sym e))
between_signed (suc b) (negsuc n) e = omega (arith, leb-true n b (and_left (leb n b) true e))

-- One of a list
pub record OneOf (ws : List ℕ) (z : ℤ) : Type 0 where
  pub value : ℕ
  pub is : z ≡ pos value
  pub member : value ∈ ws

pub one_of_lem : (ws : List ℕ) (z : ℤ) → one_of ws z ≡ true → OneOf ws z
one_of_lem [] z e = absurd (true≢false (sym e))
one_of_lem (w ∷ ws) z e = go (between (pos w) (pos w) z) refl e (one_of_lem ws z)
  where
    go : (b : Bool) → between (pos w) (pos w) z ≡ b → (b || one_of ws z) ≡ true → (one_of ws z ≡ true → OneOf ws z) → OneOf (w ∷ ws) z
    go true f g ih =
        let p = between_plain w w z f in
        let same : p.value ≡ w = omega arith in
        record { value = p.value; is = p.is; member = Memᴰ.head same }
    go false f g ih = let p = ih g in record { value = p.value; is = p.is; member = Memᴰ.tail p.member }

-- A symbol width in its range is one of the widths,
pub allowed_width : (m z : ℤ) → allowed (SymbolWidth m) z ≡ true → OneOf widths z
allowed_width m z e = one_of_lem widths z (and_left (one_of widths z) (not (crowded m z)) e)

-- and not 8 where M is 4
pub allowed_uncrowded : (m z : ℤ) → allowed (SymbolWidth m) z ≡ true → crowded m z ≡ false
allowed_uncrowded m z e = not-true (crowded m z) (and_right (one_of widths z) (not (crowded m z)) e)

-- Q is 8 and M is 4
pub crowded_is : (m z : ℤ) → crowded m z ≡ true → (z ≡ pos 8) × (m ≡ pos 4)
crowded_is m z e =
    let eight = between (pos 8) (pos 8) z in
    let four = between (pos 4) (pos 4) m in
    (between_one 8 z (and_left eight four e), between_one 4 m (and_right eight four e))

-- A folded number of at most twice b is from -b to b
folded_within : (b n : ℕ) → n ≤ 2 * b → between (neg_ℤ (pos b)) (pos b) (unfolded n) ≡ true
unfolding unfolded
folded_within zero n h = let none : n ≡ 0 = omega arith in rw none
folded_within (suc a) n h = go (eqb (n % 2) 0) refl
  where
    go : (t : Bool) → eqb (n % 2) 0 ≡ t → between (negsuc a) (pos (suc a)) (cond t (pos (n / 2)) (negsuc (n / 2))) ≡ true
    go true e = le-leb (n / 2) (suc a) (omega arith)
    go false e = let odd = eqb-false (n % 2) 0 e in rw (le-leb (n / 2) a (omega arith))

-- so below a bound numbers of the kinds that come in runs need no test of their own
module _ (bound : ℕ) where
  pub sure_right : bound ≤ 2 * most_entry + 1 → Sure RightPart bound
  unfolding by_number
  sure_right b = record { taken = λ n next h. rw (folded_within most_entry n (omega arith)) }

  pub sure_received : bound ≤ 2 * most_received + 1 → Sure ReceivedPart bound
  unfolding by_number
  sure_received b = record { taken = λ n next h. rw (folded_within most_received n (omega arith)) }

  pub sure_prior : bound ≤ 2 * most_prior + 1 → Sure BitPrior bound
  unfolding by_number
  sure_prior b = record { taken = λ n next h. rw (folded_within most_prior n (omega arith)) }
