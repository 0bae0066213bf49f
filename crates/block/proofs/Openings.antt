-- Whether a list begins with another, place by place.
use Prim.Native.Nat.{ℕ, zero, suc, ◌<◌}
use mathlib.Core.Path.{◌≡◌, refl, sym, ap, ◌∙◌}
use mathlib.Core.Bool.{Bool, true, false, ◌&&◌, cond, true≢false}
use mathlib.Core.List.{List, [], ◌∷◌}
use native.Mathlib.Omega.{arith}
use native.Mathlib.Nat.{not-suc-le-zero, le_of_suc-le-suc}
use lib.Dec.{eqb}
use lib.ListN.{length, get_or, take}
use lib.Pointwise.{pointwise}
use borrow.Author.Tests.{eqb-true}
use Rattle.block.specs.Reading.{opening, starts_with, layout_of}
use Rattle.refusals.proofs.Tests.{and_left, and_right}
use Rattle.block.specs.declared.Layout.{Layout}
use Rattle.block.specs.declared.Layout.TheVariants.{Base, Weakened, Owned}

and_none : (b : Bool) → (b && false) ≡ false
and_none true = refl
and_none false = refl

-- A list that is too short does not
pub starts_short : (p l : List ℕ) → length l < length p → starts_with p l ≡ false
unfolding starts_with
starts_short [] l h = absurd (not-suc-le-zero h)
starts_short (x ∷ p) [] h = refl
starts_short (x ∷ p) (y ∷ l) h = ap (◌&&◌ (eqb x y)) (starts_short p l (le_of_suc-le-suc h)) ∙ and_none (eqb x y)

-- The library's test is the same: each byte of p with the one in its place
pub starts_is : (p l : List ℕ) → pointwise eqb p (take (length p) l) ≡ starts_with p l
unfolding starts_with
starts_is [] l = refl
starts_is (x ∷ p) [] = refl
starts_is (x ∷ p) (y ∷ l) = ap (◌&&◌ (eqb x y)) (starts_is p l)

-- One that does has its bytes
pub starts_at : (p l : List ℕ) → starts_with p l ≡ true → (i : ℕ) → i < length p → get_or l i 0 ≡ get_or p i 0
unfolding starts_with
starts_at [] l e i h = absurd (not-suc-le-zero h)
starts_at (x ∷ p) [] e i h = absurd (true≢false (sym e))
starts_at (x ∷ p) (y ∷ l) e zero h = sym (eqb-true x y (and_left (eqb x y) (starts_with p l) e))
starts_at (x ∷ p) (y ∷ l) e (suc i) h = starts_at p l (and_right (eqb x y) (starts_with p l) e) i (le_of_suc-le-suc h)

-- Every opening has four bytes
pub four : (o : Layout) → length (opening o) ≡ 4
four Base = refl
four Weakened = refl
four Owned = refl

-- The openings differ in their last byte
last_tells : (o p : Layout) → get_or (opening o) 3 0 ≡ get_or (opening p) 3 0 → o ≡ p
last_tells Base Base e = refl
last_tells Base Weakened e = absurd (omega arith)
last_tells Base Owned e = absurd (omega arith)
last_tells Weakened Base e = absurd (omega arith)
last_tells Weakened Weakened e = refl
last_tells Weakened Owned e = absurd (omega arith)
last_tells Owned Base e = absurd (omega arith)
last_tells Owned Weakened e = absurd (omega arith)
last_tells Owned Owned e = refl

-- So a list starts with one at most
opens_once : (o p : Layout) (bytes : List ℕ) → starts_with (opening o) bytes ≡ true → starts_with (opening p) bytes ≡ true → o ≡ p
opens_once o p bytes e f =
    last_tells o p (sym (starts_at (opening o) bytes e 3 (omega (arith, four o))) ∙ starts_at (opening p) bytes f 3 (omega (arith, four p)))

-- and has its layout
pub layout_only : (o : Layout) (bytes : List ℕ) → starts_with (opening o) bytes ≡ true → layout_of bytes ≡ o
unfolding layout_of
layout_only o bytes e = go (starts_with (opening Owned) bytes) (starts_with (opening Weakened) bytes) refl refl
  where
    other : (x : Layout) → starts_with (opening Owned) bytes ≡ false → starts_with (opening Weakened) bytes ≡ false
        → starts_with (opening x) bytes ≡ true → Base ≡ x
    other Base f g h = refl
    other Weakened f g h = absurd (true≢false (sym h ∙ g))
    other Owned f g h = absurd (true≢false (sym h ∙ f))

    go : (a b : Bool) → starts_with (opening Owned) bytes ≡ a → starts_with (opening Weakened) bytes ≡ b → cond a Owned (cond b Weakened Base) ≡ o
    go true b f g = opens_once Owned o bytes f e
    go false true f g = opens_once Weakened o bytes g e
    go false false f g = other o f g e

-- One that starts with no opening does not with that of its layout, and the other way
pub unopened : (bytes : List ℕ) → starts_with (opening (layout_of bytes)) bytes ≡ false → (o : Layout) → starts_with (opening o) bytes ≡ false
unopened bytes e o = go (starts_with (opening o) bytes) refl
  where
    go : (b : Bool) → starts_with (opening o) bytes ≡ b → b ≡ false
    go true f = absurd (true≢false (sym (ap (λ (x : Layout). starts_with (opening x) bytes) (layout_only o bytes f) ∙ f) ∙ e))
    go false f = refl
