-- Parts of a list that are lent and filled: what the list then is.
use Prim.Native.Nat.{ℕ, zero, suc, ◌+◌, ◌-◌, ◌≤◌}
use borrow.Rule.Slice.PartMut.{mid_of, put_mid}
use mathlib.Core.Path.{◌≡◌, refl, sym, ◌∙◌, ap, ap₂}
use mathlib.Core.List.{List, ◌++◌}
use native.Mathlib.Nat.{ne_of_gt}
use native.Mathlib.Omega.{arith}
use lib.ListN.{length, get_or, set, take, drop}
use lib.Seq.{get_or-set_other}
use Rattle.std.proofs.lemmas.List.{set-append_left, set-append_right, take-append-drop, length-take, length-drop}
use Rattle.metric.specs.Parts.{filled, filled_from}
use Rattle.metric.proofs.Filled.{filled_length, from_length}

module _ {A : Type 0} where
  -- From the first place on
  pub from_first : (f : ℕ → A) (k : ℕ) (l : List A) → filled_from 0 f k l ≡ filled f k l
  unfolding filled filled_from
  from_first f zero l = refl
  from_first f (suc k) l = let e : 0 + k ≡ k = omega arith in rw e (ap (λ (x : List A). set x k (f k)) (from_first f k l))

  -- Behind the places that are filled nothing is changed
  pub from_after : (at : ℕ) (f : ℕ → A) (k : ℕ) (l : List A) (i : ℕ) (d : A) → at + k ≤ i → get_or (filled_from at f k l) i d ≡ get_or l i d
  unfolding filled_from
  from_after at f zero l i d h = refl
  from_after at f (suc k) l i d h =
      get_or-set_other (filled_from at f k l) (at + k) i (f k) d (ne_of_gt (omega arith)) ∙ from_after at f k l i d (omega arith)

  -- A list before another, and one behind another
  pub before_filled : (at : ℕ) (f : ℕ → A) (k : ℕ) (a b : List A) → at + k ≤ length a → filled_from at f k a ++ b ≡ filled_from at f k (a ++ b)
  unfolding filled_from
  before_filled at f zero a b room = refl
  before_filled at f (suc k) a b room =
      sym (set-append_left (filled_from at f k a) b (at + k) (f k) (omega (arith, from_length at f k a)))
      ∙ ap (λ (x : List A). set x (at + k) (f k)) (before_filled at f k a b (omega arith))

  pub behind_filled : (n at : ℕ) (f : ℕ → A) (k : ℕ) (a b : List A) → length a ≡ n → a ++ filled_from at f k b ≡ filled_from (n + at) f k (a ++ b)
  unfolding filled_from
  behind_filled n at f zero a b size = refl
  behind_filled n at f (suc k) a b size =
      let e : n + at + k - n ≡ at + k = omega arith in
      ap (λ (i : ℕ). a ++ set (filled_from at f k b) i (f k)) (sym e)
      ∙ sym (set-append_right a (filled_from at f k b) n (n + at + k) (f k) size (omega arith))
      ∙ ap (λ (x : List A). set x (n + at + k) (f k)) (behind_filled n at f k a b size)

  -- Two parts, each filled from its first place on
  pub both_filled : (n : ℕ) (f g : ℕ → A) (j k : ℕ) (l : List A) → n ≤ length l → j ≤ n
      → filled f j (take n l) ++ filled g k (drop n l) ≡ filled_from n g k (filled_from 0 f j l)
  both_filled n f g j k l room few =
      let front : length (take n l) ≡ n = omega (arith, length-take n l) in
      let size : length (filled f j (take n l)) ≡ n = filled_length f j (take n l) ∙ front in
      let e : n + 0 ≡ n = omega arith in
      let a = filled f j (take n l) in
      ap (λ (x : List A). a ++ x) (sym (from_first g k (drop n l)))
      ∙ behind_filled n 0 g k a (drop n l) size
      ∙ ap (λ (i : ℕ). filled_from i g k (a ++ drop n l)) e
      ∙ ap (filled_from n g k)
      (ap (λ (x : List A). x ++ drop n l) (sym (from_first f j (take n l)))
      ∙ before_filled 0 f j (take n l) (drop n l) (omega arith)
      ∙ ap (filled_from 0 f j) (take-append-drop n l))

  -- A part in the midst, filled from its first place on and put back
  pub put_filled : (at n : ℕ) (f : ℕ → A) (k : ℕ) (l : List A) → k ≤ n → at + n ≤ length l
      → put_mid at n l (filled f k (mid_of at n l)) ≡ filled_from at f k l
  put_filled at n f k l few room =
      let front : length (take at l) ≡ at = omega (arith, length-take at l) in
      let e : at + 0 ≡ at = omega arith in
      ap (λ (x : List A). take at l ++ x)
      (ap (λ (x : List A). x ++ drop n (drop at l)) (sym (from_first f k (mid_of at n l)))
      ∙ before_filled 0 f k (mid_of at n l) (drop n (drop at l)) (omega (arith, length-take n (drop at l), length-drop at l))
      ∙ ap (filled_from 0 f k) (take-append-drop n (drop at l)))
      ∙ behind_filled at 0 f k (take at l) (drop at l) front
      ∙ ap₂ (λ (i : ℕ) (x : List A). filled_from i f k x) e (take-append-drop at l)
