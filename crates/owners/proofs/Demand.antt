-- Demand 3 holds of each owner's answers, and only of these answers; with one owner for all they are those of the whole list.
use Prim.Native.Nat.{ℕ}
use mathlib.Core.Path.{◌≡◌, refl, sym, ◌∙◌, ap, subst}
use mathlib.Core.Bool.{Bool, true, false, cond}
use mathlib.Core.List.{List, [], ◌∷◌}
use native.Mathlib.Omega.{arith}
use borrow.Author.Tests.{eq-eqb}
use lib.Dec.{eqb}
use lib.ListN.{length}
use Rattle.model.specs.Block.{Block, Answer, answers, Every, Shaped, InRange}
use Rattle.model.specs.Demand.{Demand3}
use Rattle.model.proofs.Demand.{demand3, demand3_unique}
use Rattle.model.proofs.Bounds.{shaped}
use Rattle.owners.specs.Owners.{of_owner, alone, shared_answers, SharedDemand3}
use Rattle.owners.proofs.Owners.{own_answers, answers_many, parts_decide}
use Rattle.owners.proofs.Sums.{whole_sum}

-- What each entry has, those beside an owner have
every_own : {A : Type 0} (P : A → Type 0) (o : ℕ) (os : List ℕ) (xs : List A) → Every P xs → Every P (of_owner o os xs)
unfolding of_owner
every_own P o [] xs h = tt
every_own P o (p ∷ ps) [] h = tt
every_own P o (p ∷ ps) (x ∷ xs) h = go (eqb p o) (every_own P o ps xs h.1)
  where
    go : (t : Bool) → Every P (of_owner o ps xs) → Every P (cond t (x ∷ of_owner o ps xs) (of_owner o ps xs))
    go true k = (h.0, k)
    go false k = k

-- An owner's own list has the shape that the search needs
alone_shaped : (b : Block) (o : ℕ) → Shaped b → Shaped (alone b o)
alone_shaped b o s = record {
  stream = s.stream;
  bit = s.bit;
  reserve = s.reserve;
  rows = every_own _ o b.owners b.vectors s.rows;
}

-- Demand 3 holds of each owner's answers: its total, M nodes or more for each vector, marks, counts, labels and values
pub shared_demand3 : (b : Block) → InRange b → SharedDemand3 b (shared_answers b)
shared_demand3 b ranged = record { many = many; each = each; sum = whole_sum b (shared_answers b) ranged many each }
  where
    many : length (shared_answers b) ≡ length b.vectors
    many = answers_many b ranged.owned

    each : (o : ℕ) → Demand3 (alone b o) (of_owner o b.owners (shared_answers b))
    each o = subst (Demand3 (alone b o)) (sym (own_answers b o)) (demand3 (alone b o) (alone_shaped b o (shaped b ranged)))

-- Answers that meet it are the answers
pub shared_unique : (b : Block) (found : List Answer) → InRange b → SharedDemand3 b found → found ≡ shared_answers b
shared_unique b found ranged d =
    let e = ranged.owned in
    parts_decide b.owners found (shared_answers b) (d.many ∙ sym e) (answers_many b e ∙ sym e)
    (λ o. demand3_unique (alone b o) (of_owner o b.owners found) (d.each o) ∙ sym (own_answers b o))

-- Where all have one owner, everything is its own
own_all : {A : Type 0} (o : ℕ) (os : List ℕ) (xs : List A) → Every (λ (p : ℕ). p ≡ o) os → length os ≡ length xs → of_owner o os xs ≡ xs
unfolding of_owner
own_all o [] [] h e = refl
own_all o [] (x ∷ xs) h e = absurd (omega arith)
own_all o (p ∷ ps) [] h e = absurd (omega arith)
own_all o (p ∷ ps) (x ∷ xs) h e = rw (eq-eqb p o h.0) (ap (◌∷◌ x) (own_all o ps xs h.1 (omega arith)))

-- Where all vectors have one owner the answers are those of document 01's one list
pub one_owner : (b : Block) (o : ℕ) → Every (λ (p : ℕ). p ≡ o) b.owners → length b.owners ≡ length b.vectors
    → shared_answers b ≡ answers b
one_owner b o h e =
    sym (own_all o b.owners (shared_answers b) h (e ∙ sym (answers_many b e)))
    ∙ own_answers b o
    ∙ ap answers (λ j. record {
      streams = b.streams;
      width = b.width;
      clip = b.clip;
      weak = b.weak;
      share = b.share;
      owners = own_all o b.owners b.owners h refl j;
      vectors = own_all o b.owners b.vectors h e j;
    })
