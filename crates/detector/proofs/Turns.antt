-- The vectors answered one after the other: what holds before vector k, from 0, and that it holds before the next.
use Rattle.std.proofs.Common.{ℕ, ◌+◌, ◌-◌, ◌<◌, ◌≤◌, ◌≡◌, refl, ◌∙◌, ap, subst, List, ◌∷◌, ℤ, get_or, add-one}
use lib.ListN.{set}
use Rattle.model.specs.Block.{Answer, InRange}
use Rattle.owners.specs.Owners.{shared_answers}
use Rattle.owners.specs.Spares.{Spares}
use Rattle.block.specs.Reading.{count_at}
use Rattle.block.specs.Contents.{owner_at, block_of}
use Rattle.block.specs.declared.Layout.{Layout}
use Rattle.detector.specs.Steps.{answer_at}
use Rattle.detector.specs.Handed.{Handed, handed_from, all_handed, Ready, Taken}
use Rattle.detector.proofs.Held.{handed_at}
use Rattle.detector.proofs.Shares.{vectors_from, vectors_next, vectors_none, Shares, shares_first, shares_last, later, rest_next, shares_next}

-- What is handed on of the vectors from the k-th on, with their answers
abbrev pub handed_left : Layout → List ℤ → ℕ → List Answer → List Handed
handed_left o list k rest = handed_from (block_of o list) k (vectors_from o list k) rest

module _ {S : Type 0} (can : S → Handed → Type 0) (takes : S → Handed → S → Type 0) (o : Layout) (list : List ℤ) (first : S) where
  -- Before vector k: the answers to come and what the owners have to spare for them; that they can be taken; and that all are then taken
  pub record Turn (k : ℕ) (spare : List ℕ) (now : S) : Type 0 where
    pub rest : List Answer
    pub shares : Shares o list k spare rest
    pub ready : Ready can takes now (handed_left o list k rest)
    pub taken : (u : S) → Taken takes now (handed_left o list k rest) u → Taken takes first (all_handed (block_of o list)) u

  -- Before the first
  pub turn_first : {spare : List ℕ} → Spares (block_of o list) spare (λ p. 0) (block_of o list).owners (block_of o list).vectors
      → Ready can takes first (all_handed (block_of o list)) → Turn 0 spare first
  turn_first {spare} s r = record {
    rest = shared_answers (block_of o list);
    shares = shares_first o list spare s;
    ready = r;
    taken = λ u t. t;
  }

  module _ {k : ℕ} {spare : List ℕ} {now : S} (turn : Turn k spare now) where
    -- After the last
    pub turn_last : count_at 2 list ≤ k → Taken takes first (all_handed (block_of o list)) now
    unfolding handed_from Taken
    turn_last l = turn.taken now (rw (shares_last turn.shares l, vectors_none o list k l) refl)

    module _ (ranged : InRange (block_of o list)) (l : k < count_at 2 list) {m : ℕ} (streams : m ≡ (block_of o list).streams) where
      abbrev allowed : ℕ
      allowed = get_or spare (owner_at o list k) 0 + m

      abbrev others : List Answer
      others = later ranged l turn.shares streams

      -- Vector k is the next one
      handed_next : handed_left o list k turn.rest ≡ handed_at o list allowed k ∷ handed_left o list (k + 1) others
      unfolding handed_from
      handed_next =
          ap (handed_left o list k) (rest_next ranged l turn.shares streams) ∙ rw (vectors_next o list k l, add-one k)

      abbrev both : Ready can takes now (handed_at o list allowed k ∷ handed_left o list (k + 1) others)
      both = subst (Ready can takes now) handed_next turn.ready

      -- It can be taken
      pub turn_ready : can now (handed_at o list allowed k)
      unfolding Ready
      turn_ready = both.0

      -- and then the next one's turn comes
      pub turn_next : {t : S} → takes now (handed_at o list allowed k) t
          → Turn (k + 1) (set spare (owner_at o list k) (allowed - (answer_at o list allowed k).count)) t
      unfolding Ready Taken
      turn_next {t} w = record {
        rest = others;
        shares = shares_next ranged l turn.shares streams;
        ready = both.1 t w;
        taken = λ u h. turn.taken u (rw handed_next (t, (w, h)));
      }
