-- Document 02, Point 4: what W decides, and what it leaves as it is.
use Prim.Native.Nat.{ℕ, ◌+◌, ◌≤◌}
use mathlib.Core.Path.{◌≡◌, refl, ap}
use mathlib.Core.Bool.{Bool, true, false}
use mathlib.Core.List.{List, [], ◌∷◌, map}
use native.Mathlib.Nat.{le_refl}
use lib.ListN.{length}
use Rattle.model.specs.Metric.{Row, Vector}
use Rattle.model.specs.Soft.{report}
use Rattle.model.specs.Block.{Block, vector_of, Answer, walked_labels, is_stopped, empty_side, answer, allowance, answers_from, answers}

-- "An older record has W = C": an empty side gives C, whether the vector is stopped or not
pub older_empty : (stopped : Bool) (c : ℕ) → empty_side stopped c c ≡ c
older_empty true c = refl
older_empty false c = refl

-- so that its vectors report as document 01 says
pub older_result : (v : Vector) (n : ℕ) → (answer v v.clip n).result ≡ report v v.clip (walked_labels v n)
unfolding answer
older_result v n = ap (λ (empty : ℕ). report v empty (walked_labels v n)) (older_empty (is_stopped v n) v.clip)

-- An empty side gives no more than C where W is "0 to C"
pub empty_most : (stopped : Bool) {weak clip : ℕ} → weak ≤ clip → empty_side stopped weak clip ≤ clip
empty_most true h = h
empty_most false h = le_refl _

-- "The walk still uses C": with another W a block has the same marks, counts and labels
abbrev pub with_weak : ℕ → Block → Block
with_weak w b = record {
  streams = b.streams;
  width = b.width;
  clip = b.clip;
  weak = w;
  share = b.share;
  owners = b.owners;
  vectors = b.vectors;
}

abbrev pub without_soft : Answer → Answer
without_soft a = record { stopped = a.stopped; count = a.count; result = record { label = a.result.label; soft = [] } }

pub walk_same : (b : Block) (w : ℕ) → map without_soft (answers (with_weak w b)) ≡ map without_soft (answers b)
unfolding answer answers_from
walk_same b w = go b.vectors 0
  where
    go : (vs : List (List Row)) (spent : ℕ) → map without_soft (answers_from (with_weak w b) spent vs) ≡ map without_soft (answers_from b spent vs)
    go [] spent = refl
    go (rows ∷ later) spent =
        let a : Answer = answer (vector_of b rows) b.weak (allowance b spent (length later)) in
        ap (◌∷◌ (without_soft a)) (go later (spent + a.count))
