-- Document 01, "The record": the reply's bytes.
use Rattle.std.specs.Prelude.{ℕ, ◌+◌, ◌*◌, Bool, true, false, List, [], ◌∷◌, ◌++◌, map, length}
use Rattle.model.specs.Block.{Block, Answer}
use Rattle.owners.specs.Owners.{shared_answers}
use Rattle.wire.specs.Writing.{bytes_of}
use Rattle.wire.specs.Folding.{folded}

-- "43 42 53 31"
abbrev pub reply_opening : List ℕ
reply_opening = 0x43 ∷ 0x42 ∷ 0x53 ∷ 0x31 ∷ []

-- "0 complete or 1 stopped"
abbrev pub mark_of : Bool → ℕ
mark_of false = 0
mark_of true = 1

-- "For each vector: 0 complete or 1 stopped, nodes walked, label, M × Q folded soft values"
abbrev pub answer_numbers : Answer → List ℕ
answer_numbers a = mark_of a.stopped ∷ a.count ∷ a.result.label ∷ map folded a.result.soft

unfoldable pub answers_numbers : List Answer → List ℕ
answers_numbers [] = []
answers_numbers (a ∷ rest) = answer_numbers a ++ answers_numbers rest

-- The numbers of a reply: "M, Q, N. For each vector" its answer
abbrev pub reply_numbers : Block → List ℕ
reply_numbers b = b.streams ∷ b.width ∷ length b.vectors ∷ answers_numbers (shared_answers b)

-- Numbers one after the other, each in its groups
unfoldable pub written : List ℕ → List ℕ
written [] = []
written (n ∷ ns) = bytes_of n ++ written ns

-- The reply
unfoldable pub reply_of : Block → List ℕ
reply_of b = reply_opening ++ written (reply_numbers b)

-- The buffer that a reply asks for: "7 + N × (9 + 4 × M × Q)"
unfoldable pub reply_room : Block → ℕ
reply_room b = 7 + length b.vectors * (9 + 4 * b.streams * b.width)

-- The most that it can be
abbrev pub most_reply : ℕ
most_reply = 6727
