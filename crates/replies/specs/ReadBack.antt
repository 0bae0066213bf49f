-- What the bytes of a reply say, read from the bytes alone. Document 01, "The record": "Reply: 43 42 53 31; M, Q, N. For each vector: 0
-- complete or 1 stopped, nodes walked, label, M × Q folded soft values". It is the way back of Reply.
use Rattle.std.specs.Prelude.{ℕ, zero, suc, ◌+◌, ◌*◌, List, [], ◌∷◌, map, eqb, length, get_or, take, drop, Ok, Err}
use Rattle.model.specs.Block.{Block, Answer}
use Rattle.wire.specs.Reading.{number_at, Number}
use Rattle.wire.specs.Folding.{unfolded}
use Rattle.replies.specs.Reply.{reply_opening}

-- Numbers that were read one after the other, and the place after them
pub record Plain : Type 0 where
  pub numbers : List ℕ
  pub after : ℕ

abbrev pub by_plain : ℕ → (ℕ → Plain) → Number → Plain
by_plain at further (Ok (n, next)) = record { numbers = n ∷ (further next).numbers; after = (further next).after }
by_plain at further (Err e) = record { numbers = []; after = at }

-- So many numbers from a place on; fewer, where one of them cannot be read
unfoldable pub plain_at : ℕ → List ℕ → ℕ → Plain
plain_at zero bytes at = record { numbers = []; after = at }
plain_at (suc n) bytes at = by_plain at (plain_at n bytes) (number_at bytes at)

-- An answer by its numbers: mark, nodes, label, folded soft values
unfoldable pub answer_from : List ℕ → Answer
answer_from numbers = record {
  stopped = eqb (get_or numbers 0 0) 1;
  count = get_or numbers 1 0;
  result = record { label = get_or numbers 2 0; soft = map unfolded (drop 3 numbers) };
}

-- n answers of so many bits each, one after the other
unfoldable pub answers_in : ℕ → ℕ → List ℕ → List Answer
answers_in bits zero numbers = []
answers_in bits (suc n) numbers = answer_from (take (3 + bits) numbers) ∷ answers_in bits n (drop (3 + bits) numbers)

-- What a reply says: its first four bytes, M, Q, N, the answers, and where they end
pub record Said : Type 0 where
  pub opening : List ℕ
  pub streams : ℕ
  pub width : ℕ
  pub vectors : ℕ
  pub answers : List Answer
  pub end : ℕ

-- The numbers behind M, Q and N are those of N answers with M × Q soft values each
abbrev pub read_sizes : List ℕ → List ℕ → Said
read_sizes reply sizes =
    let m = get_or sizes 0 0 in
    let q = get_or sizes 1 0 in
    let n = get_or sizes 2 0 in
    let all = plain_at (3 + n * (3 + m * q)) reply 4 in
    record {
      opening = take 4 reply;
      streams = m;
      width = q;
      vectors = n;
      answers = answers_in (m * q) n (drop 3 all.numbers);
      end = all.after;
    }

unfoldable pub read_back : List ℕ → Said
read_back reply = read_sizes reply (plain_at 3 reply 4).numbers

-- A reply of so many bytes that says these answers to a block
abbrev pub saying : Block → List Answer → ℕ → Said
saying b found size = record {
  opening = reply_opening;
  streams = b.streams;
  width = b.width;
  vectors = length b.vectors;
  answers = found;
  end = size;
}
