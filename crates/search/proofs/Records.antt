-- Once a record is read, the lent list holds a block in range, each of whose vectors a search may be asked for.
use Prim.Native.Nat.{ℕ, ◌+◌, ◌-◌, ◌*◌, ◌≤◌, ◌<◌}
use mathlib.Core.Path.{◌≡◌, sym, ◌∙◌}
use mathlib.Core.Bool.{Bool}
use mathlib.Core.List.{List}
use native.Mathlib.Omega.{arith}
use native.Mathlib.Nat.{suc-mul, mul-le-mul, le_refl}
use lib.ListN.{length, take, drop}
use lib.IntN.{ℤ}
use Rattle.model.specs.Block.{InRange, most_streams, most_bits}
use Rattle.model.proofs.Bounds.{width_small, width_positive}
use Rattle.block.specs.declared.Layout.{Layout}
use Rattle.block.specs.Reading.{own_count, header_size, vector_size, owned_size, count_at, layout_of, read_whole, got, into, most_numbers}
use Rattle.block.specs.Contents.{vector_numbers, block_of}
use Rattle.std.specs.Prelude.{Ok}
use Rattle.block.proofs.Lent.{AllPlaced, vectors_fit, lent_room, lent_in_range, lent_placed}
use Rattle.hypotheses.specs.Limits.{vector_at, SearchAsked}
use Rattle.search.specs.Values.{Answered}
use Rattle.search.specs.Holds.{Holds}

-- Vector k of a list whose block is in range, and whose vectors' numbers are, place by place
vector_asked : (o : Layout) (list : List ℤ) → InRange (block_of o list) → AllPlaced o list → (k : ℕ) → k < count_at 2 list
    → SearchAsked (count_at 0 list) (count_at 1 list) (count_at 3 list) (vector_numbers o list k)
unfolding block_of
vector_asked o list r p k h =
    let placed = p k h in
    record {
      stream = r.stream;
      vector = record {
        streams = r.streams;
        bit = width_positive (count_at 1 list) r.width;
        bits = width_small (count_at 1 list) r.width;
        label = r.label;
        room = omega (arith, placed.many);
        entries = placed.entries;
        plain = λ i l. (placed.diagonal i l).is ∙ sym (rw (placed.diagonal i l).is);
        positive = λ i l. rw (placed.diagonal i l).is (placed.diagonal i l).low;
        received = placed.received;
        priors = placed.priors;
      };
      clips = r.clip;
    }

-- A list of which a record's reading, to its end, made another
pub lent_holds : (bytes : List ℕ) (at : ℕ) (list list' : List ℤ) → length list ≡ most_numbers
    → got (Ok at) list' ≡ into 0 (read_whole bytes) list → Holds (layout_of bytes) list'
lent_holds bytes at list list' room e =
    let ranged = lent_in_range bytes at list list' room e in
    record {
      room = lent_room bytes at list list' room e;
      ranged = ranged;
      each = vector_asked (layout_of bytes) list' ranged (lent_placed bytes at list list' room e);
    }

-- M and Q of such a list, and what is computed of them
pub record Sums (m q : ℕ) : Type 0 where
  pub streams : m ≤ most_streams
  pub square : m * m ≤ 16
  pub bits : m * q ≤ most_bits

module _ (o : Layout) (list : List ℤ) (h : Holds o list) (m q : ℕ) (em : m ≡ count_at 0 list) (eq : q ≡ count_at 1 list) where
  pub sums : Sums m q
  unfolding block_of
  sums =
      let r = h.ranged in
      let streams : m ≤ most_streams = omega (arith, em, r.streams) in
      record { streams = streams; square = mul-le-mul streams streams; bits = rw (em, eq) r.label }

  -- Vector k's numbers, behind its owner's, end within the list, and a search may be asked for the part that they are
  module _ (k : ℕ) (l : k < count_at 2 list) where
    abbrev start : ℕ
    start = header_size o + k * owned_size (own_count o) m q + own_count o

    pub vector_end : start + vector_size m q ≤ most_numbers
    vector_end =
        let size = owned_size (own_count o) (count_at 0 list) (count_at 1 list) in
        rw (em, eq) (omega (arith, vectors_fit o list h.ranged, suc-mul k size, mul-le-mul l (le_refl size)))

    vector_part : take (start + vector_size m q - start) (drop start list) ≡ vector_numbers o list k
    vector_part =
        let e : start + vector_size m q - start ≡ vector_size m q = omega arith in
        rw e (rw (em, eq))

    pub part_asked : (c : ℕ) → c ≡ count_at 3 list → SearchAsked m q c (take (start + vector_size m q - start) (drop start list))
    part_asked c ec = rw (vector_part, em, eq, ec) (h.each k l)

    -- What it answers under an allowance is the answer for vector k
    pub part_answered : (c : ℕ) → c ≡ count_at 3 list → {w x : ℕ} → w ≡ x → {d a : ℕ} → d ≡ a
        → {b : Bool} {n label distance : ℕ} {before after : List ℤ}
        → Answered (vector_at m q c (take (start + vector_size m q - start) (drop start list))) w d b n label distance before after
        → Answered (vector_at (count_at 0 list) (count_at 1 list) (count_at 3 list) (vector_numbers o list k)) x a b n label distance before after
    part_answered c ec ew ed answered = rw (vector_part, em, eq, ec, ew, ed) at answered
