-- The stages of a record as the reader stores them: what the list holds behind each, and that the next one goes on there.
use Prim.Native.Nat.{ℕ, ◌+◌, ◌-◌, ◌*◌, ◌≤◌, ◌<◌}
use mathlib.Core.Path.{◌≡◌, sym, ◌∙◌, ap}
use mathlib.Core.List.{List, [], ◌∷◌}
use native.Mathlib.Omega.{arith}
use native.Mathlib.Nat.{suc-mul, mul-le-mul_right}
use borrow.Rule.Slice.PartMut.{put_mid}
use lib.ListN.{length, get_or, take, drop}
use lib.Seq.{get_or-take}
use lib.IntN.{ℤ, pos, nat_abs}
use Rattle.refusals.specs.Table.{allowed}
use Rattle.model.specs.Block.{most_streams, most_vectors}
use Rattle.block.specs.Reading.{Read, weak_count, own_count, header_size, numbers_at, kinds_of, runs_of, Small, part_kinds, part_at, owned_size, count_at, most_numbers, size_stage, limit_stage, vector_stage, stages, stages_at, got, into, StreamsStored, SizesStored}
use Rattle.refusals.specs.declared.Kind.{Kind}
use Rattle.refusals.specs.declared.Kind.TheVariants.{StreamCount, SymbolWidth, WeakLevel, NodeShare}
use Rattle.block.specs.declared.Layout.{Layout}
use Rattle.block.specs.declared.Part.TheVariants.{First, Sizes, Limits, Vector}
use Rattle.std.specs.Prelude.{Ok, Err}
use Rattle.refusals.specs.declared.Refusal.{Refusal}
use Rattle.block.proofs.Runs.{run_numbers, owned_numbers}
use Rattle.block.proofs.Lending.{tail_part}
use Rattle.block.proofs.Ranges.{between_plain, allowed_width}
use Rattle.block.proofs.Parts.{weak_few, all_fit, plain_most, width_most, label_most}
use Rattle.block.proofs.Stages.{stored_length, stored_before, stored_allowed, stage_ended, stage_refused, stage_last}

-- A list in which M, Q and N stand has room for N vectors, each of them small
module _ (o : Layout) (list : List ℤ) (s : SizesStored list) where
  pub stored_small : Small (Vector (own_count o) (count_at 0 list) (count_at 1 list))
  stored_small = (
    plain_most (between_plain 1 most_streams (get_or list 0 (pos 0)) s.stored.streams),
    width_most (allowed_width (get_or list 0 (pos 0)) (get_or list 1 (pos 0)) s.width),
    label_most (get_or list 0 (pos 0)) (get_or list 1 (pos 0)) s.stored.streams s.width,
  )

  pub stored_fits : (k : ℕ) → k < count_at 2 list
      → header_size o + k * owned_size (own_count o) (count_at 0 list) (count_at 1 list) + length (part_kinds (Vector (own_count o) (count_at 0 list) (count_at 1 list)))
      ≤ most_numbers
  stored_fits k h =
      let m = count_at 0 list in
      let q = count_at 1 list in
      let few = plain_most (between_plain 1 most_vectors (get_or list 2 (pos 0)) s.vectors) in
      omega (
        arith,
        mul-le-mul_right (owned_size (own_count o) m q) h,
        suc-mul k (owned_size (own_count o) m q),
        owned_numbers (own_count o) m q,
        all_fit o m q (count_at 2 list) stored_small.0 stored_small.2 few,
      )

-- W and D are two numbers at most, and no room is missing for them
pub limits_numbers : (o : Layout) (m c : ℤ) → 4 + length (part_kinds (Limits (weak_count o) m c)) ≡ header_size o
unfolding kinds_of runs_of
limits_numbers o m c = omega (arith, run_numbers (WeakLevel c) (weak_count o) (NodeShare m ∷ []))

-- Q, N and C read into the places behind M
pub sizes_lent : (bytes : List ℕ) (at : ℕ) (list : List ℤ) → StreamsStored list → (part : List ℤ) (r : Read)
    → let sizes = part_kinds (Sizes (get_or list 0 (pos 0))) in
    got r part ≡ into 0 (numbers_at sizes bytes at) (take (most_numbers - 1) (drop 1 list))
    → got r (put_mid 1 (most_numbers - 1) list part) ≡ into 1 (numbers_at sizes bytes at) list
unfolding kinds_of runs_of
sizes_lent bytes at list s part r e =
    tail_part (part_kinds (Sizes (get_or list 0 (pos 0)))) 1 list s.room (omega arith) bytes at part r e

-- and W and D behind those
pub limits_lent : (o : Layout) (bytes : List ℕ) (at : ℕ) (list : List ℤ) → SizesStored list → (part : List ℤ) (r : Read)
    → let limits = part_kinds (Limits (weak_count o) (get_or list 0 (pos 0)) (get_or list 3 (pos 0))) in
    got r part ≡ into 0 (numbers_at limits bytes at) (take (most_numbers - 4) (drop 4 list))
    → got r (put_mid 4 (most_numbers - 4) list part) ≡ into 4 (numbers_at limits bytes at) list
limits_lent o bytes at list s part r e =
    let limits = part_kinds (Limits (weak_count o) (get_or list 0 (pos 0)) (get_or list 3 (pos 0))) in
    let fits : 4 + length limits ≤ most_numbers = omega (arith, limits_numbers o (get_or list 0 (pos 0)) (get_or list 3 (pos 0)), weak_few o) in
    tail_part limits 4 list s.stored.room fits bytes at part r e

module _ (o : Layout) (bytes : List ℕ) (at : ℕ) (list list' : List ℤ) where
  -- M
  module _ (next : ℕ) (room : length list ≡ most_numbers) (e : got (Ok next) list' ≡ into 0 (part_at First bytes at) list) where
    fits : 0 + length (part_kinds First) ≤ length list
    unfolding kinds_of runs_of
    fits = omega arith

    pub first_stored : StreamsStored list'
    unfolding kinds_of runs_of
    first_stored = record {
      room = stored_length (part_kinds First) bytes at next 0 list list' fits e ∙ room;
      streams = stored_allowed (part_kinds First) bytes at next 0 list list' fits e 0 StreamCount (omega arith);
    }

    pub first_ended : into 0 (stages_at (stages o) [] bytes at) list
        ≡ into 1 (stages_at (size_stage ∷ limit_stage o ∷ vector_stage o ∷ []) (take 1 list') bytes next) list'
    unfolding kinds_of runs_of
    first_ended = stage_ended (λ known. part_kinds First) (size_stage ∷ limit_stage o ∷ vector_stage o ∷ []) bytes at 0 list list' next fits e

  pub first_refused : (r : Refusal) → got (Err r) list' ≡ into 0 (part_at First bytes at) list
      → into 0 (stages_at (stages o) [] bytes at) list ≡ got (Err r) list'
  first_refused r e = stage_refused (λ known. part_kinds First) (size_stage ∷ limit_stage o ∷ vector_stage o ∷ []) bytes at 0 list list' r e

  -- Q, N and C, told by M
  abbrev sizes : List Kind
  sizes = part_kinds (Sizes (get_or list 0 (pos 0)))

  told_sizes : sizes ≡ size_stage (take 1 list)
  told_sizes = ap (λ (m : ℤ). part_kinds (Sizes m)) (sym (get_or-take 1 list 0 (pos 0) (omega arith)))

  module _ (next : ℕ) (before : StreamsStored list) (e : got (Ok next) list' ≡ into 1 (numbers_at sizes bytes at) list) where
    sizes_fit : 1 + length sizes ≤ length list
    unfolding kinds_of runs_of
    sizes_fit = omega (arith, before.room)

    streams_stay : get_or list' 0 (pos 0) ≡ get_or list 0 (pos 0)
    streams_stay = stored_before sizes bytes at next 1 list list' sizes_fit e 0 (omega arith)

    pub sizes_stored : SizesStored list'
    unfolding kinds_of runs_of
    sizes_stored = record {
      stored = record {
        room = stored_length sizes bytes at next 1 list list' sizes_fit e ∙ before.room;
        streams = ap (allowed StreamCount) streams_stay ∙ before.streams;
      };
      width =
          ap (λ (m : ℤ). allowed (SymbolWidth m) (get_or list' 1 (pos 0))) streams_stay
          ∙ stored_allowed sizes bytes at next 1 list list' sizes_fit e 0 StreamCount (omega arith);
      vectors = stored_allowed sizes bytes at next 1 list list' sizes_fit e 1 StreamCount (omega arith);
    }

    pub sizes_ended : into 1 (stages_at (size_stage ∷ limit_stage o ∷ vector_stage o ∷ []) (take 1 list) bytes at) list
        ≡ into 4 (stages_at (limit_stage o ∷ vector_stage o ∷ []) (take 4 list') bytes next) list'
    unfolding kinds_of runs_of
    sizes_ended =
        stage_ended size_stage (limit_stage o ∷ vector_stage o ∷ []) bytes at 1 list list' next sizes_fit (rw told_sizes at e)

  pub sizes_refused : (r : Refusal) → got (Err r) list' ≡ into 1 (numbers_at sizes bytes at) list
      → into 1 (stages_at (size_stage ∷ limit_stage o ∷ vector_stage o ∷ []) (take 1 list) bytes at) list ≡ got (Err r) list'
  sizes_refused r e = stage_refused size_stage (limit_stage o ∷ vector_stage o ∷ []) bytes at 1 list list' r (rw told_sizes at e)

  -- W and D, told by M and C
  abbrev limits : List Kind
  limits = part_kinds (Limits (weak_count o) (get_or list 0 (pos 0)) (get_or list 3 (pos 0)))

  told_limits : limits ≡ limit_stage o (take 4 list)
  told_limits =
      rw (get_or-take 4 list 0 (pos 0) (omega arith), get_or-take 4 list 3 (pos 0) (omega arith))

  module _ (next : ℕ) (before : SizesStored list) (e : got (Ok next) list' ≡ into 4 (numbers_at limits bytes at) list) where
    limits_fit : 4 + length limits ≤ length list
    limits_fit =
        omega (arith, limits_numbers o (get_or list 0 (pos 0)) (get_or list 3 (pos 0)), weak_few o, before.stored.room)

    -- The counts that the vectors are told by stand in front
    told_count : (i : ℕ) → i < 4 → count_at i (take (header_size o) list') ≡ count_at i list'
    told_count i h = ap nat_abs (get_or-take (header_size o) list' i (pos 0) (omega arith))

    -- What stood in the list stands there still
    stays : (i : ℕ) → i < 4 → get_or list' i (pos 0) ≡ get_or list i (pos 0)
    stays i h = stored_before limits bytes at next 4 list list' limits_fit e i h

    pub limits_stored : SizesStored list'
    limits_stored = record {
      stored = record {
        room = stored_length limits bytes at next 4 list list' limits_fit e ∙ before.stored.room;
        streams = rw (stays 0 (omega arith)) before.stored.streams;
      };
      width = rw (stays 0 (omega arith), stays 1 (omega arith)) before.width;
      vectors = rw (stays 2 (omega arith)) before.vectors;
    }

    pub limits_ended : into 4 (stages_at (limit_stage o ∷ vector_stage o ∷ []) (take 4 list) bytes at) list
        ≡ into (header_size o) (numbers_at (vector_stage o list') bytes next) list'
    limits_ended =
        let size : 4 + length (limit_stage o (take 4 list)) ≡ header_size o =
        ap (λ (ks : List Kind). 4 + length ks) (sym told_limits) ∙ limits_numbers o (get_or list 0 (pos 0)) (get_or list 3 (pos 0)) in
        stage_ended (limit_stage o) (vector_stage o ∷ []) bytes at 4 list list' next
        (rw told_limits at limits_fit) (rw told_limits at e)
        ∙ ap (λ (n : ℕ). into n (stages_at (vector_stage o ∷ []) (take n list') bytes next) list') size
        ∙ ap (λ p. into (header_size o) p list') (stage_last (vector_stage o) (take (header_size o) list') bytes next)
        ∙ (rw (told_count 0 (omega arith), told_count 1 (omega arith), told_count 2 (omega arith)))

  pub limits_refused : (r : Refusal) → got (Err r) list' ≡ into 4 (numbers_at limits bytes at) list
      → into 4 (stages_at (limit_stage o ∷ vector_stage o ∷ []) (take 4 list) bytes at) list ≡ got (Err r) list'
  limits_refused r e = stage_refused (limit_stage o) (vector_stage o ∷ []) bytes at 4 list list' r (rw told_limits at e)
