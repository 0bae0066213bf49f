-- What a label's limits give, in one array behind them: the widest limit of the first streams, for each number of these; and for each
-- label of an axis the widest limit of the bits that are 1 in it.
use Rattle.std.specs.Prelude.{ℕ, zero, suc, ◌+◌, ◌-◌, ◌*◌, ◌/◌, ◌%◌, ◌^◌, ◌≤◌, ◌<◌, max, ◌≡◌, true, List, ◌⊎◌, length, get_or, set, take, drop}
use Rattle.model.specs.Block.{most_streams, most_width, most_bits}
use Rattle.metric.specs.Parts.{span, bit_of, filled_from}
use Rattle.axes.specs.Tables.{Axis, axis_bits}
use Rattle.axes.specs.Tables.Axis.{real, imaginary}
use Rattle.search_spec.specs.Reach.{widest_of}

-- The places of the array: first each bit's limit
abbrev pub limit_in : List ℕ → ℕ → ℕ
limit_in limits i = get_or limits i 0

-- then the widest limits of the first streams
abbrev pub first_place : ℕ → ℕ
first_place level = most_bits + level

-- then the entries of the axes, two for each stream
abbrev pub axis_entries : ℕ
axis_entries = most_bits + 2 * most_streams

abbrev pub entry_place : ℕ → Axis → ℕ
entry_place j real = axis_entries + j * (2 * span)
entry_place j imaginary = axis_entries + j * (2 * span) + span

-- The entries of stream j: those of its real axis, then, a span later, those of its imaginary one
abbrev pub entries_of : List ℕ → ℕ → List ℕ
entries_of limits j = take (2 * span) (drop (entry_place j real) limits)

-- How many places there are
abbrev pub limits_size : ℕ
limits_size = axis_entries + most_streams * (2 * span)

-- Where the bits of an axis of stream j begin in a label of q bits a symbol
abbrev pub axis_start : ℕ → ℕ → Axis → ℕ
axis_start q j real = j * q
axis_start q j imaginary = j * q + (q - q / 2)

-- The widest limit of those of w bits from a place on that are 1 in an axis label
unfoldable pub axis_reach : (ℕ → ℕ) → ℕ → ℕ → ℕ → ℕ
axis_reach limit at w g = widest_of (λ i. bit_of w g (i - at)) limit at w

-- Stream j's entries are what the limits of its bits give
abbrev pub StreamRight : ℕ → (ℕ → ℕ) → List ℕ → ℕ → Type 0
StreamRight q limit limits j =
    (x : Axis) → (g : ℕ) → g < 2 ^ axis_bits q x → get_or limits (entry_place j x + g) 0 ≡ axis_reach limit (axis_start q j x) (axis_bits q x) g

-- The array has, of the first k streams, their bits' limits and what these give
pub record Reaches (q : ℕ) (limit : ℕ → ℕ) (limits : List ℕ) (k : ℕ) : Type 0 where
  pub size : length limits ≡ limits_size
  pub own : (i : ℕ) → i < k * q → limit_in limits i ≡ limit i
  pub first : (level : ℕ) → level ≤ k → get_or limits (first_place level) 0 ≡ widest_of (λ _. true) limit 0 (level * q)
  pub entry : (j : ℕ) → j < k → StreamRight q limit limits j

-- The widest limit of those of stream j's bits that are 1 in a symbol, as the array has it
unfoldable pub stream_reach : ℕ → List ℕ → ℕ → ℕ → ℕ
stream_reach q limits j s =
    max (get_or limits (entry_place j real + s / 2 ^ (q / 2)) 0) (get_or limits (entry_place j imaginary + s % 2 ^ (q / 2)) 0)

-- Symbol j of a label of m symbols of q bits
abbrev pub symbol_of : ℕ → ℕ → ℕ → ℕ → ℕ
symbol_of m q bits j = bits / 2 ^ ((m - suc j) * q) % 2 ^ q

-- The entries of the streams whose symbols are 0 in a number are right, for the limits as they stand
abbrev pub StandsFor : ℕ → ℕ → ℕ → List ℕ → Type 0
StandsFor m q changed limits = (j : ℕ) → j < m → symbol_of m q changed j ≡ 0 → StreamRight q (limit_in limits) limits j

-- What filling stream j's entries in asks: those may stand where `changed` is 0
pub record StreamAsked (q : ℕ) (limits : List ℕ) (j changed : ℕ) : Type 0 where
  pub bits : q ≤ most_width
  pub inside : j < most_streams
  pub label : j * q + q ≤ most_bits
  pub size : length limits ≡ limits_size
  pub stands : changed ≡ 0 → StreamRight q (limit_in limits) limits j

-- The widest limit of those bits of the streams from `level` on that are 1 in `bits`
unfoldable pub chosen_reach : ℕ → ℕ → List ℕ → ℕ → ℕ → ℕ
chosen_reach m q limits level bits = widest_of (λ _. true) (λ j. stream_reach q limits j (symbol_of m q bits j)) level (m - level)

-- An axis's entries from place `to` on, of its last b bits: the other places are as before
pub record AxisFilled (old new : List ℕ) (at w to b : ℕ) : Type 0 where
  pub size : length new ≡ length old
  pub kept : (i : ℕ) → (i < to) ⊎ (to + 2 ^ w ≤ i) → get_or new i 0 ≡ get_or old i 0
  pub each : (g : ℕ) → g < 2 ^ b → get_or new (to + g) 0 ≡ axis_reach (limit_in old) (at + (w - b)) b g

-- An array with the entries of an axis of stream j, what the limits give
abbrev pub axis_in : ℕ → (ℕ → ℕ) → ℕ → Axis → List ℕ → List ℕ
axis_in q limit j x = filled_from (entry_place j x) (axis_reach limit (axis_start q j x) (axis_bits q x)) (2 ^ axis_bits q x)

-- with those of both axes
unfoldable pub axes_in : ℕ → List ℕ → ℕ → List ℕ
axes_in q limits j = axis_in q (limit_in limits) j imaginary (axis_in q (limit_in limits) j real limits)

-- with the widest limit of the streams up to it, too
unfoldable pub stream_in : ℕ → List ℕ → ℕ → List ℕ
stream_in q limits j =
    set (axes_in q limits j) (first_place (suc j)) (max (get_or limits (first_place j) 0) (widest_of (λ _. true) (limit_in limits) (j * q) q))

-- and with all that the limits of the first k streams give: the other places are as before
unfoldable pub reaches_in : ℕ → List ℕ → ℕ → List ℕ
reaches_in q limits zero = set limits most_bits 0
reaches_in q limits (suc k) = stream_in q (reaches_in q limits k) k
