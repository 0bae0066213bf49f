-- The detector, the reader and the writer agree on what a record is: each accepts what the others do, and as the same numbers.
use Prim.Native.Nat.{ℕ, ◌≤◌}
use mathlib.Core.Path.{◌≡◌, sym, ◌∙◌, ap}
use mathlib.Core.List.{List}
use native.Mathlib.Omega.{arith}
use lib.ListN.{length}
use lib.IntN.{ℤ}
use Rattle.block.specs.Reading.{most_numbers, layout_of, read_whole}
use Rattle.block.specs.Contents.{block_of}
use Rattle.block.specs.declared.Layout.{Layout}
use Rattle.refusals.specs.Filling.{filled}
use Rattle.block.proofs.Conditions.{read_whole_lem, ends_last}
use Rattle.block.proofs.Accepted.{accepted_count, accepted_in_range}
use Rattle.block.proofs.Lent.{vectors_fit}
use Rattle.refusals.proofs.Fillings.{fitted_enough}
use Rattle.records.specs.Writing.{opening_number, writing, reading}
use Rattle.records.proofs.RoundTrip.{read_accepted, written_read}
use Rattle.detector.specs.Outcome.{by_room, outcome}
use Rattle.detector.proofs.Demands.{demand3, whole_outcome}

-- A record that the reader reads is answered by the detector, as the block that its numbers say in its layout, unless the reply buffer is
-- too short
pub read_detected : (bytes : List ℕ) (places : ℕ) (numbers : List ℤ) → reading bytes places ≡ filled numbers → (room : ℕ)
    → outcome bytes room ≡ by_room room (block_of (layout_of bytes) numbers)
unfolding outcome
read_detected bytes places numbers e room = let r = read_accepted bytes places numbers e in rw (r.1, r.2)

-- and so is a record that the writer makes, whose layout the told opening has
pub written_detected : (told : ℕ) (numbers : List ℤ) (size : ℕ) (bytes : List ℕ) → writing told numbers size ≡ filled bytes
    → (layout : Layout) × (opening_number layout ≡ told) × ((room : ℕ) → outcome bytes room ≡ by_room room (block_of layout numbers))
written_detected told numbers size bytes e =
    let w = written_read told numbers size bytes e in
    (layout_of bytes, w.1, read_detected bytes (length numbers) numbers (w.0 (length numbers) (omega arith)))

-- What the detector accepts the reader reads, into any list that has places for the longest record: the numbers of the block that was
-- answered
pub accepted_read : (bytes : List ℕ) (room : ℕ) (reply : List ℕ) → outcome bytes room ≡ filled reply → (places : ℕ) → most_numbers ≤ places
    → (numbers : List ℤ) × (reading bytes places ≡ filled numbers) × (outcome bytes room ≡ by_room room (block_of (layout_of bytes) numbers))
unfolding reading read_whole
accepted_read bytes room reply e places h =
    let w = (demand3 bytes room reply e).0.whole in
    let is = read_whole_lem bytes w in
    let end = (ends_last bytes (length bytes) is.0).0 in
    let few = vectors_fit (layout_of bytes) _ (accepted_in_range bytes (length bytes) end) in
    let count = accepted_count bytes (length bytes) end in
    let fits : length w.numbers ≤ places = omega (arith, ap length (sym is.1)) in (
      w.numbers,
      rw (is.0, is.1) (fitted_enough places w.numbers fits),
      whole_outcome bytes room w ∙ ap (λ (o : Layout). by_room room (block_of o w.numbers)) (sym is.2),
    )
