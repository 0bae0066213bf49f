-- Computed readings, as one theorem: each range at its ends and next to them, from document 01's "The record" and its table, and document
-- 02's widths, 15, 16 and 17.
use Prim.Native.Nat.{ℕ}
use mathlib.Core.Path.{◌≡◌, refl}
use mathlib.Core.Bool.{cond}
use mathlib.Core.List.{List, [], ◌∷◌, map}
use lib.IntN.{ℤ, pos, negsuc}
use Rattle.refusals.specs.Table.{refusal_number, allowed, refusal_of}
use Rattle.refusals.specs.declared.Kind.{Kind}
use Rattle.refusals.specs.declared.Kind.TheVariants.{StreamCount, SymbolWidth, VectorCount, ClipLevel, WeakLevel, NodeShare, OwnerNumber}
use Rattle.refusals.specs.declared.Kind.TheVariants.{DiagonalEntry, RightPart, ReceivedPart, BitPrior}

-- A number of a kind, and the number that it is refused by, 0 where it is taken
pub record Row : Type 0 where
  pub kind : Kind
  pub number : ℤ
  pub due : ℕ

abbrev row : Kind → ℤ → ℕ → Row
row kind number due = record { kind = kind; number = number; due = due }

unfoldable pub rows : List Row
rows =
    row StreamCount (pos 0) 4
    ∷ row StreamCount (pos 1) 0
    ∷ row StreamCount (pos 4) 0
    ∷ row StreamCount (pos 5) 4
    ∷ row VectorCount (pos 0) 6
    ∷ row VectorCount (pos 1) 0
    ∷ row VectorCount (pos 64) 0
    ∷ row VectorCount (pos 65) 6
    ∷ row ClipLevel (negsuc 0) 7
    ∷ row ClipLevel (pos 0) 0
    ∷ row ClipLevel (pos 16777215) 0
    ∷ row ClipLevel (pos 16777216) 7
    ∷ row (WeakLevel (pos 10)) (negsuc 0) 16
    ∷ row (WeakLevel (pos 10)) (pos 0) 0
    ∷ row (WeakLevel (pos 10)) (pos 10) 0
    ∷ row (WeakLevel (pos 10)) (pos 11) 16
    ∷ row (NodeShare (pos 3)) (pos 2) 8
    ∷ row (NodeShare (pos 3)) (pos 3) 0
    ∷ row (NodeShare (pos 3)) (pos 17043520) 0
    ∷ row (NodeShare (pos 3)) (pos 17043521) 8
    ∷ row OwnerNumber (negsuc 0) 17
    ∷ row OwnerNumber (pos 0) 17
    ∷ row OwnerNumber (pos 1) 0
    ∷ row OwnerNumber (pos 4) 0
    ∷ row OwnerNumber (pos 5) 17
    ∷ row DiagonalEntry (pos 0) 9
    ∷ row DiagonalEntry (pos 1) 0
    ∷ row DiagonalEntry (pos 2047) 0
    ∷ row DiagonalEntry (pos 2048) 9
    ∷ row RightPart (negsuc 2047) 10
    ∷ row RightPart (negsuc 2046) 0
    ∷ row RightPart (pos 2047) 0
    ∷ row RightPart (pos 2048) 10
    ∷ row ReceivedPart (negsuc 131071) 11
    ∷ row ReceivedPart (negsuc 131070) 0
    ∷ row ReceivedPart (pos 131071) 0
    ∷ row ReceivedPart (pos 131072) 11
    ∷ row BitPrior (negsuc 1048575) 12
    ∷ row BitPrior (negsuc 1048574) 0
    ∷ row BitPrior (pos 1048575) 0
    ∷ row BitPrior (pos 1048576) 12
    ∷ row (SymbolWidth (pos 3)) (pos 0) 5
    ∷ row (SymbolWidth (pos 3)) (pos 1) 0
    ∷ row (SymbolWidth (pos 3)) (pos 2) 0
    ∷ row (SymbolWidth (pos 3)) (pos 3) 5
    ∷ row (SymbolWidth (pos 3)) (pos 4) 0
    ∷ row (SymbolWidth (pos 3)) (pos 5) 5
    ∷ row (SymbolWidth (pos 3)) (pos 6) 0
    ∷ row (SymbolWidth (pos 3)) (pos 7) 5
    ∷ row (SymbolWidth (pos 3)) (pos 8) 0
    ∷ row (SymbolWidth (pos 3)) (pos 9) 5
    ∷ row (SymbolWidth (pos 4)) (pos 6) 0
    ∷ row (SymbolWidth (pos 4)) (pos 8) 15
    ∷ row (SymbolWidth (pos 4)) (pos 9) 5
    ∷ row (WeakLevel (pos 0)) (pos 0) 0
    ∷ row (WeakLevel (pos 0)) (pos 1) 16
    ∷ []

pub ends : map (λ r. cond (allowed r.kind r.number) 0 (refusal_number (refusal_of r.kind r.number))) rows ≡ map (λ r. r.due) rows
unfolding rows
ends = refl
