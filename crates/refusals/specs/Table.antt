-- Document 01, "Where a record is turned back", and Points 1, 4 and 7 of document 02: the kinds of number in a record with their ranges, and the
-- refusals with their numbers.
use Rattle.std.specs.Prelude.{ℕ, Bool, true, false, cond, not, ◌&&◌, ◌||◌, List, [], ◌∷◌, ℤ, pos, neg_ℤ}
use Rattle.std.specs.Int.Signed.{le_z}
use Rattle.model.specs.Block.{most_streams, most_vectors, most_clip, most_share, most_entry, most_received, most_prior, most_owner, widths}
use Rattle.wire.specs.declared.NumberError.{NumberError}
use Rattle.wire.specs.declared.NumberError.TheVariants.{Short, Malformed as NoNumber}
use Rattle.refusals.specs.declared.Kind.{Kind}
use Rattle.refusals.specs.declared.Kind.TheVariants.{StreamCount, SymbolWidth, VectorCount, ClipLevel, WeakLevel, NodeShare, OwnerNumber, DiagonalEntry, RightPart, ReceivedPart, BitPrior}
use Rattle.refusals.specs.declared.Refusal.{Refusal}
use Rattle.refusals.specs.declared.Refusal.TheVariants.{Opening, Ends, Malformed, Streams, Width, Vectors, Clip, Share, Diagonal, Entry, Received, Prior, Trailing, Buffer, Crowded, Weak, Owner}

-- The column "Number"
abbrev pub refusal_number : Refusal → ℕ
refusal_number Opening = 1
refusal_number Ends = 2
refusal_number Malformed = 3
refusal_number Streams = 4
refusal_number Width = 5
refusal_number Vectors = 6
refusal_number Clip = 7
refusal_number Share = 8
refusal_number Diagonal = 9
refusal_number Entry = 10
refusal_number Received = 11
refusal_number Prior = 12
refusal_number Trailing = 13
refusal_number Buffer = 14
refusal_number Crowded = 15
refusal_number Weak = 16
refusal_number Owner = 17

-- The refusals of "any number" that cannot be read
abbrev pub unreadable : NumberError → Refusal
unreadable Short = Ends
unreadable NoNumber = Malformed

-- From one number to another
abbrev pub between : ℤ → ℤ → ℤ → Bool
between low high z = le_z low z && le_z z high

-- One of some plain numbers
abbrev pub one_of : List ℕ → ℤ → Bool
one_of [] z = false
one_of (w ∷ ws) z = between (pos w) (pos w) z || one_of ws z

-- "15 when Q is 8 and M is 4"
abbrev pub crowded : ℤ → ℤ → Bool
crowded m z = between (pos 8) (pos 8) z && between (pos 4) (pos 4) m

-- The ranges of "The record"; the symbol width's depends on M, W's is "0 to C", the share's begins at M
abbrev pub allowed : Kind → ℤ → Bool
allowed StreamCount z = between (pos 1) (pos most_streams) z
allowed (SymbolWidth m) z = one_of widths z && not (crowded m z)
allowed VectorCount z = between (pos 1) (pos most_vectors) z
allowed ClipLevel z = between (pos 0) (pos most_clip) z
allowed (WeakLevel c) z = between (pos 0) c z
allowed (NodeShare m) z = between m (pos most_share) z
allowed OwnerNumber z = between (pos 1) (pos most_owner) z
allowed DiagonalEntry z = between (pos 1) (pos most_entry) z
allowed RightPart z = between (neg_ℤ (pos most_entry)) (pos most_entry) z
allowed ReceivedPart z = between (neg_ℤ (pos most_received)) (pos most_received) z
allowed BitPrior z = between (neg_ℤ (pos most_prior)) (pos most_prior) z

-- The refusal of a number out of its range; of a Q, 15 is "checked after 5"
abbrev pub refusal_of : Kind → ℤ → Refusal
refusal_of StreamCount z = Streams
refusal_of (SymbolWidth m) z = cond (one_of widths z) Crowded Width
refusal_of VectorCount z = Vectors
refusal_of ClipLevel z = Clip
refusal_of (WeakLevel c) z = Weak
refusal_of (NodeShare m) z = Share
refusal_of OwnerNumber z = Owner
refusal_of DiagonalEntry z = Diagonal
refusal_of RightPart z = Entry
refusal_of ReceivedPart z = Received
refusal_of BitPrior z = Prior

-- The header, the owners and the diagonal are plain, all other numbers folded
abbrev pub is_folded : Kind → Bool
is_folded StreamCount = false
is_folded (SymbolWidth m) = false
is_folded VectorCount = false
is_folded ClipLevel = false
is_folded (WeakLevel c) = false
is_folded (NodeShare m) = false
is_folded OwnerNumber = false
is_folded DiagonalEntry = false
is_folded RightPart = true
is_folded ReceivedPart = true
is_folded BitPrior = true
