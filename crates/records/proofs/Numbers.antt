-- One number: in its range it fits four groups, and what its groups are read as is the number again.
use Prim.Native.Nat.{ℕ, ◌*◌, ◌^◌, ◌≤◌, ◌<◌}
use mathlib.Core.Path.{◌≡◌, sym}
use mathlib.Core.Bool.{true, false, true≢false}
use native.Mathlib.Omega.{arith}
use lib.IntN.{ℤ, pos, negsuc, neg_ℤ, nat_abs}
use lib.Signed.{le_z}
use borrow.Author.Tests.{leb-true}
use Rattle.model.specs.Block.{most_streams, most_vectors, most_clip, most_share, most_entry, most_received, most_prior, most_owner}
use Rattle.wire.specs.Folding.{folded}
use Rattle.wire.proofs.RoundTrip.{unfolded_folded}
use Rattle.refusals.specs.Table.{between, allowed}
use Rattle.block.specs.Reading.{whole_of}
use Rattle.refusals.specs.declared.Kind.{Kind}
use Rattle.refusals.specs.declared.Kind.TheVariants.{StreamCount, SymbolWidth, VectorCount, ClipLevel, WeakLevel, NodeShare, OwnerNumber}
use Rattle.refusals.specs.declared.Kind.TheVariants.{DiagonalEntry, RightPart, ReceivedPart, BitPrior}
use Rattle.refusals.proofs.Tests.{and_right}
use Rattle.block.proofs.Ranges.{between_plain, between_signed, allowed_width}
use Rattle.block.proofs.Parts.{plain_most, width_most}
use Rattle.block.proofs.CalledFor.{Grounded}
use Rattle.records.specs.Writing.{plain_of}

-- The plain number that z is written as is below a bound, and is read as z
pub record Written (k : Kind) (z : ℤ) : Type 0 where
  pub small : plain_of k z < 2 ^ 28
  pub back : whole_of k (plain_of k z) ≡ z

-- A number from a to b
module _ (a b : ℕ) (z : ℤ) (most : b < 2 ^ 28) (e : between (pos a) (pos b) z ≡ true) where
  plain_small : nat_abs z < 2 ^ 28
  plain_small = omega (arith, plain_most (between_plain a b z e))

  plain_back : pos (nat_abs z) ≡ z
  plain_back = let p = between_plain a b z e in rw p.is

folded_most : (z : ℤ) → folded z ≤ 2 * nat_abs z
unfolding folded
folded_most (pos n) = omega arith
folded_most (negsuc n) = omega arith

-- A number from -b to b
folded_small : (b : ℕ) (z : ℤ) → 2 * b < 2 ^ 28 → between (neg_ℤ (pos b)) (pos b) z ≡ true → folded z < 2 ^ 28
folded_small b z most e = omega (arith, folded_most z, between_signed b z e)

-- A range from 0 to a number within a bound
to_plain : (c z : ℤ) (b : ℕ) → le_z c (pos b) ≡ true → between (pos 0) c z ≡ true → (nat_abs z ≤ b) × (pos (nat_abs z) ≡ z)
to_plain (pos a) z b g e = let p = between_plain 0 a z e in (omega (arith, plain_most p, leb-true a b g), rw p.is)
to_plain (negsuc a) z b g e = absurd (no z e)
  where
    no : (z : ℤ) → between (pos 0) (negsuc a) z ≡ true → ⊥
    no (pos n) f = true≢false (sym (and_right (le_z (pos 0) (pos n)) false f))
    no (negsuc n) f = true≢false (sym f)

-- A range that begins at a number none below 0
from_plain : (m z : ℤ) (b : ℕ) → le_z (pos 0) m ≡ true → between m (pos b) z ≡ true → (nat_abs z ≤ b) × (pos (nat_abs z) ≡ z)
from_plain (pos a) z b g e = let p = between_plain a b z e in (plain_most p, rw p.is)
from_plain (negsuc a) z b g e = absurd (true≢false (sym g))

pub written : (k : Kind) (z : ℤ) → Grounded k → allowed k z ≡ true → Written k z
written StreamCount z g e = record { small = plain_small 1 most_streams z (omega arith) e; back = plain_back 1 most_streams z (omega arith) e }
written (SymbolWidth m) z g e =
    let w = allowed_width m z e in record { small = omega (arith, width_most w); back = rw w.is }
written VectorCount z g e = record { small = plain_small 1 most_vectors z (omega arith) e; back = plain_back 1 most_vectors z (omega arith) e }
written ClipLevel z g e = record { small = plain_small 0 most_clip z (omega arith) e; back = plain_back 0 most_clip z (omega arith) e }
written (WeakLevel c) z g e = let p = to_plain c z most_clip g e in record { small = omega arith; back = p.1 }
written (NodeShare m) z g e = let p = from_plain m z most_share g e in record { small = omega arith; back = p.1 }
written OwnerNumber z g e = record { small = plain_small 1 most_owner z (omega arith) e; back = plain_back 1 most_owner z (omega arith) e }
written DiagonalEntry z g e = record { small = plain_small 1 most_entry z (omega arith) e; back = plain_back 1 most_entry z (omega arith) e }
written RightPart z g e = record { small = folded_small most_entry z (omega arith) e; back = unfolded_folded z }
written ReceivedPart z g e = record { small = folded_small most_received z (omega arith) e; back = unfolded_folded z }
written BitPrior z g e = record { small = folded_small most_prior z (omega arith) e; back = unfolded_folded z }
