-- A turn writes a group with the high bit, the end the last one.
use Rattle.std.proofs.Common.{ℕ, suc, ◌≡◌, refl, ap, ◌+◌, ◌-◌, ◌<◌, ◌≤◌, length, [], ◌∷◌, arith}
use Rattle.wire.specs.Writing.{groups_of, bytes_of}
use Rattle.wire.specs.declared.buffer.Writer.{Writer}
use Rattle.wire.proofs.Writing.{groups_of-last, groups_of-more, groups_of-some, left_below, left_room, high_set}
use Rattle.wire.proofs.Runs.{Left, left_all, left_more, left_none, writes_same}
use Rattle.wire.proofs.buffer.Writer.number.Goals as goal

-- One more group has room
room : (n g rest : ℕ) {w v : Writer} → Left w (bytes_of n) v (groups_of (suc g) rest) → w.at + length (bytes_of n) ≤ length w.buffer.now
    → v.at < length v.buffer.now
room n g rest left h = omega (arith, left.ends, left.size, groups_of-some g rest)

pub loop-rest-init : goal.loop-rest-init
unfolding bytes_of
loop-rest-init c =
    let e : c.args.self.now.at + 3 - c.args.self.now.at ≡ 3 = omega arith in
    rw e (record { most = omega arith; small = c.requires.0; left = left_all })

pub byte-requires : goal.byte-requires
byte-requires c = let i = c.loop-rest.invariant in room _ _ _ i.left c.requires.1

pub loop-rest-preserved : goal.loop-rest-preserved
loop-rest-preserved c =
    let i = c.loop-rest.invariant in
    let h = c.loop-rest-test.true in
    let e : suc (c.args.self.now.at + 3 - c.byte.new.self.at) ≡ c.args.self.now.at + 3 - c.loop-rest.self.at =
    omega (arith, c.byte.ensures.wrote.ends, left_room _ _ i.small h) in
    rw e (record {
      most = omega (arith, e);
      small = left_below _ c.loop-rest.rest i.small;
      left = left_more i.left (groups_of-more _ _ h) (writes_same (ap (λ (b : ℕ). b ∷ []) (high_set c.loop-rest.rest)) c.byte.ensures);
    })

pub byte-requires-2 : goal.byte-requires-2
byte-requires-2 c = let i = c.loop-rest.invariant in room _ _ _ i.left c.requires.1

pub returns : goal.returns
returns c = left_none (left_more c.loop-rest.invariant.left (groups_of-last _ c.loop-rest.rest (omega arith)) c.byte-2.ensures) refl
