-- The bit, its prior and the limit by the clip are the definition's; task and ranges are those asked.
use Prim.Native.Nat.{ℕ, ◌+◌, min}
use mathlib.Core.Bool.{Bool, cond}
use mathlib.Core.Path.{◌≡◌, ◌∙◌}
use native.Mathlib.Omega.{arith}
use borrow.Author.Rules.{sfits_of}
use lib.IntN.{ℤ}
use lib.ListN.{get_or}
use mir.Syntax.{w64}
use mir.Val.{SFits}
use mir.Facts.{to_z-of_z}
use Rattle.model.specs.Metric.{Vector, label_bits, prior_at}
use Rattle.metric.specs.Parts.{bit_of}
use Rattle.search_spec.specs.Program.{Taken, taken_in, reach_of}
use Rattle.hypotheses.specs.Limits.{vector_for, up_of, limit_at}
use Rattle.hypotheses.proofs.Values.{bits_are}
use Rattle.hypotheses.proofs.Vector.limit_at.Goals as goal

-- A limit by its parts
limit_by : (v : Vector) (t : Taken) (i n : ℕ) (bit : Bool) → bit ≡ bit_of n t.label i → (prior : ℤ) → prior ≡ prior_at v i → (u : ℕ)
    → u ≡ get_or (cond bit t.zeros t.ones) i 0 → (far : ℤ) → far ≡ reach_of bit (t.best + v.clip) prior → n ≡ label_bits v → (r : ℕ)
    → r ≡ min u (up_of far) → r ≡ limit_at v t i
unfolding limit_at
limit_by v t i n bit eb prior ep u eu far ef en r er = er ∙ rw (eu, ef, ep, eb, en)

pub clip_limit-far-requires : goal.clip_limit-far-requires
clip_limit-far-requires c =
    let f : SFits w64 c.prior_at.result = sfits_of c.prior_at.type_inv in
    (omega (arith, c.args.self.now.asked.clips), simp to_z-of_z (omega arith))

pub returns : goal.returns
returns c =
    let v = c.args.self.now in
    let b = c.args.best in
    let t = v.task in
    let f : SFits w64 c.prior_at.result = sfits_of c.prior_at.type_inv in
    let g : SFits w64 c.clip_limit-far.result = sfits_of c.clip_limit-far.type_inv in
    limit_by (vector_for t v.numbers.now) (taken_in b.bits b.partial c.args.minima.now) c.args.i c.bits.result _
    c.bit_at-bit.ensures c.prior_at.result c.prior_at.ensures.0 _ c.opposite.ensures c.clip_limit-far.result
    (simp to_z-of_z at c.clip_limit-far.ensures) (c.bits.ensures.0 ∙ bits_are t.streams t.width t.clip v.numbers.now) _
    (simp to_z-of_z at c.limit.ensures)
