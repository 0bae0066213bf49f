-- The invariant: what the first j streams give is there.
use mathlib.Core.Path.{refl, sym, ap, ◌∙◌, subst}
use mathlib.Core.List.{List}
use Prim.Native.Nat.{ℕ, ◌-◌, ◌*◌, ◌/◌, ◌%◌, ◌^◌}
use native.Mathlib.Numerals.{add-one}
use native.Mathlib.Omega.{arith}
use Rattle.limits.specs.Reach.{stream_in, reaches_in}
use Rattle.limits.proofs.Streams.{bits_few, Filling, still_right, filling}
use Rattle.limits.proofs.fill.Goals as goal

pub loop-j-init : goal.loop-j-init
unfolding reaches_in
loop-j-init c = refl

pub fill_stream-requires : goal.fill_stream-requires
fill_stream-requires c =
    let a = c.args in
    let j = c.loop-j.j in
    let h = c.loop-j-test.true in
    let label = bits_few a.q j a.m h c.requires.2 in
    let so_far =
    subst (λ (x : List ℕ). Filling a.q a.limits.now x j) (sym c.loop-j.invariant)
    (filling a.limits.now c.requires.0 c.requires.1 c.requires.2 c.requires.3 j (omega arith)) in
    record {
      bits = c.requires.1;
      inside = omega arith;
      label = label;
      size = so_far.made.size;
      stands = λ e.
          still_right label so_far
          (c.requires.4 j h
          (ap (λ (n : ℕ). a.changed / 2 ^ ((a.m - n) * a.q) % 2 ^ a.q) (sym (add-one j)) ∙ sym c.symbol_at-symbol.ensures ∙ e));
    }

pub loop-j-preserved : goal.loop-j-preserved
unfolding reaches_in
loop-j-preserved c =
    rw add-one (c.fill_stream.ensures ∙ ap (λ (x : List ℕ). stream_in c.args.q x c.loop-j.j) c.loop-j.invariant)
