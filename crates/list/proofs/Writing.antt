-- Known bytes that grew by a front of a text, and then by a front of its rest.
use Rattle.std.proofs.Common.{◌≡◌, ℕ, ◌+◌, ◌-◌, ◌≤◌, List, ◌++◌, length, take, drop, sym, ap, subst, ◌∙◌, arith, length-take-le, length-drop}
use Rattle.std.proofs.Math.Seq.{take-append-add}
use Rattle.std.proofs.lemmas.List.{take-append-drop, take_all}
use Rattle.std.specs.declared.option.Option.{Option}
use Rattle.std.specs.Io.KnownBytes.{Appends}
use Rattle.std.proofs.KnownBytes.{Appends-trans}

pub took_more : (a b c : Option (List ℕ)) (text : List ℕ) (n m : ℕ) → n ≤ length text
    → Appends a b (take n text) → Appends b c (take m (take (length text - n) (drop n text))) → Appends a c (take (n + m) text)
took_more a b c text n m within first second =
    let long : length (take n text) ≡ n = length-take-le n text within in
    let rest : take (length text - n) (drop n text) ≡ drop n text = take_all (length text - n) (drop n text) (omega (arith, length-drop n text)) in
    let joined : take (n + m) text ≡ take n text ++ take m (drop n text) =
    ap (λ l. take (n + m) l) (sym (take-append-drop n text))
    ∙ ap (λ k. take (k + m) (take n text ++ drop n text)) (sym long)
    ∙ take-append-add (take n text) (drop n text) m in
    subst (Appends a c) (sym joined)
    (Appends-trans a b c _ _ first (subst (λ l. Appends b c (take m l)) rest second))
