-- The smallest key not taken is the model's next child. Children rise by partial metric, then by partial prior cost and then by symbol,
-- and so do keys by value and place, since siblings share all of the prior cost but their symbols' own; the key of a child that was tried
-- is above every other.
use Prim.Native.Nat.{ℕ, ◌+◌, ◌^◌, ◌≤◌, ◌<◌}
use mathlib.Core.Path.{◌≡◌, refl, sym, ◌∙◌, ap, subst, subst₂}
use mathlib.Core.Bool.{true}
use mathlib.Core.Logic.{◌⊎◌, inl, inr, ◌≢◌}
use mathlib.Core.List.Memᴰ
use mathlib.Core.List.{List, [], ◌∷◌, ◌++◌, append_cancel_right}
use native.Mathlib.Decide.{ℕ_discrete}
use native.Mathlib.Omega.{arith}
use lib.ListN.{length, get_or, set, length-set}
use lib.Seq.{get_or-set_same, get_or-set_other}
use Rattle.model.specs.Constellation.{Bits, number, bits_of}
use Rattle.model.specs.Metric.{Row, metric, cost}
use Rattle.model.specs.Order.{is_before}
use Rattle.model.specs.Walk.{children}
use Rattle.model.specs.Block.{◌∈◌}
use Rattle.model.proofs.Lists.{Once}
use Rattle.model.proofs.Ranks.{AtOrBefore, order_refl, earlier_true}
use Rattle.model.proofs.Numbers.{number_below, number-bits_of, bits_of-number, length-bits_of}
use Rattle.model.proofs.Tree.{children_of_lem, children_in, once_children}
use Rattle.model.proofs.Order.{Rising, children_rise, sibling_order}
use Rattle.search_spec.specs.Arrays.{least_first}
use Rattle.metric.specs.Keys.{cost_room, keyed}
use Rattle.search_spec.specs.Program.{above, tried}
use Rattle.search_spec.proofs.Arrays.{least_below, least_le, least_first_lem}
use Rattle.search_spec.proofs.Keys.{key_low, key_order}

-- A key with its place
abbrev placed : List ℕ → ℕ → List ℕ
placed keys i = get_or keys i 0 ∷ i ∷ []

-- A place whose key and number come at or before those of each other place holds the first smallest key
least_is : (keys : List ℕ) (n i : ℕ) → i < n → ((j : ℕ) → j < n → AtOrBefore (placed keys i) (placed keys j)) → least_first keys n ≡ i
least_is keys n i h all = go (all a (least_below keys n (omega arith)))
  where
    a : ℕ
    a = least_first keys n

    same : get_or keys i 0 ≡ get_or keys a 0 → (i < a) ⊎ ((i ≡ a) × Unit {0}) → a ≡ i
    same e (inl k) = absurd (omega (arith, e, least_first_lem keys n i k))
    same e (inr k) = sym k.0

    go : AtOrBefore (placed keys i) (placed keys a) → a ≡ i
    go (inl k) = absurd (omega (arith, k, least_le keys n i h))
    go (inr k) = same k.0 k.1

-- The child with symbol i
abbrev pub child : ℕ → Bits → ℕ → Bits
child q node i = bits_of q i ++ node

-- `own` is the prior cost of each child's own symbol
module _ (q : ℕ) (rows : List Row) (node : Bits) (own : ℕ → ℕ) where
  -- The children that are left, in their order, and the keys of all
  pub record Remaining (keys : List ℕ) (rest : List Bits) : Type 0 where
    pub wide : 2 ^ q ≤ length keys
    pub among : (c : Bits) → c ∈ rest → c ∈ children q rows node
    pub keyed : (i : ℕ) → i < 2 ^ q → child q node i ∈ rest → get_or keys i 0 ≡ keyed (metric q rows (child q node i)) (own i)
    pub each : (i : ℕ) → i < 2 ^ q → (child q node i ∈ rest) ⊎ (get_or keys i 0 ≡ tried)
    pub rising : Rising (is_before q rows) rest
    pub once : Once rest

  -- The place s of the first smallest key, where c is the first child left
  pub record Next (keys : List ℕ) (c : Bits) (rest : List Bits) (s : ℕ) : Type 0 where
    pub inside : s < 2 ^ q
    pub is : child q node s ≡ c
    pub key : get_or keys s 0 ≡ keyed (metric q rows (child q node s)) (own s)
    pub left : Remaining (set keys s tried) rest

  -- At first all are left
  pub begin : (keys : List ℕ) → 2 ^ q ≤ length keys → ((i : ℕ) → i < 2 ^ q → get_or keys i 0 ≡ keyed (metric q rows (child q node i)) (own i))
      → Remaining keys (children q rows node)
  begin keys w h = record {
    wide = w;
    among = λ c m. m;
    keyed = λ i k m. h i k;
    each = λ i k. inl (children_in q rows node (bits_of q i) (length-bits_of q i));
    rising = children_rise q rows node;
    once = once_children q rows node;
  }

  abbrev kid : ℕ → Bits
  kid i = child q node i

  module _ (low : (i : ℕ) → metric q rows (child q node i) < above) (cheap : (i : ℕ) → own i < cost_room)
      (shared : ℕ) (costs : (i : ℕ) → cost q rows (child q node i) ≡ own i + shared) {keys : List ℕ} {c : Bits} {rest : List Bits}
      (r : Remaining keys (c ∷ rest)) where
    -- The first child left has a symbol
    symbol : (s : ℕ) × (s < 2 ^ q) × (kid s ≡ c)
    symbol =
        let x = children_of_lem q rows node c (r.among c (Memᴰ.head refl)) in
        let bits : bits_of q (number x.0) ≡ x.0 = ap (λ (w : ℕ). bits_of w (number x.0)) (sym x.1) ∙ bits_of-number x.0 in
        (number x.0, subst (λ (w : ℕ). number x.0 < 2 ^ w) x.1 (number_below x.0), ap (λ (y : Bits). y ++ node) bits ∙ x.2)

    module _ (s : ℕ) (inside : s < 2 ^ q) (is : kid s ≡ c) where
      -- Different symbols, different children
      same_symbol : (i : ℕ) → i < 2 ^ q → kid i ≡ c → i ≡ s
      same_symbol i h e =
          sym (number-bits_of q i h) ∙ ap number (append_cancel_right (bits_of q i) (bits_of q s) node (e ∙ sym is))
          ∙ number-bits_of q s inside

      own_key : get_or keys s 0 ≡ keyed (metric q rows (kid s)) (own s)
      own_key = r.keyed s inside (Memᴰ.head is)

      -- Its key is the first smallest
      first : least_first keys (2 ^ q) ≡ s
      first = least_is keys (2 ^ q) s inside (λ j h. go j h (r.each j h))
        where
          -- what siblings share of the prior cost decides nothing
          by_own : {x y : ℕ} (j : ℕ) → AtOrBefore (metric q rows (kid s) ∷ cost q rows (kid s) ∷ x ∷ []) (metric q rows (kid j) ∷ cost q rows (kid j) ∷ y ∷ [])
              → AtOrBefore (metric q rows (kid s) ∷ own s ∷ x ∷ []) (metric q rows (kid j) ∷ own j ∷ y ∷ [])
          by_own j (inl k) = inl k
          by_own j (inr (k, inl l)) = inr (k, inl (omega (arith, costs s, costs j)))
          by_own j (inr (k, inr (l, m))) = inr (k, inr (omega (arith, costs s, costs j), m))

          by_order : (j : ℕ) → j < 2 ^ q → kid j ∈ rest
              → AtOrBefore (keyed (metric q rows (kid s)) (own s) ∷ s ∷ []) (keyed (metric q rows (kid j)) (own j) ∷ j ∷ [])
          by_order j h m =
              let before : is_before q rows (kid s) (kid j) ≡ true = rw is (r.rising.0 (kid j) m) in
              subst₂ (λ (x y : ℕ). AtOrBefore (keyed (metric q rows (kid s)) (own s) ∷ x ∷ []) (keyed (metric q rows (kid j)) (own j) ∷ y ∷ []))
              (number-bits_of q s inside) (number-bits_of q j h)
              (key_order (cheap s) (by_own j (earlier_true _ _ (sym (sibling_order q rows node (bits_of q s) (bits_of q j)) ∙ before))))

          among : (j : ℕ) → j < 2 ^ q → (kid j ≡ c) ⊎ (kid j ∈ rest) → AtOrBefore (placed keys s) (placed keys j)
          among j h (inl e) = rw (same_symbol j h e) (order_refl (placed keys s))
          among j h (inr m) = rw (own_key, r.keyed j h (Memᴰ.tail m)) (by_order j h m)

          go : (j : ℕ) → j < 2 ^ q → (kid j ∈ c ∷ rest) ⊎ (get_or keys j 0 ≡ tried) → AtOrBefore (placed keys s) (placed keys j)
          go j h (inl m) = among j h (Memᴰ.cases_cons m)
          go j h (inr e) = inl (omega (arith, own_key, key_low (metric q rows (kid s)) (own s) (low s) (cheap s)))

      -- With that key taken the other children are left
      others : Remaining (set keys s tried) rest
      others = record {
        wide = omega (arith, r.wide, length-set keys s tried);
        among = λ x m. r.among x (Memᴰ.tail m);
        keyed = λ i h m. get_or-set_other keys s i tried 0 (apart i m) ∙ r.keyed i h (Memᴰ.tail m);
        each = λ i h. taken i h (ℕ_discrete i s) (r.each i h);
        rising = r.rising.1;
        once = r.once.1;
      }
        where
          apart : (i : ℕ) → kid i ∈ rest → i ≢ s
          apart i m e = r.once.0 (subst (λ (x : Bits). x ∈ rest) (ap kid e ∙ is) m)

          among : (i : ℕ) → i < 2 ^ q → i ≢ s → (kid i ≡ c) ⊎ (kid i ∈ rest) → kid i ∈ rest
          among i h e (inl p) = absurd (e (same_symbol i h p))
          among i h e (inr m) = m

          taken : (i : ℕ) → i < 2 ^ q → Dec (i ≡ s) → (kid i ∈ c ∷ rest) ⊎ (get_or keys i 0 ≡ tried)
              → (kid i ∈ rest) ⊎ (get_or (set keys s tried) i 0 ≡ tried)
          taken i h (yes e) w = inr (rw e (get_or-set_same keys s tried 0 (omega (arith, inside, r.wide))))
          taken i h (no e) (inl m) = inl (among i h e (Memᴰ.cases_cons m))
          taken i h (no e) (inr k) = inr (get_or-set_other keys s i tried 0 e ∙ k)

    -- The first smallest key is that of the first child left
    pub next : Next keys c rest (least_first keys (2 ^ q))
    next =
        let x = symbol in
        rw (first x.0 x.1 x.2)
        (record { inside = x.1; is = x.2; key = own_key x.0 x.1 x.2; left = others x.0 x.1 x.2 })
