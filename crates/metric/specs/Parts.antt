-- A child's increment by its two axes. The diagonal of R is real, so the real part of a residual depends on the real half of the
-- symbol's label alone, and the imaginary part on the other half.
use Rattle.std.specs.Prelude.{ℕ, zero, suc, ◌+◌, ◌-◌, ◌*◌, ◌/◌, ◌%◌, ◌^◌, ◌<◌, Bool, List, map, eqb, ℤ, pos, nat_abs, ◌-ℤ◌, ◌*ℤ◌, get_or, set}
use Rattle.model.specs.Constellation.{bits_of, amplitude}
use Rattle.model.specs.Metric.{prior_cost}
use Rattle.model.specs.Soft.{up_from}
use Rattle.model.specs.Block.{most_width}

-- What remains of y in a row, and a diagonal entry times an amplitude, are below this in magnitude
abbrev pub remainder_bound : ℕ
remainder_bound = 2 ^ 19

-- The most bits of an axis label, and how many labels such an axis has
abbrev pub axis_width : ℕ
axis_width = most_width / 2

abbrev pub span : ℕ
span = 2 ^ axis_width

-- n numbers of a list from a place on
unfoldable pub part : List ℤ → ℕ → ℕ → List ℤ
part numbers at n = map (λ i. get_or numbers (at + i) (pos 0)) (up_from 0 n)

-- Bit i, counted from the first, of a label of n bits
unfoldable pub bit_of : ℕ → ℕ → ℕ → Bool
bit_of n label i = eqb (label / 2 ^ (n - suc i) % 2) 1

-- What an axis label adds to the squared distance: `left` is what remains of y on that axis after the entries right of the diagonal
abbrev pub axis_distance : ℤ → ℤ → ℕ → ℕ → ℕ
axis_distance left diagonal w g =
    let z = left -ℤ diagonal *ℤ amplitude (bits_of w g) in
    nat_abs z * nat_abs z

-- and to the prior cost: `priors` are those of the axis's bits
abbrev pub axis_cost : List ℤ → ℕ → ℕ → ℕ
axis_cost priors w g = prior_cost priors (bits_of w g)

-- The two together
unfoldable pub axis_part : ℤ → ℤ → List ℤ → ℕ → ℕ → ℕ
axis_part left diagonal priors w g = axis_distance left diagonal w g + axis_cost priors w g

-- How far apart two numbers are
abbrev pub apart : ℕ → ℕ → ℕ
apart a b = a - b + (b - a)

-- The distance from a number of magnitude d to the nearest of the amplitudes of an axis of w bits, times the diagonal: the axis is folded
-- at 0, which leaves the magnitude, and then at the middle of what is left
unfoldable pub nearest_of : ℕ → ℕ → ℕ → ℕ
nearest_of diagonal zero d = d
nearest_of diagonal (suc w) d = nearest_of diagonal w (apart d (diagonal * 2 ^ w))

-- A child's partial metric from its parent's and the parts of its two axis labels, or its key from theirs
unfoldable pub child_metric : ℕ → ℕ → (ℕ → ℕ) → (ℕ → ℕ) → ℕ → ℕ
child_metric q partial re im s = partial + (re (s / 2 ^ (q / 2)) + im (s % 2 ^ (q / 2)))

-- The part of a real label, and of an imaginary one, in the array of both axes
abbrev pub real_in : List ℕ → ℕ → ℕ
real_in axes a = get_or axes a 0

abbrev pub imaginary_in : List ℕ → ℕ → ℕ
imaginary_in axes b = get_or axes (span + b) 0

-- A child's key from what its real label gives and its imaginary label's part
unfoldable pub row_metric : ℕ → List ℕ → ℕ → ℕ
row_metric base axes b = base + imaginary_in axes b

-- A list with its first n places filled by a rule
unfoldable pub filled : {A : Type 0} → (ℕ → A) → ℕ → List A → List A
filled f zero l = l
filled f (suc n) l = set (filled f n l) n (f n)

-- Document 02, Point 3, "in one pass over them": the places of a node's children after the first k of these are measured. `shared` is what
-- the node gives to the keys of all, and `axes` has the parts of both axes.
unfoldable pub measured_to : ℕ → ℕ → List ℕ → ℕ → List ℕ → List ℕ
measured_to q shared axes k keys = filled (child_metric q shared (real_in axes) (imaginary_in axes)) k keys

-- A list with n places from a place on filled by a rule
unfoldable pub filled_from : {A : Type 0} → ℕ → (ℕ → A) → ℕ → List A → List A
filled_from at f zero l = l
filled_from at f (suc n) l = set (filled_from at f n l) (at + n) (f n)

-- Every entry of a list of parts of keys is small enough to add three of them
abbrev pub AllSmall : List ℕ → Type 0
AllSmall l = (i : ℕ) → get_or l i 0 < 2 ^ 62
