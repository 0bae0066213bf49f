-- What is said of an accepted record: how many whole numbers it has, and their checksum.
use Rattle.std.specs.Prelude.{ℕ, zero, suc, ◌+◌, ◌*◌, ◌%◌, min, cond, List, eqb, ℤ, pos, nat_abs, ◌+ℤ◌, get_or}

-- M, Q or N, and no more than the most
abbrev pub size_at : List ℤ → ℕ → ℕ → ℕ
size_at numbers i most = min (nat_abs (get_or numbers i (pos 0))) most

-- How many whole numbers a vector has: M × M of its matrix, 2 × M received, and M × Q priors, which are at most 24
abbrev pub vector_count : ℕ → ℕ → ℕ
vector_count m q = m * m + 2 * m + min (m * q) 24

-- How many stand before the first, by the opening's last byte: M, Q, N, C and D, and W where it is 32 or 33
abbrev pub header_count : ℕ → ℕ
header_count last = cond (eqb last 0x32) 6 (cond (eqb last 0x33) 6 5)

-- How many stand before each: its owner's, where it is 33
abbrev pub owner_count : ℕ → ℕ
owner_count last = cond (eqb last 0x33) 1 0

-- How many a record has: the first ones, and those of N vectors, each with so many before it
abbrev pub count_of : ℕ → ℕ → List ℤ → ℕ
count_of header own numbers = header + size_at numbers 2 64 * (own + vector_count (size_at numbers 0 4) (size_at numbers 1 8))

-- A number moved up by 2 to the 31
abbrev pub moved : ℤ → ℕ
moved z = nat_abs (z +ℤ pos 2147483648)

-- The checksum with one number more: a polynomial in 1,000,003, the first number highest, modulo a prime
abbrev pub mixed : ℕ → ℤ → ℕ
mixed sum z = (sum * 1000003 + moved z) % 4294967291

-- The checksum of the first numbers of a list, as many as n
abbrev pub checksum_of : List ℤ → ℕ → ℕ
checksum_of numbers zero = 0
checksum_of numbers (suc n) = mixed (checksum_of numbers n) (get_or numbers n (pos 0))
