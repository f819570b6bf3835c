-- A signed number divided by a natural number: rounded down, and rounded up. Exact around zero.
-- Relies on lib.IntN alone; a divisor of 0 is nobody's concern here.
use Rattle.std.specs.Prelude.{ℕ, ◌/◌, ℤ, pos, negsuc, neg_ℤ}

-- the greatest whole number not above z / q: −(a + 1) / q rounds down to −(a / q + 1)
abbrev pub floor_z : ℤ → ℕ → ℤ
floor_z (pos a) q = pos (a / q)
floor_z (negsuc a) q = negsuc (a / q)

-- the least whole number not below z / q
abbrev pub ceil_z : ℤ → ℕ → ℤ
ceil_z z q = neg_ℤ (floor_z (neg_ℤ z) q)
