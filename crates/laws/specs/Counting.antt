-- How many entries of a list pass a test. Assumes nothing.
use Rattle.std.specs.Prelude.{ℕ, ◌+◌, ◌*◌, ◌≤◌, ◌≡◌, Bool, true, false, ◌&&◌, ◌||◌, List, [], ◌∷◌, ◌++◌}
use Rattle.std.proofs.Common.{arith}

abbrev pub bit : Bool → ℕ
bit true = 1
bit false = 0

pub bit_and : (a b : Bool) → bit (a && b) ≡ bit a * bit b
bit_and true b = omega arith
bit_and false b = omega arith

pub bit_or : (a b : Bool) → bit (a || b) ≤ bit a + bit b
bit_or true b = omega arith
bit_or false b = omega arith

unfoldable pub count {ℓ} : {A : Type ℓ} → (A → Bool) → List A → ℕ
count test [] = 0
count test (a ∷ rest) = bit (test a) + count test rest

pub count-append {ℓ} : {A : Type ℓ} (test : A → Bool) (front back : List A) → count test (front ++ back) ≡ count test front + count test back
unfolding count
count-append test [] back = omega arith
count-append test (a ∷ front) back = omega (arith, count-append test front back)
