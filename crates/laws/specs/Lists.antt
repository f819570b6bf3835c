-- Lists by their entries, entries of lists of signed numbers, and lists of tests. Definitions alone.
use Rattle.std.specs.Prelude.{ℕ, zero, suc, ◌+◌, ◌-◌, Bool, true, ◌&&◌, cond, List, [], ◌∷◌, ◌++◌, length, get_or, replicate, ℤ, pos}

-- the i-th entry, from 0; 0 behind the end
abbrev pub at : List ℤ → ℕ → ℤ
at zs i = get_or zs i (pos 0)

-- f i, f (i + 1), .. : m of them
unfoldable pub tab {ℓ} : {A : Type ℓ} → (ℕ → A) → ℕ → ℕ → List A
tab f zero i = []
tab f (suc m) i = f i ∷ tab f m (i + 1)

-- the lists f i, f (i + 1), .. one behind another: m of them
unfoldable pub tabs {ℓ} : {A : Type ℓ} → (ℕ → List A) → ℕ → ℕ → List A
tabs f zero i = []
tabs f (suc m) i = f i ++ tabs f m (i + 1)

-- a list made up to m entries
abbrev pub padded {ℓ} : {A : Type ℓ} → ℕ → A → List A → List A
padded m z zs = zs ++ replicate (m - length zs) z

-- whether all tests of a list hold
unfoldable pub all : List Bool → Bool
all [] = true
all (t ∷ ts) = t && all ts

-- the place, from 0, of the first test that does not hold; behind the end where all do
unfoldable pub first_false : List Bool → ℕ
first_false [] = 0
first_false (t ∷ ts) = cond t (suc (first_false ts)) 0
