-- What stands behind the bands of mode 0, written mode by mode. Assumes nothing.
use Prim.Native.Nat.{ℕ, suc, ◌+◌, ◌-◌, ◌*◌, ◌<◌, ◌≤◌}
use mathlib.Core.Path.{◌≡◌, refl, ap, ◌∙◌}
use mathlib.Core.List.{List, [], ◌++◌, append_assoc}
use native.Mathlib.Omega.{arith}
use native.Mathlib.Nat.{zero-add}
use lib.IntN.{ℤ}
use borrow.Author.Tests.{eq-eqb, ne_eqb}
use Rattle.laws.specs.Columns.{tabs-tab}
use Rattle.laws.specs.Lists.{at, tab, tabs}
use Rattle.meaning.specs.Plants.{band_numbers, row_numbers}
use Rattle.files.specs.Signed.{signed_bytes, signed-append}
use Rattle.files.specs.Modes.{mode_numbers, rest_numbers}

module _ (form n modes : ℕ) (bands coef : List ℤ) where
  -- form 1: all rows
  pub rest-alike : (form ≡ 2 → ⊥) → rest_numbers form n modes bands coef ≡ tab (at coef) (n * (n + 1) * modes) 0
  rest-alike h =
      simp (ne_eqb _ _ h) (tabs-tab (at coef) (row_numbers n coef) (n * (n + 1)) 0 modes (λ u _. let z : 0 + n * (n + 1) * u ≡ n * (n + 1) * u = zero-add _ in rw z refl))

  -- form 2: the rows of mode 0, and then each further mode
  pub rest-own : form ≡ 2 → signed_bytes (rest_numbers form n modes bands coef) ≡ signed_bytes (tab (at coef) (n * (n + 1)) 0) ++ signed_bytes (tabs (mode_numbers n bands coef) (modes - 1) 1)
  rest-own h = let z : n * (n + 1) * 0 ≡ 0 = omega arith in simp (eq-eqb _ _ h) (rw z (signed-append (tab (at coef) (n * (n + 1)) 0) (tabs (mode_numbers n bands coef) (modes - 1) 1)))

module _ (n modes : ℕ) (bands coef : List ℤ) (u : ℕ) where
  -- one mode more, its bands and then its rows; or none
  pub further-step : u < modes → signed_bytes (tabs (mode_numbers n bands coef) (modes - u) u)
      ≡ signed_bytes (band_numbers n bands u) ++ (signed_bytes (row_numbers n coef u) ++ signed_bytes (tabs (mode_numbers n bands coef) (modes - (u + 1)) (u + 1)))
  unfolding tabs
  further-step h =
      let more = tabs (mode_numbers n bands coef) (modes - (u + 1)) (u + 1) in
      let q : modes - u ≡ suc (modes - (u + 1)) = omega arith in
      ap (λ (m : ℕ). signed_bytes (tabs (mode_numbers n bands coef) m u)) q
      ∙ signed-append (mode_numbers n bands coef u) more ∙ ap (λ (bs : List ℕ). bs ++ signed_bytes more) (signed-append (band_numbers n bands u) (row_numbers n coef u))
      ∙ append_assoc (signed_bytes (band_numbers n bands u)) (signed_bytes (row_numbers n coef u)) (signed_bytes more)

  pub further-over : modes ≤ u → signed_bytes (tabs (mode_numbers n bands coef) (modes - u) u) ≡ []
  unfolding tabs signed_bytes
  further-over h = let q : modes - u ≡ 0 = omega arith in rw q refl
