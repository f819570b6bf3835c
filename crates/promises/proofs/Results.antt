-- The first half of page Results (specs/Paper): what a whole number of a float shows. It rests on page Nearest of this folder.
use Rattle.std.specs.Prelude.{ℕ, ◌≤◌, ◌≡◌, refl, true, [], ◌∷◌, ◌↔◌, T, ℤ, pos, nat_abs, ◌*ℤ◌, Float, Some, None}
use Rattle.std.proofs.Math.Logic.Iff
use Rattle.std.specs.Float.Ieee as F
use Rattle.std.specs.Float.{binary64}
use Rattle.laws.specs.Tests.{never}
use Rattle.meaning.specs.Answers.{Whole}
use Rattle.meaning.specs.Refusals.{whole_shown}
use Rattle.meaning.specs.Sheets.{finite, whole_of, units, units_of}
use Rattle.promises.specs.Sheets.Nearest.{Nearest}
use Rattle.promises.specs.Paper.Shows.{shows, whole-exactly}
use Rattle.promises.proofs.Nearest.{near-exactly}

-- ---- of a float that binary64 holds, 0 with the nearest whole number where the plant can hold it, and else 14 with which number it is

module _ (which limit k : ℕ) (x : Float) (held : T (F.fits binary64 x)) where
  pub near-shown : (v : ℤ) → (whole_shown which (whole_of limit k x) ≡ shows 0 0 0 (v ∷ []))
      ↔ ((finite x ≡ true) × Nearest units (pos k *ℤ units_of x) v × (nat_abs v ≤ limit))
  near-shown v = Iff.trans (whole-exactly which (whole_of limit k x) (Some v)) (near-exactly limit k x v held)

  pub out-shown : (whole_shown which (whole_of limit k x) ≡ shows 14 which 0 [])
      ↔ ((v : ℤ) → finite x ≡ true → Nearest units (pos k *ℤ units_of x) v → nat_abs v ≤ limit → ⊥)
  out-shown = Iff.trans (whole-exactly which (whole_of limit k x) None) (
    λ e v a b c. let q = (near-exactly limit k x v held).1 (a, b, c) in never cc,
    λ h. go (whole_of limit k x) (λ v q. let w = (near-exactly limit k x v held).0 q in h v w.0 w.1 w.2),
  )
    where
      go : (w : Whole) → ((v : ℤ) → w ≡ Some v → ⊥) → w ≡ None
      go None h = refl
      go (Some v) h = absurd (h v refl)
