-- The arrays that a plant is read into: zeros, and room for the bands and coefficients of the plant that its file says, where it says one. Definitions alone.
use Rattle.std.specs.Prelude.{ℕ, ◌≤◌, ◌≡◌, List, ℤ, pos, length, replicate}
use Rattle.meaning.specs.Files.{good}
use Rattle.meaning.specs.Plants.{Plant, coef_count, band_count, plant_judged}

-- as many modes as the smaller arrays have room for
abbrev pub few_modes : ℕ
few_modes = 16

-- as many bands and coefficients as the larger ones have
abbrev pub most_bands : ℕ
most_bands = 2_048

abbrev pub most_coefficients : ℕ
most_coefficients = 5_120

pub record RoomFor (plant : List ℕ) (bands coef : List ℤ) : Type 0 where
  pub bands-zero : bands ≡ replicate (length bands) (pos 0)
  pub coef-zero : coef ≡ replicate (length coef) (pos 0)
  pub bands-room : (p : Plant) → plant_judged plant ≡ good p → band_count p.modes p.n ≤ length bands
  pub coef-room : (p : Plant) → plant_judged plant ≡ good p → coef_count p.modes p.n ≤ length coef
