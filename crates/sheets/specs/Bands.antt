-- The widened bands of a sheet as the code holds them. Definitions alone.
use Rattle.std.specs.Prelude.{ℕ, List, ℤ, Result, ◌*◌, ◌/◌, ◌%◌, cond, eqb, pos, ◌+ℤ◌, ◌-ℤ◌}
use Rattle.laws.specs.Lists.{at, tabs}
use Rattle.meaning.specs.Answers.{Whole}
use Rattle.meaning.specs.declared.Refusal.{Refusal}
use Rattle.meaning.specs.declared.Sheet.{Sheet}
use Rattle.meaning.specs.Plants.{band_limit}
use Rattle.meaning.specs.Sheets.{limited_to, widening, made_band}
use Rattle.sheets.specs.Wholes.{all_near, held}

-- the two entries of `made_band`
abbrev pub low_end : Sheet → ℕ → Whole
low_end h i = limited_to band_limit (at h.wlo i -ℤ pos (widening h))

abbrev pub high_end : Sheet → ℕ → Whole
high_end h i = limited_to band_limit (at h.whi i +ℤ pos (widening h))

-- the p-th end in plant order: those of each dimension in turn
unfoldable pub end_at : Sheet → ℕ → Whole
end_at h p = cond (eqb (p % 2) 0) (low_end h (p / 2)) (high_end h (p / 2))

-- as many as four rooms have
abbrev pub most_ends : ℕ
most_ends = 8

abbrev pub bands_of : Sheet → ℕ → Result (List ℤ) Refusal
bands_of h place = all_near place (tabs (made_band h) h.n 0) (held most_ends (end_at h) (2 * h.n))
