-- The plant of a sheet as the code holds it: its coefficients one by one, or the place of the first number that does not fit. Definitions alone.
use Rattle.std.specs.Prelude.{ℕ, ◌+◌, ◌*◌, ◌/◌, ◌%◌, ◌≡◌, cond, List, ltb, ℤ, Ok, Err, Result}
use Rattle.laws.specs.Lists.{tab}
use Rattle.meaning.specs.Answers.{Whole}
use Rattle.meaning.specs.declared.Outline.{Outline}
use Rattle.meaning.specs.declared.Refusal.{Refusal}
use Rattle.meaning.specs.declared.Sheet.{Sheet}
use Rattle.meaning.specs.Plants.{entry_limit, offset_limit, coef_count, Plant, plant_from}
use Rattle.meaning.specs.Sheets.{whole_of, coefficient, offset, made_modes, made_numbers}
use Rattle.sheets.specs.declared.made.Made.{Made}
use Rattle.sheets.specs.Wholes.{all_near, held}
use Rattle.sheets.specs.Bands.{end_at, most_ends}

-- as many coefficients as sixteen modes have
abbrev pub most_entries : ℕ
most_entries = 320

-- the p-th coefficient in file order: column p % (n + 1) of row p / (n + 1), which is row i of mode u where that is u·n + i
unfoldable pub entry_at : Sheet → ℕ → Whole
entry_at h p =
    let j = p % (h.n + 1) in
    let i = p / (h.n + 1) % h.n in
    let u = p / (h.n + 1) / h.n in
    cond (ltb j h.n) (whole_of entry_limit h.q (coefficient h u i j)) (whole_of offset_limit (h.q * h.r) (offset h u i))

abbrev pub entries_of : Sheet → ℕ → ℕ → Result (List ℤ) Refusal
entries_of h place count = all_near place (tab (entry_at h) count 0) (held most_entries (entry_at h) count)

-- what is told of them where they are left in an array: done, it holds them, and refused nothing is said of it
abbrev pub EntriesTold : Sheet → ℕ → ℕ → List ℤ → Result (Unit {0}) Refusal → Type 0
EntriesTold h place count coef (Ok x) = entries_of h place count ≡ Ok coef
EntriesTold h place count coef (Err e) = entries_of h place count ≡ Err e

-- the plant that is made, as the code holds it: 0 where a number is out, and the sheet's own arrays of edges; its coefficients stand apart
abbrev pub held_outline : Sheet → Outline
held_outline h = record {
  form = 1;
  n = h.n;
  modes = made_modes h;
  q = h.q;
  k = h.k;
  d = h.d;
  rlo = h.rlo;
  rhi = h.rhi;
  slo = h.slo;
  shi = h.shi;
}

abbrev pub held_ends : Sheet → List ℤ
held_ends h = held most_ends (end_at h) (2 * h.n)

abbrev pub held_coef : Sheet → List ℤ
held_coef h = held most_entries (entry_at h) (coef_count (made_modes h) h.n)

abbrev pub held_plant : Sheet → Plant
held_plant h = plant_from (held_outline h) (held_ends h) (held_coef h)

abbrev pub held_made : Sheet → Made
held_made h = record { outline = held_outline h; ends = held_ends h }

abbrev pub made_of : Sheet → Result Made Refusal
made_of h = all_near 0 (made_numbers h) (held_made h)
