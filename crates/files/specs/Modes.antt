-- The modes of a plant's file as the code reads and writes them: what stands behind the bands of mode 0, in either form; what it is that bands and rows
-- were read into two lent arrays, as far as these have room: lists of numbers that stand in the file and were stored; and what is to be said of the bands of
-- all modes. Definitions alone.
use Rattle.std.specs.Prelude.{ℕ, ◌+◌, ◌-◌, ◌*◌, ◌≤◌, ◌<◌, ◌≡◌, Bool, false, cond, List, ◌++◌, map, ltb, ℤ, length, Ok, Err, Result}
use Rattle.std.proofs.lemmas.List.Edits.{sets}
use Rattle.laws.specs.Lists.{tab, tabs, first_false}
use Rattle.meaning.specs.Answers.{Verdict}
use Rattle.meaning.specs.declared.Refusal.{Refusal}
use Rattle.meaning.specs.Refusals.{narrow}
use Rattle.meaning.specs.Files.{Form, end, read, refused, values_at, Judged, good}
use Rattle.meaning.specs.Boxes.{Side, sides_of}
use Rattle.meaning.specs.Plants.{times, row, own_bands, mode_form, band_of, band_numbers, row_numbers, band_side, wide, related}
use Rattle.files.specs.declared.beginnings.Beginning.{Beginning}
use Rattle.files.specs.declared.modes.ModesRead.{ModesRead}
use Rattle.files.specs.Parts.{Holds, Fails, Rows}
use Rattle.files.specs.Beginnings.{bands_in, verdict_of}

-- ---- behind the bands of mode 0

abbrev pub rest_by : Bool → ℕ → ℕ → Form
rest_by own n modes = cond own (times n (row n) (times (modes - 1) (mode_form n) end)) (times (modes * n) (row n) end)

abbrev pub rest_form : ℕ → ℕ → ℕ → Form
rest_form form n modes = rest_by (own_bands form) n modes

-- the numbers of mode u in form 2
abbrev pub mode_numbers : ℕ → List ℤ → List ℤ → ℕ → List ℤ
mode_numbers n bands coef u = band_numbers n bands u ++ row_numbers n coef u

abbrev pub rest_numbers_by : Bool → ℕ → ℕ → List ℤ → List ℤ → List ℤ
rest_numbers_by own n modes bands coef = cond own (row_numbers n coef 0 ++ tabs (mode_numbers n bands coef) (modes - 1) 1) (tabs (row_numbers n coef) modes 0)

abbrev pub rest_numbers : ℕ → ℕ → ℕ → List ℤ → List ℤ → List ℤ
rest_numbers form n modes bands coef = rest_numbers_by (own_bands form) n modes bands coef

-- ---- read

-- one mode's bands, for each of m modes
abbrev pub ends_alike : ℕ → List ℤ → List ℤ → ℕ → List ℤ
ends_alike n wlo whi m = tabs (λ _. tabs (band_of wlo whi) n 0) m 0

-- the bands of mode u
abbrev pub bands_from : ℕ → List ℤ → ℕ → List Side
bands_from n bands u = tab (band_side n bands u) n 0

-- m modes' numbers, ends of bands and entries of rows
pub record Numbers (n m : ℕ) (ends entries : List ℤ) : Type 0 where
  pub ends-long : length ends ≡ 2 * n * m
  pub entries-long : length entries ≡ n * (n + 1) * m

-- they were stored in the arrays, those of mode u first
pub record Stored (n u : ℕ) (ends entries bands₀ coef₀ bands coef : List ℤ) : Type 0 where
  pub bands-stored : bands ≡ sets bands₀ (2 * n * u) ends
  pub coef-stored : coef ≡ sets coef₀ (n * (n + 1) * u) entries

-- mode u of form 2 was read into the arrays
pub record ModeHeld (s : List ℕ) (at n q u : ℕ) (bands₀ coef₀ bands coef : List ℤ) (thin next : ℕ) : Type 0 where
  pub ends : List ℤ
  pub entries : List ℤ
  pub numbers : Numbers n 1 ends entries
  pub part : Holds (mode_form n) s at (ends ++ entries) next
  pub stored : Stored n u ends entries bands₀ coef₀ bands coef
  pub first : thin ≡ first_false (map (wide q) (bands_from n ends 0))

abbrev pub ModeTold : List ℕ → ℕ → ℕ → ℕ → ℕ → List ℤ → List ℤ → List ℤ → List ℤ → Result (ℕ × ℕ) Refusal → Type 0
ModeTold s at n q u bands₀ coef₀ bands coef (Ok (thin, next)) = ModeHeld s at n q u bands₀ coef₀ bands coef thin next
ModeTold s at n q u bands₀ coef₀ bands coef (Err e) = Fails (mode_form n) s at e

-- what is to be said behind one mode more
abbrev pub after_mode : Verdict → ℕ → ℕ → ℕ → Verdict
after_mode (Err e) n u thin = Err e
after_mode (Ok _) n u thin = cond (ltb thin n) (Err (narrow u thin)) (Ok tt)

-- what is asked of R, S and the bands of the first m modes
abbrev pub related_by : {A : Type 0} → Beginning → List ℤ → ℕ → (Unit {0} → Judged A) → Judged A
related_by b bands m rest = related b.q (sides_of b.n b.root.lo b.root.hi) (sides_of b.n b.safe.lo b.safe.hi) (tab (bands_from b.n bands) m 0) rest

abbrev pub relation_by : Beginning → List ℤ → ℕ → Verdict
relation_by b bands m = verdict_of {A = Unit {0}} (related_by b bands m λ _. good tt)

-- the modes of form 2 behind mode 0, of which u - 1 were read; what is to be said of all hangs on what was to be said of mode 0, whatever its bands are
pub record FurtherTo (s : List ℕ) (b : Beginning) (at u : ℕ) (related told : Verdict) (bands₀ coef₀ bands coef : List ℤ) (p : ℕ) : Type 0 where
  pub some : 1 ≤ u
  pub few : u ≤ b.m
  pub ends : List ℤ
  pub entries : List ℤ
  pub numbers : Numbers b.n (u - 1) ends entries
  pub done : Rows (mode_form b.n) (mode_numbers b.n ends entries) s at (b.m - 1) (u - 1) p
  pub stored : Stored b.n 1 ends entries bands₀ coef₀ bands coef
  pub verdict : (first : List ℤ) → length first ≡ 2 * b.n → related ≡ relation_by b first 1 → told ≡ relation_by b (first ++ ends) u

abbrev pub FurtherTold : List ℕ → Beginning → Verdict → ℕ → List ℤ → List ℤ → List ℤ → List ℤ → Result ModesRead Refusal → Type 0
FurtherTold s b related at bands₀ coef₀ bands coef (Ok r) = FurtherTo s b at b.m related r.related bands₀ coef₀ bands coef r.next
FurtherTold s b related at bands₀ coef₀ bands coef (Err e) = Fails (times (b.m - 1) (mode_form b.n)) s at e

-- all modes were read into the arrays
pub record ModesHeld (s : List ℕ) (b : Beginning) (at : ℕ) (bands₀ coef₀ bands coef : List ℤ) (told : Verdict) (next : ℕ) : Type 0 where
  pub ends : List ℤ
  pub entries : List ℤ
  pub numbers : Numbers b.n b.m ends entries
  pub held : values_at (rest_form b.form b.n b.m) s at ≡ read (rest_numbers b.form b.n b.m ends entries) next
  pub first : band_numbers b.n ends 0 ≡ bands_in b
  pub alike : own_bands b.form ≡ false → (u : ℕ) → u < b.m → band_numbers b.n ends 0 ≡ band_numbers b.n ends u
  pub stored : Stored b.n 0 ends entries bands₀ coef₀ bands coef
  pub verdict : told ≡ relation_by b ends b.m

abbrev pub ModesTold : List ℕ → Beginning → ℕ → List ℤ → List ℤ → List ℤ → List ℤ → Result ModesRead Refusal → Type 0
ModesTold s b at bands₀ coef₀ bands coef (Ok r) = ModesHeld s b at bands₀ coef₀ bands coef r.related r.next
ModesTold s b at bands₀ coef₀ bands coef (Err e) = values_at (rest_form b.form b.n b.m) s at ≡ refused e
