-- Plant files (document 01, "Plant file" and the ranges above it; form 2 of request 2026-09, 256 modes of request 2026-08), read and written by one form; and what a mode of a plant
-- does.
use Rattle.std.specs.Prelude.{ℕ, zero, suc, ◌+◌, ◌*◌, Bool, ◌&&◌, cond, List, [], ◌∷◌, ◌++◌, map, leb, eqb, ℤ, pos, nat_abs, neg_ℤ, ◌-ℤ◌, length, replicate, Ok, Err}
use Rattle.std.proofs.lemmas.List.Edits.{sets}
use Rattle.std.specs.Int.Signed.{le_z}
use Rattle.meaning.specs.Answers.{PlantRead}
use Rattle.laws.specs.Guards.{guard}
use Rattle.laws.specs.Lists.{at, tab, tabs, padded, all, first_false}
use Rattle.meaning.specs.declared.Outline.{Outline}
use Rattle.meaning.specs.Refusals.{wrong_form, unfit, not_in_safe, narrow}
use Rattle.meaning.specs.Files.{plain, signed, Form, end, field, Read, read, refused, values_of, Judged, good, bad, file_of, file_judged}
use Rattle.meaning.specs.Buffers.{Left, left}
use Rattle.meaning.specs.Boxes.{Side, side, sides_of, lies}
use Rattle.meaning.specs.Images.{Row, Step}

-- ---- the ranges: edges of R and S, w, entries of A and b lie within ± these

abbrev pub edge_limit : ℕ
edge_limit = 1_000_000

abbrev pub band_limit : ℕ
band_limit = 1_000_000_000

abbrev pub entry_limit : ℕ
entry_limit = 20_000

abbrev pub offset_limit : ℕ
offset_limit = 10_000_000_000

-- ---- the fields

abbrev pub from : ℕ → ℕ → ℕ → Bool
from least most v = leb least v && leb v most

-- a form of 1..most
abbrev pub formed : ℕ → (ℕ → Form) → Form
formed most rest = field (record { kind = plain; right = λ v. from 1 most (nat_abs v); wrong = λ at. wrong_form }) λ v. rest (nat_abs v)

abbrev pub form_one : Form → Form
form_one rest = formed 1 λ _. rest

-- a number of some range
abbrev pub counted : (ℕ → Bool) → (ℕ → Form) → Form
counted ok rest = field (record { kind = plain; right = λ v. ok (nat_abs v); wrong = unfit }) λ v. rest (nat_abs v)

-- a signed number of some range
abbrev pub ranged : ℤ → ℤ → (ℤ → Form) → Form
ranged least most rest = field (record { kind = signed; right = λ v. le_z least v && le_z v most; wrong = unfit }) rest

-- within ± a limit
abbrev pub limited : ℕ → Form → Form
limited limit rest = ranged (neg_ℤ (pos limit)) (pos limit) λ _. rest

-- lo and hi within ± a limit, lo ≤ hi: a hi that is out of range or below lo is told at hi
abbrev pub span : ℕ → Form → Form
span limit rest = ranged (neg_ℤ (pos limit)) (pos limit) λ lo. ranged lo (pos limit) λ _. rest

-- m times
unfoldable pub times : ℕ → (Form → Form) → Form → Form
times zero part rest = rest
times (suc m) part rest = part (times m part rest)

-- depth D 0..6 with n·D ≤ 12
abbrev pub depth : ℕ → ℕ → Bool
depth n d = leb d 6 && leb (n * d) 12

-- for each dimension R lo, R hi, S lo, S hi
unfoldable pub edges : ℕ → Form → Form
edges n rest = times n (λ more. span edge_limit (span edge_limit more)) rest

-- for each dimension w lo, w hi
unfoldable pub bands : ℕ → Form → Form
bands n rest = times n (span band_limit) rest

abbrev pub edges_and_bands : ℕ → Form → Form
edges_and_bands n rest = edges n (bands n rest)

-- A_i1..A_in and b_i
unfoldable pub row : ℕ → Form → Form
row n rest = times n (limited entry_limit) (limited offset_limit rest)

-- n, a number in 1..most (a plant's N, a sheet's r), q, K, D
abbrev pub sized : ℕ → (ℕ → ℕ → Form) → Form
sized most rest =
    counted (from 1 4) λ n.
    counted (from 1 most) λ m.
    counted (from 1 10_000) λ q.
    counted (from 1 6) λ k.
    counted (depth n) λ d.
    rest n m

-- a form in 1..forms, and these
unfoldable pub headed : ℕ → ℕ → (ℕ → ℕ → ℕ → Form) → Form
headed forms most rest = formed forms λ form. sized most (rest form)

-- plants have forms 1 and 2; in form 2 each mode has its own bands
abbrev pub plant_forms : ℕ
plant_forms = 2

abbrev pub own_bands : ℕ → Bool
own_bands form = eqb form 2

-- the modes of form 2: for each mode, for each dimension w lo, w hi, and then for each i its row
abbrev pub mode_form : ℕ → Form → Form
mode_form n rest = bands n (times n (row n) rest)

unfoldable pub modes_own : ℕ → ℕ → Form
modes_own n modes = times modes (mode_form n) end

-- of form 1: for each dimension w lo, w hi; for each mode, for each i, its row
unfoldable pub modes_alike : ℕ → ℕ → Form
modes_alike n modes = bands n (times (modes * n) (row n) end)

abbrev pub modes_form : ℕ → ℕ → ℕ → Form
modes_form form n modes = cond (own_bands form) (modes_own n modes) (modes_alike n modes)

-- N 1..256 (document 01: 16; request 2026-08)
abbrev pub most_modes : ℕ
most_modes = 256

-- form, n, N, q, K, D; for each dimension R and S; the modes
unfoldable pub plant_form : Form
plant_form = headed plant_forms most_modes λ form n modes. edges n (modes_form form n modes)

-- ---- a plant and the numbers of its file, in file order, its form being 0

-- Bands and coefficients stand mode by mode: the band of mode u in dimension i at 2·(u·n + i), w lo and w hi; row i of mode u at (u·n + i)·(n + 1), its n
-- entries of A and b_i behind them.
pub record Plant : Type 0 where
  pub form : ℕ
  pub n : ℕ
  pub modes : ℕ
  pub q : ℕ
  pub k : ℕ
  pub d : ℕ
  pub rlo : List ℤ
  pub rhi : List ℤ
  pub slo : List ℤ
  pub shi : List ℤ
  pub bands : List ℤ
  pub coef : List ℤ

-- m entries, `by` apart, in an array of 4
abbrev pub column : List ℤ → ℕ → ℕ → ℕ → List ℤ
column vs first by m = padded 4 (pos 0) (tab (λ i. at vs (first + by * i)) m 0)

-- as many coefficients as there may be: of 256 modes, four rows of five numbers each
abbrev pub most_coefs : ℕ
most_coefs = 5_120

-- how many coefficients there are, n rows of n + 1 in a mode
abbrev pub coef_count : ℕ → ℕ → ℕ
coef_count modes n = modes * n * (n + 1)

-- and ends of bands: of 256 modes, four bands of two ends each
abbrev pub most_bands : ℕ
most_bands = 2_048

abbrev pub band_count : ℕ → ℕ → ℕ
band_count modes n = modes * n * 2

-- the numbers of a mode in form 2, its bands and its rows
abbrev pub mode_size : ℕ → ℕ
mode_size n = 2 * n + n * (n + 1)

-- which number of the file the bands of mode u begin with, and its rows
abbrev pub bands_at : ℕ → ℕ → ℕ → ℕ
bands_at form n u = 6 + 4 * n + cond (own_bands form) (mode_size n * u) 0

abbrev pub rows_at : ℕ → ℕ → ℕ → ℕ
rows_at form n u = 6 + 6 * n + cond (own_bands form) (mode_size n * u) (n * (n + 1) * u)

unfoldable pub plant_of : List ℤ → Plant
plant_of vs =
    let form = nat_abs (at vs 0) in
    let n = nat_abs (at vs 1) in
    let modes = nat_abs (at vs 2) in
    record {
      form = form;
      n = n;
      modes = modes;
      q = nat_abs (at vs 3);
      k = nat_abs (at vs 4);
      d = nat_abs (at vs 5);
      rlo = column vs 6 4 n;
      rhi = column vs 7 4 n;
      slo = column vs 8 4 n;
      shi = column vs 9 4 n;
      bands = tabs (λ u. tab (at vs) (2 * n) (bands_at form n u)) modes 0;
      coef = tabs (λ u. tab (at vs) (n * (n + 1)) (rows_at form n u)) modes 0;
    }

-- R and S of each dimension, then w of each dimension
abbrev pub edges_of : List ℤ → List ℤ → List ℤ → List ℤ → ℕ → List ℤ
edges_of rlo rhi slo shi i = at rlo i ∷ at rhi i ∷ at slo i ∷ at shi i ∷ []

abbrev pub band_of : List ℤ → List ℤ → ℕ → List ℤ
band_of wlo whi i = at wlo i ∷ at whi i ∷ []

-- the bands and the rows of mode u
abbrev pub band_numbers : ℕ → List ℤ → ℕ → List ℤ
band_numbers n bands u = tab (at bands) (2 * n) (2 * n * u)

abbrev pub row_numbers : ℕ → List ℤ → ℕ → List ℤ
row_numbers n coef u = tab (at coef) (n * (n + 1)) (n * (n + 1) * u)

-- In form 2 the bands and rows of each mode; in form 1 the bands of mode 0, and then the rows of all modes.
abbrev pub modes_numbers : ℕ → ℕ → ℕ → List ℤ → List ℤ → List ℤ
modes_numbers form n modes bands coef = cond (own_bands form)
    (tabs (λ u. band_numbers n bands u ++ row_numbers n coef u) modes 0)
    (band_numbers n bands 0 ++ tabs (row_numbers n coef) modes 0)

unfoldable pub numbers_of : Plant → List ℤ
numbers_of p =
    pos p.form ∷ pos p.n ∷ pos p.modes ∷ pos p.q ∷ pos p.k ∷ pos p.d
    ∷ (tabs (edges_of p.rlo p.rhi p.slo p.shi) p.n 0 ++ modes_numbers p.form p.n p.modes p.bands p.coef)

-- ---- judged: the numbers in file order, leftover bytes, then 4, then 5

-- R and S
abbrev pub root_of : Plant → List Side
root_of p = sides_of p.n p.rlo p.rhi

abbrev pub safe_of : Plant → List Side
safe_of p = sides_of p.n p.slo p.shi

-- the band of mode u in dimension i, and those of mode u
abbrev pub band_start : ℕ → ℕ → ℕ → ℕ
band_start n u i = 2 * (u * n + i)

abbrev pub band_side : ℕ → List ℤ → ℕ → ℕ → Side
band_side n bands u i = let start = band_start n u i in side (at bands start) (at bands (start + 1))

abbrev pub bands_of : Plant → ℕ → List Side
bands_of p u = tab (band_side p.n p.bands u) p.n 0

-- each band needs w hi − w lo ≥ q − 1
abbrev pub wide : ℕ → Side → Bool
wide q w = le_z (pos q -ℤ pos 1) (w.hi -ℤ w.lo)

-- the bands of each mode, from mode u on, are wide enough; or 5 with the first mode, and in it the first dimension
unfoldable pub wide_modes : {A : Type 0} → ℕ → ℕ → List (List Side) → (Unit {0} → Judged A) → Judged A
wide_modes q u [] rest = rest tt
wide_modes q u (bands ∷ more) rest =
    let all_wide = map (wide q) bands in
    guard (all all_wide) (bad (narrow u (first_false all_wide))) λ _.
    wide_modes q (u + 1) more rest

-- R lies within S, or 4 with the first dimension; each band is wide enough, or 5
abbrev pub related : {A : Type 0} → ℕ → List Side → List Side → List (List Side) → (Unit {0} → Judged A) → Judged A
related q root safe modes rest =
    let in_safe = lies root safe in
    guard (all in_safe) (bad (not_in_safe (first_false in_safe))) λ _.
    wide_modes q 0 modes rest

abbrev pub plant_related : Read (List ℤ) → Judged Plant
plant_related (refused r) = bad r
plant_related (read vs next) =
    let p = plant_of vs in
    related p.q (root_of p) (safe_of p) (tab (bands_of p) p.modes 0) λ _. good p

unfoldable pub plant_judged : List ℕ → Judged Plant
plant_judged s = plant_related (values_of plant_form s)

-- what a plant's reader answers: an outline, or the refusal
abbrev pub outline_of : Plant → Outline
outline_of p = record { form = p.form; n = p.n; modes = p.modes; q = p.q; k = p.k; d = p.d; rlo = p.rlo; rhi = p.rhi; slo = p.slo; shi = p.shi }

abbrev pub read_of : Judged Plant → PlantRead
read_of (good p) = Ok (outline_of p)
read_of (bad r) = Err r

abbrev pub plant_read : List ℕ → PlantRead
plant_read s = read_of (plant_judged s)

-- and leaves in an array that it is lent for the plant's bands or coefficients: finished, these, as far as there is room, and behind them what stood there;
-- refused, zeros
abbrev pub array_left : (Plant → List ℤ) → Judged Plant → List ℤ → List ℤ
array_left numbers (good p) lent = sets lent 0 (numbers p)
array_left numbers (bad r) lent = replicate (length lent) (pos 0)

abbrev pub bands_left : List ℕ → List ℤ → List ℤ
bands_left s lent = array_left (λ p. p.bands) (plant_judged s) lent

abbrev pub coef_left : List ℕ → List ℤ → List ℤ
coef_left s lent = array_left (λ p. p.coef) (plant_judged s) lent

-- a plant handed over: its outline, and the arrays of its bands and coefficients, in which what is lacking is 0 and what lies beyond N modes is ignored
abbrev pub plant_from : Outline → List ℤ → List ℤ → Plant
plant_from o bands coef = record {
  form = o.form;
  n = o.n;
  modes = o.modes;
  q = o.q;
  k = o.k;
  d = o.d;
  rlo = o.rlo;
  rhi = o.rhi;
  slo = o.slo;
  shi = o.shi;
  bands = bands;
  coef = coef;
}

-- what a plant's writer leaves: the plant is judged as the file it would be
unfoldable pub plant_left : Plant → List ℕ → Left
plant_left p buf = let bytes = file_of plant_form (numbers_of p) in left (file_judged bytes (plant_judged bytes)) buf

-- ---- what a mode of a plant does

-- row i of mode u
abbrev pub row_start : ℕ → ℕ → ℕ → ℕ
row_start n u i = (u * n + i) * (n + 1)

abbrev pub row_of : Plant → ℕ → ℕ → Row
row_of p u i =
    let start = row_start p.n u i in
    let band = band_side p.n p.bands u i in
    record { entries = tab (λ j. at p.coef (start + j)) p.n 0; offset = at p.coef (start + p.n); low = band.lo; high = band.hi }

abbrev pub step_of : Plant → ℕ → Step
step_of p u = record { rows = tab (row_of p u) p.n 0; q = p.q }
