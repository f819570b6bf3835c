-- Which numbers a plant or a sheet is refused by, and where (document 01, "What each number says"): a plant by 1 to 5, so that the maker's 9 and 10 are never
-- about the plant; a sheet by 1 to 5, 13 and 14; and one that is handed over as values, whose form is right, never by 2. The place of 1, 3 and 13 lies in the
-- file or just behind it, that of 4 is a dimension, that of 5 a mode, for a sheet 0, and its step a dimension, that of 14 which number of the plant file. Any form
-- whose fields tell only such refusals; then the forms of plants and sheets, and the tests behind them. Relies on pages Files and Framed. Which refusal it is the
-- definitions `plant_judged` and `sheet_judged` say.
use Prim.Native.Nat.{ℕ, zero, suc, ◌+◌, ◌-◌, ◌*◌, ◌≤◌, ◌<◌}
use Rattle.std.specs.Prelude.{◌≡◌, Bool, cond, eqb, ℤ, pos, nat_abs, Float, Some}
use Rattle.std.proofs.Math.Path.{refl}
use Rattle.std.proofs.Common.{sym, ap, mul-le-mul, arith, length-append, pow_mono}
use Rattle.std.proofs.Math.Bool.{true, false}
use mathlib.Core.List.{List, [], ◌∷◌, ◌++◌, map}
use Rattle.std.proofs.Math.ListN.{length, length-map}
use Rattle.std.proofs.Math.Seq.{drop-append_seam}
use Rattle.laws.specs.Every as E
use Rattle.laws.specs.Every.{Every, every-tab}
use Rattle.laws.specs.Guards.{guard}
use Rattle.laws.specs.Lists.{at, tab, tabs, all, first_false}
use Rattle.laws.specs.Standing.{Stands, stand-within}
use Rattle.laws.specs.Tabs.{length-tab, length-tabs}
use Rattle.laws.specs.Tests.{never}
use Rattle.meaning.specs.declared.Refusal.{Refusal}
use Rattle.meaning.specs.declared.Sheet.{Sheet}
use Rattle.meaning.specs.Boxes as B
use Rattle.meaning.specs.Boxes.{Side, side_at, lies}
use Rattle.meaning.specs.Files as F
use Rattle.meaning.specs.Files.{Kind, plain, signed, float, Form, end, field, Taken, taken, none, taken_as, bytes_as, Read, read, refused, before, on_taken, values_at, ended, values_of, Judged, good, bad}
use Rattle.meaning.specs.Numbers.{number_at, bytes_of, stored}
use Rattle.meaning.specs.Plants as P
use Rattle.meaning.specs.Plants.{Plant, edge_limit, band_limit, entry_limit, offset_limit, edges_of, counted, from, limited, span, times, edges, bands, row, sized, headed, plant_forms, most_modes, own_bands, mode_form, modes_own, modes_alike, modes_form, plant_form, plant_of, root_of, safe_of, band_side, bands_of, wide, wide_modes, related, plant_related, plant_judged}
use Rattle.meaning.specs.Refusals.{unfit, not_in_safe, narrow}
use Rattle.meaning.specs.Sheets as S
use Rattle.meaning.specs.Sheets.{floating, not_below, any_float, above, emitter_form, room_form, sheet_form, sheet_of, sheet_edges, made_modes, made_band, made_row, made_numbers, is_near, fitting, root_sheet, safe_sheet, bands_sheet, sheet_related, sheet_judged}
use Rattle.promises.specs.Files.Bytes.{bytes-some}
use Rattle.promises.specs.Files.Files.{taken-was, file-writes}
use Rattle.promises.specs.Files.Firsts.{false-inside}
use Rattle.promises.specs.Files.Floats.{low-length}
use Rattle.promises.specs.Files.Forms.{values-right}
use Rattle.promises.specs.Files.Framed.{framed}
use Rattle.promises.specs.Files.Headers.{from-holds}
use Rattle.promises.specs.Files.Numbers.{reads}
use Rattle.promises.specs.Files.PlantFiles.{plant_file}
use Rattle.promises.specs.Files.PlantShapes.{plant_body}
use Rattle.promises.specs.Sheets.SheetNumbers.{entry_at, offset_at}
use Rattle.promises.specs.Sheets.SheetPlants.{emitters-few}
use Rattle.promises.specs.Sheets.SheetFiles.{sheet_file}
use Rattle.promises.specs.Sheets.SheetShapes.{floats_form, sheet_body}
use Rattle.promises.specs.Files.Telling.{one_of, sheet_places, Telling, SheetTelling, guard-keeps, told_more, told-by}

-- ---- any form

-- a value that was read ends in the file
as_some : (k : Kind) (v : ℤ) → 1 ≤ length (bytes_as k v)
as_some plain v = bytes-some (nat_abs v)
as_some signed v = bytes-some (stored v)
as_some float v = omega (arith, low-length 8 (nat_abs v))

taken-inside : (s : List ℕ) (k : Kind) (i : ℕ) (v : ℤ) (next : ℕ) → taken_as k s i ≡ taken v next → next ≤ length s
taken-inside s k i v next e = stand-within s (bytes_as k v) i next (taken-was k v i next s e).stands (as_some k v)

module _ (numbers : List ℕ) (size : ℕ) where
  -- each field is refused so, wherever it stands in a file of that size
  unfoldable pub Tells : Form → Type 0
  Tells end = Unit {0}
  Tells (field f rest) = ((at : ℕ) → at ≤ size → Telling numbers size (f.wrong at)) × ((v : ℤ) → Tells (rest v))

  -- what was read, to a place in the file, or is refused so
  abbrev pub ReadTells : {A : Type 0} → Read A → Type 0
  ReadTells (read a next) = next ≤ size
  ReadTells (refused e) = Telling numbers size e

  pub before-tells : {A : Type 0} (v : A) (t : Read (List A)) → ReadTells t → ReadTells (before v t)
  before-tells v (read vs next) h = h
  before-tells v (refused e) h = h

pub read_told : (numbers : List ℕ) (size : ℕ) (t : Read (List ℤ)) → ReadTells numbers size t → (e : Refusal) → t ≡ refused e → Telling numbers size e
read_told numbers size (read vs next) h e q = never cc
read_told numbers size (refused f) h e q = let z : f ≡ e = cc in rw z at h

-- what was judged good, or is refused so
module _ (tells : Refusal → Type 0) where
  abbrev JudgedTells : {A : Type 0} → Judged A → Type 0
  JudgedTells (good a) = Unit {0}
  JudgedTells (bad e) = tells e

  judged-told : {A : Type 0} (j : Judged A) → JudgedTells j → (e : Refusal) → j ≡ bad e → tells e
  judged-told (good a) t e q = never cc
  judged-told (bad f) t e q = let z : f ≡ e = cc in rw z at t

-- what is read by a form is refused by 1, or as a field tells; then by 3, where bytes are left over
module _ (numbers s : List ℕ) (one : one_of numbers 1 ≡ true) (three : one_of numbers 3 ≡ true) where
  pub values-tell : (form : Form) → Tells numbers (length s) form → (i : ℕ) → i ≤ length s → ReadTells numbers (length s) (values_at form s i)
  unfolding F.values_at Tells
  values-tell end h i l = l
  values-tell (field f rest) h i l = go (taken_as f.kind s i) refl (λ v next k. values-tell (rest v) (h.1 v) next k)
    where
      go : (t : Taken) → taken_as f.kind s i ≡ t → ((v : ℤ) (next : ℕ) → next ≤ length s → ReadTells numbers (length s) (values_at (rest v) s next))
          → ReadTells numbers (length s) (on_taken t i λ v next. guard (f.right v) (refused (f.wrong i)) λ _. before v (values_at (rest v) s next))
      go none q ih = record { number = one; place = l; step = refl }
      go (taken v next) q ih =
          guard-keeps (ReadTells numbers (length s)) (f.right v) (λ _. before v (values_at (rest v) s next)) (λ _. h.0 i l)
          (λ _. before-tells numbers (length s) v (values_at (rest v) s next) (ih v next (taken-inside s f.kind i v next q)))

  pub ended-tells : (t : Read (List ℤ)) → ReadTells numbers (length s) t → ReadTells numbers (length s) (ended s t)
  ended-tells (refused e) h = h
  ended-tells (read vs next) l =
      guard-keeps (ReadTells numbers (length s)) (eqb next (length s)) (λ _. read vs next) (λ _. record { number = three; place = l; step = refl }) (λ _. l)

  file-tells : (form : Form) → Tells numbers (length s) form → ReadTells numbers (length s) (values_of form s)
  file-tells form h = ended-tells (values_at form s 0) (values-tell form h 0 (omega arith))

-- ---- the parts of the two forms

module _ (numbers : List ℕ) (size : ℕ) (three : one_of numbers 3 ≡ true) where
  abbrev T : Form → Type 0
  T = Tells numbers size

  pub end-tells : T end
  unfolding Tells
  end-tells = tt

  pub unfit-told : (at : ℕ) → at ≤ size → Telling numbers size (unfit at)
  unfit-told at l = record { number = three; place = l; step = refl }

  pub times-tell : (k : ℕ) (part : Form → Form) → ((rest : Form) → T rest → T (part rest)) → (rest : Form) → T rest → T (times k part rest)
  unfolding P.times
  times-tell zero part h rest t = t
  times-tell (suc k) part h rest t = h (times k part rest) (times-tell k part h rest t)

  limited-tells : (limit : ℕ) (rest : Form) → T rest → T (limited limit rest)
  unfolding Tells
  limited-tells limit rest t = (unfit-told, λ v. t)

  pub counted-tells : (ok : ℕ → Bool) (rest : ℕ → Form) → ((v : ℕ) → T (rest v)) → T (counted ok rest)
  unfolding Tells
  counted-tells ok rest t = (unfit-told, λ v. t (nat_abs v))

  pub span-tells : (limit : ℕ) (rest : Form) → T rest → T (span limit rest)
  unfolding Tells
  span-tells limit rest t = (unfit-told, λ lo. (unfit-told, λ hi. t))

  edges-tell : (n : ℕ) (rest : Form) → T rest → T (edges n rest)
  unfolding P.edges
  edges-tell n = times-tell n (λ more. span edge_limit (span edge_limit more)) (λ more h. span-tells edge_limit (span edge_limit more) (span-tells edge_limit more h))

  bands-tell : (n : ℕ) (rest : Form) → T rest → T (bands n rest)
  unfolding P.bands
  bands-tell n = times-tell n (span band_limit) (span-tells band_limit)

  row-tells : (n : ℕ) (rest : Form) → T rest → T (row n rest)
  unfolding P.row
  row-tells n rest t = times-tell n (limited entry_limit) (limited-tells entry_limit) (limited offset_limit rest) (limited-tells offset_limit rest t)

  rows_tell : (n m : ℕ) (rest : Form) → T rest → T (times m (row n) rest)
  rows_tell n m = times-tell m (row n) (row-tells n)

  -- the modes of either plant form
  modes-tell : (own : Bool) (n modes : ℕ) → T (cond own (modes_own n modes) (modes_alike n modes))
  unfolding P.modes_own P.modes_alike
  modes-tell true n modes = times-tell modes (mode_form n) (λ rest t. bands-tell n (times n (row n) rest) (rows_tell n n rest t)) end end-tells
  modes-tell false n modes = bands-tell n (times (modes * n) (row n) end) (rows_tell n (modes * n) end end-tells)

  -- the header: 2 at its form, 3 at the rest
  rest-tells : (most : ℕ) (rest : ℕ → ℕ → Form) → ((n m : ℕ) → T (rest n m)) → T (sized most rest)
  unfolding Tells
  rest-tells most rest t = (unfit-told, λ n. (unfit-told, λ m. (unfit-told, λ q. (unfit-told, λ k. (unfit-told, λ d. t (nat_abs n) (nat_abs m))))))

  headed-tells : one_of numbers 2 ≡ true → (forms most : ℕ) (rest : ℕ → ℕ → ℕ → Form) → ((form n m : ℕ) → T (rest form n m)) → T (headed forms most rest)
  unfolding Tells P.headed
  headed-tells two forms most rest t = (λ at l. record { number = two; place = refl; step = refl }, λ form. rest-tells most (rest (nat_abs form)) (t (nat_abs form)))

  -- a float: 13
  module _ (thirteen : one_of numbers 13 ≡ true) where
    floating-tells : (ok : Float → Bool) (rest : Form) → T rest → T (floating ok rest)
    unfolding Tells
    floating-tells ok rest t = (λ at l. record { number = thirteen; place = l; step = refl }, λ v. t)

    emitter-tells : (rest : Form) → T rest → (kind : ℕ) → T (emitter_form rest kind)
    emitter-tells rest t zero = t
    emitter-tells rest t (suc zero) = floating-tells not_below (floating any_float rest) (floating-tells any_float rest t)
    emitter-tells rest t (suc (suc kind)) = floating-tells any_float rest t

    room-tells : (n : ℕ) (rest : Form) → T rest → T (room_form n rest)
    unfolding S.room_form
    room-tells n rest t =
        floating-tells not_below _ (times-tell (n - 1) (floating not_below) (floating-tells not_below) (counted (from 0 2) (emitter_form rest))
        (counted-tells (from 0 2) (emitter_form rest) (emitter-tells rest t)))

    floats-tell : (n : ℕ) → T (floats_form n)
    floats-tell n = floating-tells above _ (floating-tells any_float _ (times-tell n (room_form n) (room-tells n) end end-tells))

-- where the form is known, as in a file that was written, 2 is not told
written-tells : (numbers s : List ℕ) (one : one_of numbers 1 ≡ true) (three : one_of numbers 3 ≡ true) (forms most : ℕ) (rest : ℕ → ℕ → ℕ → Form)
    → ((form n m : ℕ) → Tells numbers (length s) (rest form n m)) → (form : ℕ) → 1 ≤ form → form ≤ forms → forms ≤ 9
    → (next : ℕ) → Stands s 0 (bytes_of form) next → ReadTells numbers (length s) (values_of (headed forms most rest) s)
unfolding F.values_at P.headed
written-tells numbers s one three forms most rest t form least known few next w =
    let first : number_at s 0 ≡ Some (form, next) = reads form 0 next s (omega arith) w in
    let behind = sized most (rest form) in
    ended-tells numbers s one three (values_at (headed forms most rest) s 0)
    (rw (first, from-holds 1 forms form least known) (before-tells numbers (length s) (pos form) (values_at behind s next)
    (values-tell numbers s one three behind (rest-tells numbers (length s) three most (rest form) (t form)) next (stand-within s (bytes_of form) 0 next w (bytes-some form)))))

-- the first number of a file that was written stands in front
form-stands : (form : ℕ) (bytes : List ℕ) → Stands (bytes_of form ++ bytes) 0 (bytes_of form) (length (bytes_of form))
form-stands form bytes = record { end = omega arith; bytes = ap (λ (t : List ℕ). bytes_of form ++ t) (sym (drop-append_seam (bytes_of form) bytes)) }

-- ---- the tests behind the forms: the first that fails is one of them

-- as many as there are dimensions
pub lies-size : (m : ℕ) (a b : List Side) → length a ≤ m → length b ≤ m → length (lies a b) ≤ m
unfolding B.lies
lies-size m [] [] h k = omega arith
lies-size m [] (t ∷ b) h k = omega arith
lies-size m (s ∷ a) [] h k = omega arith
lies-size zero (s ∷ a) (t ∷ b) h k = absurd (omega arith)
lies-size (suc m) (s ∷ a) (t ∷ b) h k = omega (arith, lies-size m a b (omega arith) (omega arith))

-- the first dimension that does not pass is one of four
pub dimension-in : (ts : List Bool) → length ts ≤ 4 → all ts ≡ false → first_false ts < 4
dimension-in ts l e = omega (arith, false-inside ts e)

module _ {A : Type 0} (tells : Refusal → Type 0) (q : ℕ) (rest : Unit {0} → Judged A) (h : JudgedTells tells (rest tt)) where
  -- the bands of some modes, from mode u on
  narrow-tells : (u : ℕ) (modes : List (List Side)) → Every (λ bands. length bands ≤ 4) modes → ((v i : ℕ) → v < u + length modes → i < 4 → tells (narrow v i))
      → JudgedTells tells (wide_modes q u modes rest)
  unfolding P.wide_modes E.Every
  narrow-tells u [] few five = h
  narrow-tells u (bands ∷ modes) few five =
      guard-keeps (JudgedTells tells) (all (map (wide q) bands)) _
      (λ e. five u _ (omega arith) (dimension-in (map (wide q) bands) (omega (arith, length-map bands (wide q), few.0)) e))
      (λ _. narrow-tells (u + 1) modes few.1 (λ v i l. five v i (omega arith)))

  related-tells : (root safe : List Side) (modes : List (List Side)) → length root ≤ 4 → length safe ≤ 4 → Every (λ bands. length bands ≤ 4) modes
      → ((i : ℕ) → i < 4 → tells (not_in_safe i)) → ((v i : ℕ) → v < length modes → i < 4 → tells (narrow v i)) → JudgedTells tells (related q root safe modes rest)
  related-tells root safe modes r s few four five =
      guard-keeps (JudgedTells tells) (all (lies root safe)) _
      (λ e. four _ (dimension-in (lies root safe) (lies-size 4 root safe r s) e)) (λ _. narrow-tells 0 modes few (λ v i l. five v i (omega arith)))

-- ---- plants

abbrev pub plant_numbers : List ℕ
plant_numbers = 1 ∷ 2 ∷ 3 ∷ 4 ∷ 5 ∷ []

-- what stands behind the header
plant-body-tells : (numbers : List ℕ) (size : ℕ) → one_of numbers 3 ≡ true → (form n modes : ℕ) → Tells numbers size (plant_body form n modes)
plant-body-tells numbers size three form n modes = edges-tell numbers size three n (modes_form form n modes) (modes-tell numbers size three (own_bands form) n modes)

module _ (numbers plant : List ℕ) (four : one_of numbers 4 ≡ true) (five : one_of numbers 5 ≡ true) where
  abbrev tells : Refusal → Type 0
  tells = Telling numbers (length plant)

  plant-tells : ReadTells numbers (length plant) (values_of plant_form plant) → JudgedTells tells (plant_judged plant)
  unfolding P.plant_judged P.plant_form P.plant_of
  plant-tells = go (values_of plant_form plant) refl
    where
      few : (vs : List ℤ) (next : ℕ) → values_of plant_form plant ≡ read vs next → ((plant_of vs).n ≤ 4) × ((plant_of vs).modes ≤ most_modes)
      few vs next e =
          let r = (framed plant_forms most_modes modes_form vs (values-right plant_form plant 0 vs next (file-writes plant_form plant e).0)).ranges in
          (r.n-high, r.m-high)

      go : (t : Read (List ℤ)) → values_of plant_form plant ≡ t → ReadTells numbers (length plant) t → JudgedTells tells (plant_related t)
      go (refused e) q h = h
      go (read vs next) q h =
          let p = plant_of vs in
          let l = few vs next q in
          related-tells tells p.q (λ _. good p) tt (root_of p) (safe_of p) (tab (bands_of p) p.modes 0)
          (omega (arith, length-tab (side_at p.rlo p.rhi) p.n 0)) (omega (arith, length-tab (side_at p.slo p.shi) p.n 0))
          (every-tab (λ bands. length bands ≤ 4) (bands_of p) p.modes 0 (λ u a b. omega (arith, length-tab (band_side p.n p.bands u) p.n 0)))
          (λ i a. record { number = four; place = a; step = refl })
          (λ u i a b. record { number = five; place = omega (arith, length-tab (bands_of p) p.modes 0); step = b })

pub plant-told : (plant : List ℕ) (e : Refusal) → plant_judged plant ≡ bad e → Telling plant_numbers (length plant) e
unfolding P.plant_form
plant-told plant =
    judged-told (Telling plant_numbers (length plant)) (plant_judged plant) (plant-tells plant_numbers plant refl refl
    (file-tells plant_numbers plant refl refl plant_form (headed-tells plant_numbers (length plant) refl refl plant_forms most_modes plant_body (plant-body-tells plant_numbers (length plant) refl))))

-- a plant handed over as values, whose form is right
abbrev pub plant_value_numbers : List ℕ
plant_value_numbers = 1 ∷ 3 ∷ 4 ∷ 5 ∷ []

pub plant-file-told : (p : Plant) → 1 ≤ p.form → p.form ≤ plant_forms → (e : Refusal) → plant_judged (plant_file p) ≡ bad e → Telling plant_value_numbers (length (plant_file p)) e
unfolding P.plant_form P.numbers_of F.file_of P.headed
plant-file-told p least known =
    let s = plant_file p in
    judged-told (Telling plant_value_numbers (length s)) (plant_judged s) (plant-tells plant_value_numbers s refl refl
    (written-tells plant_value_numbers s refl refl plant_forms most_modes plant_body (plant-body-tells plant_value_numbers (length s) refl) p.form least known (omega arith) _
    (form-stands p.form _)))

-- ---- sheets

abbrev pub sheet_numbers : List ℕ
sheet_numbers = 1 ∷ 2 ∷ 3 ∷ 4 ∷ 5 ∷ 13 ∷ 14 ∷ []

-- those of the values, and of bytes left over
abbrev pub sheet_form_numbers : List ℕ
sheet_form_numbers = 1 ∷ 2 ∷ 3 ∷ 13 ∷ []

sheet-body-tells : (numbers : List ℕ) (size : ℕ) → one_of numbers 3 ≡ true → one_of numbers 13 ≡ true → (form n r : ℕ) → Tells numbers size (sheet_body form n r)
sheet-body-tells numbers size three thirteen form n r =
    edges-tell numbers size three n (bands n (floats_form n)) (bands-tell numbers size three n (floats_form n) (floats-tell numbers size three thirteen n))

pub sheet-values-told : (sheet : List ℕ) (e : Refusal) → values_of sheet_form sheet ≡ refused e → Telling sheet_form_numbers (length sheet) e
unfolding S.sheet_form
sheet-values-told sheet =
    read_told sheet_form_numbers (length sheet) (values_of sheet_form sheet) (file-tells sheet_form_numbers sheet refl refl sheet_form
    (headed-tells sheet_form_numbers (length sheet) refl refl 1 1_000 sheet_body (sheet-body-tells sheet_form_numbers (length sheet) refl refl)))

-- the numbers of the plant file that a sheet makes: 6, 4 and 2 a dimension, and at most 320 coefficients
numbers-many : (h : Sheet) → h.n ≤ 4 → length (made_numbers h) ≤ 350
unfolding S.made_numbers
numbers-many h few =
    let n = h.n in
    let edges = map Some (sheet_edges h) in
    let bands = tabs (made_band h) n 0 in
    let rows = tabs (λ u. tabs (made_row h u) n 0) (made_modes h) 0 in
    let header = map (λ v. Some (pos v)) (1 ∷ n ∷ made_modes h ∷ h.q ∷ h.k ∷ h.d ∷ []) in
    let row : (u i : ℕ) → length (made_row h u i) ≡ n + 1 = λ u i. omega (arith, length-append (tab (entry_at h u i) n 0) (offset_at h u i ∷ []), length-tab (entry_at h u i) n 0) in
    let mode : (u : ℕ) → length (tabs (made_row h u) n 0) ≡ (n + 1) * n = λ u. length-tabs (made_row h u) (n + 1) (row u) n 0 in
    let modes : made_modes h ≤ 16 = pow_mono {j = 4} (omega (arith, emitters-few h n)) in
    let a : n + 1 ≤ 5 = omega arith in
    omega (
      arith,
      length-append header (edges ++ (bands ++ rows)),
      length-append edges (bands ++ rows),
      length-append bands rows,
      length-map (sheet_edges h) Some,
      length-tabs (edges_of h.rlo h.rhi h.slo h.shi) 4 (λ k. refl) n 0,
      length-tabs (made_band h) 2 (λ k. refl) n 0,
      length-tabs (λ u. tabs (made_row h u) n 0) ((n + 1) * n) mode (made_modes h) 0,
      mul-le-mul (mul-le-mul a few) modes,
    )

module _ (numbers sheet : List ℕ) (four : one_of numbers 4 ≡ true) (five : one_of numbers 5 ≡ true) (fourteen : one_of numbers 14 ≡ true) where
  abbrev told : Refusal → Type 0
  told = SheetTelling numbers (length sheet)

  sheet-tells : ((e : Refusal) → values_of sheet_form sheet ≡ refused e → told e) → JudgedTells told (sheet_judged sheet)
  unfolding S.sheet_judged S.sheet_form S.sheet_of E.Every
  sheet-tells values = go (values_of sheet_form sheet) refl
    where
      few : (vs : List ℤ) (next : ℕ) → values_of sheet_form sheet ≡ read vs next → (sheet_of vs).n ≤ 4
      few vs next e = (framed 1 1_000 (λ form n r. bands n (floats_form n)) vs (values-right sheet_form sheet 0 vs next (file-writes sheet_form sheet e).0)).ranges.n-high

      go : (t : Read (List ℤ)) → values_of sheet_form sheet ≡ t → JudgedTells told (sheet_related t)
      go (refused e) q = values e q
      go (read vs next) q =
          let h = sheet_of vs in
          let l = few vs next q in
          let fit = map is_near (made_numbers h) in
          related-tells told h.q (λ _. fitting h λ _. good h)
          (guard-keeps (JudgedTells told) (all fit) (λ _. good h)
          (λ e. record { number = fourteen; place = omega (arith, false-inside fit e, length-map (made_numbers h) is_near, numbers-many h l); step = refl }) (λ _. tt))
          (root_sheet h) (safe_sheet h) (bands_sheet h ∷ [])
          (omega (arith, length-tab (side_at h.rlo h.rhi) h.n 0)) (omega (arith, length-tab (side_at h.slo h.shi) h.n 0))
          (omega (arith, length-tab (side_at h.wlo h.whi) h.n 0), tt)
          (λ i a. record { number = four; place = a; step = refl }) (λ u i a b. record { number = five; place = omega arith; step = b })

pub sheet-told : (sheet : List ℕ) (e : Refusal) → sheet_judged sheet ≡ bad e → SheetTelling sheet_numbers (length sheet) e
unfolding E.Every
sheet-told sheet =
    judged-told (SheetTelling sheet_numbers (length sheet)) (sheet_judged sheet) (sheet-tells sheet_numbers sheet refl refl refl
    (λ e q. told_more (told-by (sheet-values-told sheet e q) sheet_places (length sheet) ((λ p k. k), ((λ p k. k), ((λ p k. k), ((λ p k. k), tt))))) sheet_numbers refl))

-- a sheet handed over as values, whose form is right
abbrev pub sheet_value_numbers : List ℕ
sheet_value_numbers = 1 ∷ 3 ∷ 4 ∷ 5 ∷ 13 ∷ 14 ∷ []

sheet-file-values : (h : Sheet) (e : Refusal) → values_of sheet_form (sheet_file h) ≡ refused e → Telling (1 ∷ 3 ∷ 13 ∷ []) (length (sheet_file h)) e
unfolding S.sheet_form S.sheet_values F.file_of P.headed
sheet-file-values h =
    let s = sheet_file h in
    read_told (1 ∷ 3 ∷ 13 ∷ []) (length s) (values_of sheet_form s)
    (written-tells (1 ∷ 3 ∷ 13 ∷ []) s refl refl 1 1_000 sheet_body (sheet-body-tells (1 ∷ 3 ∷ 13 ∷ []) (length s) refl refl) 1 (omega arith) (omega arith) (omega arith) _ (form-stands 1 _))

pub sheet-file-told : (h : Sheet) (e : Refusal) → sheet_judged (sheet_file h) ≡ bad e → SheetTelling sheet_value_numbers (length (sheet_file h)) e
unfolding E.Every
sheet-file-told h =
    let s = sheet_file h in
    judged-told (SheetTelling sheet_value_numbers (length s)) (sheet_judged s) (sheet-tells sheet_value_numbers s refl refl refl
    (λ e q. told_more (told-by (sheet-file-values h e q) sheet_places (length s) ((λ p k. k), ((λ p k. k), ((λ p k. k), tt)))) sheet_value_numbers refl))
