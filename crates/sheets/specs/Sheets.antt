-- A sheet's file as the code reads it: all but 14, which the reader tells last; the parts behind the beginning, and the bytes as they are drafted.
-- Assumes nothing.
use Rattle.std.specs.Prelude.{ℕ, ◌≡◌, refl, Bool, true, false, List, [], ◌∷◌, ◌++◌, map, ℤ, Float, Ok, Err, Result}
use Rattle.laws.specs.Guards.{guard}
use Rattle.laws.specs.Lists.{tabs, all, first_false}
use Rattle.meaning.specs.Answers.{SheetRead}
use Rattle.meaning.specs.declared.Refusal.{Refusal}
use Rattle.meaning.specs.declared.Room.{Room}
use Rattle.meaning.specs.declared.Sheet.{Sheet}
use Rattle.meaning.specs.Refusals.{not_in_safe, narrow}
use Rattle.meaning.specs.Files.{Form, end, Read, read, refused, values_of, Judged, good, bad}
use Rattle.meaning.specs.Boxes.{lies}
use Rattle.meaning.specs.Plants.{times, wide, wide_modes, related}
use Rattle.meaning.specs.Sheets.{above, room_form, sheet_form, sheet_of, fitting, root_sheet, safe_sheet, bands_sheet, sheet_related, sheet_read_of}
use Rattle.files.specs.declared.beginnings.Beginning.{Beginning}
use Rattle.files.specs.Bodies.{body_judged}
use Rattle.files.specs.Drafts.{draft_bytes}
use Rattle.sheets.specs.Floats.{two_part, float_bytes}
use Rattle.sheets.specs.Rooms.{bytes_of_room}
use Rattle.sheets.specs.Sizes.{Sized}
use Rattle.sheets.specs.declared.made.Made.{Made}
use Rattle.sheets.specs.Made.{held_coef, made_of}

-- ---- judged up to and with 5

abbrev pub unfitted_of : Read (List ℤ) → Judged Sheet
unfitted_of (refused r) = bad r
unfitted_of (read vs next) =
    let h = sheet_of vs in
    related h.q (root_sheet h) (safe_sheet h) (bands_sheet h ∷ []) λ _. good h

unfoldable pub unfitted : List ℕ → SheetRead
unfitted s = sheet_read_of (unfitted_of (values_of sheet_form s))

-- 14 behind it
abbrev pub then_fitting : Judged Sheet → Judged Sheet
then_fitting (bad r) = bad r
then_fitting (good h) = fitting h λ _. good h

pub fitted : (x : Read (List ℤ)) → sheet_related x ≡ then_fitting (unfitted_of x)
unfolding wide_modes
fitted (refused r) = refl
fitted (read vs next) = go (all in_safe) (all all_wide)
  where
    h : Sheet
    h = sheet_of vs

    in_safe : List Bool
    in_safe = lies (root_sheet h) (safe_sheet h)

    all_wide : List Bool
    all_wide = map (wide h.q) (bands_sheet h)

    go : (x y : Bool)
        → guard x (bad (not_in_safe (first_false in_safe))) (λ _. guard y (bad (narrow 0 (first_false all_wide))) (λ _. fitting h λ _. good h))
        ≡ then_fitting (guard x (bad (not_in_safe (first_false in_safe))) (λ _. guard y (bad (narrow 0 (first_false all_wide))) (λ _. good h)))
    go true true = refl
    go true false = refl
    go false y = refl

-- ---- the parts behind the beginning: sample time and outside temperature, then the rooms

abbrev pub rooms_form : ℕ → ℕ → ℕ → Form
rooms_form form n r = two_part above (times n (room_form n) end)

-- the whole file, its beginning having been read
abbrev pub body_read : List ℕ → Beginning → ℕ → SheetRead
body_read s b at = sheet_read_of (body_judged unfitted_of rooms_form s b at)

-- a beginning with what stands behind it as a sheet, and the beginning of a sheet
abbrev pub sheet_with : Beginning → Float → Float → List Room → Sheet
sheet_with b time outside rooms = record {
  n = b.n;
  r = b.m;
  q = b.q;
  k = b.k;
  d = b.d;
  rlo = b.root.lo;
  rhi = b.root.hi;
  slo = b.safe.lo;
  shi = b.safe.hi;
  wlo = b.bands.lo;
  whi = b.bands.hi;
  time = time;
  outside = outside;
  rooms = rooms;
}

abbrev pub sheet_beginning : Sheet → Beginning
sheet_beginning h = record {
  form = 1;
  n = h.n;
  m = h.r;
  q = h.q;
  k = h.k;
  d = h.d;
  root = record { lo = h.rlo; hi = h.rhi };
  safe = record { lo = h.slo; hi = h.shi };
  bands = record { lo = h.wlo; hi = h.whi };
}

-- ---- the numbers of a sheet that was taken are in range

abbrev pub TakenSized : SheetRead → Type 0
TakenSized (Ok h) = Sized h
TakenSized (Err e) = Unit {0}

-- ---- drafted: the two floats and the rooms behind the beginning

-- the bytes of the draft's array
abbrev pub sheet_room : ℕ
sheet_room = 512

abbrev pub rest_bytes : Sheet → List ℕ
rest_bytes h = float_bytes h.time ++ (float_bytes h.outside ++ tabs (bytes_of_room h.n h.rooms) h.n 0)

unfoldable pub sheet_draft : Sheet → List ℕ
sheet_draft h = draft_bytes 1000 (sheet_beginning h) (rest_bytes h)

-- ---- the plant of a sheet's file, and its coefficients; 14 is told by what makes it

abbrev pub planned_by : SheetRead → Result Made Refusal
planned_by (Ok h) = made_of h
planned_by (Err e) = Err e

abbrev pub planned_of : List ℕ → Result Made Refusal
planned_of s = planned_by (unfitted s)

abbrev pub coef_by : SheetRead → List ℤ
coef_by (Ok h) = held_coef h
coef_by (Err e) = []

abbrev pub planned_coef : List ℕ → List ℤ
planned_coef s = coef_by (unfitted s)
