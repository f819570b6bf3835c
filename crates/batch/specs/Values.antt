-- Plants and sheets as the arrays that they are handed over in. Definitions alone.
use Rattle.std.specs.Prelude.{ℕ, cond, List, [], ◌∷◌, eqb, ℤ, Float, get_or, Ok, Err}
use Rattle.std.specs.Float.{nan}
use Rattle.meaning.specs.Answers.{PlantRead, SheetRead}
use Rattle.meaning.specs.declared.Outline.{Outline}
use Rattle.meaning.specs.declared.Emitter.{Emitter}
use Rattle.meaning.specs.declared.Room.{Room}
use Rattle.meaning.specs.declared.Sheet.{Sheet}
use Rattle.meaning.specs.Plants.{Plant, plant_of, outline_of}
use Rattle.meaning.specs.Sheets.{zero_f, no_room, sheet_of}

-- ---- plants

-- what is shown of a plant that was read; of a refused one, zeros
abbrev pub no_plant : Outline
no_plant = outline_of (plant_of [])

abbrev pub outline_in : PlantRead → Outline
outline_in (Ok p) = p
outline_in (Err e) = no_plant

-- form, n, N, q, K, D
abbrev pub plant_header : Outline → List ℕ
plant_header p = p.form ∷ p.n ∷ p.modes ∷ p.q ∷ p.k ∷ p.d ∷ []

-- R lo, R hi, S lo, S hi
abbrev pub plant_edges : Outline → List (List ℤ)
plant_edges p = p.rlo ∷ p.rhi ∷ p.slo ∷ p.shi ∷ []

-- the plant that is handed in
abbrev pub plant_handed : List ℕ → List (List ℤ) → List ℤ → List ℤ → Plant
plant_handed header edges bands coef =
    record {
      form = get_or header 0 0;
      n = get_or header 1 0;
      modes = get_or header 2 0;
      q = get_or header 3 0;
      k = get_or header 4 0;
      d = get_or header 5 0;
      rlo = get_or edges 0 [];
      rhi = get_or edges 1 [];
      slo = get_or edges 2 [];
      shi = get_or edges 3 [];
      bands = bands;
      coef = coef;
    }

-- ---- rooms: the emitter's number, and six floats: loss, three exchanges and the emitter's own values, zeros beyond

-- 0 none, 1 heater, 2 steady
abbrev pub kind_of : Emitter → ℕ
kind_of Emitter.None = 0
kind_of (Emitter.Heater p water) = 1
kind_of (Emitter.Steady rate) = 2

abbrev own_of : Emitter → List Float
own_of Emitter.None = zero_f ∷ zero_f ∷ []
own_of (Emitter.Heater p water) = p ∷ water ∷ []
own_of (Emitter.Steady rate) = rate ∷ zero_f ∷ []

-- an array is never read behind its end; the code's own value there is no number
abbrev float_at : List Float → ℕ → Float
float_at v i = get_or v i nan

abbrev pub floats_of : Room → List Float
floats_of room = room.loss ∷ float_at room.exchange 0 ∷ float_at room.exchange 1 ∷ float_at room.exchange 2 ∷ own_of room.emitter

-- of each of four rooms
abbrev pub four : {A : Type 0} → (ℕ → A) → List A
four f = f 0 ∷ f 1 ∷ f 2 ∷ f 3 ∷ []

abbrev room_in : List Room → ℕ → Room
room_in rooms i = get_or rooms i no_room

abbrev pub kinds_of : List Room → List ℕ
kinds_of rooms = four λ i. kind_of (room_in rooms i).emitter

abbrev pub all_floats_of : List Room → List (List Float)
all_floats_of rooms = four λ i. floats_of (room_in rooms i)

-- a number that is no emitter's is none
abbrev pub emitter_from : ℕ → Float → Float → Emitter
emitter_from kind a b = cond (eqb kind 1) (Emitter.Heater a b) (cond (eqb kind 2) (Emitter.Steady a) Emitter.None)

abbrev pub room_from : ℕ → List Float → Room
room_from kind v = record { loss = float_at v 0; exchange = float_at v 1 ∷ float_at v 2 ∷ float_at v 3 ∷ []; emitter = emitter_from kind (float_at v 4) (float_at v 5) }

abbrev pub rooms_from : List ℕ → List (List Float) → List Room
rooms_from kinds v = four λ i. room_from (get_or kinds i 0) (get_or v i [])

-- ---- sheets

-- what is shown of a sheet that was read; of a refused one, zeros
abbrev pub no_sheet : Sheet
no_sheet = sheet_of []

abbrev pub sheet_in : SheetRead → Sheet
sheet_in (Ok h) = h
sheet_in (Err e) = no_sheet

-- n, r, q, K, D
abbrev pub sheet_header : Sheet → List ℕ
sheet_header h = h.n ∷ h.r ∷ h.q ∷ h.k ∷ h.d ∷ []

-- R lo, R hi, S lo, S hi, w lo, w hi
abbrev pub sheet_edges : Sheet → List (List ℤ)
sheet_edges h = h.rlo ∷ h.rhi ∷ h.slo ∷ h.shi ∷ h.wlo ∷ h.whi ∷ []

-- sample time, outside temperature
abbrev pub sheet_times : Sheet → List Float
sheet_times h = h.time ∷ h.outside ∷ []

-- the sheet that is handed in
abbrev pub sheet_handed : List ℕ → List (List ℤ) → List Float → List ℕ → List (List Float) → Sheet
sheet_handed header edges times kinds floats =
    record {
      n = get_or header 0 0;
      r = get_or header 1 0;
      q = get_or header 2 0;
      k = get_or header 3 0;
      d = get_or header 4 0;
      rlo = get_or edges 0 [];
      rhi = get_or edges 1 [];
      slo = get_or edges 2 [];
      shi = get_or edges 3 [];
      wlo = get_or edges 4 [];
      whi = get_or edges 5 [];
      time = float_at times 0;
      outside = float_at times 1;
      rooms = rooms_from kinds floats;
    }
