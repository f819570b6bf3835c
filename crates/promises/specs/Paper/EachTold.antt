-- The numbers that page Told allows are each told of some input, so that no list there has a number too many. The checker computes each line, from document 01's
-- plants P and P' and the sheet of its line 13, with one fault each. And where 5 is told: its place is the mode, its step the dimension (request 2026-09). Relies on crates/meaning alone for the answers.
use Rattle.std.specs.Prelude.{ℕ, ◌≡◌, refl, List, [], ◌∷◌, ℤ, pos, neg_ℤ}
use Rattle.meaning.specs.Answers.{verdict_in}
use Rattle.laws.specs.Every as E
use Rattle.laws.specs.Every.{Every}
use Rattle.meaning.specs.declared.Sheet.{Sheet}
use Rattle.meaning.specs.declared.State.{State}
use Rattle.meaning.specs.Computing.{computing}
use Rattle.meaning.specs.Control.{idle}
use Rattle.meaning.specs.Files.{file_of}
use Rattle.meaning.specs.Plants.{Plant, plant_form, plant_of, plant_read, plant_left}
use Rattle.meaning.specs.Refusals.{verdict_shown, written_shown, answer_shown}
use Rattle.meaning.specs.Sheets.{sheet_form, sheet_of, sheet_read, sheet_left, made_left}
use Rattle.meaning.specs.Tables.{checked, maker_left, controlled}
use Rattle.promises.specs.Sheets.Faults.{plant_numbers, sheet_numbers}
use Rattle.promises.specs.Paper.Shows.{shows}
use Rattle.promises.specs.Paper.Told.{sheet_maker_numbers, maker_numbers, plant_writer_numbers, formed_writer_numbers, sheet_writer_numbers, checker_numbers, controller_numbers}

-- P by its form, which is no 2, q, D, S and the upper end of its band
abbrev plant_by : ℕ → ℕ → ℕ → ℕ → ℕ → ℕ → List ℤ
plant_by form q d slo shi whi =
    pos form ∷ pos 1 ∷ pos 2 ∷ pos q ∷ pos 2 ∷ pos d ∷ pos 195 ∷ pos 225 ∷ pos slo ∷ pos shi ∷ neg_ℤ (pos 5) ∷ pos whi
    ∷ pos 9 ∷ pos 100 ∷ pos 9 ∷ pos 300 ∷ []

abbrev plant_with : ℕ → ℕ → ℕ → ℕ → List ℕ
plant_with d slo shi whi = file_of plant_form (plant_by 1 10 d slo shi whi)

abbrev P : List ℕ
P = plant_with 1 190 230 4

abbrev P' : List ℕ
P' = plant_with 1 180 240 4

-- P in form 2, by the upper ends of the bands of its two modes
abbrev own_with : ℕ → ℕ → List ℕ
own_with whi₀ whi₁ =
    file_of plant_form (pos 2 ∷ pos 1 ∷ pos 2 ∷ pos 10 ∷ pos 2 ∷ pos 1 ∷ pos 195 ∷ pos 225 ∷ pos 190 ∷ pos 230
    ∷ neg_ℤ (pos 5) ∷ pos whi₀ ∷ pos 9 ∷ pos 100 ∷ neg_ℤ (pos 5) ∷ pos whi₁ ∷ pos 9 ∷ pos 300 ∷ [])

-- two rooms and one mode, by the upper ends of the two bands
abbrev rooms_with : ℕ → ℕ → List ℕ
rooms_with whi₀ whi₁ =
    file_of plant_form (pos 1 ∷ pos 2 ∷ pos 1 ∷ pos 10 ∷ pos 2 ∷ pos 1 ∷ pos 195 ∷ pos 225 ∷ pos 190 ∷ pos 230 ∷ pos 195 ∷ pos 225 ∷ pos 190 ∷ pos 230
    ∷ neg_ℤ (pos 5) ∷ pos whi₀ ∷ neg_ℤ (pos 5) ∷ pos whi₁ ∷ pos 9 ∷ pos 0 ∷ pos 100 ∷ pos 0 ∷ pos 9 ∷ pos 100 ∷ [])

-- line 13's sheet by q, the lower edge of S, the upper end of its band, its sample time and the outside temperature
abbrev sheet_by : ℕ → ℕ → ℕ → ℕ → ℕ → List ℤ
sheet_by q slo whi time outside =
    pos 1 ∷ pos 1 ∷ pos 10 ∷ pos q ∷ pos 2 ∷ pos 1 ∷ pos 195 ∷ pos 225 ∷ pos slo ∷ pos 230 ∷ neg_ℤ (pos 4) ∷ pos whi
    ∷ pos time ∷ pos outside ∷ pos 0x3FC0_0000_0000_0000 ∷ pos 1 ∷ pos 0x3FC0_0000_0000_0000 ∷ pos 0x4044_0000_0000_0000 ∷ []

abbrev sheet_with : ℕ → ℕ → ℕ → ℕ → List ℕ
sheet_with slo whi time outside = file_of sheet_form (sheet_by 8 slo whi time outside)

-- 1.0, 8.0 and 10 to the power 300
abbrev one : ℕ
one = 0x3FF0_0000_0000_0000

abbrev eight : ℕ
eight = 0x4020_0000_0000_0000

abbrev huge : ℕ
huge = 0x7E37_E43C_8800_759C

-- a number that five bytes do not hold
abbrev long : ℕ
long = 0x8_0000_0000

-- some input is told by the number
pub record EachTold : Type 0 where
  pub plant : Every (λ n. (s : List ℕ) × ((verdict_shown (verdict_in (plant_read s))).number ≡ n)) plant_numbers
  pub sheet : Every (λ n. (s : List ℕ) × ((verdict_shown (verdict_in (sheet_read s))).number ≡ n)) sheet_numbers
  pub sheet-maker : Every (λ n. (s buf : List ℕ) × ((written_shown (made_left s buf).answer).number ≡ n)) sheet_maker_numbers
  pub maker : Every (λ n. (s : List ℕ) × (form : ℕ) × (buf : List ℕ) × ((written_shown (maker_left s form buf).answer).number ≡ n)) maker_numbers
  pub plant-writer : Every (λ n. (p : Plant) × (buf : List ℕ) × ((written_shown (plant_left p buf).answer).number ≡ n)) plant_writer_numbers
  pub formed-writer : Every (λ n. (p : Plant) × (p.form ≡ 1) × (buf : List ℕ) × ((written_shown (plant_left p buf).answer).number ≡ n)) formed_writer_numbers
  pub sheet-writer : Every (λ n. (h : Sheet) × (buf : List ℕ) × ((written_shown (sheet_left h buf).answer).number ≡ n)) sheet_writer_numbers
  -- of a table, the plants being good
  pub checker : Every (λ n. (p table : List ℕ) × ((verdict_shown (verdict_in (plant_read p))).number ≡ 0) × ((verdict_shown (checked p table)).number ≡ n)) checker_numbers
  pub controller : Every (λ n. (table : List ℕ) × (st : State) × (x : List ℤ) × ((answer_shown (controlled P table st x)).number ≡ n)) controller_numbers
  -- 2: a good plant and a form that the maker does not know, before 9 and 10
  pub unknown-form : (written_shown (maker_left P 4 []).answer ≡ shows 2 0 0 []) × (written_shown (maker_left (plant_with 0 190 230 4) 0 []).answer ≡ shows 2 0 0 [])
  -- 5: line 12's plant; the second mode of a plant of form 2; the second dimension; a sheet
  pub narrow-first : verdict_shown (verdict_in (plant_read (plant_with 1 190 230 3))) ≡ shows 5 0 0 []
  pub narrow-mode : verdict_shown (verdict_in (plant_read (own_with 4 3))) ≡ shows 5 1 0 []
  pub narrow-dimension : verdict_shown (verdict_in (plant_read (rooms_with 4 3))) ≡ shows 5 0 1 []
  pub narrow-sheet : verdict_shown (verdict_in (sheet_read (sheet_with 190 2 one eight))) ≡ shows 5 0 0 []

pub each-told : EachTold
unfolding computing E.Every
each-told = record {
  plant = (([], refl), ((3 ∷ [], refl), ((1 ∷ 0 ∷ [], refl), ((plant_with 1 196 230 4, refl), ((plant_with 1 190 230 3, refl), tt)))));
  sheet = (([], refl), ((2 ∷ [], refl), ((1 ∷ 0 ∷ [], refl), ((sheet_with 196 3 one eight, refl), ((sheet_with 190 2 one eight, refl), ((sheet_with 190 3 0 eight, refl), ((sheet_with 190 3 one huge, refl), tt)))))));
  sheet-maker = (([], [], refl), ((2 ∷ [], [], refl), ((1 ∷ 0 ∷ [], [], refl), ((sheet_with 196 3 one eight, [], refl), ((sheet_with 190 2 one eight, [], refl), ((sheet_with 190 3 one eight, [], refl), ((sheet_with 190 3 0 eight, [], refl), ((sheet_with 190 3 one huge, [], refl), tt))))))));
  maker = (([], 1, [], refl), ((3 ∷ [], 1, [], refl), ((1 ∷ 0 ∷ [], 1, [], refl), ((plant_with 1 196 230 4, 1, [], refl), ((plant_with 1 190 230 3, 1, [], refl), ((plant_with 0 190 230 4, 1, [], refl), ((P, 1, [], refl), tt)))))));
  plant-writer = ((plant_of (plant_by 1 long 1 190 230 4), [], refl), ((plant_of (plant_by 3 10 1 190 230 4), [], refl), ((plant_of (plant_by 1 0 1 190 230 4), [], refl), ((plant_of (plant_by 1 10 1 196 230 4), [], refl), ((plant_of (plant_by 1 10 1 190 230 3), [], refl), ((plant_of (plant_by 1 10 1 190 230 4), [], refl), tt))))));
  formed-writer = ((plant_of (plant_by 1 long 1 190 230 4), refl, [], refl), ((plant_of (plant_by 1 0 1 190 230 4), refl, [], refl), ((plant_of (plant_by 1 10 1 196 230 4), refl, [], refl), ((plant_of (plant_by 1 10 1 190 230 3), refl, [], refl), ((plant_of (plant_by 1 10 1 190 230 4), refl, [], refl), tt)))));
  sheet-writer = ((sheet_of (sheet_by long 190 3 one eight), [], refl), ((sheet_of (sheet_by 0 190 3 one eight), [], refl), ((sheet_of (sheet_by 8 196 3 one eight), [], refl), ((sheet_of (sheet_by 8 190 2 one eight), [], refl), ((sheet_of (sheet_by 8 190 3 one eight), [], refl), ((sheet_of (sheet_by 8 190 3 0 eight), [], refl), ((sheet_of (sheet_by 8 190 3 one huge), [], refl), tt)))))));
  checker = ((P, [], refl, refl), ((P, 4 ∷ [], refl, refl), ((P, 1 ∷ 2 ∷ [], refl, refl), ((P, 1 ∷ 1 ∷ 1 ∷ 1 ∷ [], refl, refl), ((P', 1 ∷ 1 ∷ 1 ∷ 1 ∷ [], refl, refl), tt)))));
  controller = (([], idle, [], refl), ((4 ∷ [], idle, [], refl), ((1 ∷ 2 ∷ [], idle, [], refl), ((1 ∷ 1 ∷ [], idle, pos 194 ∷ [], refl), ((1 ∷ 1 ∷ [], record { place = 1; left = 0 }, pos 200 ∷ [], refl), tt)))));
  unknown-form = (refl, refl);
  narrow-first = refl;
  narrow-mode = refl;
  narrow-dimension = refl;
  narrow-sheet = refl;
}
