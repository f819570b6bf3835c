-- The starred lines of document 01 ("Readings and tables on both sides"), line 13 with the second mode that request 2026-02 gives it, one statement about
-- the definitions: the checker computes each line. Relies on crates/meaning alone. Lines 10 and 12 are not starred: crates/examples, page Worked, computes
-- them, and the second program's tests run them.
use Rattle.std.specs.Prelude.{ℕ, ◌≡◌, refl, List, [], ◌∷◌, ◌++◌, length, replicate, ℤ, pos, neg_ℤ, Float, Some, Ok, Err}
use Rattle.std.specs.Float.{binary64}
use Rattle.std.specs.Float.Ieee.{of_bits}
use Rattle.meaning.specs.Refusals.{leaves, misses, no_table, short}
use Rattle.meaning.specs.Files.{file_of}
use Rattle.meaning.specs.Buffers.{Left, refused_with}
use Rattle.meaning.specs.Boxes.{Side, side, children}
use Rattle.meaning.specs.Images.{image}
use Rattle.meaning.specs.Plants.{plant_form, plant_of, step_of}
use Rattle.meaning.specs.Tables.{checked, maker_left, controlled}
use Rattle.meaning.specs.Control.{idle}
use Rattle.meaning.specs.Sheets.{sheet_form, whole_of, made_left}
use Rattle.meaning.specs.Computing.{computing}

abbrev minus : ℕ → ℤ
minus v = neg_ℤ (pos v)

abbrev one : ℤ → ℤ → List Side
one lo hi = side lo hi ∷ []

-- ---- the plants: form, n, N, q, K, D; R; S; w; the modes

abbrev pub values_with : ℕ → ℕ → ℕ → List ℤ
values_with slo shi d =
    pos 1 ∷ pos 1 ∷ pos 2 ∷ pos 10 ∷ pos 2 ∷ pos d ∷ pos 195 ∷ pos 225 ∷ pos slo ∷ pos shi ∷ minus 5 ∷ pos 4
    ∷ pos 9 ∷ pos 100 ∷ pos 9 ∷ pos 300 ∷ []

abbrev pub P : List ℕ
P = file_of plant_form (values_with 190 230 1)

abbrev pub P' : List ℕ
P' = file_of plant_form (values_with 180 240 1)

-- P with D 0
abbrev P₀ : List ℕ
P₀ = file_of plant_form (values_with 190 230 0)

-- the image of one side by a mode of P; S and D bear on none
abbrev image_by : ℕ → ℕ → ℕ → List Side
image_by u lo hi = image (step_of (plant_of (values_with 190 230 1)) u) (one (pos lo) (pos hi))

-- ---- tables and buffers

abbrev pub table₁ : List ℕ
table₁ = 0x01 ∷ 0x01 ∷ 0x00 ∷ 0x01 ∷ 0x01 ∷ 0x01 ∷ 0x00 ∷ []

abbrev pub table₄ : List ℕ
table₄ = 0x01 ∷ 0x01 ∷ 0x01 ∷ 0x01 ∷ []

abbrev pub table₅ : List ℕ
table₅ = 0x01 ∷ 0x01 ∷ 0x02 ∷ 0x00 ∷ 0x01 ∷ []

-- a buffer of m bytes, none of them 0
abbrev pub lent : ℕ → List ℕ
lent m = replicate m 0xAA

-- written, with m bytes behind that were left alone
abbrev wrote : List ℕ → ℕ → Left
wrote bytes m = record { answer = Ok (length bytes); buffer = bytes ++ lent m }

-- ---- line 13's sheet: form, n, r, q, K, D; R; S; w; time 1, outside 8, loss 0.125; a heater of 0.125 at 40; and the plant made of it

abbrev sheet₁₃ : List ℤ
sheet₁₃ =
    pos 1 ∷ pos 1 ∷ pos 10 ∷ pos 8 ∷ pos 2 ∷ pos 1 ∷ pos 195 ∷ pos 225 ∷ pos 190 ∷ pos 230 ∷ minus 4 ∷ pos 3
    ∷ pos 0x3FF0_0000_0000_0000 ∷ pos 0x4020_0000_0000_0000 ∷ pos 0x3FC0_0000_0000_0000
    ∷ pos 1 ∷ pos 0x3FC0_0000_0000_0000 ∷ pos 0x4044_0000_0000_0000 ∷ []

abbrev bytes₁₃ : List ℕ
bytes₁₃ =
    0x01 ∷ 0x01 ∷ 0x0A ∷ 0x08 ∷ 0x02 ∷ 0x01 ∷ 0x86 ∷ 0x03 ∷ 0xC2 ∷ 0x03 ∷ 0xFC ∷ 0x02 ∷ 0xCC ∷ 0x03 ∷ 0x07 ∷ 0x06
    ∷ 0 ∷ 0 ∷ 0 ∷ 0 ∷ 0 ∷ 0 ∷ 0xF0 ∷ 0x3F ∷ 0 ∷ 0 ∷ 0 ∷ 0 ∷ 0 ∷ 0 ∷ 0x20 ∷ 0x40 ∷ 0 ∷ 0 ∷ 0 ∷ 0 ∷ 0 ∷ 0 ∷ 0xC0 ∷ 0x3F
    ∷ 0x01 ∷ 0 ∷ 0 ∷ 0 ∷ 0 ∷ 0 ∷ 0 ∷ 0xC0 ∷ 0x3F ∷ 0 ∷ 0 ∷ 0 ∷ 0 ∷ 0 ∷ 0 ∷ 0x44 ∷ 0x40 ∷ []

abbrev plant₁₃ : List ℤ
plant₁₃ =
    pos 1 ∷ pos 1 ∷ pos 2 ∷ pos 8 ∷ pos 2 ∷ pos 1 ∷ pos 195 ∷ pos 225 ∷ pos 190 ∷ pos 230 ∷ minus 120 ∷ pos 119
    ∷ pos 7 ∷ pos 80 ∷ pos 6 ∷ pos 480 ∷ []

-- 0.75 and −0.75
abbrev three_quarters : Float
three_quarters = of_bits binary64 0x3FE8_0000_0000_0000

abbrev minus_three_quarters : Float
minus_three_quarters = of_bits binary64 0xBFE8_0000_0000_0000

-- ---- the table

pub record StarredLines : Type 0 where
  pub bytes_of_p : P ≡ 0x01 ∷ 0x01 ∷ 0x02 ∷ 0x0A ∷ 0x02 ∷ 0x01 ∷ 0x86 ∷ 0x03 ∷ 0xC2 ∷ 0x03 ∷ 0xFC ∷ 0x02 ∷ 0xCC ∷ 0x03 ∷ 0x09 ∷ 0x08
      ∷ 0x12 ∷ 0xC8 ∷ 0x01 ∷ 0x12 ∷ 0xD8 ∷ 0x04 ∷ []
  pub line1 : (maker_left P 1 (lent 9) ≡ wrote table₁ 2)
      × (maker_left P 1 (lent 7) ≡ wrote table₁ 0)
      × (maker_left P 1 (lent 6) ≡ refused_with short (lent 6))
      × (maker_left P₀ 1 (lent 6) ≡ refused_with (no_table 0) (lent 6))
  pub line2 : (image_by 1 195 225 ≡ one (pos 205) (pos 232)) × (image_by 0 195 225 ≡ one (pos 185) (pos 212))
  pub line3 : (image_by 1 195 210 ≡ one (pos 205) (pos 219)) × (image_by 0 211 225 ≡ one (pos 200) (pos 212))
  pub line4 : (checked P table₄ ≡ Err (leaves 2 1))
      × (checked P' table₄ ≡ Err (misses 2 1))
      × (checked P table₅ ≡ Err (leaves 2 1))
  pub line5 : (maker_left P' 1 (lent 5) ≡ wrote table₅ 0)
      × (image_by 0 195 225 ≡ one (pos 185) (pos 212))
      × (image_by 1 185 212 ≡ one (pos 196) (pos 221))
  pub line6 : image (record { q = 10; rows = record { entries = pos 7 ∷ []; offset = pos 0; low = minus 9; high = pos 0 } ∷ [] }) (one (minus 20) (minus 11))
      ≡ one (minus 14) (minus 8)
  pub line7 : image (record { q = 2; rows = record { entries = pos 3 ∷ minus 2 ∷ []; offset = pos 0; low = minus 1; high = pos 0 } ∷ [] })
      (side (pos 10) (pos 20) ∷ side (pos 5) (pos 8) ∷ []) ≡ one (pos 7) (pos 25)
  pub line8 : (children (one (pos 7) (pos 8)) ≡ one (pos 7) (pos 7) ∷ one (pos 8) (pos 8) ∷ []) × (children (one (pos 7) (pos 7)) ≡ [])
  pub line9 : (controlled P' table₅ idle (pos 200 ∷ []) ≡ Ok (0, record { place = 4; left = 1 }))
      × (controlled P' table₅ (record { place = 4; left = 1 }) (pos 186 ∷ []) ≡ Ok (1, idle))
  pub line11 : (whole_of 20_000 2 three_quarters ≡ Some (pos 2)) × (whole_of 20_000 2 minus_three_quarters ≡ Some (minus 2))
  pub line13 : (file_of sheet_form sheet₁₃ ≡ bytes₁₃) × (made_left bytes₁₃ (lent 30) ≡ wrote (file_of plant_form plant₁₃) 6)

pub starred : StarredLines
unfolding computing
starred = record {
  bytes_of_p = refl;
  line1 = (refl, refl, refl, refl);
  line2 = (refl, refl);
  line3 = (refl, refl);
  line4 = (refl, refl, refl);
  line5 = (refl, refl, refl);
  line6 = refl;
  line7 = refl;
  line8 = (refl, refl);
  line9 = (refl, refl);
  line11 = (refl, refl);
  line13 = (refl, refl);
}
