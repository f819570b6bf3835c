-- Lines worked out by hand from document 01, where the second program has no answer to compare with or the paper states the answer itself:
-- what may follow, lines 10 and 12, a plant and a table with two faults, the largest float below one half, the sheet's own equation with its
-- floats taken exactly, and heaters that fade (request 2026-02).
use Rattle.std.specs.Prelude.{ℕ, ◌≡◌, refl, Bool, true, false, List, [], ◌∷◌, ◌++◌, ℤ, pos, neg_ℤ, Float, Some, Ok, Err}
use Rattle.std.specs.Float.{binary64}
use Rattle.std.specs.Float.Ieee.{add, sub, of_bits}
use Rattle.meaning.specs.Answers.{Verdict, Answer, Whole, verdict_in}
use Rattle.meaning.specs.declared.Sheet.{Sheet}
use Rattle.meaning.specs.Refusals.{broken, unfit, narrow, outside, leaves, bad_result}
use Rattle.meaning.specs.Files.{file_of}
use Rattle.meaning.specs.Images.{follows}
use Rattle.meaning.specs.Plants.{plant_form, plant_of, plant_read, step_of}
use Rattle.meaning.specs.Control.{idle}
use Rattle.meaning.specs.Tables.{checked, controlled}
use Rattle.meaning.specs.Sheets.{one_f, sheet_form, sheet_of, coefficient, exact_step, whole_of, made_row, sheet_read}
use Rattle.meaning.specs.Computing.{computing}

-- plant P with its band's upper end
abbrev plant_p : ℕ → List ℤ
plant_p whi =
    pos 1 ∷ pos 1 ∷ pos 2 ∷ pos 10 ∷ pos 2 ∷ pos 1 ∷ pos 195 ∷ pos 225 ∷ pos 190 ∷ pos 230 ∷ neg_ℤ (pos 5) ∷ pos whi
    ∷ pos 9 ∷ pos 100 ∷ pos 9 ∷ pos 300 ∷ []

abbrev P : List ℕ
P = file_of plant_form (plant_p 4)

abbrev table₁ : List ℕ
table₁ = 1 ∷ 1 ∷ 0 ∷ 1 ∷ 1 ∷ 1 ∷ 0 ∷ []

abbrev idle_at : ℕ → Answer
idle_at x = controlled P table₁ idle (pos x ∷ [])

-- line 10
line-10 : (idle_at 195 ≡ Ok (1, idle)) × (idle_at 225 ≡ Ok (0, idle))
    × (idle_at 194 ≡ Err (outside 0)) × (idle_at 226 ≡ Err (outside 0))
unfolding computing
line-10 = (refl, refl, refl, refl)

-- line 12
line-12 : (verdict_in (plant_read []) ≡ Err (broken 0)) × (verdict_in (plant_read (file_of plant_form (plant_p 3))) ≡ Err (narrow 0 0))
unfolding computing
line-12 = (refl, refl)

-- bytes left over are told before the narrow band
leftover-first : verdict_in (plant_read (file_of plant_form (plant_p 3) ++ 0 ∷ [])) ≡ Err (unfit 22)
unfolding computing
leftover-first = refl

-- Images are tested where the tile stands: from 195..210 mode 0 leads to 185 and leaves S, which is told (7 at 3, step 1) before the node of 3
-- modes behind it, one more than K (6 at 5).
in_order : checked P (1 ∷ 1 ∷ 0 ∷ 1 ∷ 0 ∷ 3 ∷ []) ≡ Err (leaves 3 1)
unfolding computing
in_order = refl

-- the largest f64 below one half, times 1, gives 0: with a half added in f64 it would be rounded to 1
below_half : whole_of 20_000 1 (of_bits binary64 0x3FDF_FFFF_FFFF_FFFF) ≡ Some (pos 0)
unfolding computing
below_half = refl

-- 10·y − (9·195 + 100) lies in −5..4 for y = 185 (it is −5) and for no neighbour; from 196 for y = 186 (−4)
abbrev after : ℕ → ℕ → Bool
after x y = follows (step_of (plant_of (plant_p 4)) 0) (pos x ∷ []) (pos y ∷ [])

followed : (after 195 184 ≡ false) × (after 195 185 ≡ true) × (after 195 186 ≡ false) × (after 196 185 ≡ false) × (after 196 186 ≡ true) × (after 196 187 ≡ false)
unfolding computing
followed = (refl, refl, refl, refl, refl, refl)

-- line 13's sheet, heater off: 8·y − (8·0.875·x + 8·10·1) lies in −4..3. From 200 that is 8·y − 1480: 185 alone. From 201, 8·y − 1487: 186 (1) alone.
-- The room's values from its emitter's number on are given.
abbrev sheet₁₃ : List ℤ → List ℤ
sheet₁₃ emitter =
    pos 1 ∷ pos 1 ∷ pos 10 ∷ pos 8 ∷ pos 2 ∷ pos 1 ∷ pos 195 ∷ pos 225 ∷ pos 190 ∷ pos 230 ∷ neg_ℤ (pos 4) ∷ pos 3
    ∷ pos 0x3FF0_0000_0000_0000 ∷ pos 0x4020_0000_0000_0000 ∷ pos 0x3FC0_0000_0000_0000 ∷ emitter

abbrev heater₁₃ : Sheet
heater₁₃ = sheet_of (sheet₁₃ (pos 1 ∷ pos 0x3FC0_0000_0000_0000 ∷ pos 0x4044_0000_0000_0000 ∷ []))

abbrev exactly : ℕ → ℕ → ℕ → Bool
exactly u x y = follows (exact_step heater₁₃ u) (pos x ∷ []) (pos y ∷ [])

-- heater on, 8·y − (8·0.75·x + 8·10·6), 0.75 being 1 − (0.125 + 0.125): from 200, 8·y − 1680: 210 alone. From 201, 8·y − 1686: 211 (2) alone.
exact : (exactly 0 200 184 ≡ false) × (exactly 0 200 185 ≡ true) × (exactly 0 200 186 ≡ false)
    × (exactly 0 201 185 ≡ false) × (exactly 0 201 186 ≡ true) × (exactly 0 201 187 ≡ false)
    × (exactly 1 200 209 ≡ false) × (exactly 1 200 210 ≡ true) × (exactly 1 200 211 ≡ false)
    × (exactly 1 201 210 ≡ false) × (exactly 1 201 211 ≡ true) × (exactly 1 201 212 ≡ false)
unfolding computing
exact = (refl, refl, refl, refl, refl, refl, refl, refl, refl, refl, refl, refl)

-- ---- heaters that fade

abbrev whole : ℕ → Whole
whole v = Some (pos v)

-- line 13: the heater that is on takes its 0.125 off the diagonal, 8·0.75
fading : (made_row heater₁₃ 0 0 ≡ whole 7 ∷ whole 80 ∷ []) × (made_row heater₁₃ 1 0 ≡ whole 6 ∷ whole 480 ∷ [])
unfolding computing
fading = (refl, refl)

-- a steady emitter of 5 degrees in its place gives the same offset, and stays off the diagonal
abbrev steady₁₃ : Sheet
steady₁₃ = sheet_of (sheet₁₃ (pos 2 ∷ pos 0x4014_0000_0000_0000 ∷ []))

steady : (made_row steady₁₃ 0 0 ≡ whole 7 ∷ whole 80 ∷ []) × (made_row steady₁₃ 1 0 ≡ whole 7 ∷ whole 480 ∷ [])
unfolding computing
steady = (refl, refl)

-- two rooms with line 13's figures; the rooms' values are given
abbrev house : ℕ → ℕ → List ℤ → List ℤ
house r q rooms =
    pos 1 ∷ pos 2 ∷ pos r ∷ pos q ∷ pos 2 ∷ pos 1
    ∷ pos 195 ∷ pos 225 ∷ pos 190 ∷ pos 230 ∷ pos 195 ∷ pos 225 ∷ pos 190 ∷ pos 230 ∷ neg_ℤ (pos 4) ∷ pos 3 ∷ neg_ℤ (pos 4) ∷ pos 3
    ∷ pos 0x3FF0_0000_0000_0000 ∷ pos 0x4020_0000_0000_0000 ∷ rooms

-- Room 1 loses 0.125, exchanges 0.25, a steady 5; room 2 loses 0.125, exchanges 0.125, a heater of 0.25 at 40. The heater is bit 1, and p goes to its
-- own room's diagonal alone: 8·(1 − 0.375) and 8·0.25 in every mode; 8·(1 − 0.25) with the heater off, 8·(1 − 0.5) with it on, and 8·0.125.
abbrev mixed : Sheet
mixed = sheet_of (house 10 8 (pos 0x3FC0_0000_0000_0000 ∷ pos 0x3FD0_0000_0000_0000 ∷ pos 2 ∷ pos 0x4014_0000_0000_0000
    ∷ pos 0x3FC0_0000_0000_0000 ∷ pos 0x3FC0_0000_0000_0000 ∷ pos 1 ∷ pos 0x3FD0_0000_0000_0000 ∷ pos 0x4044_0000_0000_0000 ∷ []))

own-diagonal : (made_row mixed 0 0 ≡ whole 5 ∷ whole 2 ∷ whole 80 ∷ []) × (made_row mixed 0 1 ≡ whole 1 ∷ whole 6 ∷ whole 80 ∷ [])
    × (made_row mixed 1 0 ≡ whole 5 ∷ whole 2 ∷ whole 480 ∷ []) × (made_row mixed 1 1 ≡ whole 1 ∷ whole 6 ∷ whole 80 ∷ [])
    × (made_row mixed 2 0 ≡ whole 5 ∷ whole 2 ∷ whole 80 ∷ []) × (made_row mixed 2 1 ≡ whole 1 ∷ whole 4 ∷ whole 880 ∷ [])
    × (made_row mixed 3 0 ≡ whole 5 ∷ whole 2 ∷ whole 480 ∷ []) × (made_row mixed 3 1 ≡ whole 1 ∷ whole 4 ∷ whole 880 ∷ [])
unfolding computing
own-diagonal = (refl, refl, refl, refl, refl, refl, refl, refl)

-- p comes behind the exchanges. With q 1, loss 1.5 − 2^−51, exchange 2^−53 and p 3·2^−54 the sum is 1.5 − 2^−52 (the exchange is half a step of 2^−52 and
-- lost, p three quarters and rounded to a whole one), and the diagonal, a little above −0.5, gives 0. With p before the exchange it would be 1.5, and the
-- diagonal −0.5 gives −1.
abbrev close : Sheet
close = sheet_of (house 1 1 (pos 0x3FF7_FFFF_FFFF_FFFE ∷ pos 0x3CA0_0000_0000_0000 ∷ pos 1 ∷ pos 0x3CA8_0000_0000_0000 ∷ pos 0 ∷ pos 0 ∷ pos 0 ∷ pos 0 ∷ []))

behind-exchanges : whole_of 20_000 1 (coefficient close 1 0 0) ≡ whole 0
unfolding computing
behind-exchanges = refl

abbrev diagonal_of : Float → Float → Float → Float
diagonal_of a b c = sub binary64 one_f (add binary64 (add binary64 a b) c)

abbrev bits : ℕ → Float
bits v = of_bits binary64 v

before-exchanges : whole_of 20_000 1 (diagonal_of (bits 0x3FF7_FFFF_FFFF_FFFE) (bits 0x3CA8_0000_0000_0000) (bits 0x3CA0_0000_0000_0000)) ≡ Some (neg_ℤ (pos 1))
unfolding computing
before-exchanges = refl

-- A diagonal that is out in one mode alone: room 2 has a heater. With p 3,000 and water at a million degrees row 2 of mode 1 has 8·(1 − 3000.125), which is
-- −23,993, and an offset of 2.4·10^11: the diagonal is number 6 + 12 + 6 + 3 + 1 of the plant and told first. With p 2,500 it is −19,993 and fits, so the
-- offset is told; with water at 40 degrees that fits too.
abbrev hot : ℕ → ℕ → Verdict
hot p water =
    verdict_in (sheet_read (file_of sheet_form (house 10 8 (pos 0x3FC0_0000_0000_0000 ∷ pos 0 ∷ pos 0 ∷ pos 0x3FC0_0000_0000_0000 ∷ pos 0 ∷ pos 1 ∷ pos p ∷ pos water ∷ []))))

one-mode-out : (hot 0x40A7_7000_0000_0000 0x412E_8480_0000_0000 ≡ Err (bad_result 28))
    × (hot 0x40A3_8800_0000_0000 0x412E_8480_0000_0000 ≡ Err (bad_result 29))
    × (hot 0x40A3_8800_0000_0000 0x4044_0000_0000_0000 ≡ Ok tt)
unfolding computing
one-mode-out = (refl, refl, refl)
