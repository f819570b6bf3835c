-- Lines worked out by hand from request 2026-09 and its readings: P in form 2 byte for byte, a band for each mode, which band a mode's equation has,
-- and what is refused where.
use Rattle.std.specs.Prelude.{ℕ, ◌≡◌, refl, Bool, true, false, List, [], ◌∷◌, ◌++◌, ℤ, pos, neg_ℤ, Ok, Err}
use Rattle.meaning.specs.Answers.{verdict_in}
use Rattle.meaning.specs.Refusals.{wrong_form, unfit, not_in_safe, narrow}
use Rattle.meaning.specs.Files.{file_of, good}
use Rattle.meaning.specs.Boxes.{Side, side}
use Rattle.meaning.specs.Images.{follows, image}
use Rattle.meaning.specs.Plants.{plant_form, plant_of, numbers_of, plant_judged, plant_read, step_of}
use Rattle.meaning.specs.Computing.{computing}

-- the bytes of reading 13, but for the two of S lo and that of mode 1's w hi
abbrev but : ℕ → ℕ → ℕ → List ℕ
but slo slo' hi =
    0x02 ∷ 0x01 ∷ 0x02 ∷ 0x0A ∷ 0x02 ∷ 0x01 ∷ 0x86 ∷ 0x03 ∷ 0xC2 ∷ 0x03 ∷ slo ∷ slo' ∷ 0xCC ∷ 0x03 ∷ 0x09 ∷ 0x08 ∷ 0x12 ∷ 0xC8 ∷ 0x01 ∷ 0x09
    ∷ hi ∷ 0x12 ∷ 0xD8 ∷ 0x04 ∷ []

abbrev P₂ : List ℕ
P₂ = but 0xFC 0x02 0x08

abbrev front : ℕ → List ℤ
front form = pos form ∷ pos 1 ∷ pos 2 ∷ pos 10 ∷ pos 2 ∷ pos 1 ∷ pos 195 ∷ pos 225 ∷ pos 190 ∷ pos 230 ∷ []

-- P in form 2 with the upper ends of its two bands
abbrev banded : ℕ → ℕ → List ℤ
banded a b = front 2 ++ neg_ℤ (pos 5) ∷ pos a ∷ pos 9 ∷ pos 100 ∷ neg_ℤ (pos 5) ∷ pos b ∷ pos 9 ∷ pos 300 ∷ []

abbrev file : ℕ → ℕ → List ℕ
file a b = file_of plant_form (banded a b)

-- read, and written back as form 2 although its bands are equal; in form 1 the same bands stand for each mode
bytes : (file 4 4 ≡ P₂) × (plant_judged P₂ ≡ good (plant_of (banded 4 4))) × (numbers_of (plant_of (banded 4 4)) ≡ banded 4 4)
unfolding computing
bytes = (refl, refl, refl)

alike : (plant_of (banded 4 4)).bands ≡ (plant_of (front 1 ++ neg_ℤ (pos 5) ∷ pos 4 ∷ pos 9 ∷ pos 100 ∷ pos 9 ∷ pos 300 ∷ [])).bands
unfolding computing
alike = refl

-- 5 has the mode as place and the dimension as step, behind leftover bytes and 4; the form of neither kind is 2
refused : (verdict_in (plant_read (file 3 4)) ≡ Err (narrow 0 0)) × (verdict_in (plant_read (file 4 3)) ≡ Err (narrow 1 0))
    × (verdict_in (plant_read (file 3 3)) ≡ Err (narrow 0 0)) × (verdict_in (plant_read (file 4 3 ++ 0 ∷ [])) ≡ Err (unfit 24))
    × (verdict_in (plant_read (3 ∷ [])) ≡ Err wrong_form) × (verdict_in (plant_read (0 ∷ [])) ≡ Err wrong_form)
unfolding computing
refused = (refl, refl, refl, refl, refl, refl)

-- S lo 200 is above R lo 195: 4, before the narrow band of mode 1; and mode 1's w hi below its w lo: 3 at its byte, as the rows' numbers are told
before : (verdict_in (plant_read (but 0x90 0x03 0x06)) ≡ Err (not_in_safe 0)) × (verdict_in (plant_read (but 0xFC 0x02 0x0B)) ≡ Err (unfit 20))
unfolding computing
before = (refl, refl)

-- two rooms and two modes, the second band of the second mode too narrow: 5, place 1, step 1
abbrev rooms : ℕ → List ℤ
rooms last =
    pos 2 ∷ pos 2 ∷ pos 2 ∷ pos 3 ∷ pos 1 ∷ pos 0 ∷ pos 0 ∷ pos 9 ∷ pos 0 ∷ pos 9 ∷ pos 0 ∷ pos 9 ∷ pos 0 ∷ pos 9
    ∷ pos 0 ∷ pos 2 ∷ pos 0 ∷ pos 3 ∷ pos 1 ∷ pos 0 ∷ pos 0 ∷ pos 0 ∷ pos 1 ∷ pos 0
    ∷ pos 0 ∷ pos 4 ∷ pos 0 ∷ pos last ∷ pos 0 ∷ pos 1 ∷ pos 7 ∷ pos 1 ∷ pos 0 ∷ pos 8 ∷ []

second : (verdict_in (plant_read (file_of plant_form (rooms 1))) ≡ Err (narrow 1 1)) × (verdict_in (plant_read (file_of plant_form (rooms 2))) ≡ Ok tt)
    × (numbers_of (plant_of (rooms 2)) ≡ rooms 2)
unfolding computing
second = (refl, refl, refl)

-- the band of the mode applied: with −5..14 in mode 1 alone, from 200 mode 0 leads to 190 (10·190 − 1900 = 0) and mode 1 to 210 and 211
abbrev after : ℕ → ℕ → ℕ → Bool
after u x y = follows (step_of (plant_of (banded 4 14)) u) (pos x ∷ []) (pos y ∷ [])

applied : (after 0 200 190 ≡ true) × (after 0 200 191 ≡ false) × (after 1 200 210 ≡ true) × (after 1 200 211 ≡ true) × (after 1 200 212 ≡ false)
unfolding computing
applied = (refl, refl, refl, refl, refl)

abbrev sides : ℕ → ℕ → List Side
sides a b = side (pos a) (pos b) ∷ []

-- line 3's images, the second mode's one count wider at its high end
images : (image (step_of (plant_of (banded 4 14)) 1) (sides 195 210) ≡ sides 205 220) × (image (step_of (plant_of (banded 4 14)) 0) (sides 211 225) ≡ sides 200 212)
unfolding computing
images = (refl, refl)
