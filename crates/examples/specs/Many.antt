-- Lines worked out by hand from request 2026-08 and its readings: N up to 256, modes of two bytes in a table, states inside one, and the modes left of a
-- running state, all of them read.
use Rattle.std.specs.Prelude.{ℕ, zero, suc, ◌≡◌, refl, List, [], ◌∷◌, ◌++◌, ℤ, pos, neg_ℤ, Ok, Err}
use Rattle.meaning.specs.Answers.{Answer, verdict_in}
use Rattle.meaning.specs.declared.State.{State}
use Rattle.meaning.specs.Refusals.{broken, unfit, bad_table, bad_state}
use Rattle.meaning.specs.Files.{good, file_of}
use Rattle.meaning.specs.Plants.{plant_form, plant_read}
use Rattle.meaning.specs.Tables.{checked, made, controlled}
use Rattle.meaning.specs.Control.{idle}
use Rattle.meaning.specs.Computing.{computing}

-- P with S a..b and depth d, and behind its mode 0 as many more that do the same
abbrev front : ℕ → ℕ → ℕ → ℕ → List ℤ
front modes a b d = pos 1 ∷ pos 1 ∷ pos modes ∷ pos 10 ∷ pos 2 ∷ pos d ∷ pos 195 ∷ pos 225 ∷ pos a ∷ pos b ∷ neg_ℤ (pos 5) ∷ pos 4 ∷ []

unfoldable cool : ℕ → List ℤ
cool zero = []
cool (suc m) = pos 9 ∷ pos 100 ∷ cool m

-- N 129, of which the last mode, 128, heats
abbrev valves : ℕ → ℕ → ℕ → List ℕ
valves a b d = file_of plant_form (front 129 a b d ++ cool 128 ++ pos 9 ∷ pos 300 ∷ [])

-- N 256 is `80 02`; 257 is 3 at N
ranges : (verdict_in (plant_read (file_of plant_form (front 256 190 230 1 ++ cool 256))) ≡ Ok tt)
    × (verdict_in (plant_read (file_of plant_form (front 257 190 230 1 ++ cool 257))) ≡ Err (unfit 2))
unfolding computing cool
ranges = (refl, refl)

-- P's table, mode 128 in two bytes
abbrev table : List ℕ
table = 0x01 ∷ 0x01 ∷ 0x00 ∷ 0x01 ∷ 0x80 ∷ 0x01 ∷ 0x01 ∷ 0x00 ∷ []

tables : (made (valves 190 230 1) 1 ≡ good table) × (checked (valves 190 230 1) table ≡ Ok tt)
    × (checked (valves 190 230 1) (0x01 ∷ 0x01 ∷ 0x00 ∷ 0x01 ∷ 0x81 ∷ 0x01 ∷ 0x01 ∷ 0x00 ∷ []) ≡ Err (bad_table 4))
unfolding computing cool
tables = (refl, refl, refl)

-- P' by two modes, the second of two bytes; cut inside it; and of one byte, not a mode of P'
abbrev pair : List ℕ
pair = 0x01 ∷ 0x01 ∷ 0x02 ∷ 0x00 ∷ 0x80 ∷ 0x01 ∷ []

abbrev cut : List ℕ
cut = 0x01 ∷ 0x01 ∷ 0x02 ∷ 0x00 ∷ 0x80 ∷ []

abbrev P' : List ℕ
P' = file_of plant_form (front 2 180 240 1 ++ cool 1 ++ pos 9 ∷ pos 300 ∷ [])

abbrev nine : List ℕ
nine = 0x01 ∷ 0x01 ∷ 0x02 ∷ 0x00 ∷ 0x09 ∷ []

abbrev at : ℕ → ℕ → State
at place left = record { place = place; left = left }

abbrev told : List ℕ → List ℕ → State → ℕ → Answer
told plant table st x = controlled plant table st (pos x ∷ [])

-- the state moves behind the number of a mode; a place inside one is read as it stands
moves : (told (valves 180 240 1) pair idle 200 ≡ Ok (0, at 4 1)) × (told (valves 180 240 1) pair (at 4 1) 186 ≡ Ok (128, idle))
    × (told (valves 180 240 1) pair (at 3 2) 186 ≡ Ok (0, at 4 1)) × (told (valves 180 240 1) pair (at 5 1) 186 ≡ Ok (1, idle))
    × (told (valves 190 230 1) table idle 195 ≡ Ok (128, idle)) × (told (valves 190 230 1) table idle 225 ≡ Ok (0, idle))
unfolding computing cool
moves = (refl, refl, refl, refl, refl, refl)

-- 12: the modes left run off the table, a later one is broken, a later one is not below N; idle the walk tells 1 and 6 there
twelve : (told (valves 180 240 1) pair (at 4 2) 186 ≡ Err bad_state) × (told (valves 180 240 1) cut (at 3 2) 186 ≡ Err bad_state)
    × (told (valves 180 240 1) cut (at 3 1) 186 ≡ Ok (0, idle)) × (told (valves 180 240 1) cut idle 200 ≡ Err (broken 4))
    × (told P' nine (at 3 2) 186 ≡ Err bad_state) × (told P' nine (at 3 1) 186 ≡ Ok (0, idle)) × (told P' nine idle 200 ≡ Err (bad_table 4))
unfolding computing cool
twelve = (refl, refl, refl, refl, refl, refl, refl)
