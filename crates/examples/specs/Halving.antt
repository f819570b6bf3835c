-- Lines worked out by hand from request 2026-06 and its readings: the longest side halved alone, ties to the lowest dimension, longest by counts; form 3 of P's
-- table; the form told to the maker; what is refused where; plants that have a table of one form and none of the other.
use Rattle.std.specs.Prelude.{ℕ, ◌≡◌, refl, List, [], ◌∷◌, ◌++◌, pos, neg_ℤ, Ok, Err}
use Rattle.meaning.specs.Refusals.{broken, wrong_form, unfit, bad_table, no_table, not_held, moved}
use Rattle.meaning.specs.Starts.{start_checked, start_made, start_controlled, start_idle}
use Rattle.meaning.specs.Boxes.{side, longest_halved}
use Rattle.meaning.specs.Files.{good, bad, file_of}
use Rattle.meaning.specs.Plants.{plant_form}
use Rattle.meaning.specs.Tables.{checked, made, controlled}
use Rattle.meaning.specs.Control.{idle}
use Rattle.meaning.specs.Computing.{computing}

-- 0..9 by 0..3: the first side alone; 0..3 by 0..3: equal, the first; −20..−18 by 5..8: the second, by counts; 7..7 by 7..8; 7..7 by 7..7 cannot be split
splits : (longest_halved (side (pos 0) (pos 9) ∷ side (pos 0) (pos 3) ∷ []) ≡ (side (pos 0) (pos 4) ∷ side (pos 0) (pos 3) ∷ []) ∷ (side (pos 5) (pos 9) ∷ side (pos 0) (pos 3) ∷ []) ∷ [])
    × (longest_halved (side (pos 0) (pos 3) ∷ side (pos 0) (pos 3) ∷ []) ≡ (side (pos 0) (pos 1) ∷ side (pos 0) (pos 3) ∷ []) ∷ (side (pos 2) (pos 3) ∷ side (pos 0) (pos 3) ∷ []) ∷ [])
    × (longest_halved (side (neg_ℤ (pos 20)) (neg_ℤ (pos 18)) ∷ side (pos 5) (pos 8) ∷ []) ≡ (side (neg_ℤ (pos 20)) (neg_ℤ (pos 18)) ∷ side (pos 5) (pos 6) ∷ []) ∷ (side (neg_ℤ (pos 20)) (neg_ℤ (pos 18)) ∷ side (pos 7) (pos 8) ∷ []) ∷ [])
    × (longest_halved (side (pos 7) (pos 7) ∷ side (pos 7) (pos 8) ∷ []) ≡ (side (pos 7) (pos 7) ∷ side (pos 7) (pos 7) ∷ []) ∷ (side (pos 7) (pos 7) ∷ side (pos 8) (pos 8) ∷ []) ∷ [])
    × (longest_halved (side (pos 7) (pos 7) ∷ side (pos 7) (pos 7) ∷ []) ≡ [])
unfolding computing
splits = (refl, refl, refl, refl, refl)

-- P, of one room: the same tree in either form
abbrev P : List ℕ
P =
    file_of plant_form (
    pos 1 ∷ pos 1 ∷ pos 2 ∷ pos 10 ∷ pos 2 ∷ pos 1 ∷ pos 195 ∷ pos 225 ∷ pos 190 ∷ pos 230 ∷ neg_ℤ (pos 5) ∷ pos 4
    ∷ pos 9 ∷ pos 100 ∷ pos 9 ∷ pos 300 ∷ []
    )

abbrev behind : List ℕ
behind = 0x01 ∷ 0x00 ∷ 0x01 ∷ 0x01 ∷ 0x01 ∷ 0x00 ∷ []

tables : (made P 1 ≡ good (0x01 ∷ behind)) × (made P 3 ≡ good (0x03 ∷ behind)) × (made P 4 ≡ bad wrong_form) × (made P 0 ≡ bad wrong_form)
    × (checked P (0x03 ∷ behind) ≡ Ok tt) × (checked P (0x04 ∷ behind) ≡ Err wrong_form) × (checked P [] ≡ Err (broken 0))
    × (controlled P (0x03 ∷ behind) idle (pos 195 ∷ []) ≡ Ok (1, idle)) × (controlled P (0x03 ∷ behind) idle (pos 225 ∷ []) ≡ Ok (0, idle))
unfolding computing
tables = (refl, refl, refl, refl, refl, refl, refl, refl, refl)

-- two rooms with D 1, a mode that does nothing: form 1 splits once into four, form 3 twice into two, and no deeper
abbrev still : List ℕ
still =
    file_of plant_form (
    pos 1 ∷ pos 2 ∷ pos 1 ∷ pos 1 ∷ pos 1 ∷ pos 1 ∷ pos 0 ∷ pos 3 ∷ pos 0 ∷ pos 3 ∷ pos 0 ∷ pos 1 ∷ pos 0 ∷ pos 1
    ∷ pos 0 ∷ pos 0 ∷ pos 0 ∷ pos 0 ∷ pos 1 ∷ pos 0 ∷ pos 0 ∷ pos 0 ∷ pos 1 ∷ pos 0 ∷ []
    )

depths : (checked still (0x01 ∷ 0x02 ∷ 0x00 ∷ 0x01 ∷ 0x00 ∷ 0x01 ∷ 0x00 ∷ 0x01 ∷ 0x00 ∷ 0x01 ∷ 0x00 ∷ []) ≡ Ok tt)
    × (checked still (0x03 ∷ 0x02 ∷ 0x00 ∷ 0x00 ∷ 0x01 ∷ 0x00 ∷ 0x01 ∷ 0x00 ∷ 0x01 ∷ 0x00 ∷ []) ≡ Ok tt)
    × (checked still (0x03 ∷ 0x02 ∷ 0x00 ∷ 0x00 ∷ 0x00 ∷ 0x01 ∷ 0x00 ∷ []) ≡ Err (bad_table 4))
    × (checked still (0x01 ∷ 0x02 ∷ 0x00 ∷ 0x00 ∷ []) ≡ Err (bad_table 3))
unfolding computing
depths = (refl, refl, refl, refl)

-- Whether there is a table depends on the form. 0..15 by 0..1, D 1: the second side has to be split, and is never the longest within two halvings.
abbrev narrow : List ℕ
narrow =
    file_of plant_form (
    pos 1 ∷ pos 2 ∷ pos 2 ∷ pos 1 ∷ pos 1 ∷ pos 1 ∷ pos 0 ∷ pos 15 ∷ pos 0 ∷ pos 15 ∷ pos 0 ∷ pos 1 ∷ pos 0 ∷ pos 1
    ∷ pos 0 ∷ pos 0 ∷ pos 0 ∷ pos 0 ∷ pos 0 ∷ pos 0 ∷ pos 5 ∷ pos 0 ∷ pos 2 ∷ pos 0 ∷ pos 0 ∷ pos 0 ∷ pos 5 ∷ pos 0 ∷ pos 2 ∷ neg_ℤ (pos 1) ∷ []
    )

-- 0..63 by 0..3, D 1: each mode takes a quarter of the first side over all of R, and the second stays.
abbrev quarters : List ℕ
quarters =
    file_of plant_form (
    pos 1 ∷ pos 2 ∷ pos 4 ∷ pos 1 ∷ pos 1 ∷ pos 1 ∷ pos 0 ∷ pos 63 ∷ pos 0 ∷ pos 63 ∷ pos 0 ∷ pos 3 ∷ pos 0 ∷ pos 3
    ∷ pos 0 ∷ pos 0 ∷ pos 0 ∷ pos 0 ∷ pos 4 ∷ pos 0 ∷ pos 0 ∷ pos 0 ∷ pos 1 ∷ pos 0 ∷ pos 4 ∷ pos 0 ∷ neg_ℤ (pos 64) ∷ pos 0 ∷ pos 1 ∷ pos 0
    ∷ pos 4 ∷ pos 0 ∷ neg_ℤ (pos 128) ∷ pos 0 ∷ pos 1 ∷ pos 0 ∷ pos 4 ∷ pos 0 ∷ neg_ℤ (pos 192) ∷ pos 0 ∷ pos 1 ∷ pos 0 ∷ []
    )

either : (made narrow 1 ≡ good (0x01 ∷ 0x02 ∷ 0x00 ∷ 0x01 ∷ 0x00 ∷ 0x01 ∷ 0x00 ∷ 0x01 ∷ 0x01 ∷ 0x01 ∷ 0x01 ∷ [])) × (made narrow 3 ≡ bad (no_table 0))
    × (made quarters 3 ≡ good (0x03 ∷ 0x02 ∷ 0x00 ∷ 0x00 ∷ 0x01 ∷ 0x00 ∷ 0x01 ∷ 0x01 ∷ 0x00 ∷ 0x01 ∷ 0x02 ∷ 0x01 ∷ 0x03 ∷ [])) × (made quarters 1 ≡ bad (no_table 0))
unfolding computing
either = (refl, refl, refl, refl)

-- what is told of a table of no known form, whatever the state; and a box of one reading, which cannot be split
abbrev single : List ℕ
single = file_of plant_form (pos 1 ∷ pos 1 ∷ pos 1 ∷ pos 1 ∷ pos 1 ∷ pos 1 ∷ pos 7 ∷ pos 7 ∷ pos 7 ∷ pos 7 ∷ pos 0 ∷ pos 0 ∷ pos 1 ∷ pos 0 ∷ [])

refused : (controlled P (0x04 ∷ behind) idle (pos 195 ∷ []) ≡ Err wrong_form)
    × (controlled P (0x04 ∷ behind) (record { place = 4; left = 1 }) (pos 195 ∷ []) ≡ Err wrong_form)
    × (controlled P (0x03 ∷ behind) (record { place = 4; left = 1 }) (pos 230 ∷ []) ≡ Ok (1, idle))
    × (checked single (0x03 ∷ 0x01 ∷ 0x00 ∷ 0x01 ∷ 0x00 ∷ 0x01 ∷ 0x00 ∷ []) ≡ Err (bad_table 2))
    × (checked single (0x03 ∷ 0x01 ∷ 0x01 ∷ 0x00 ∷ []) ≡ Ok tt)
unfolding computing
refused = (refl, refl, refl, refl, refl)

-- start files of P with R1 190..230: a table of form 3 at 7 and one of form 1 at 15; the maker's one form for all; 2 after the chain and 15
abbrev chain : List ℕ
chain = 0x01 ∷ 0x01 ∷ 0xFC ∷ 0x02 ∷ 0xCC ∷ 0x03 ∷ []

abbrev start : ℕ → ℕ → List ℕ
start one two = chain ++ (0x07 ∷ one ∷ behind) ++ (0x07 ∷ two ∷ behind)

starts : (start_checked P (start 3 1) ≡ Ok tt) × (start_checked P (start 3 4) ≡ Err (moved 15 wrong_form))
    × (start_made P chain 3 ≡ good (start 3 3)) × (start_made P chain 1 ≡ good (start 1 1)) × (start_made P chain 4 ≡ bad wrong_form)
    × (start_made P (0x01 ∷ 0x09 ∷ []) 4 ≡ bad (unfit 1)) × (start_made P (0x01 ∷ 0x01 ∷ 0xFA ∷ 0x02 ∷ 0xCC ∷ 0x03 ∷ []) 4 ≡ bad (not_held 1))
    × (start_controlled P (start 3 1) start_idle (pos 190 ∷ []) ≡ Ok (1, start_idle))
    × (start_controlled P (start 3 1) start_idle (pos 225 ∷ []) ≡ Ok (0, start_idle))
    × (start_controlled P (start 3 4) start_idle (pos 190 ∷ []) ≡ Err (moved 15 wrong_form))
unfolding computing
starts = (refl, refl, refl, refl, refl, refl, refl, refl, refl, refl)
