-- Lines worked out by hand from request 2026-01 and its readings: form 2 of P's table, whose split tells that its first child has two bytes; what the checker
-- says of wrong lengths, and a call; two levels of lengths; that a call reads no tile that it passes; and tables turned from one form into the other.
use Rattle.std.specs.Prelude.{ℕ, ◌≡◌, refl, List, [], ◌∷◌, pos, neg_ℤ, Ok, Err}
use Rattle.meaning.specs.Refusals.{broken, wrong_form, bad_table, leaves}
use Rattle.meaning.specs.Files.{good, bad, file_of}
use Rattle.meaning.specs.Plants.{plant_form}
use Rattle.meaning.specs.Relays.{relayed}
use Rattle.meaning.specs.Tables.{checked, made, controlled}
use Rattle.meaning.specs.Control.{idle}
use Rattle.meaning.specs.Computing.{computing}

abbrev P : List ℕ
P =
    file_of plant_form (
    pos 1 ∷ pos 1 ∷ pos 2 ∷ pos 10 ∷ pos 2 ∷ pos 1 ∷ pos 195 ∷ pos 225 ∷ pos 190 ∷ pos 230 ∷ neg_ℤ (pos 5) ∷ pos 4
    ∷ pos 9 ∷ pos 100 ∷ pos 9 ∷ pos 300 ∷ []
    )

-- the split at 2, the length at 3, the tiles at 4 and 6
abbrev table : List ℕ
table = 0x02 ∷ 0x01 ∷ 0x00 ∷ 0x02 ∷ 0x01 ∷ 0x01 ∷ 0x01 ∷ 0x00 ∷ []

tables : (made P 2 ≡ good table) × (checked P table ≡ Ok tt) × (made P 4 ≡ bad wrong_form)
    × (controlled P table idle (pos 195 ∷ []) ≡ Ok (1, idle)) × (controlled P table idle (pos 225 ∷ []) ≡ Ok (0, idle))
unfolding computing
tables = (refl, refl, refl, refl, refl)

-- a length off by one each way is 6 at the length, after its child: a fault inside the child comes before (the first tile with mode 0 leaves S at its step 1)
lengths : (checked P (0x02 ∷ 0x01 ∷ 0x00 ∷ 0x01 ∷ 0x01 ∷ 0x01 ∷ 0x01 ∷ 0x00 ∷ []) ≡ Err (bad_table 3))
    × (checked P (0x02 ∷ 0x01 ∷ 0x00 ∷ 0x03 ∷ 0x01 ∷ 0x01 ∷ 0x01 ∷ 0x00 ∷ []) ≡ Err (bad_table 3))
    × (checked P (0x02 ∷ 0x01 ∷ 0x00 ∷ 0x03 ∷ 0x01 ∷ 0x00 ∷ 0x01 ∷ 0x00 ∷ []) ≡ Err (leaves 4 1))
    × (checked P (0x02 ∷ 0x01 ∷ 0x00 ∷ 0x82 ∷ 0x00 ∷ 0x01 ∷ 0x01 ∷ 0x01 ∷ 0x00 ∷ []) ≡ Err (broken 3))
    × (checked P (0x02 ∷ 0x01 ∷ 0x00 ∷ 0xE7 ∷ 0x07 ∷ 0x01 ∷ 0x01 ∷ 0x02 ∷ 0x00 ∷ []) ≡ Err (bad_table 3))
unfolding computing
lengths = (refl, refl, refl, refl, refl)

-- A call goes where the lengths point: with a length of 3 the upper half is sought at 7, where the file's last byte, 0, is a split too deep; with 4 its child would
-- begin at the file's end, which is not past it, and nothing stands there; with 5 it would end past the file. The lower half is found whatever the length, but
-- where the first child would end past the file. The passed tile is not read.
calls : (controlled P (0x02 ∷ 0x01 ∷ 0x00 ∷ 0x03 ∷ 0x01 ∷ 0x01 ∷ 0x01 ∷ 0x00 ∷ []) idle (pos 225 ∷ []) ≡ Err (bad_table 7))
    × (controlled P (0x02 ∷ 0x01 ∷ 0x00 ∷ 0x04 ∷ 0x01 ∷ 0x01 ∷ 0x01 ∷ 0x00 ∷ []) idle (pos 225 ∷ []) ≡ Err (broken 8))
    × (controlled P (0x02 ∷ 0x01 ∷ 0x00 ∷ 0x04 ∷ 0x01 ∷ 0x01 ∷ 0x01 ∷ 0x00 ∷ []) idle (pos 195 ∷ []) ≡ Ok (1, idle))
    × (controlled P (0x02 ∷ 0x01 ∷ 0x00 ∷ 0x05 ∷ 0x01 ∷ 0x01 ∷ 0x01 ∷ 0x00 ∷ []) idle (pos 195 ∷ []) ≡ Err (bad_table 3))
    × (controlled P (0x02 ∷ 0x01 ∷ 0x00 ∷ 0x02 ∷ 0xFF ∷ 0xFF ∷ 0x01 ∷ 0x00 ∷ []) idle (pos 225 ∷ []) ≡ Ok (0, idle))
unfolding computing
calls = (refl, refl, refl, refl, refl)

-- one room, D 2, the mode that does nothing: a split within a split; the outer length counts the inner one (1 + 1 + 2 + 2)
abbrev still : List ℕ
still =
    file_of plant_form (
    pos 1 ∷ pos 1 ∷ pos 1 ∷ pos 1 ∷ pos 1 ∷ pos 2 ∷ pos 0 ∷ pos 3 ∷ pos 0 ∷ pos 3 ∷ pos 0 ∷ pos 0 ∷ pos 1 ∷ pos 0 ∷ []
    )

nested : (checked still (0x02 ∷ 0x01 ∷ 0x00 ∷ 0x06 ∷ 0x00 ∷ 0x02 ∷ 0x01 ∷ 0x00 ∷ 0x01 ∷ 0x00 ∷ 0x01 ∷ 0x00 ∷ []) ≡ Ok tt)
    × (checked still (0x02 ∷ 0x01 ∷ 0x00 ∷ 0x05 ∷ 0x00 ∷ 0x02 ∷ 0x01 ∷ 0x00 ∷ 0x01 ∷ 0x00 ∷ 0x01 ∷ 0x00 ∷ []) ≡ Err (bad_table 3))
    × (checked still (0x02 ∷ 0x01 ∷ 0x00 ∷ 0x05 ∷ 0x00 ∷ 0x01 ∷ 0x01 ∷ 0x00 ∷ 0x01 ∷ 0x00 ∷ 0x01 ∷ 0x00 ∷ []) ≡ Err (bad_table 5))
    × (checked still (0x02 ∷ 0x01 ∷ 0x00 ∷ 0x06 ∷ 0x00 ∷ 0x02 ∷ 0x00 ∷ []) ≡ Err (bad_table 6))
unfolding computing
nested = (refl, refl, refl, refl)

-- Relaid: T1 of form 1 is the table above in form 2, and back; of its own form each is itself; forms 3, 0 and 4 are 2, and what the checker refuses is
-- refused as it is, before the form: T1 with mode 0 in its first tile, and a wrong length.
abbrev T1 : List ℕ
T1 = 0x01 ∷ 0x01 ∷ 0x00 ∷ 0x01 ∷ 0x01 ∷ 0x01 ∷ 0x00 ∷ []

relaid : (relayed P T1 2 ≡ good table) × (relayed P table 1 ≡ good T1) × (relayed P T1 1 ≡ good T1) × (relayed P table 2 ≡ good table)
    × (relayed P T1 3 ≡ bad wrong_form) × (relayed P table 0 ≡ bad wrong_form) × (relayed P table 4 ≡ bad wrong_form)
    × (relayed P (0x01 ∷ 0x01 ∷ 0x00 ∷ 0x01 ∷ 0x00 ∷ 0x01 ∷ 0x00 ∷ []) 4 ≡ bad (leaves 3 1))
    × (relayed P (0x02 ∷ 0x01 ∷ 0x00 ∷ 0x03 ∷ 0x01 ∷ 0x01 ∷ 0x01 ∷ 0x00 ∷ []) 1 ≡ bad (bad_table 3))
unfolding computing
relaid = (refl, refl, refl, refl, refl, refl, refl, refl, refl)

-- and two levels of lengths are told and taken away
twice : (relayed still (0x01 ∷ 0x01 ∷ 0x00 ∷ 0x00 ∷ 0x01 ∷ 0x00 ∷ 0x01 ∷ 0x00 ∷ 0x01 ∷ 0x00 ∷ []) 2
    ≡ good (0x02 ∷ 0x01 ∷ 0x00 ∷ 0x06 ∷ 0x00 ∷ 0x02 ∷ 0x01 ∷ 0x00 ∷ 0x01 ∷ 0x00 ∷ 0x01 ∷ 0x00 ∷ []))
    × (relayed still (0x02 ∷ 0x01 ∷ 0x00 ∷ 0x06 ∷ 0x00 ∷ 0x02 ∷ 0x01 ∷ 0x00 ∷ 0x01 ∷ 0x00 ∷ 0x01 ∷ 0x00 ∷ []) 1
    ≡ good (0x01 ∷ 0x01 ∷ 0x00 ∷ 0x00 ∷ 0x01 ∷ 0x00 ∷ 0x01 ∷ 0x00 ∷ 0x01 ∷ 0x00 ∷ []))
unfolding computing
twice = (refl, refl)
