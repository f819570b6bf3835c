-- Start files worked out by hand from document 02, request 2026-03.
use Rattle.std.specs.Prelude.{ℕ, zero, suc, ◌≡◌, refl, true, List, [], ◌∷◌, ◌++◌, replicate, take, ℤ, pos, neg_ℤ, Ok, Err}
use Rattle.meaning.specs.Answers.{Verdict, StartAnswer}
use Rattle.meaning.specs.declared.StartState.{StartState}
use Rattle.meaning.specs.Buffers.{refused_with}
use Rattle.meaning.specs.Refusals.{broken, wrong_form, unfit, bad_table, no_table, short, outside, bad_state, not_held, refusal}
use Rattle.meaning.specs.Files.{Judged, good, bad, file_of}
use Rattle.meaning.specs.Plants.{plant_form}
use Rattle.meaning.specs.Starts.{chain_form, start_idle, start_made, start_left, start_checked, start_controlled}
use Rattle.meaning.specs.Tables.{may_follow}
use Rattle.meaning.specs.Computing.{computing}

-- plant P with S a..b, depth d
abbrev plant_in : ℕ → ℕ → ℕ → List ℕ
plant_in a b d =
    file_of plant_form (
    pos 1 ∷ pos 1 ∷ pos 2 ∷ pos 10 ∷ pos 2 ∷ pos d ∷ pos 195 ∷ pos 225 ∷ pos a ∷ pos b ∷ neg_ℤ (pos 5) ∷ pos 4
    ∷ pos 9 ∷ pos 100 ∷ pos 9 ∷ pos 300 ∷ []
    )

abbrev P : List ℕ
P = plant_in 190 230 1

abbrev state : ℕ → ℕ → ℕ → StartState
state i place left = record { index = i; state = record { place = place; left = left } }

-- R1 is 190..230
abbrev chain : List ℕ
chain = file_of (chain_form 1) (pos 1 ∷ pos 1 ∷ pos 190 ∷ pos 230 ∷ [])

abbrev start : List ℕ
start =
    0x01 ∷ 0x01 ∷ 0xFC ∷ 0x02 ∷ 0xCC ∷ 0x03
    ∷ 0x07 ∷ 0x01 ∷ 0x01 ∷ 0x00 ∷ 0x01 ∷ 0x01 ∷ 0x01 ∷ 0x00
    ∷ 0x07 ∷ 0x01 ∷ 0x01 ∷ 0x00 ∷ 0x01 ∷ 0x01 ∷ 0x01 ∷ 0x00 ∷ []

made : (start_made P chain 1 ≡ good start) × (start_checked P start ≡ Ok tt)
unfolding computing
made = (refl, refl)

abbrev told : StartState → ℕ → StartAnswer
told st x = start_controlled P start st (pos x ∷ [])

called : (told start_idle 190 ≡ Ok (1, start_idle)) × (told start_idle 230 ≡ Ok (0, start_idle))
    × (told start_idle 195 ≡ Ok (1, start_idle)) × (told start_idle 189 ≡ Err (outside 0))
    × (told (state 2 5 1) 200 ≡ Err bad_state) × (told (state 1 0 0) 100 ≡ Err bad_state)
    × (told (state 0 5 0) 100 ≡ Err bad_state) × (told (state 1 4 1) 190 ≡ Ok (1, start_idle))
unfolding computing
called = (refl, refl, refl, refl, refl, refl, refl, refl)

-- Chains that are refused: a box that does not hold the one before, one outside S, m over 8, another form, a byte behind, lo > hi, an edge cut short. And no
-- table: at depth 0 no pattern works for all of R, and from 150 no two modes lead into R.
refusals : (start_made P (file_of (chain_form 1) (pos 1 ∷ pos 2 ∷ pos 190 ∷ pos 230 ∷ pos 191 ∷ pos 230 ∷ [])) 1 ≡ bad (not_held 2))
    × (start_made P (file_of (chain_form 1) (pos 1 ∷ pos 1 ∷ pos 190 ∷ pos 231 ∷ [])) 1 ≡ bad (not_held 1))
    × (start_made P (1 ∷ 9 ∷ []) 1 ≡ bad (unfit 1)) × (start_made P (2 ∷ []) 1 ≡ bad wrong_form) × (start_made P (chain ++ 0 ∷ []) 1 ≡ bad (unfit 6))
    × (start_made P (file_of (chain_form 1) (pos 1 ∷ pos 1 ∷ pos 230 ∷ pos 190 ∷ [])) 1 ≡ bad (unfit 4)) × (start_made P (1 ∷ 1 ∷ 0xFC ∷ []) 1 ≡ bad (broken 2))
    × (start_made (plant_in 190 230 0) chain 1 ≡ bad (no_table 0)) × (start_made (plant_in 150 260 1) (file_of (chain_form 1) (pos 1 ∷ pos 1 ∷ pos 150 ∷ pos 260 ∷ [])) 1 ≡ bad (no_table 1))
unfolding computing
refusals = (refl, refl, refl, refl, refl, refl, refl, refl, refl)

-- ---- P with S 150..240, R1 180..225, R2 160..230

abbrev cold : List ℕ
cold = plant_in 150 240 1

abbrev start_from : Judged (List ℕ) → List ℕ
start_from (good s) = s
start_from (bad e) = []

abbrev cold_start : List ℕ
cold_start = start_from (start_made cold (file_of (chain_form 1) (pos 1 ∷ pos 2 ∷ pos 180 ∷ pos 225 ∷ pos 160 ∷ pos 230 ∷ [])) 1)

abbrev cold_told : StartState → ℕ → StartAnswer
cold_told st x = start_controlled cold cold_start st (pos x ∷ [])

-- From 160 in four samples, the sum of the longest patterns: 198 lies in R, and is met in mid-pattern. From 208 on R's table is run, one tile of the modes
-- 0, 1: 195..225 leads to 185..212, and that back into R.
home : (cold_told start_idle 160 ≡ Ok (1, state 2 5 1)) × (cold_told (state 2 5 1) 174 ≡ Ok (1, start_idle))
    × (cold_told start_idle 187 ≡ Ok (1, state 1 5 1)) × (cold_told (state 1 5 1) 198 ≡ Ok (1, start_idle))
    × (cold_told start_idle 208 ≡ Ok (0, state 0 4 1))
unfolding computing
home = (refl, refl, refl, refl, refl)

follows : (may_follow cold 1 (pos 160 ∷ []) (pos 174 ∷ []) ≡ true) × (may_follow cold 1 (pos 174 ∷ []) (pos 187 ∷ []) ≡ true)
    × (may_follow cold 1 (pos 187 ∷ []) (pos 198 ∷ []) ≡ true) × (may_follow cold 1 (pos 198 ∷ []) (pos 208 ∷ []) ≡ true)
unfolding computing
follows = (refl, refl, refl, refl)

-- ---- what the checker tells, the first fault in file order

abbrev judged : List ℕ → Verdict
judged s = start_checked P s

-- the first m bytes of the file, and others behind them
abbrev spoilt : ℕ → List ℕ → List ℕ
spoilt m behind = take m start ++ behind

faults : (judged (spoilt 6 []) ≡ Err (broken 6)) × (judged (spoilt 21 []) ≡ Err (unfit 14))
    × (judged (spoilt 6 (6 ∷ 1 ∷ 1 ∷ 0 ∷ 1 ∷ 1 ∷ 1 ∷ [])) ≡ Err (broken 13)) × (judged (spoilt 6 (7 ∷ 4 ∷ 1 ∷ 0 ∷ 1 ∷ 1 ∷ 1 ∷ 0 ∷ [])) ≡ Err (refusal 2 7 0))
    × (judged (spoilt 14 (7 ∷ 1 ∷ 2 ∷ 0 ∷ 1 ∷ 1 ∷ 1 ∷ 0 ∷ [])) ≡ Err (bad_table 16)) × (judged (spoilt 6 (8 ∷ 1 ∷ 1 ∷ 0 ∷ 1 ∷ 1 ∷ 1 ∷ 0 ∷ 7 ∷ [])) ≡ Err (unfit 6))
    × (judged (start ++ 0 ∷ []) ≡ Err (unfit 22))
unfolding computing
faults = (refl, refl, refl, refl, refl, refl, refl)

-- mode 1 on 211..230 leads to 219 and up to 237, out of S: 7, at the tile's byte in the start file
left-safe : judged (spoilt 14 (7 ∷ 1 ∷ 1 ∷ 0 ∷ 1 ∷ 1 ∷ 1 ∷ 1 ∷ [])) ≡ Err (refusal 7 20 1)
unfolding computing
left-safe = refl

-- in the cold room mode 1 on R1, 180..225, leads to 192..232: within S, and not within R, the box below
abbrev cold_head : List ℕ
cold_head = file_of (chain_form 1) (pos 1 ∷ pos 1 ∷ pos 180 ∷ pos 225 ∷ []) ++ 5 ∷ 1 ∷ 1 ∷ 2 ∷ 0 ∷ 1 ∷ []

missing : start_checked cold (cold_head ++ 4 ∷ 1 ∷ 1 ∷ 1 ∷ 1 ∷ []) ≡ Err (refusal 8 15 1)
unfolding computing
missing = refl

-- equal boxes: R1 is R, and a reading in both goes by R's table; nine boxes at most
unfoldable same : ℕ → List ℤ
same zero = []
same (suc m) = pos 195 ∷ pos 225 ∷ same m

equal-boxes : (start_controlled P (start_from (start_made P (file_of (chain_form 1) (pos 1 ∷ pos 8 ∷ same 8)) 1)) (state 8 4 1) (pos 200 ∷ []) ≡ Ok (1, start_idle))
    × (start_controlled P (start_from (start_made P (file_of (chain_form 1) (pos 1 ∷ pos 8 ∷ same 8)) 1)) (state 9 4 1) (pos 200 ∷ []) ≡ Err bad_state)
unfolding computing same
equal-boxes = (refl, refl)

-- a lent buffer: too short it is all zeros, and a longer one keeps what stands behind
lent-short : start_left P chain 1 (replicate 21 0xAA) ≡ refused_with short (replicate 21 0xAA)
unfolding computing
lent-short = refl

lent-long : start_left P chain 1 (replicate 23 0xAA) ≡ record { answer = Ok 22; buffer = start ++ 0xAA ∷ [] }
unfolding computing
lent-long = refl
