-- What each number says: document 01's table of refusals, with rows 2 and 5 as request 2026-09 has them and row 15 of document 02, one definition a row,
-- and what each answer shows of it.
-- A place or step that the table does not name is 0. In a start file some rows say more (docs/REFUSALS.md), and the places of its tables are moved.
use Rattle.std.specs.Prelude.{ℕ, ◌+◌, Bool, ◌||◌, cond, List, [], ◌∷◌, eqb, ℤ, pos, Some, None, Ok, Err}
use Rattle.meaning.specs.Answers.{Number, Signed, Walk, Verdict, Written, Found, Answer, StartAnswer, Whole}
use Rattle.meaning.specs.declared.Refusal.{Refusal}
use Rattle.meaning.specs.declared.Tried.{Tried}

abbrev pub refusal : ℕ → ℕ → ℕ → Refusal
refusal n p i = record { number = n; place = p; step = i }

-- 1: a number or float ends early, is over 5 bytes, or not shortest; its first byte
abbrev pub broken : ℕ → Refusal
broken at = refusal 1 at 0

-- 2: form is not known
abbrev pub wrong_form : Refusal
wrong_form = refusal 2 0 0

-- 3: plant or sheet number out of range, lo > hi, emitter kind over 2, or bytes left over; that byte
abbrev pub unfit : ℕ → Refusal
unfit at = refusal 3 at 0

-- 4: R not in S; first dimension, from 0
abbrev pub not_in_safe : ℕ → Refusal
not_in_safe i = refusal 4 i 0

-- 5: band too narrow; first mode, step the first dimension, from 0
abbrev pub narrow : ℕ → ℕ → Refusal
narrow u i = refusal 5 u i

-- 6: table: n differs, node over K, mode not below N, a split too deep or not possible, bytes left over; that byte
abbrev pub bad_table : ℕ → Refusal
bad_table at = refusal 6 at 0

-- 7: an image leaves S; tile's first byte, step from 1
abbrev pub leaves : ℕ → ℕ → Refusal
leaves at i = refusal 7 at i

-- 8: last image not in R; tile's first byte, last step
abbrev pub misses : ℕ → ℕ → Refusal
misses at i = refusal 8 at i

-- 9: no table
-- In a start file the place is the first index without one; R's is 0.
abbrev pub no_table : ℕ → Refusal
no_table i = refusal 9 i 0

-- 10: buffer too short
abbrev pub short : Refusal
short = refusal 10 0 0

-- 11: reading outside R (idle) or S (running); first dimension, from 0
abbrev pub outside : ℕ → Refusal
outside i = refusal 11 i 0

-- 12: state cannot be
abbrev pub bad_state : Refusal
bad_state = refusal 12 0 0

-- 13: sheet float not finite, time ≤ 0, or loss, exchange or p below 0; its first byte
abbrev pub bad_float : ℕ → Refusal
bad_float at = refusal 13 at 0

-- 14: sheet result not finite or outside the plant's range; which number of the plant file, its form being 0
abbrev pub bad_result : ℕ → Refusal
bad_result k = refusal 14 k 0

-- 15: a box that does not hold the one before or is not in S; first index at fault
abbrev pub not_held : ℕ → Refusal
not_held i = refusal 15 i 0

-- whether a refusal's place is a byte of the file
abbrev pub at_byte : ℕ → Bool
at_byte number = eqb number 1 || eqb number 2 || eqb number 3 || eqb number 6 || eqb number 7 || eqb number 8 || eqb number 13

-- what is told of a file that stands at `from` in another
abbrev pub moved : ℕ → Refusal → Refusal
moved from r = cond (at_byte r.number) (refusal r.number (from + r.place) r.step) r

-- ---- number (0: done), place, step and values of each case of each answer

pub record Shown : Type 0 where
  pub number : ℕ
  pub place : ℕ
  pub step : ℕ
  pub values : List ℤ

abbrev done : List ℤ → Shown
done vs = record { number = 0; place = 0; step = 0; values = vs }

abbrev told : Refusal → List ℤ → Shown
told r vs = record { number = r.number; place = r.place; step = r.step; values = vs }

-- the number that was asked for at a place, and the place behind it
abbrev pub number_shown : ℕ → Number → Shown
number_shown at (Some (v, next)) = done (pos v ∷ pos next ∷ [])
number_shown at None = told (broken at) []

abbrev pub signed_shown : ℕ → Signed → Shown
signed_shown at (Some (v, next)) = done (v ∷ pos next ∷ [])
signed_shown at None = told (broken at) []

-- a tile's pattern, the tile's first byte being at a place
abbrev pub tried_shown : ℕ → Tried → Shown
tried_shown at Tried.Works = done []
tried_shown at (Tried.Leaves i) = told (leaves at i) []
tried_shown at (Tried.Misses i) = told (misses at i) []

-- the place behind what was walked over; the place of a tile's first mode and how many modes it has
abbrev pub walk_shown : Walk → Shown
walk_shown (Ok at) = done (pos at ∷ [])
walk_shown (Err r) = told r []

abbrev pub found_shown : Found → Shown
found_shown (Ok (from, k)) = done (pos from ∷ pos k ∷ [])
found_shown (Err r) = told r []

-- the k-th number of the plant made of a sheet
abbrev pub whole_shown : ℕ → Whole → Shown
whole_shown k (Some v) = done (v ∷ [])
whole_shown k None = told (bad_result k) []

abbrev pub verdict_shown : Verdict → Shown
verdict_shown (Ok _) = done []
verdict_shown (Err r) = told r []

-- how many bytes were written
abbrev pub written_shown : Written → Shown
written_shown (Ok m) = done (pos m ∷ [])
written_shown (Err r) = told r []

-- The mode and the next state. A refused controller call returns idle, and the C face shows 65,535, which is no mode (request 2026-08; 255 is one).
abbrev pub answer_shown : Answer → Shown
answer_shown (Ok (u, s)) = done (pos u ∷ pos s.place ∷ pos s.left ∷ [])
answer_shown (Err r) = told r (pos 65_535 ∷ pos 0 ∷ pos 0 ∷ [])

-- the same of a start file: the next index stands before place and left
abbrev pub start_answer_shown : StartAnswer → Shown
start_answer_shown (Ok (u, s)) = done (pos u ∷ pos s.index ∷ pos s.state.place ∷ pos s.state.left ∷ [])
start_answer_shown (Err r) = told r (pos 65_535 ∷ pos 0 ∷ pos 0 ∷ pos 0 ∷ [])
