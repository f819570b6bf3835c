-- What is answered, each under a name of its own: what was taken or done, or the refusal; or nothing, where whoever asked tells why.
use Rattle.std.specs.Prelude.{ℕ, ℤ, Option, Result, Ok, Err}
use Rattle.meaning.specs.declared.Refusal.{Refusal}
use Rattle.meaning.specs.declared.Outline.{Outline}
use Rattle.meaning.specs.declared.Sheet.{Sheet}
use Rattle.meaning.specs.declared.State.{State}
use Rattle.meaning.specs.declared.StartState.{StartState}

-- a number in groups of seven bits at a place: its value and the place behind it; none where it is broken
abbrev pub Number : Type 0
Number = Option (ℕ × ℕ)

-- the same, signed
abbrev pub Signed : Type 0
Signed = Option (ℤ × ℕ)

-- a file that was judged
abbrev pub Verdict : Type 0
Verdict = Result (Unit {0}) Refusal

-- that of a file that was read, whatever it says
abbrev pub verdict_in : {A : Type 0} → Result A Refusal → Verdict
verdict_in (Ok a) = Ok tt
verdict_in (Err e) = Err e

-- a plant's reader: the plant but for its bands and coefficients, which are lent beside it
abbrev pub PlantRead : Type 0
PlantRead = Result Outline Refusal

-- a sheet's reader
abbrev pub SheetRead : Type 0
SheetRead = Result Sheet Refusal

-- what a writer did: the bytes written
abbrev pub Written : Type 0
Written = Result ℕ Refusal

-- a walk over a table's bytes: the place behind what was read
abbrev pub Walk : Type 0
Walk = Result ℕ Refusal

-- the tile that holds a reading: the place of its first mode, and how many there are
abbrev pub Found : Type 0
Found = Result (ℕ × ℕ) Refusal

-- the controller's answer: the mode, and the state behind it
abbrev pub Answer : Type 0
Answer = Result (ℕ × State) Refusal

-- the start controller's
abbrev pub StartAnswer : Type 0
StartAnswer = Result (ℕ × StartState) Refusal

-- a float's product rounded to a whole number of the plant; none where the plant cannot hold it
abbrev pub Whole : Type 0
Whole = Option ℤ
