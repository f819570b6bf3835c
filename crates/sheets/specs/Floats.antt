-- A float of a sheet as the code reads it: its bits, what is asked of it, and the part of a form that it is. Relies on promises' page SheetRooms.
use Rattle.std.specs.Prelude.{ℕ, Bool, List, [], ◌∷◌, pos, Float, Some, None, Ok, Err, Result, Option}
use Rattle.std.specs.Float.{binary64}
use Rattle.std.specs.Float.Ieee.{to_bits}
use Rattle.meaning.specs.declared.Refusal.{Refusal}
use Rattle.meaning.specs.Files.{Form, Taken, taken, none, low_first}
use Rattle.meaning.specs.Sheets.{bits_of, floating, any_float, not_below, above}
use Rattle.promises.specs.Sheets.SheetRooms.{Held}
use Rattle.files.specs.Parts.{Holds, Fails}
use Rattle.sheets.specs.declared.floats.Asked.{Asked}

abbrev pub bits_taken : Option (ℕ × ℕ) → Taken
bits_taken (Some (v, next)) = taken (pos v) next
bits_taken None = none

abbrev pub ok_of : Asked → Float → Bool
ok_of Asked.Any = any_float
ok_of Asked.NotBelow = not_below
ok_of Asked.Above = above

-- a float that was taken; its bits give it back, since binary64 holds it
pub record Floated (ok : Float → Bool) (s : List ℕ) (from : ℕ) (x : Float) (next : ℕ) : Type 0 where
  pub part : Holds (floating ok) s from (bits_of x ∷ []) next
  pub held : Held x

abbrev pub FloatTold : (Float → Bool) → List ℕ → ℕ → Result (Float × ℕ) Refusal → Type 0
FloatTold ok s from (Ok (x, next)) = Floated ok s from x next
FloatTold ok s from (Err e) = Fails (floating ok) s from e

-- two of them, of the second of which nothing is asked
abbrev pub two_part : (Float → Bool) → Form → Form
two_part ok rest = floating ok (floating any_float rest)

pub record TwoFloated (ok : Float → Bool) (s : List ℕ) (from : ℕ) (x y : Float) (next : ℕ) : Type 0 where
  pub part : Holds (two_part ok) s from (bits_of x ∷ bits_of y ∷ []) next
  pub first-held : Held x
  pub second-held : Held y

abbrev pub TwoTold : (Float → Bool) → List ℕ → ℕ → Result (Float × Float × ℕ) Refusal → Type 0
TwoTold ok s from (Ok (x, y, next)) = TwoFloated ok s from x y next
TwoTold ok s from (Err e) = Fails (two_part ok) s from e

abbrev pub float_bytes : Float → List ℕ
float_bytes x = low_first 8 (to_bits binary64 x)
