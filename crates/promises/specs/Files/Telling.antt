-- How a refusal may be told (document 01, "What each number says"): by one of some numbers, with a place and a step such as the table's row names. The
-- table's columns of places and steps stand here; start files have another column of places (page Rows). Definitions, and what follows of them alone; which
-- entry point tells which is page Told.
use Rattle.std.specs.Prelude.{ℕ, ◌≤◌, ◌<◌, ◌≡◌, refl, Bool, true, false, ◌&&◌, ◌||◌, List, [], ◌∷◌, eqb, get_or}
use Rattle.std.proofs.Common.{◌∙◌, sym, eqb-true}
use Rattle.laws.specs.Every as E
use Rattle.laws.specs.Every.{Every}
use Rattle.laws.specs.Guards.{guard}
use Rattle.laws.specs.Tests.{never, first, second}
use Rattle.meaning.specs.declared.Refusal.{Refusal}
use Rattle.meaning.specs.Plants.{most_modes}

abbrev pub one_of : List ℕ → ℕ → Bool
one_of [] n = false
one_of (m ∷ ms) n = eqb n m || one_of ms n

-- what a row's place or step is: 0, a byte of the file, a mode or a dimension from 0, a step of a pattern from 1, which number of the plant file; of a chain of
-- boxes, the index of one, from 0 or above R
pub data Place : Type 0 where
  none byte mode dimension sample figure box box_above : Place

-- The columns of places and of steps, from number 0 on. A plant's 5 is told at a mode; a sheet has one band for all modes, and its 5 is told at 0.
abbrev places_by : Place → List Place
places_by narrow =
    none ∷ byte ∷ none ∷ byte ∷ dimension ∷ narrow ∷ byte ∷ byte ∷ byte ∷ none ∷ none ∷ dimension ∷ none ∷ byte ∷ figure ∷ []

abbrev pub places : List Place
places = places_by mode

abbrev pub sheet_places : List Place
sheet_places = places_by none

-- no step is a byte
abbrev steps : List Place
steps = none ∷ none ∷ none ∷ none ∷ none ∷ dimension ∷ none ∷ sample ∷ sample ∷ []

-- a byte's place is the file's length where a number is missing; a sheet's plant file has at most 6 + 6·4 + 320 numbers
abbrev pub PlaceIs : Place → ℕ → ℕ → Type 0
PlaceIs none size p = p ≡ 0
PlaceIs byte size p = p ≤ size
PlaceIs mode size p = p < most_modes
PlaceIs dimension size p = p < 4
PlaceIs sample size p = (1 ≤ p) × (p ≤ 6)
PlaceIs figure size p = p < 350
PlaceIs box size p = p ≤ 8
PlaceIs box_above size p = (1 ≤ p) × (p ≤ 8)

-- told of a file of that size by one of these numbers, with a place of that column
pub record TellingBy (column : List Place) (numbers : List ℕ) (size : ℕ) (e : Refusal) : Type 0 where
  pub number : one_of numbers e.number ≡ true
  pub place : PlaceIs (get_or column e.number none) size e.place
  pub step : PlaceIs (get_or steps e.number none) 0 e.step

abbrev pub Telling : List ℕ → ℕ → Refusal → Type 0
Telling = TellingBy places

abbrev pub SheetTelling : List ℕ → ℕ → Refusal → Type 0
SheetTelling = TellingBy sheet_places

-- what holds of both ways of a test holds behind it
pub guard-keeps : {A : Type 0} (P : A → Type 0) {otherwise : A} (t : Bool) (rest : Unit {0} → A) → (t ≡ false → P otherwise) → (t ≡ true → P (rest tt)) → P (guard t otherwise rest)
guard-keeps P true rest a b = b refl
guard-keeps P false rest a b = a refl

-- ---- one of fewer is one of more, and none of others

abbrev pub are_of : List ℕ → List ℕ → Bool
are_of more [] = true
are_of more (m ∷ ms) = one_of more m && are_of more ms

fewer : (l more : List ℕ) (n : ℕ) → are_of more l ≡ true → one_of l n ≡ true → one_of more n ≡ true
fewer [] more n h e = never e
fewer (a ∷ l) more n h e = go (eqb n a) refl e (λ q. fewer l more n (second (one_of more a) (are_of more l) h) q)
  where
    go : (t : Bool) → eqb n a ≡ t → (t || one_of l n) ≡ true → (one_of l n ≡ true → one_of more n ≡ true) → one_of more n ≡ true
    go true q e later = rw (eqb-true n a q) (first (one_of more a) (are_of more l) h)
    go false q e later = later e

-- what holds of each of some numbers holds of one of them
pub each-one : (P : ℕ → Type 0) (l : List ℕ) → Every P l → (n : ℕ) → one_of l n ≡ true → P n
unfolding E.Every
each-one P [] h n e = never e
each-one P (a ∷ l) h n e = go (eqb n a) refl e (each-one P l h.1 n)
  where
    go : (t : Bool) → eqb n a ≡ t → (t || one_of l n) ≡ true → (one_of l n ≡ true → P n) → P n
    go true q e later = rw (eqb-true n a q) h.0
    go false q e later = later e

module _ {column : List Place} {numbers : List ℕ} {size : ℕ} {e : Refusal} (t : TellingBy column numbers size e) where
  pub told_more : (more : List ℕ) → are_of more numbers ≡ true → TellingBy column more size e
  told_more more h = record { number = fewer numbers more e.number h t.number; place = t.place; step = t.step }

  -- told of another file, by another column, where each number's place is one there
  pub told-by : (other : List Place) (whole : ℕ) → Every (λ n. (p : ℕ) → PlaceIs (get_or column n none) size p → PlaceIs (get_or other n none) whole p) numbers
      → TellingBy other numbers whole e
  told-by other whole each = record { number = t.number; place = each-one _ numbers each e.number t.number e.place t.place; step = t.step }

  pub not-told : (n : ℕ) → one_of numbers n ≡ false → e.number ≡ n → ⊥
  not-told n h q = never (sym h ∙ rw q at t.number)
