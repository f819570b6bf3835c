-- How a refusal of a start file may be told (document 02, request 2026-03): as in document 01 (page Telling), but that 2 may be told of a table within it, so that its
-- place is a byte of the file; 9's place is a box's index, and 15's the index of one above R. And what is told of a table, or of the chain alone, is told so of
-- the file that it stands in. Definitions, and what follows of them alone; which entry point tells which is page Told of this folder.
use Rattle.std.specs.Prelude.{ℕ, ◌+◌, ◌≡◌, Bool, true, false, cond, List, [], ◌∷◌, length, get_or}
use Rattle.laws.specs.Every.{Every}
use Rattle.meaning.specs.declared.Refusal.{Refusal}
use Rattle.meaning.specs.Files.{good, bad}
use Rattle.meaning.specs.Plants.{Plant, plant_judged}
use Rattle.meaning.specs.Refusals.{refusal, at_byte, moved}
use Rattle.promises.specs.Sheets.Faults.{plant_numbers}
use Rattle.promises.specs.Files.Telling.{one_of, are_of, Place, none, byte, mode, dimension, figure, box, box_above, places, PlaceIs, TellingBy, Telling, each-one, told_more, not-told}

-- the column of places, from number 0 on
abbrev pub start_places : List Place
start_places =
    none ∷ byte ∷ byte ∷ byte ∷ dimension ∷ mode ∷ byte ∷ byte ∷ byte ∷ box ∷ none ∷ dimension ∷ none ∷ byte ∷ figure ∷ box_above ∷ []

abbrev pub StartTelling : List ℕ → ℕ → Refusal → Type 0
StartTelling = TellingBy start_places

-- A refusal that may be about one of two files: the plant's own, or, where the plant is good, the start file's, or for the maker the chain's.
pub data StartTold (plant file numbers : List ℕ) (e : Refusal) : Type 0 where
  of-plant : plant_judged plant ≡ bad e → Telling plant_numbers (length plant) e → StartTold plant file numbers e
  of-start : (p : Plant) → plant_judged plant ≡ good p → StartTelling numbers (length file) e → StartTold plant file numbers e

module _ {plant file numbers : List ℕ} {e : Refusal} where
  pub start-more : (more : List ℕ) → are_of more numbers ≡ true → StartTold plant file numbers e → StartTold plant file more e
  start-more more h (of-plant q t) = of-plant q t
  start-more more h (of-start p q t) = of-start p q (told_more t more h)

  pub start-not-told : (n : ℕ) → one_of plant_numbers n ≡ false → one_of numbers n ≡ false → StartTold plant file numbers e → e.number ≡ n → ⊥
  start-not-told n h k (of-plant q t) = not-told t n h
  start-not-told n h k (of-start p q t) = not-told t n k

module _ {numbers : List ℕ} {size : ℕ} (whole : ℕ) {e : Refusal} (t : Telling numbers size e) where
  -- told of a file that stands at `first` in another
  pub moved_told : (first : ℕ) → Every (λ n. (p : ℕ) → PlaceIs (get_or places n none) size p → PlaceIs (get_or start_places n none) whole (cond (at_byte n) (first + p) p)) numbers
      → StartTelling numbers whole (moved first e)
  moved_told first each = go (at_byte e.number) (each-one _ numbers each e.number t.number e.place t.place)
    where
      go : (b : Bool) → PlaceIs (get_or start_places e.number none) whole (cond b (first + e.place) e.place)
          → StartTelling numbers whole (cond b (refusal e.number (first + e.place) e.step) e)
      go true h = record { number = t.number; place = h; step = t.step }
      go false h = record { number = t.number; place = h; step = t.step }
