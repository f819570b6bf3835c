-- What the callers of `make` need: a sheet's ranges are what it asks for, and the plant's writer, handed the made plant, leaves what sheet to plant has to
-- leave. Relies on promises' pages SheetSound and SheetPlants, and on page Numbers.
use Prim.Native.Nat.{ℕ}
use mathlib.Core.Path.{◌≡◌, sym, ap, ◌∙◌}
use mathlib.Core.List.{List}
use lib.IntN.{ℤ}
use Rattle.meaning.specs.declared.Sheet.{Sheet}
use Rattle.meaning.specs.Buffers.{left}
use Rattle.meaning.specs.Files.{good, file_of, file_judged}
use Rattle.meaning.specs.Plants.{plant_form, plant_judged, plant_left}
use Rattle.meaning.specs.Sheets.{sheet_judged, made_left}
use Rattle.promises.specs.Sheets.SheetSound.{SoundSheet, judged-sound}
use Rattle.promises.specs.Sheets.SheetPlants as M
use Rattle.promises.specs.Sheets.SheetPlants.{made-left}
use Rattle.sheets.specs.Sizes.{Sized}
use Rattle.sheets.specs.Made.{held_plant}
use Rattle.sheets.proofs.made.Numbers.{made-numbers}

sound-sized : (h : Sheet) → SoundSheet h → Sized h
sound-sized h s =
    let r = s.ranges in
    record {
      some = r.n-low;
      few = r.n-high;
      degrees = (r.m-low, r.m-high);
      counts = (r.q-low, r.q-high);
      edges = λ i l. let e = r.safe.sides i l in (e.low, e.high);
      bands = λ i l. let e = s.band.sides i l in (e.low, e.high);
    }

-- the writer looks at a plant's numbers alone
pub held-left : (s : List ℕ) (h : Sheet) (buf : List ℕ) → sheet_judged s ≡ good h → plant_left (held_plant h) buf ≡ made_left s buf
unfolding plant_left
held-left s h buf e =
    let k = judged-sound s h e in
    ap (λ (vs : List ℤ). let b = file_of plant_form vs in left (file_judged b (plant_judged b)) buf) (made-numbers h (sound-sized h k) ∙ sym (M.made-numbers h k))
    ∙ sym (made-left s h e buf)
