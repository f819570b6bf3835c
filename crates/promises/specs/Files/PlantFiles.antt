-- S2 for plants, the files: a plant that was written is read back as itself, a file that was read is written back as the same bytes, and reader and
-- writer refuse alike. Relies on pages Files, Writers, Plants and PlantShapes; how long a file may be is told on page PlantLengths.
use Rattle.std.specs.Prelude.{ℕ, ◌≤◌, ◌<◌, ◌≡◌, refl, List, length, take, ℤ, Ok}
use Rattle.std.proofs.Common.{sym, ap, ◌∙◌, subst}
use Rattle.std.proofs.lemmas.List.Edits.{sets}
use Rattle.meaning.specs.declared.Refusal.{Refusal}
use Rattle.meaning.specs.Refusals.{short}
use Rattle.meaning.specs.Files.{values_of, good, bad, file_of}
use Rattle.meaning.specs.Buffers.{refused_with}
use Rattle.meaning.specs.Plants.{Plant, plant_form, plant_of, numbers_of, plant_related, plant_judged, outline_of, plant_read, bands_left, coef_left, plant_left}
use Rattle.promises.specs.Files.Files.{judged_values, judged-back, file-reads, file-writes}
use Rattle.promises.specs.Files.Buffers.{wrote}
use Rattle.promises.specs.Files.Plants.{Tidy, plant-back}
use Rattle.promises.specs.Files.Related.{good-plant}
use Rattle.promises.specs.Files.PlantShapes.{plant-shaped, plant-read}
use Rattle.promises.specs.Files.Writers.{refuses, too_short, long-enough, was-written}

-- the file that a plant would be
abbrev pub plant_file : Plant → List ℕ
plant_file p = file_of plant_form (numbers_of p)

-- a plant handed over as values is judged number by number, and no bytes are left over
pub judged-by-values : (p : Plant) → plant_judged (plant_file p) ≡ plant_related (judged_values plant_form (numbers_of p) 0)
unfolding plant_judged
judged-by-values p = ap plant_related (file-reads plant_form (numbers_of p) (plant-shaped p))

-- ---- written, and read back

-- a plant's file says the plant that its numbers make
judged-itself : (p p' : Plant) → plant_judged (plant_file p) ≡ good p' → plant_of (numbers_of p) ≡ p'
judged-itself p p' e =
    let g = good-plant (judged_values plant_form (numbers_of p) 0) p' (sym (judged-by-values p) ∙ e) in
    ap plant_of (sym (judged-back plant_form (numbers_of p) 0 (plant-shaped p) g.was).0) ∙ g.plant

-- of any plant, its edges beyond n rooms are read back as zeros, its lists with just what N modes have
pub written-read-zeros : (p : Plant) (buf : List ℕ) (m : ℕ) → (plant_left p buf).answer ≡ Ok m
    → plant_judged (take m (plant_left p buf).buffer) ≡ good (plant_of (numbers_of p))
unfolding plant_left
written-read-zeros p buf m e =
    let w = was-written plant_judged (plant_file p) buf m e in
    ap plant_judged w.2 ∙ w.1 ∙ ap good (sym (judged-itself p w.0 w.1))

-- and a plant that is such is read back as itself, its bands and coefficients too
pub written_read : (p : Plant) → Tidy p → (buf : List ℕ) (m : ℕ) → (plant_left p buf).answer ≡ Ok m → plant_judged (take m (plant_left p buf).buffer) ≡ good p
written_read p t buf m e = written-read-zeros p buf m e ∙ ap good (plant-back p t)

-- so what a reader answers of it, and leaves in arrays that it is lent
pub written-answered : (p : Plant) → Tidy p → (buf : List ℕ) (m : ℕ) → (plant_left p buf).answer ≡ Ok m → (bands coef : List ℤ)
    → let s = take m (plant_left p buf).buffer in
    (plant_read s ≡ Ok (outline_of p)) × (bands_left s bands ≡ sets bands 0 p.bands) × (coef_left s coef ≡ sets coef 0 p.coef)
written-answered p t buf m e bands coef = let w = written_read p t buf m e in (rw w refl, rw w refl, rw w refl)

-- ---- reader and writer refuse alike: what the reader says of the file that a plant would be, its writer says of the plant

pub alike : (p : Plant) (e : Refusal) → plant_judged (plant_file p) ≡ bad e → (buf : List ℕ) → plant_left p buf ≡ refused_with e buf
unfolding plant_left
alike p e h buf = refuses plant_judged (plant_file p) buf e h

-- a plant whose file is good is refused only by 10, and only where the buffer is shorter than the file
pub alike-short : (p p' : Plant) → plant_judged (plant_file p) ≡ good p' → (buf : List ℕ) → length buf < length (plant_file p) → plant_left p buf ≡ refused_with short buf
unfolding plant_left
alike-short p p' h buf l = too_short plant_judged (plant_file p) buf p' h l

pub alike-fits : (p p' : Plant) → plant_judged (plant_file p) ≡ good p' → (buf : List ℕ) → length (plant_file p) ≤ length buf → plant_left p buf ≡ wrote (plant_file p) buf
unfolding plant_left
alike-fits p p' h buf l = long-enough plant_judged (plant_file p) buf p' h l

-- ---- read, and written back

-- the plant that a file says: its edges are zeros beyond n rooms, its lists those of N modes, and it is written as that file
pub read-tidy : (s : List ℕ) (p : Plant) → plant_judged s ≡ good p → Tidy p × (plant_file p ≡ s)
unfolding plant_judged
read-tidy s p e =
    let g = good-plant (values_of plant_form s) p e in
    let w = file-writes plant_form s g.was in
    let r = plant-read s w.0 in
    (subst Tidy g.plant r.0, ap plant_file (sym g.plant) ∙ ap (file_of plant_form) r.1 ∙ w.2)

-- into a buffer that is long enough
pub read-written : (s : List ℕ) (p : Plant) → plant_judged s ≡ good p → (buf : List ℕ) → length s ≤ length buf → plant_left p buf ≡ wrote s buf
read-written s p e buf h = let w = (read-tidy s p e).1 in rw w at (alike-fits p p (rw w e) buf (rw w h))
