-- S2 for sheets, the files: a sheet that was written is read back as itself, a file that was read is written back as the same bytes, and reader and writer
-- refuse alike. Relies on pages Files, Writers, Sheets and SheetShapes; how long a file may be is told on page SheetLengths.
-- Where a file's bytes have to give a sheet's floats back, the floats are asked to be f64s (`HeldSheet`), as every float of a running program is.
use Rattle.std.specs.Prelude.{ℕ, ◌≤◌, ◌<◌, ◌≡◌, List, length, take, Ok}
use Rattle.std.proofs.Common.{sym, ap, ◌∙◌, subst}
use Rattle.meaning.specs.declared.Refusal.{Refusal}
use Rattle.meaning.specs.declared.Sheet.{Sheet}
use Rattle.meaning.specs.Refusals.{short}
use Rattle.meaning.specs.Buffers.{refused_with}
use Rattle.meaning.specs.Files.{values_of, good, bad, file_of}
use Rattle.meaning.specs.Sheets.{sheet_form, sheet_of, sheet_values, sheet_related, sheet_judged, sheet_read, sheet_read_of, sheet_left}
use Rattle.promises.specs.Files.Buffers.{wrote}
use Rattle.promises.specs.Files.Files.{judged_values, judged-back, file-reads, file-writes}
use Rattle.promises.specs.Files.Related.{good-sheet}
use Rattle.promises.specs.Sheets.Sheets.{HeldSheet, TidySheet, sheet-back}
use Rattle.promises.specs.Sheets.SheetShapes.{sheet-shaped, sheet-read}
use Rattle.promises.specs.Files.Writers.{refuses, too_short, long-enough, was-written}

-- the file that a sheet would be
abbrev pub sheet_file : Sheet → List ℕ
sheet_file h = file_of sheet_form (sheet_values h)

-- a sheet handed over as values is judged value by value, and no bytes are left over
pub judged-by-values : (h : Sheet) → HeldSheet h → sheet_judged (sheet_file h) ≡ sheet_related (judged_values sheet_form (sheet_values h) 0)
unfolding sheet_judged
judged-by-values h f = ap sheet_related (file-reads sheet_form (sheet_values h) (sheet-shaped h f))

-- ---- written, and read back

-- a sheet's file says the sheet that its values make
judged-itself : (h h' : Sheet) → HeldSheet h → sheet_judged (sheet_file h) ≡ good h' → sheet_of (sheet_values h) ≡ h'
judged-itself h h' f e =
    let g = good-sheet (judged_values sheet_form (sheet_values h) 0) h' (sym (judged-by-values h f) ∙ e) in
    ap sheet_of (sym (judged-back sheet_form (sheet_values h) 0 (sheet-shaped h f) g.was).0) ∙ g.sheet

-- of any sheet of f64s, what its arrays hold beyond n rooms is read back as zeros and rooms without an emitter
pub written-read-zeros : (h : Sheet) → HeldSheet h → (buf : List ℕ) (m : ℕ) → (sheet_left h buf).answer ≡ Ok m
    → sheet_read (take m (sheet_left h buf).buffer) ≡ Ok (sheet_of (sheet_values h))
unfolding sheet_left
written-read-zeros h f buf m e =
    let w = was-written sheet_judged (sheet_file h) buf m e in
    ap sheet_read w.2 ∙ ap sheet_read_of w.1 ∙ ap Ok (sym (judged-itself h w.0 f w.1))

-- and a sheet that holds just that there is read back as itself
pub written_read : (h : Sheet) → HeldSheet h → TidySheet h → (buf : List ℕ) (m : ℕ) → (sheet_left h buf).answer ≡ Ok m
    → sheet_read (take m (sheet_left h buf).buffer) ≡ Ok h
written_read h f t buf m e = written-read-zeros h f buf m e ∙ ap Ok (sheet-back h t f)

-- ---- reader and writer refuse alike: what the reader says of the file that a sheet would be, its writer says of the sheet

pub alike : (h : Sheet) (e : Refusal) → sheet_judged (sheet_file h) ≡ bad e → (buf : List ℕ) → sheet_left h buf ≡ refused_with e buf
unfolding sheet_left
alike h e q buf = refuses sheet_judged (sheet_file h) buf e q

-- a sheet whose file is good is refused only by 10, and only where the buffer is shorter than the file
pub alike-short : (h h' : Sheet) → sheet_judged (sheet_file h) ≡ good h' → (buf : List ℕ) → length buf < length (sheet_file h) → sheet_left h buf ≡ refused_with short buf
unfolding sheet_left
alike-short h h' q buf l = too_short sheet_judged (sheet_file h) buf h' q l

pub alike-fits : (h h' : Sheet) → sheet_judged (sheet_file h) ≡ good h' → (buf : List ℕ) → length (sheet_file h) ≤ length buf → sheet_left h buf ≡ wrote (sheet_file h) buf
unfolding sheet_left
alike-fits h h' q buf l = long-enough sheet_judged (sheet_file h) buf h' q l

-- ---- read, and written back

-- the sheet that a file says: its floats are f64s, its arrays hold nothing beyond n rooms, and it is written as that file
pub read-tidy : (s : List ℕ) (h : Sheet) → sheet_judged s ≡ good h → TidySheet h × HeldSheet h × (sheet_file h ≡ s)
unfolding sheet_judged
read-tidy s h e =
    let g = good-sheet (values_of sheet_form s) h e in
    let w = file-writes sheet_form s g.was in
    let r = sheet-read s w.0 in
    (subst TidySheet g.sheet r.0, subst HeldSheet g.sheet r.1, ap sheet_file (sym g.sheet) ∙ ap (file_of sheet_form) r.2 ∙ w.2)

-- into a buffer that is long enough
pub read-written : (s : List ℕ) (h : Sheet) → sheet_judged s ≡ good h → (buf : List ℕ) → length s ≤ length buf → sheet_left h buf ≡ wrote s buf
read-written s h e buf l = let w = (read-tidy s h e).2 in rw w at (alike-fits h h (rw w e) buf (rw w l))
