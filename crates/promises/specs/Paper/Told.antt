-- Which numbers each entry point can tell, and of which file (document 01, "What each number says" and the order of judgement): a plant 1 to 5, a sheet 13 and 14
-- besides; their writers 10 too, and no 2 but of a plant whose form is not known; sheet to plant 1 to 5, 10, 13 and 14; the maker 1 to 5, 9 and 10; checker and
-- controller the plant's own refusal, or, the plant being good, the table's: the checker 1, 2, 6, 7 and 8, the controller 1, 2, 6, 11 and 12. Places and steps are
-- as page Telling says. And what is shown is 0 exactly where it is accepted, written, answered. Of all inputs. Relies on pages Faults, WalkTold and Made; that each
-- of these numbers is told of some input is page EachTold. Which refusal it is the definitions say.
use Rattle.std.specs.Prelude.{ℕ, ◌≤◌, ◌≡◌, Bool, true, false, List, [], ◌∷◌, ◌↔◌, leb, eqb, length, ℤ, Ok, Err}
use Rattle.std.proofs.Math.Path.{refl}
use Rattle.std.proofs.Common.{ap, arith}
use Rattle.std.proofs.lemmas.List.{length-map}
use Rattle.std.proofs.lemmas.List.Edits.{sets}
use Rattle.laws.specs.Guards.{guard}
use Rattle.laws.specs.Lists.{at}
use Rattle.laws.specs.Tabs.{length-tab}
use Rattle.laws.specs.Tests.{never}
use Rattle.meaning.specs.Answers.{Verdict, Written, Answer, verdict_in}
use Rattle.meaning.specs.declared.Sheet.{Sheet}
use Rattle.meaning.specs.declared.Refusal.{Refusal}
use Rattle.meaning.specs.declared.State.{State}
use Rattle.meaning.specs.Refusals.{Shown, bad_state, short, verdict_shown, written_shown, answer_shown}
use Rattle.meaning.specs.Boxes.{Side, side, fits}
use Rattle.meaning.specs.Buffers.{left, refused_with}
use Rattle.meaning.specs.Files.{Judged, good, bad, file_judged}
use Rattle.meaning.specs.Plants as P
use Rattle.meaning.specs.Plants.{Plant, plant_forms, root_of, safe_of, plant_judged, plant_read, read_of, plant_left}
use Rattle.meaning.specs.Rules.{Rules, rule, holds}
use Rattle.meaning.specs.Sheets as S
use Rattle.meaning.specs.Sheets.{plant_file_made, sheet_judged, sheet_read, sheet_read_of, made_left, sheet_left}
use Rattle.meaning.specs.Tables as T
use Rattle.meaning.specs.Tables.{form_of, reading_of, rules_of, on_plant, checked, made, maker_left, controlled}
use Rattle.meaning.specs.Verdicts as W
use Rattle.meaning.specs.Verdicts.{walk, header, table_end, verdict}
use Rattle.meaning.specs.Control.{inside}
use Rattle.promises.specs.Tables.Boxes.{points, points-fit}
use Rattle.promises.specs.Sheets.Faults.{lies-size, dimension-in, plant_numbers, plant-told, plant_value_numbers, plant-file-told, sheet_numbers, sheet-told, sheet_value_numbers, sheet-file-told}
use Rattle.promises.specs.Files.Judged.{judged-sound}
use Rattle.promises.specs.Tables.Made.{made_told}
use Rattle.promises.specs.Files.PlantFiles.{plant_file}
use Rattle.promises.specs.Sheets.SheetFiles.{sheet_file}
use Rattle.promises.specs.Paper.Shows.{refusing, no_mode, Numbered}
use Rattle.promises.specs.Files.Telling.{one_of, are_of, Place, TellingBy, Telling, SheetTelling, guard-keeps, told_more, not-told}
use Rattle.promises.specs.Tables.WalkTold.{WalkTells, walk-keeps, table-told, header-tells, walk-tells, rule-tells}

-- ---- the numbers, besides those of a plant and of a sheet (page Faults); those of checker and controller are about the table

abbrev pub sheet_maker_numbers : List ℕ
sheet_maker_numbers = 1 ∷ 2 ∷ 3 ∷ 4 ∷ 5 ∷ 10 ∷ 13 ∷ 14 ∷ []

abbrev pub maker_numbers : List ℕ
maker_numbers = 1 ∷ 2 ∷ 3 ∷ 4 ∷ 5 ∷ 9 ∷ 10 ∷ []

abbrev pub plant_writer_numbers : List ℕ
plant_writer_numbers = 1 ∷ 2 ∷ 3 ∷ 4 ∷ 5 ∷ 10 ∷ []

-- where the plant's form is known
abbrev pub formed_writer_numbers : List ℕ
formed_writer_numbers = 1 ∷ 3 ∷ 4 ∷ 5 ∷ 10 ∷ []

abbrev pub sheet_writer_numbers : List ℕ
sheet_writer_numbers = 1 ∷ 3 ∷ 4 ∷ 5 ∷ 10 ∷ 13 ∷ 14 ∷ []

abbrev pub checker_numbers : List ℕ
checker_numbers = 1 ∷ 2 ∷ 6 ∷ 7 ∷ 8 ∷ []

abbrev pub controller_numbers : List ℕ
controller_numbers = 1 ∷ 2 ∷ 6 ∷ 11 ∷ 12 ∷ []

-- ---- a table, on the rules of a plant that was judged good

module _ (r : Rules) (s : List ℕ) where
  -- accepted, or refused so
  abbrev VerdictTells : Verdict → Type 0
  VerdictTells (Ok _) = Unit {0}
  VerdictTells (Err e) = Telling checker_numbers (length s) e

  pub end-tells : r.K ≤ 6 → WalkTells checker_numbers (length s) (table_end r s)
  end-tells most =
      walk-keeps checker_numbers (length s) (WalkTells checker_numbers (length s)) (header r.form r.n s) Err _ (header-tells checker_numbers s refl refl refl r.form r.n) (λ e t. t)
      (λ at l. walk-tells checker_numbers s refl refl r (rule r) (rule-tells r checker_numbers s refl refl most) r.D at r.root l)

  verdict-tells : r.K ≤ 6 → VerdictTells (verdict r s)
  unfolding W.verdict
  verdict-tells most =
      walk-keeps checker_numbers (length s) VerdictTells (table_end r s) Err _ (end-tells most) (λ e t. t)
      (λ next m. guard-keeps VerdictTells (eqb next (length s)) _ (λ _. table-told checker_numbers s refl refl next m) (λ _. tt))

  -- answered, or refused so
  abbrev pub AnswerTells : Answer → Type 0
  AnswerTells (Ok (u, then)) = Unit {0}
  AnswerTells (Err e) = Telling controller_numbers (length s) e

  pub state-told : Telling controller_numbers (length s) bad_state
  state-told = record { number = refl; place = refl; step = refl }

  -- R and S have at most four dimensions
  module _ (few : (x : r.Reading) → (length (r.fits r.root x) ≤ 4) × (length (r.fits r.safe x) ≤ 4)) (x : r.Reading) where
    pub inside-tells : (b : r.Box) (rest : Unit {0} → Answer) → length (r.fits b x) ≤ 4 → AnswerTells (rest tt) → AnswerTells (inside r b x rest)
    inside-tells b rest l h =
        guard-keeps AnswerTells (holds r b x) rest (λ e. record { number = refl; place = dimension-in (r.fits b x) l e; step = refl }) (λ _. h)

-- a box of at most four sides has as many tests for a reading
pub fits-size : (n : ℕ) → n ≤ 4 → (b : List Side) → length b ≤ 4 → (x : List ℤ) → length (fits b (reading_of n x)) ≤ 4
fits-size n l b few x =
    let y = reading_of n x in
    rw (← points-fit b y) (lies-size 4 (points y) b (omega (arith, length-map y (λ z. side z z), length-tab (at x) n 0)) few)

-- ---- checker and controller

-- A refusal that may be about one of two files: the plant's own, or, where the plant is good, the table's.
pub data Told (plant table numbers : List ℕ) (e : Refusal) : Type 0 where
  of-plant : plant_judged plant ≡ bad e → Telling plant_numbers (length plant) e → Told plant table numbers e
  of-table : (p : Plant) → plant_judged plant ≡ good p → Telling numbers (length table) e → Told plant table numbers e

pub checker-told : (plant table : List ℕ) (e : Refusal) → checked plant table ≡ Err e → Told plant table checker_numbers e
unfolding T.checked
checker-told plant table e = go (plant_judged plant) refl
  where
    of : (r : Rules) (v : Verdict) → VerdictTells r table v → v ≡ Err e → Telling checker_numbers (length table) e
    of r (Ok _) h a = never cc
    of r (Err f) h a = let z : f ≡ e = cc in rw z at h

    go : (j : Judged Plant) → plant_judged plant ≡ j → on_plant j Err (λ p. verdict (rules_of (form_of table) p) table) ≡ Err e → Told plant table checker_numbers e
    go (bad f) q a = let z : f ≡ e = cc in let w = rw z at q in of-plant w (plant-told plant e w)
    go (good p) q a = of-table p q (of (rules_of (form_of table) p) (verdict (rules_of (form_of table) p) table) (verdict-tells (rules_of (form_of table) p) table (judged-sound plant p q).ranges.k-high) a)

-- ---- writers into a lent buffer: 10 besides

pub left-refused : (P : Refusal → Type 0) (j : Judged (List ℕ)) → ((e : Refusal) → j ≡ bad e → P e) → ((bytes : List ℕ) → j ≡ good bytes → P short)
    → (buf : List ℕ) (e : Refusal) → (left j buf).answer ≡ Err e → P e
left-refused P (bad f) h ten buf e a = let z : f ≡ e = cc in h e (ap bad z)
left-refused P (good bytes) h ten buf e a = go (leb (length bytes) (length buf)) a
  where
    go : (t : Bool) → (guard t (refused_with short buf) λ _. record { answer = Ok (length bytes); buffer = sets buf 0 bytes }).answer ≡ Err e → P e
    go true a = never cc
    go false a = let z : e ≡ short = cc in rw z (ten bytes refl)

left-told : {column : List Place} (numbers more : List ℕ) (size : ℕ) (j : Judged (List ℕ)) → ((e : Refusal) → j ≡ bad e → TellingBy column numbers size e)
    → are_of more numbers ≡ true → TellingBy column more size short
    → (buf : List ℕ) (e : Refusal) → (left j buf).answer ≡ Err e → TellingBy column more size e
left-told {column} numbers more size j h some ten = left-refused (TellingBy column more size) j (λ e q. told_more (h e q) more some) (λ _ _. ten)

pub maker-told : (plant : List ℕ) (form : ℕ) (buf : List ℕ) (e : Refusal) → (maker_left plant form buf).answer ≡ Err e
    → Telling maker_numbers (length plant) e
unfolding T.maker_left
maker-told plant form buf = left-told (9 ∷ plant_numbers) maker_numbers (length plant) (made plant form) (made_told plant form) refl (record { number = refl; place = refl; step = refl }) buf

-- sheet to plant
pub sheet-maker-told : (sheet buf : List ℕ) (e : Refusal) → (made_left sheet buf).answer ≡ Err e
    → SheetTelling sheet_maker_numbers (length sheet) e
unfolding S.made_left
sheet-maker-told sheet buf =
    left-told sheet_numbers sheet_maker_numbers (length sheet) (plant_file_made (sheet_judged sheet)) (λ e q. go (sheet_judged sheet) refl e q) refl
    (record { number = refl; place = refl; step = refl }) buf
  where
    go : (j : Judged Sheet) → sheet_judged sheet ≡ j → (e : Refusal) → plant_file_made j ≡ bad e → SheetTelling sheet_numbers (length sheet) e
    go (good h) w e q = never cc
    go (bad f) w e q = let z : f ≡ e = cc in sheet-told sheet e (rw z at w)

-- writers of values
file-told : {A : Type 0} (tells : Refusal → Type 0) (bytes : List ℕ) (j : Judged A) → ((e : Refusal) → j ≡ bad e → tells e)
    → (e : Refusal) → file_judged bytes j ≡ bad e → tells e
file-told tells bytes (good a) h e q = never cc
file-told tells bytes (bad f) h e q = let z : f ≡ e = cc in h e (ap bad z)

pub plant-writer-told : (p : Plant) (buf : List ℕ) (e : Refusal) → (plant_left p buf).answer ≡ Err e → Telling plant_writer_numbers (length (plant_file p)) e
unfolding P.plant_left
plant-writer-told p buf =
    let s = plant_file p in
    left-told plant_numbers plant_writer_numbers (length s) (file_judged s (plant_judged s)) (file-told (Telling plant_numbers (length s)) s (plant_judged s) (plant-told s)) refl
    (record { number = refl; place = refl; step = refl }) buf

-- by 2 only where its form is not known
pub formed-writer-told : (p : Plant) → 1 ≤ p.form → p.form ≤ plant_forms
    → (buf : List ℕ) (e : Refusal) → (plant_left p buf).answer ≡ Err e → Telling formed_writer_numbers (length (plant_file p)) e
unfolding P.plant_left
formed-writer-told p least known buf =
    let s = plant_file p in
    left-told plant_value_numbers formed_writer_numbers (length s) (file_judged s (plant_judged s))
    (file-told (Telling plant_value_numbers (length s)) s (plant_judged s) (plant-file-told p least known)) refl (record { number = refl; place = refl; step = refl }) buf

pub sheet-writer-told : (h : Sheet) (buf : List ℕ) (e : Refusal) → (sheet_left h buf).answer ≡ Err e → SheetTelling sheet_writer_numbers (length (sheet_file h)) e
unfolding S.sheet_left
sheet-writer-told h buf =
    let s = sheet_file h in
    left-told sheet_value_numbers sheet_writer_numbers (length s) (file_judged s (sheet_judged s))
    (file-told (SheetTelling sheet_value_numbers (length s)) s (sheet_judged s) (sheet-file-told h)) refl (record { number = refl; place = refl; step = refl }) buf

-- ---- what each entry point shows: 0 exactly where it is done, and else a refusal as above, with these values

pub record Showing (Done : Type 0) (Tells : Refusal → Type 0) (otherwise : List ℤ) (a : Shown) : Type 0 where
  pub zero-exactly : (a.number ≡ 0) ↔ Done
  pub or-told : (a.number ≡ 0 → ⊥) → (e : Refusal) × (a ≡ refusing e otherwise) × Tells e

module _ (Tells : Refusal → Type 0) (some : (e : Refusal) → Tells e → Numbered e) where
  pub verdict-shows : (v : Verdict) → ((e : Refusal) → v ≡ Err e → Tells e) → Showing (v ≡ Ok tt) Tells [] (verdict_shown v)
  verdict-shows (Ok _) h = record { zero-exactly = (λ _. refl, λ _. refl); or-told = λ z. absurd (z refl) }
  verdict-shows (Err e) h =
      let t = h e refl in
      record { zero-exactly = (λ z. absurd (some e t z), λ z. never cc); or-told = λ _. (e, refl, t) }

  pub written-shows : (w : Written) → ((e : Refusal) → w ≡ Err e → Tells e) → Showing ((m : ℕ) × (w ≡ Ok m)) Tells [] (written_shown w)
  written-shows (Ok m) h = record { zero-exactly = (λ _. (m, refl), λ _. refl); or-told = λ z. absurd (z refl) }
  written-shows (Err e) h =
      let t = h e refl in
      record { zero-exactly = (λ z. absurd (some e t z), λ w. let z = w.1 in never cc); or-told = λ _. (e, refl, t) }

  pub answer-shows : (a : Answer) → ((e : Refusal) → a ≡ Err e → Tells e) → Showing ((u : ℕ) × (then : State) × (a ≡ Ok (u, then))) Tells no_mode (answer_shown a)
  answer-shows (Ok (u, then)) h = record { zero-exactly = (λ _. (u, then, refl), λ _. refl); or-told = λ z. absurd (z refl) }
  answer-shows (Err e) h =
      let t = h e refl in
      record { zero-exactly = (λ z. absurd (some e t z), λ w. let z = w.2 in never cc); or-told = λ _. (e, refl, t) }

-- no refusal is told by 0
telling-some : {column : List Place} (numbers : List ℕ) (size : ℕ) → one_of numbers 0 ≡ false → (e : Refusal) → TellingBy column numbers size e → Numbered e
telling-some numbers size h e t = not-told t 0 h

pub told-some : (plant table numbers : List ℕ) → one_of numbers 0 ≡ false → (e : Refusal) → Told plant table numbers e → Numbered e
told-some plant table numbers h e (of-plant q t) = not-told t 0 refl
told-some plant table numbers h e (of-table p q t) = not-told t 0 h

pub checker-some : (plant table : List ℕ) (e : Refusal) → checked plant table ≡ Err e → Numbered e
checker-some plant table e q = told-some plant table checker_numbers refl e (checker-told plant table e q)

pub plant-shows : (plant : List ℕ) → Showing (verdict_in (plant_read plant) ≡ Ok tt) (Telling plant_numbers (length plant)) [] (verdict_shown (verdict_in (plant_read plant)))
plant-shows plant = verdict-shows (Telling plant_numbers (length plant)) (telling-some plant_numbers (length plant) refl) (verdict_in (plant_read plant)) (go (plant_judged plant) refl)
  where
    go : (j : Judged Plant) → plant_judged plant ≡ j → (e : Refusal) → verdict_in (read_of j) ≡ Err e → Telling plant_numbers (length plant) e
    go (good p) q e a = never cc
    go (bad f) q e a = let z : f ≡ e = cc in plant-told plant e (rw z at q)

-- a sheet that is refused by its reader is judged so
sheet-refused : (sheet : List ℕ) (e : Refusal) → verdict_in (sheet_read sheet) ≡ Err e → SheetTelling sheet_numbers (length sheet) e
sheet-refused sheet e = go (sheet_judged sheet) refl
  where
    go : (j : Judged Sheet) → sheet_judged sheet ≡ j → verdict_in (sheet_read_of j) ≡ Err e → SheetTelling sheet_numbers (length sheet) e
    go (good h) q a = never cc
    go (bad f) q a = let z : f ≡ e = cc in sheet-told sheet e (rw z at q)

pub sheet-some : (sheet : List ℕ) (e : Refusal) → verdict_in (sheet_read sheet) ≡ Err e → Numbered e
sheet-some sheet e q = telling-some sheet_numbers (length sheet) refl e (sheet-refused sheet e q)

pub sheet-shows : (sheet : List ℕ) → Showing (verdict_in (sheet_read sheet) ≡ Ok tt) (SheetTelling sheet_numbers (length sheet)) [] (verdict_shown (verdict_in (sheet_read sheet)))
sheet-shows sheet = verdict-shows (SheetTelling sheet_numbers (length sheet)) (telling-some sheet_numbers (length sheet) refl) (verdict_in (sheet_read sheet)) (sheet-refused sheet)

pub sheet-maker-shows : (sheet buf : List ℕ)
    → Showing ((m : ℕ) × ((made_left sheet buf).answer ≡ Ok m)) (SheetTelling sheet_maker_numbers (length sheet)) [] (written_shown (made_left sheet buf).answer)
sheet-maker-shows sheet buf =
    written-shows (SheetTelling sheet_maker_numbers (length sheet)) (telling-some sheet_maker_numbers (length sheet) refl) (made_left sheet buf).answer (sheet-maker-told sheet buf)

pub maker-shows : (plant : List ℕ) (form : ℕ) (buf : List ℕ)
    → Showing ((m : ℕ) × ((maker_left plant form buf).answer ≡ Ok m)) (Telling maker_numbers (length plant)) [] (written_shown (maker_left plant form buf).answer)
maker-shows plant form buf =
    written-shows (Telling maker_numbers (length plant)) (telling-some maker_numbers (length plant) refl) (maker_left plant form buf).answer (maker-told plant form buf)

pub checker-shows : (plant table : List ℕ)
    → Showing (checked plant table ≡ Ok tt) (Told plant table checker_numbers) [] (verdict_shown (checked plant table))
checker-shows plant table = verdict-shows (Told plant table checker_numbers) (told-some plant table checker_numbers refl) (checked plant table) (checker-told plant table)

-- the writers of values: places are those of the file that they would be
pub plant-writer-shows : (p : Plant) (buf : List ℕ)
    → Showing ((m : ℕ) × ((plant_left p buf).answer ≡ Ok m)) (Telling plant_writer_numbers (length (plant_file p))) [] (written_shown (plant_left p buf).answer)
plant-writer-shows p buf =
    let size = length (plant_file p) in
    written-shows (Telling plant_writer_numbers size) (telling-some plant_writer_numbers size refl) (plant_left p buf).answer (plant-writer-told p buf)

pub sheet-writer-shows : (h : Sheet) (buf : List ℕ)
    → Showing ((m : ℕ) × ((sheet_left h buf).answer ≡ Ok m)) (SheetTelling sheet_writer_numbers (length (sheet_file h))) [] (written_shown (sheet_left h buf).answer)
sheet-writer-shows h buf =
    let size = length (sheet_file h) in
    written-shows (SheetTelling sheet_writer_numbers size) (telling-some sheet_writer_numbers size refl) (sheet_left h buf).answer (sheet-writer-told h buf)
