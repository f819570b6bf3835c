-- Which numbers each entry point of start files can tell, and of which file (document 02, request 2026-03): the plant's own refusal, or, the plant being good, the start
-- file's, for the maker the chain's: the checker 1, 2, 3, 6, 7, 8 and 15, the maker 1, 2, 3, 9, 10 and 15, the controller 1, 2, 3, 6, 11, 12 and 15. Places and steps are
-- as page Rows says. And what is shown is 0 exactly where it is accepted, written, answered. Of all inputs. Relies on document 01's page Told for each table, and on
-- ChainTold and Maker. Which refusal it is the definitions say.
use Prim.Native.Nat.{ℕ, zero, suc, ◌+◌, ◌≤◌}
use Rattle.std.specs.Prelude.{◌≡◌, true, false, List, [], ◌∷◌, eqb, ℤ, pos, length, Ok, Err}
use Rattle.std.proofs.Math.Path.{refl}
use Rattle.std.proofs.Common.{arith}
use Rattle.laws.specs.Every as E
use Rattle.laws.specs.Tests.{never}
use Rattle.meaning.specs.Answers.{Verdict, StartAnswer}
use Rattle.meaning.specs.declared.Refusal.{Refusal}
use Rattle.meaning.specs.declared.StartState.{StartState}
use Rattle.meaning.specs.Files.{good, values_at}
use Rattle.meaning.specs.Plants.{Plant, plant_judged, root_of, safe_of}
use Rattle.meaning.specs.Refusals.{broken, unfit, moved, verdict_shown, written_shown, start_answer_shown}
use Rattle.meaning.specs.Rules.{Rules}
use Rattle.meaning.specs.Starts as S
use Rattle.meaning.specs.Starts.{chain_form, above, on_start, box_rules, part, tables_at, start_checked, start_made, start_left, is_idle, answer_in, on_part, call_in, chosen_call, can_index, start_call, start_controlled}
use Rattle.meaning.specs.Tables.{form_of, on_plant}
use Rattle.meaning.specs.Verdicts.{table_end}
use Rattle.promises.specs.Sheets.Faults.{plant-told}
use Rattle.promises.specs.Files.Judged.{judged-sound}
use Rattle.promises.specs.Paper.Shows.{Numbered}
use Rattle.promises.specs.Files.Telling.{one_of, are_of, Telling, guard-keeps, told_more}
use Rattle.promises.specs.Paper.Told.{checker_numbers, controller_numbers, end-tells, left-refused, Showing, verdict-shows, written-shows}
use Rattle.promises.specs.Tables.WalkTold.{walk-keeps}
use Rattle.promises.specs.Starts.Before.{plant-keeps, chain-keeps}
use Rattle.promises.specs.Starts.ChainTold.{early_numbers, chain-told, chain-inside, held-told}
use Rattle.promises.specs.Starts.Maker.{start-made-told, start-made-exactly}
use Rattle.promises.specs.Starts.Parts.{part-size, length-keeps}
use Rattle.promises.specs.Starts.Rows.{StartTelling, StartTold, of-plant, of-start, start-more, start-not-told, moved_told}

-- ---- the numbers that are about the start file, or the chain

abbrev pub start_checker_numbers : List ℕ
start_checker_numbers = 1 ∷ 2 ∷ 3 ∷ 6 ∷ 7 ∷ 8 ∷ 15 ∷ []

abbrev pub start_maker_numbers : List ℕ
start_maker_numbers = 1 ∷ 2 ∷ 3 ∷ 9 ∷ 10 ∷ 15 ∷ []

abbrev pub start_controller_numbers : List ℕ
start_controller_numbers = 1 ∷ 2 ∷ 3 ∷ 6 ∷ 11 ∷ 12 ∷ 15 ∷ []

-- ---- accepted or answered, or refused as T says

abbrev VerdictIs : (Refusal → Type 0) → Verdict → Type 0
VerdictIs T (Ok _) = Unit {0}
VerdictIs T (Err e) = T e

abbrev pub AnswerIs : (Refusal → Type 0) → StartAnswer → Type 0
AnswerIs T (Ok (u, then)) = Unit {0}
AnswerIs T (Err e) = T e

module _ {T U : Refusal → Type 0} (h : (e : Refusal) → T e → U e) where
  verdict-more : (v : Verdict) → VerdictIs T v → VerdictIs U v
  verdict-more (Ok _) t = t
  verdict-more (Err e) t = h e t

  pub answer-more : (a : StartAnswer) → AnswerIs T a → AnswerIs U a
  answer-more (Ok (u, then)) t = t
  answer-more (Err e) t = h e t

-- plant, chain and 15 come first
pub begin-keeps : {A : Type 0} (P : A → Type 0) (refuse : Refusal → A) (plant start numbers : List ℕ) → are_of numbers early_numbers ≡ true
    → ((e : Refusal) → StartTold plant start numbers e → P (refuse e)) → (rest : Plant → List ℤ → ℕ → A)
    → ((p : Plant) → plant_judged plant ≡ good p → (vs : List ℤ) (next : ℕ) → next ≤ length start → P (rest p vs next))
    → P (on_plant (plant_judged plant) refuse λ p. on_start p start refuse (rest p))
begin-keeps P refuse plant start numbers early told rest behind =
    plant-keeps P (plant_judged plant) refuse _ (λ e q. told e (of-plant q (plant-told plant e q)))
    (λ p j. chain-keeps P p.n (root_of p) (safe_of p) (values_at (chain_form p.n) start 0) refuse (rest p)
    (λ e q. told e (of-start p j (told_more (told_more (chain-told p.n start e q) early_numbers refl) numbers early)))
    (λ vs next q h. told _ (of-start p j (told_more (told_more (held-told p.n start (root_of p) (safe_of p) vs next q h) early_numbers refl) numbers early)))
    (λ vs next q h. behind p j vs next (chain-inside p.n start vs next q)))

-- ---- the tables of a start file

module _ (s : List ℕ) where
  -- a place within a table is one of the file
  place_in : (first size : ℕ) → first + size ≤ length s → (p : ℕ) → p ≤ length (part s first size) → first + p ≤ length s
  place_in first size h p l = omega (arith, part-size s first size h)

  -- a length that is broken, or does not fit, and bytes left over
  broken-told : (numbers : List ℕ) → one_of numbers 1 ≡ true → (at : ℕ) → at ≤ length s → StartTelling numbers (length s) (broken at)
  broken-told numbers one at l = record { number = one; place = l; step = refl }

  unfit-told : (numbers : List ℕ) → one_of numbers 3 ≡ true → (at : ℕ) → at ≤ length s → StartTelling numbers (length s) (unfit at)
  unfit-told numbers three at l = record { number = three; place = l; step = refl }

  checker-moved : (first size : ℕ) → first + size ≤ length s → (e : Refusal) → Telling checker_numbers (length (part s first size)) e
      → StartTelling start_checker_numbers (length s) (moved first e)
  unfolding E.Every
  checker-moved first size h e t =
      let in-file = place_in first size h in
      told_more (moved_told (length s) t first (in-file, ((λ p z. in-file p (omega arith)), (in-file, (in-file, (in-file, tt)))))) start_checker_numbers refl

  pub controller-moved : (first size : ℕ) → first + size ≤ length s → (e : Refusal) → Telling controller_numbers (length (part s first size)) e
      → StartTelling start_controller_numbers (length s) (moved first e)
  unfolding E.Every
  controller-moved first size h e t =
      let in-file = place_in first size h in
      told_more (moved_told (length s) t first (in-file, ((λ p z. in-file p (omega arith)), (in-file, ((λ p z. z), ((λ p z. z), tt)))))) start_controller_numbers refl

  -- all of them, by the checker
  abbrev Judges : Verdict → Type 0
  Judges = VerdictIs (StartTelling start_checker_numbers (length s))

  module _ (r : ℕ → ℕ → Rules) (most : (i form : ℕ) → (r i form).K ≤ 6) where
    tables-tell : (m i at : ℕ) → at ≤ length s → Judges (tables_at r s m i at)
    unfolding S.tables_at
    tables-tell zero i at l =
        guard-keeps Judges (eqb at (length s)) (λ _. Ok tt) (λ _. unfit-told start_checker_numbers refl at l) (λ _. tt)
    tables-tell (suc m) i at l =
        length-keeps Judges s at Err _ (broken-told start_checker_numbers refl at l) (unfit-told start_checker_numbers refl at l)
        (λ first size h. walk-keeps checker_numbers (length (part s first size)) Judges (table_end (r i (form_of (part s first size))) (part s first size)) _ _
        (end-tells (r i (form_of (part s first size))) (part s first size) (most i (form_of (part s first size)))) (checker-moved first size h)
        (λ next _. guard-keeps Judges (eqb next size) _ (λ _. unfit-told start_checker_numbers refl at l)
        (λ _. tables-tell m (suc i) (first + size) h)))

  -- one of them, by the controller
  abbrev pub Answers : StartAnswer → Type 0
  Answers = AnswerIs (StartTelling start_controller_numbers (length s))

  pub part-keeps : (rest : ℕ → ℕ → StartAnswer) → ((first size : ℕ) → first + size ≤ length s → Answers (rest first size))
      → (i at : ℕ) → at ≤ length s → Answers (on_part i s at Err rest)
  unfolding S.on_part
  part-keeps rest h zero at l = length-keeps Answers s at Err rest (broken-told start_controller_numbers refl at l) (unfit-told start_controller_numbers refl at l) h
  part-keeps rest h (suc i) at l =
      length-keeps Answers s at Err _ (broken-told start_controller_numbers refl at l) (unfit-told start_controller_numbers refl at l)
      (λ first size k. part-keeps rest h i (first + size) k)

-- ---- the entry points

pub start-checker-told : (plant start : List ℕ) (e : Refusal) → start_checked plant start ≡ Err e → StartTold plant start start_checker_numbers e
unfolding S.start_checked
start-checker-told plant start e q = of (start_checked plant start) q tells
  where
    of : (v : Verdict) → v ≡ Err e → VerdictIs (StartTold plant start start_checker_numbers) v → StartTold plant start start_checker_numbers e
    of (Ok _) q t = never cc
    of (Err f) q t = let z : f ≡ e = cc in rw z at t

    tells : VerdictIs (StartTold plant start start_checker_numbers) (start_checked plant start)
    tells =
        begin-keeps (VerdictIs (StartTold plant start start_checker_numbers)) Err plant start start_checker_numbers refl (λ e t. t) (λ p vs next. tables_at (box_rules p vs) start (above vs + 1) 0 next)
        (λ p j vs next l. verdict-more (λ e t. of-start p j t) (tables_at (box_rules p vs) start (above vs + 1) 0 next) (tables-tell start (box_rules p vs) (λ _ _. (judged-sound plant p j).ranges.k-high) (above vs + 1) 0 next l))

pub start-maker-told : (plant chain : List ℕ) (form : ℕ) (buf : List ℕ) (e : Refusal) → (start_left plant chain form buf).answer ≡ Err e → StartTold plant chain start_maker_numbers e
unfolding S.start_left
start-maker-told plant chain form buf =
    left-refused (StartTold plant chain start_maker_numbers) (start_made plant chain form) (λ e q. start-more start_maker_numbers refl (start-made-told plant chain form e q))
    (λ bytes q. let g = ((start-made-exactly plant chain form bytes).0 q).given in of-start g.p g.judged (record { number = refl; place = refl; step = refl })) buf

-- ---- what each shows: 0 exactly where it is done, and else a refusal as above, with these values

pub start-some : (plant file numbers : List ℕ) → one_of numbers 0 ≡ false → (e : Refusal) → StartTold plant file numbers e → Numbered e
start-some plant file numbers h e t = start-not-told 0 refl h t

pub start-checker-shows : (plant start : List ℕ)
    → Showing (start_checked plant start ≡ Ok tt) (StartTold plant start start_checker_numbers) [] (verdict_shown (start_checked plant start))
start-checker-shows plant start =
    verdict-shows (StartTold plant start start_checker_numbers) (start-some plant start start_checker_numbers refl) (start_checked plant start) (start-checker-told plant start)

pub start-maker-shows : (plant chain : List ℕ) (form : ℕ) (buf : List ℕ)
    → Showing ((m : ℕ) × ((start_left plant chain form buf).answer ≡ Ok m)) (StartTold plant chain start_maker_numbers) [] (written_shown (start_left plant chain form buf).answer)
start-maker-shows plant chain form buf =
    written-shows (StartTold plant chain start_maker_numbers) (start-some plant chain start_maker_numbers refl) (start_left plant chain form buf).answer (start-maker-told plant chain form buf)

-- no mode and idle
abbrev pub no_start_mode : List ℤ
no_start_mode = pos 65_535 ∷ pos 0 ∷ pos 0 ∷ pos 0 ∷ []

pub start-answer-shows : (Tells : Refusal → Type 0) → ((e : Refusal) → Tells e → Numbered e) → (a : StartAnswer) → ((e : Refusal) → a ≡ Err e → Tells e)
    → Showing ((u : ℕ) × (then : StartState) × (a ≡ Ok (u, then))) Tells no_start_mode (start_answer_shown a)
start-answer-shows Tells some (Ok (u, then)) h = record { zero-exactly = (λ _. (u, then, refl), λ _. refl); or-told = λ z. absurd (z refl) }
start-answer-shows Tells some (Err e) h =
    let t = h e refl in
    record { zero-exactly = (λ z. absurd (some e t z), λ w. let z = w.2 in never cc); or-told = λ _. (e, refl, t) }
