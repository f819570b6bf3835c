-- The controller's half of page Told of start files (specs/Starts): which numbers a call tells, and what it shows. It rests on page Told of this folder.
use Prim.Native.Nat.{ℕ, ◌+◌, ◌≤◌}
use Rattle.std.specs.Prelude.{◌≡◌, Bool, true, false, List, ℤ, length, Ok, Err}
use Rattle.std.proofs.Math.Path.{refl}
use Rattle.std.proofs.Common.{arith}
use Rattle.laws.specs.Guards.{choose}
use Rattle.laws.specs.Tabs.{length-tab}
use Rattle.laws.specs.Tests.{never}
use Rattle.meaning.specs.Answers.{Answer, StartAnswer}
use Rattle.meaning.specs.declared.Refusal.{Refusal}
use Rattle.meaning.specs.declared.State.{State}
use Rattle.meaning.specs.declared.StartState.{StartState}
use Rattle.meaning.specs.Boxes.{Side, side_at, fits}
use Rattle.meaning.specs.Control.{idle, call}
use Rattle.meaning.specs.Plants.{Plant, safe_of}
use Rattle.meaning.specs.Refusals.{bad_state, start_answer_shown}
use Rattle.meaning.specs.Rules.{Rules, holds}
use Rattle.meaning.specs.Starts as S
use Rattle.meaning.specs.Starts.{chain_form, above, on_start, box_rules, part, tables_at, start_checked, start_made, start_left, is_idle, answer_in, on_part, call_in, chosen_call, can_index, start_call, start_controlled}
use Rattle.meaning.specs.Tables.{reading_of, form_of}
use Rattle.promises.specs.Sheets.Faults.{dimension-in}
use Rattle.promises.specs.Files.Judged.{judged-sound}
use Rattle.promises.specs.Files.Sound.{Sound}
use Rattle.promises.specs.Files.Telling.{guard-keeps}
use Rattle.promises.specs.Paper.Told.{AnswerTells, fits-size, Showing}
use Rattle.promises.specs.Starts.Chains.{box_of, box-size}
use Rattle.promises.specs.Starts.Rows.{StartTelling, StartTold, of-start}
use Rattle.promises.proofs.Told.{call-tells}
use Rattle.promises.specs.Starts.Told.{start_controller_numbers, AnswerIs, answer-more, begin-keeps, controller-moved, Answers, part-keeps, start-some, no_start_mode, start-answer-shows}

module _ (s : List ℕ) where
  answer-tells : (r : Rules) (i first size : ℕ) → first + size ≤ length s → (a : Answer) → AnswerTells r (part s first size) a → (Answers s) (answer_in i first a)
  answer-tells r i first size h (Ok (u, then)) t = tt
  answer-tells r i first size h (Err e) t = controller-moved s first size h e t

  module _ (p : Plant) (sound : Sound p) (vs : List ℤ) (at : ℕ) (inside : at ≤ length s) (x : List ℤ) where
    few : (b : List Side) → length b ≡ p.n → (y : List ℤ) → length (fits b (reading_of p.n y)) ≤ 4
    few b e y = fits-size p.n sound.ranges.n-high b (omega (arith, sound.ranges.n-high)) y

    call-in-tells : (i : ℕ) (st : State) → (Answers s) (call_in p vs s at i st x)
    call-in-tells i st =
        part-keeps s _ (λ first size h. let t = part s first size in let r = box_rules p vs i (form_of t) in answer-tells r i first size h (call r t st x) (call-tells r t
        (λ y. (few (box_of p vs i) (box-size p vs i) y, few (safe_of p) (length-tab (side_at p.slo p.shi) p.n 0) y)) x st)) i at inside

    state-told : StartTelling start_controller_numbers (length s) bad_state
    state-told = record { number = refl; place = refl; step = refl }

    idle-tells : (Answers s) (chosen_call p vs s at x)
    idle-tells =
        let b = box_of p vs (above vs) in
        guard-keeps (Answers s) (holds (box_rules p vs (above vs) 1) b x) _
        (λ e. record { number = refl; place = dimension-in (fits b (reading_of p.n x)) (few b (box-size p vs (above vs)) x) e; step = refl })
        (λ _. call-in-tells _ idle)

    start-call-tells : (st : StartState) → (Answers s) (start_call p vs s at st x)
    start-call-tells st = guard-keeps (Answers s) (can_index p vs s at st.index st.state) _ (λ _. state-told) (λ _. go (is_idle st.state))
      where
        go : (t : Bool) → (Answers s) (choose t (λ _. chosen_call p vs s at x) (λ _. call_in p vs s at st.index st.state x))
        go true = idle-tells
        go false = call-in-tells st.index st.state

pub start-controller-told : (plant start : List ℕ) (st : StartState) (x : List ℤ) (e : Refusal) → start_controlled plant start st x ≡ Err e
    → StartTold plant start start_controller_numbers e
unfolding S.start_controlled
start-controller-told plant start st x e q = of (start_controlled plant start st x) q tells
  where
    of : (a : StartAnswer) → a ≡ Err e → AnswerIs (StartTold plant start start_controller_numbers) a → StartTold plant start start_controller_numbers e
    of (Ok (u, then)) q t = never cc
    of (Err f) q t = let z : f ≡ e = cc in rw z at t

    tells : AnswerIs (StartTold plant start start_controller_numbers) (start_controlled plant start st x)
    tells =
        begin-keeps (AnswerIs (StartTold plant start start_controller_numbers)) Err plant start start_controller_numbers refl (λ e t. t) (λ p vs next. start_call p vs start next st x)
        (λ p j vs next l. answer-more (λ e t. of-start p j t) (start_call p vs start next st x) (start-call-tells start p (judged-sound plant p j) vs next l x st))

pub start-controller-shows : (plant start : List ℕ) (st : StartState) (x : List ℤ)
    → Showing ((u : ℕ) × (then : StartState) × (start_controlled plant start st x ≡ Ok (u, then))) (StartTold plant start start_controller_numbers)
    no_start_mode (start_answer_shown (start_controlled plant start st x))
start-controller-shows plant start st x =
    start-answer-shows (StartTold plant start start_controller_numbers) (start-some plant start start_controller_numbers refl) (start_controlled plant start st x)
    (start-controller-told plant start st x)
