-- The controller's half of page Told (specs/Paper): which numbers a call tells, and what it shows. It rests on that page's `state-told`, and stands here since
-- a theorem of specs/ that rests on a wrong one leaves a wrong program untried.
use Rattle.std.specs.Prelude.{ℕ, zero, suc, ◌≤◌, ◌≡◌, List, eqb, length, ℤ, Ok, Err}
use Rattle.std.proofs.Math.Path.{refl}
use Rattle.std.proofs.Common.{arith}
use Rattle.laws.specs.Lists.{at}
use Rattle.laws.specs.Tabs.{length-tab}
use Rattle.laws.specs.Tests.{never}
use Rattle.meaning.specs.Answers.{Found, Answer}
use Rattle.meaning.specs.declared.Refusal.{Refusal}
use Rattle.meaning.specs.declared.State.{State}
use Rattle.meaning.specs.Refusals.{answer_shown}
use Rattle.meaning.specs.Boxes.{side_at, sides_of}
use Rattle.meaning.specs.Files.{Judged, good, bad}
use Rattle.meaning.specs.Plants.{Plant, root_of, safe_of, plant_judged}
use Rattle.meaning.specs.Rules.{Rules}
use Rattle.meaning.specs.Tables as T
use Rattle.meaning.specs.Tables.{form_of, reading_of, rules_of, on_plant, checked, made, maker_left, controlled}
use Rattle.meaning.specs.Verdicts.{header}
use Rattle.meaning.specs.Control as C
use Rattle.meaning.specs.Control.{state_at, mode_at, on_found, find, can_run, inside, state_call, call}
use Rattle.promises.specs.Sheets.Faults.{plant-told}
use Rattle.promises.specs.Files.Judged.{judged-sound}
use Rattle.promises.specs.Paper.Shows.{no_mode, Numbered}
use Rattle.promises.specs.Files.Telling.{Telling, guard-keeps}
use Rattle.promises.specs.Tables.WalkTold.{number-keeps, FoundTells, walk-keeps, header-tells, find-tells}
use Rattle.promises.specs.Paper.Told.{controller_numbers, AnswerTells, state-told, inside-tells, fits-size, Told, of-plant, of-table, told-some, Showing, answer-shows}

module _ (r : Rules) (s : List ℕ) where
  mode-tells : (place left : ℕ) → (AnswerTells r s) (mode_at s place left)
  mode-tells place zero = (state-told r s)
  mode-tells place (suc m) = number-keeps (AnswerTells r s) s place (λ u next. Ok (u, state_at next m)) (state-told r s) (λ u next l. tt)

  found-tells : (f : Found) → FoundTells controller_numbers (length s) f → (AnswerTells r s) (on_found s f)
  found-tells (Err e) h = h
  found-tells (Ok (from, k)) h = mode-tells from k

  -- R and S have at most four dimensions
  module _ (few : (x : r.Reading) → (length (r.fits r.root x) ≤ 4) × (length (r.fits r.safe x) ≤ 4)) (x : r.Reading) where
    state-tells : (at place left : ℕ) → at ≤ length s → (AnswerTells r s) (state_call r s at place left x)
    state-tells at place zero l =
        guard-keeps (AnswerTells r s) (eqb place 0) _ (λ _. (state-told r s))
        (λ _. inside-tells r s few x r.root _ (few x).0 (found-tells (find r r.D s at r.root x) (find-tells controller_numbers s refl refl r x r.D at r.root l)))
    state-tells at place (suc m) l =
        guard-keeps (AnswerTells r s) (can_run r.K r.N s place (suc m)) _ (λ _. (state-told r s)) (λ _. inside-tells r s few x r.safe _ (few x).1 (mode-tells place (suc m)))

    pub call-tells : (st : State) → (AnswerTells r s) (call r s st x)
    unfolding C.call
    call-tells st =
        walk-keeps controller_numbers (length s) (AnswerTells r s) (header r.form r.n s) Err _ (header-tells controller_numbers s refl refl refl r.form r.n) (λ e t. t)
        (λ at l. state-tells at st.place st.left l)

-- ---- the controller

pub controller-told : (plant table : List ℕ) (st : State) (x : List ℤ) (e : Refusal) → controlled plant table st x ≡ Err e
    → Told plant table controller_numbers e
unfolding T.controlled
controller-told plant table st x e = go (plant_judged plant) refl
  where
    of : (r : Rules) (v : Answer) → AnswerTells r table v → v ≡ Err e → Telling controller_numbers (length table) e
    of r (Ok (u, then)) h a = never cc
    of r (Err f) h a = let z : f ≡ e = cc in rw z at h

    go : (j : Judged Plant) → plant_judged plant ≡ j → on_plant j Err (λ p. call (rules_of (form_of table) p) table st x) ≡ Err e → Told plant table controller_numbers e
    go (bad f) q a = let z : f ≡ e = cc in let w = rw z at q in of-plant w (plant-told plant e w)
    go (good p) q a =
        let n = (judged-sound plant p q).ranges.n-high in
        let sides : (lo hi : List ℤ) → length (sides_of p.n lo hi) ≤ 4 = λ lo hi. omega (arith, length-tab (side_at lo hi) p.n 0) in
        of-table p q (of (rules_of (form_of table) p) (call (rules_of (form_of table) p) table st x) (call-tells (rules_of (form_of table) p) table
        (λ y. (fits-size p.n n (root_of p) (sides p.rlo p.rhi) y, fits-size p.n n (safe_of p) (sides p.slo p.shi) y)) x st) a)

pub controller-some : (plant table : List ℕ) (st : State) (x : List ℤ) (e : Refusal) → controlled plant table st x ≡ Err e → Numbered e
controller-some plant table st x e q = told-some plant table controller_numbers refl e (controller-told plant table st x e q)

pub controller-shows : (plant table : List ℕ) (st : State) (x : List ℤ)
    → Showing ((u : ℕ) × (then : State) × (controlled plant table st x ≡ Ok (u, then))) (Told plant table controller_numbers) no_mode
    (answer_shown (controlled plant table st x))
controller-shows plant table st x =
    answer-shows (Told plant table controller_numbers) (told-some plant table controller_numbers refl) (controlled plant table st x) (controller-told plant table st x)
