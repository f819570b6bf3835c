-- 2 of a table (request 2026-01: "2 now means neither form", and by 2026-06 none of 1, 2 and 3), for a plant that was judged good: the checker tells it exactly
-- where the table says a form that is not known, and then every call does, idle or running. Relies on pages TableForms (of the header) and WalkTold (the tree tells 1, 6, 7 and 8 alone).
use Rattle.std.specs.Prelude.{ℕ, ◌≤◌, ◌≡◌, Bool, true, false, List, [], ◌∷◌, ◌↔◌, eqb, ℤ, length, Some, Ok, Err, Result}
use Rattle.std.proofs.Math.Path.{refl, ap}
use Rattle.std.proofs.Common.{sym, ◌∙◌, arith}
use Rattle.laws.specs.Guards.{guard}
use Rattle.laws.specs.Tests.{never}
use Rattle.meaning.specs.Answers.{Walk, Verdict}
use Rattle.meaning.specs.declared.Refusal.{Refusal}
use Rattle.meaning.specs.declared.State.{State}
use Rattle.meaning.specs.Control as C
use Rattle.meaning.specs.Files.{good}
use Rattle.meaning.specs.Numbers.{number_at}
use Rattle.meaning.specs.Plants.{Plant, plant_judged}
use Rattle.meaning.specs.Refusals.{wrong_form, bad_table}
use Rattle.meaning.specs.Rules.{Rules, rule}
use Rattle.meaning.specs.Tables.{known_form, form_of, rules_of, checked, controlled}
use Rattle.meaning.specs.Verdicts as W
use Rattle.meaning.specs.Verdicts.{on_walk, walk, header, verdict}
use Rattle.promises.specs.Files.Judged.{judged-sound}
use Rattle.promises.specs.Files.Telling.{not-told}
use Rattle.promises.specs.Tables.PlantRules.{checked-as, controlled-as}
use Rattle.promises.specs.Tables.TableForms.{two-exactly}
use Rattle.promises.specs.Tables.WalkTold.{WalkTells, header-tells, walk-tells, rule-tells}

-- the table says a form, and it is not known
abbrev pub Unknown : List ℕ → Type 0
Unknown s = (form : ℕ) × (next : ℕ) × (number_at s 0 ≡ Some (form, next)) × (known_form form ≡ false)

abbrev head_numbers : List ℕ
head_numbers = 1 ∷ 2 ∷ 6 ∷ []

abbrev tree_numbers : List ℕ
tree_numbers = 1 ∷ 6 ∷ 7 ∷ 8 ∷ []

same : {A : Type 0} {e f : Refusal} → ◌≡◌ {A = Result A Refusal} (Err e) (Err f) → e ≡ f
same q = cc

-- over any rules of patterns of at most six modes: a verdict of 2 is the header's
module _ (r : Rules) (few : r.K ≤ 6) (s : List ℕ) where
  abbrev behind : Walk → Verdict
  behind w = on_walk w Err λ next. guard (eqb next (length s)) (Err (bad_table next)) λ _. Ok tt

  over : (at : ℕ) → at ≤ length s → behind (walk r (rule r) r.D s at r.root) ≡ Err wrong_form → ⊥
  over at l = go (walk r (rule r) r.D s at r.root) (walk-tells tree_numbers s refl refl r (rule r) (rule-tells r tree_numbers s refl refl few) r.D at r.root l)
    where
      ends : (next : ℕ) (t : Bool) → ◌≡◌ {A = Verdict} (guard t (Err (bad_table next)) (λ _. Ok tt)) (Err wrong_form) → ⊥
      ends next true q = never cc
      ends next false q = let e = ap (λ (f : Refusal). f.number) (same q) in omega (arith, e)

      go : (w : Walk) → WalkTells tree_numbers (length s) w → behind w ≡ Err wrong_form → ⊥
      go (Err e) t q = not-told t 2 refl (ap (λ (f : Refusal). f.number) (same q))
      go (Ok next) t q = ends next (eqb next (length s)) q

  header-two : (verdict r s ≡ Err wrong_form) ↔ (header r.form r.n s ≡ Err wrong_form)
  unfolding W.verdict
  header-two = go (header r.form r.n s) (header-tells head_numbers s refl refl refl r.form r.n)
    where
      go : (w : Walk) → WalkTells head_numbers (length s) w
          → (behind (on_walk w Err λ at. walk r (rule r) r.D s at r.root) ≡ Err wrong_form) ↔ (w ≡ Err wrong_form)
      go (Err e) t = (λ q. ap Err (same q), λ q. let z : e ≡ wrong_form = cc in ap Err z)
      go (Ok at) t = (λ q. absurd (over at t q), λ q. never cc)

module _ (plant : List ℕ) (p : Plant) (judged : plant_judged plant ≡ good p) (table : List ℕ) where
  pub checked-two : (checked plant table ≡ Err wrong_form) ↔ Unknown table
  checked-two =
      let r = rules_of (form_of table) p in
      let h = header-two r (judged-sound plant p judged).ranges.k-high table in
      let k = two-exactly p.n table in
      (λ q. k.0 (h.0 (sym (checked-as plant p judged table) ∙ q)), λ u. checked-as plant p judged table ∙ h.1 (k.1 u))

  -- before the state and the reading are looked at
  pub called-two : Unknown table → (st : State) (x : List ℤ) → controlled plant table st x ≡ Err wrong_form
  unfolding C.call
  called-two u st x = controlled-as plant p judged table st x ∙ rw ((two-exactly p.n table).1 u) refl
