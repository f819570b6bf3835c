-- The forms of tables (requests 2026-01 and 2026-06): those that are known are 1, 2 and 3, so each takes one byte; the form that a table's header says is a known one; and
-- a header of a known form says that form, and any other is 2. Relies on meaning's page Tables and the laws of numbers. What each form means for a table is its rules alone.
use Rattle.std.specs.Prelude.{ℕ, ◌<◌, ◌≡◌, refl, Bool, true, false, ◌||◌, cond, List, [], ◌↔◌, ◌⊎◌, eqb, length, Some, None, Ok, Err}
use Rattle.std.proofs.Common.{sym, ap, ◌∙◌, append-nil, inl, inr, arith, eqb-true, eq-eqb}
use Rattle.laws.specs.Pairs.{some-first}
use Rattle.laws.specs.Guards.{guard}
use Rattle.laws.specs.Tests.{never, guard_passed}
use Rattle.meaning.specs.Answers.{Number, Walk}
use Rattle.meaning.specs.declared.Refusal.{Refusal}
use Rattle.meaning.specs.Refusals.{broken, wrong_form, bad_table}
use Rattle.meaning.specs.Numbers.{number_at, bytes_of}
use Rattle.meaning.specs.Rules.{Rules}
use Rattle.meaning.specs.Tables.{one_side, known_form, form_told, form_of}
use Rattle.meaning.specs.Trees.{Tree, tells, table_of}
use Rattle.meaning.specs.Verdicts as W
use Rattle.meaning.specs.Verdicts.{on_number, header}
use Rattle.promises.specs.Files.Bytes.{one_byte}
use Rattle.promises.specs.Tables.Laws.{Sizes}
use Rattle.promises.specs.Tables.Layouts.{headed, table-header}
use Rattle.promises.specs.Tables.Walking.{number_read}

-- ---- the known forms

module _ (form : ℕ) where
  pub one_of_three : known_form form ≡ true → (form ≡ 1) ⊎ ((form ≡ 2) ⊎ (form ≡ 3))
  one_of_three = go (eqb form 1) refl (tells form) refl
    where
      go : (c : Bool) → eqb form 1 ≡ c → (d : Bool) → tells form ≡ d → (c || d || one_side form) ≡ true → (form ≡ 1) ⊎ ((form ≡ 2) ⊎ (form ≡ 3))
      go true p d q e = inl (eqb-true form 1 p)
      go false p true q e = inr (inl (eqb-true form 2 q))
      go false p false q e = inr (inr (eqb-true form 3 e))

  -- so a known form is a number of one byte
  pub form_small : known_form form ≡ true → form < 128
  form_small e = go (one_of_three e)
    where
      go : (form ≡ 1) ⊎ ((form ≡ 2) ⊎ (form ≡ 3)) → form < 128
      go (inl q) = omega (arith, q)
      go (inr (inl q)) = omega (arith, q)
      go (inr (inr q)) = omega (arith, q)

  pub form-byte : known_form form ≡ true → length (bytes_of form) ≡ 1
  form-byte e = ap length (one_byte form (form_small e))

-- ---- the form that a header says

-- of any bytes it is a known one
pub form-known : (s : List ℕ) → known_form (form_of s) ≡ true
form-known s = told (number_at s 0)
  where
    of : (form : ℕ) (c : Bool) → known_form form ≡ c → known_form (cond c form 1) ≡ true
    of form true q = q
    of form false q = refl

    told : (v : Number) → known_form (form_told v) ≡ true
    told None = refl
    told (Some (form, next)) = of form (known_form form) refl

refused-next : {e : Refusal} {m : ℕ} → Err e ≡ Ok m → ⊥
refused-next e = never cc

-- a header that is passed says its form
pub header-form : (form n : ℕ) → known_form form ≡ true → (s : List ℕ) (at : ℕ) → header form n s ≡ Ok at → form_of s ≡ form
unfolding W.header
header-form form n known s at e =
    let f = number_read (number_at s 0) (λ told p. guard (eqb told form) (Err wrong_form) λ _. second p) refused-next e in
    let told = f.0 in
    let same : told ≡ form = eqb-true told form (guard_passed (eqb told form) (λ _. second f.1) refused-next f.3).0 in
    let says : number_at s 0 ≡ Some (form, f.1) = f.2 ∙ ap (λ (k : ℕ). Some (k, f.1)) same in
    rw (says, known) refl
  where
    second : ℕ → Walk
    second p = on_number (number_at s p) (Err (broken p)) λ m next. guard (eqb m n) (Err (bad_table p)) λ _. Ok next

-- and so a table says the form of its rules
pub table-form : (r : Rules) → Sizes r → known_form r.form ≡ true → (s : List ℕ) (t : Tree) → s ≡ table_of r t → form_of s ≡ r.form
table-form r sizes known s t is =
    header-form r.form r.n known s (headed r.form r.n) (table-header r sizes s [] t (is ∙ sym (append-nil (table_of r t))))

-- ---- 2 means no known form

refusal_is : {e f : Refusal} → ◌≡◌ {A = Walk} (Err e) (Err f) → e ≡ f
refusal_is q = cc

-- a header is refused by 2 exactly where it says a form that is not known
pub two-exactly : (n : ℕ) (s : List ℕ)
    → (header (form_of s) n s ≡ Err wrong_form) ↔ ((form : ℕ) × (next : ℕ) × (number_at s 0 ≡ Some (form, next)) × (known_form form ≡ false))
unfolding W.header
two-exactly n s = go (number_at s 0)
  where
    second : ℕ → Walk
    second p = on_number (number_at s p) (Err (broken p)) λ m next. guard (eqb m n) (Err (bad_table p)) λ _. Ok next

    -- n is told by 1 and 6
    behind : (p : ℕ) → second p ≡ Err wrong_form → ⊥
    behind p = of (number_at s p)
      where
        fits : (m next : ℕ) (c : Bool) → guard c (Err (bad_table p)) (λ _. Ok next) ≡ Err wrong_form → ⊥
        fits m next true e = never cc
        fits m next false e = let q = ap (λ (f : Refusal). f.number) (refusal_is e) in omega (arith, q)

        of : (v : Number) → on_number v (Err (broken p)) (λ m next. guard (eqb m n) (Err (bad_table p)) λ _. Ok next) ≡ Err wrong_form → ⊥
        of None e = let q = ap (λ (f : Refusal). f.number) (refusal_is e) in omega (arith, q)
        of (Some (m, next)) e = fits m next (eqb m n) e

    head : Number → Walk
    head v = on_number v (Err (broken 0)) λ told at. guard (eqb told (form_told v)) (Err wrong_form) λ _. second at

    by_form : (form next : ℕ) (c : Bool) → known_form form ≡ c
        → (guard (eqb form (cond c form 1)) (Err wrong_form) (λ _. second next) ≡ Err wrong_form) ↔ (c ≡ false)
    by_form form next true q = (λ e. absurd (behind next (rw (eq-eqb form form refl) at e)), λ e. never cc)
    by_form form next false q = (λ e. refl, λ e. rw (not-one (eqb form 1) q) refl)
      where
        not-one : (b : Bool) → (b || tells form || one_side form) ≡ false → b ≡ false
        not-one true e = never cc
        not-one false e = refl

    go : (v : Number) → (head v ≡ Err wrong_form) ↔ ((form : ℕ) × (next : ℕ) × (v ≡ Some (form, next)) × (known_form form ≡ false))
    go None = (λ e. let q = ap (λ (f : Refusal). f.number) (refusal_is e) in absurd (omega (arith, q)), λ w. let q = w.2 in never cc)
    go (Some (form, next)) =
        let k = by_form form next (known_form form) refl in (
          λ e. (form, next, refl, k.0 e),
          λ w. let q : form ≡ w.0 = some-first w.2 in k.1 (rw q w.3),
        )
