-- The check of a start file in the terms that the code has: one table behind its length, the tables one after another, the whole. Assumes nothing.
use Rattle.std.specs.Prelude.{Some, None, Ok, Err, Result, ℕ}
use Prim.Native.Nat.{ℕ, zero, suc, ◌+◌, ◌-◌, ◌≤◌, ◌<◌, ◌^◌}
use mathlib.Core.Path.{◌≡◌, refl, sym, ap, ◌∙◌}
use mathlib.Core.Bool.{Bool, true, false}
use mathlib.Core.List.{List}
use native.Mathlib.Omega.{arith}
use native.Mathlib.Numerals.{add-one}
use lib.Dec.{leb, eqb}
use lib.ListN.{length, take, drop, length-take}
use borrow.Author.Tests.{eq-eqb, ne_eqb}
use Rattle.laws.specs.Guards.{guard}
use Rattle.meaning.specs.Answers.{Number, Walk}
use Rattle.meaning.specs.declared.Refusal.{Refusal}
use Rattle.meaning.specs.Files.{good, bad}
use Rattle.meaning.specs.Numbers.{number_at}
use Rattle.meaning.specs.Plants.{Plant, plant_judged}
use Rattle.meaning.specs.Refusals.{broken, unfit, moved}
use Rattle.meaning.specs.Rules.{Rules}
use Rattle.meaning.specs.Starts as S
use Rattle.meaning.specs.Starts.{above, box_rules, on_start, part, tables_at, start_checked}
use Rattle.meaning.specs.Tables.{form_of}
use Rattle.meaning.specs.Verdicts.{on_number, on_walk, table_end}
use Rattle.tables.specs.Parts.{part_at, Movable}
use Rattle.tables.specs.StartChecks.{table_at}
use Rattle.tables.proofs.parts.Laws.{by_length, part-within, slice-part}
use Rattle.tables.proofs.parts.Places.{Inside, end-inside}

-- ---- one table

-- a refusal with its place in a table can be moved to the file that holds the table
pub movable : (s : List ℕ) (first size : ℕ) → first + size ≤ length s → length s < 2 ^ 64 → (e : Refusal) → Inside (length (part s first size)) e → Movable first e
movable s first size h l e i b = omega (arith, i b, length-take size (drop first s))

module _ (r : ℕ → Rules) (s : List ℕ) (at : ℕ) where
  -- what is made of the walk over a table at `first`
  abbrev walked : ℕ → ℕ → Walk → Walk
  walked first size w =
      on_walk w (λ e. Err (moved first e)) λ next.
      guard (eqb next size) (Err (unfit at)) λ _.
      Ok (first + size)

  -- w is the walk over the bytes between
  module _ {p : Result (ℕ × ℕ) Refusal} (q : p ≡ part_at s at) {first size : ℕ} (h : p ≡ Ok (first, size)) {w : Walk}
      (t : w ≡ table_end (r (form_of (take (first + size - first) (drop first s)))) (take (first + size - first) (drop first s))) where
    ended : w ≡ table_end (r (form_of (part s first size))) (part s first size)
    ended = t ∙ ap (λ (t : List ℕ). table_end (r (form_of t)) t) (slice-part s first size)

    found : walked first size w ≡ table_at r s at
    found = ap (walked first size) ended ∙ sym (by_length s at Err (λ first size. walked first size (table_end (r (form_of (part s first size))) (part s first size))) ∙ rw (← q, h) refl)

    pub table-refused : {e : Refusal} → w ≡ Err e → Err (moved first e) ≡ table_at r s at
    table-refused g = ap (walked first size) (sym g) ∙ found

    pub table-movable : Rules.K (r (form_of (part s first size))) ≤ 6 → length s < 2 ^ 64 → {e : Refusal} → w ≡ Err e → Movable first e
    table-movable most short {e} g =
        movable s first size (part-within s at first size (sym q ∙ h)) short e
        (end-inside (r (form_of (part s first size))) (part s first size) most e (sym ended ∙ g))

    module _ {next : ℕ} (g : w ≡ Ok next) where
      pub table-ends : next ≡ size → Ok (first + size) ≡ table_at r s at
      table-ends z = sym (simp (eq-eqb next size z)) ∙ ap (walked first size) (sym g) ∙ found

      pub table-over : (next ≡ size → ⊥) → Err (unfit at) ≡ table_at r s at
      table-over z = sym (simp (ne_eqb next size z)) ∙ ap (walked first size) (sym g) ∙ found

-- ---- the tables one after another

module _ (r : ℕ → ℕ → Rules) (s : List ℕ) where
  step : (m i at : ℕ) → tables_at r s (suc m) i at ≡ on_walk (table_at (r i) s at) Err (λ next. tables_at r s m (suc i) next)
  unfolding S.tables_at
  step m i at = go (number_at s at)
    where
      go : (n : Number)
          → on_number n (Err (broken at)) (λ size first. guard (leb (first + size) (length s)) (Err (unfit at)) λ _.
          on_walk (table_end (r i (form_of (part s first size))) (part s first size)) (λ e. Err (moved first e)) λ next.
          guard (eqb next size) (Err (unfit at)) λ _. tables_at r s m (suc i) (first + size))
          ≡ on_walk (on_number n (Err (broken at)) (λ size first. guard (leb (first + size) (length s)) (Err (unfit at)) λ _. walked (r i) s at first size (table_end (r i (form_of (part s first size))) (part s first size)))) Err (λ next. tables_at r s m (suc i) next)
      go None = refl
      go (Some (size, first)) = fits (leb (first + size) (length s))
        where
          ends : (next : ℕ) (t : Bool) → guard t (Err (unfit at)) (λ _. tables_at r s m (suc i) (first + size))
              ≡ on_walk (guard t (Err (unfit at)) (λ _. Ok (first + size))) Err (λ next. tables_at r s m (suc i) next)
          ends next true = refl
          ends next false = refl

          over : (w : Walk) → on_walk w (λ e. Err (moved first e)) (λ next. guard (eqb next size) (Err (unfit at)) λ _. tables_at r s m (suc i) (first + size))
              ≡ on_walk (walked (r i) s at first size w) Err (λ next. tables_at r s m (suc i) next)
          over (Err e) = refl
          over (Ok next) = ends next (eqb next size)

          fits : (t : Bool) → guard t (Err (unfit at)) (λ _. on_walk (table_end (r i (form_of (part s first size))) (part s first size)) (λ e. Err (moved first e)) λ next.
              guard (eqb next size) (Err (unfit at)) λ _. tables_at r s m (suc i) (first + size))
              ≡ on_walk (guard t (Err (unfit at)) (λ _. walked (r i) s at first size (table_end (r i (form_of (part s first size))) (part s first size)))) Err (λ next. tables_at r s m (suc i) next)
          fits true = over (table_end (r i (form_of (part s first size))) (part s first size))
          fits false = refl

  -- tables i to m are left
  module _ (m i place : ℕ) where
    pub tables-ended : m < i → place ≡ length s → Ok tt ≡ tables_at r s (m + 1 - i) i place
    unfolding S.tables_at
    tables-ended h e = let z : m + 1 - i ≡ 0 = omega arith in rw z (simp (eq-eqb place (length s) e))

    pub tables-over : m < i → (place ≡ length s → ⊥) → Err (unfit place) ≡ tables_at r s (m + 1 - i) i place
    unfolding S.tables_at
    tables-over h e = let z : m + 1 - i ≡ 0 = omega arith in rw z (simp (ne_eqb place (length s) e))

    module _ (h : i ≤ m) (w : Walk) (q : w ≡ table_at (r i) s place) where
      one : tables_at r s (m + 1 - i) i place ≡ on_walk w Err (λ next. tables_at r s (m + 1 - (i + 1)) (i + 1) next)
      one =
          let z : m + 1 - i ≡ suc (m + 1 - (i + 1)) = omega arith in
          ap (λ (k : ℕ). tables_at r s k i place) z ∙ step (m + 1 - (i + 1)) i place
          ∙ ap (λ (v : Walk). on_walk v Err (λ next. tables_at r s (m + 1 - (i + 1)) (suc i) next)) (sym q)
          ∙ ap (λ (k : ℕ). on_walk w Err (λ next. tables_at r s (m + 1 - (i + 1)) k next)) (sym (add-one i))

      pub tables-stopped : (e : Refusal) → w ≡ Err e → Err e ≡ tables_at r s (m + 1 - i) i place
      tables-stopped e g = sym (one ∙ rw g refl)

      pub tables_more : (next : ℕ) → w ≡ Ok next → tables_at r s (m + 1 - (i + 1)) (i + 1) next ≡ tables_at r s (m + 1 - i) i place
      tables_more next g = sym (one ∙ rw g refl)

-- the same rules, the same verdict
pub tables-same : (r z : ℕ → ℕ → Rules) → ((i : ℕ) → r i ≡ z i) → (s : List ℕ) (m i at : ℕ) → tables_at r s m i at ≡ tables_at z s m i at
unfolding S.tables_at
tables-same r z h s zero i at = refl
tables-same r z h s (suc m) i at =
    step r s m i at ∙ ap (λ (x : ℕ → Rules). on_walk (table_at x s at) Err (λ next. tables_at r s m (suc i) next)) (h i)
    ∙ go (table_at (z i) s at) (λ next. tables-same r z h s m (suc i) next) ∙ sym (step z s m i at)
  where
    go : (w : Walk) → ((next : ℕ) → tables_at r s m (suc i) next ≡ tables_at z s m (suc i) next)
        → on_walk w Err (λ next. tables_at r s m (suc i) next) ≡ on_walk w Err (λ next. tables_at z s m (suc i) next)
    go (Err e) ih = refl
    go (Ok next) ih = ih next

-- ---- the whole

module _ (plant start : List ℕ) where
  pub plant-bad : (e : Refusal) → plant_judged plant ≡ bad e → Err e ≡ start_checked plant start
  unfolding S.start_checked
  plant-bad e h = rw h refl

  pub plant-good : (p : Plant) → plant_judged plant ≡ good p
      → on_start p start Err (λ vs next. tables_at (box_rules p vs) start (above vs + 1) 0 next) ≡ start_checked plant start
  unfolding S.start_checked
  plant-good p h = rw h refl
