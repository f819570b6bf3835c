-- A sheet's file judged to the end: what was read up to and with 5, then 14 of the plant that is made; and what sheet to plant leaves. Relies on page Sheets,
-- and for the plant on made's page Written.
use Rattle.std.specs.Prelude.{Ok, Err}
use Prim.Native.Nat.{ℕ, ◌+◌}
use mathlib.Core.Path.{◌≡◌, refl, sym, ap, ◌∙◌}
use mathlib.Core.Bool.{Bool, true, false, cond}
use mathlib.Core.List.{List, map}
use Rattle.laws.specs.Guards.{guard}
use Rattle.laws.specs.Lists.{all, first_false}
use Rattle.laws.specs.Tests.{never}
use native.Mathlib.Nat.{zero-add}
use Rattle.meaning.specs.Answers.{SheetRead}
use Rattle.meaning.specs.declared.Refusal.{Refusal}
use Rattle.meaning.specs.declared.Sheet.{Sheet}
use Rattle.meaning.specs.Refusals.{bad_result}
use Rattle.meaning.specs.Buffers.{refused_with}
use Rattle.meaning.specs.Files.{Judged, good, bad, values_of}
use Rattle.meaning.specs.Plants.{plant_from, plant_left}
use Rattle.meaning.specs.Sheets.{sheet_form, made_numbers, is_near, sheet_judged, sheet_read_of, made_left}
use Rattle.promises.specs.Sheets.SheetPlants.{made-refused}
use Rattle.sheets.specs.declared.made.Made.{Made}
use lib.IntN.{ℤ}
use Rattle.sheets.specs.Made.{held_outline, held_ends, held_made, made_of}
use Rattle.sheets.specs.Sheets.{unfitted_of, unfitted, then_fitting, fitted, planned_by, planned_of, coef_by, planned_coef}
use Rattle.sheets.proofs.wholes.Counts.{near-holds}
use Rattle.sheets.proofs.made.Written.{held-left}

-- ---- what a reader answers says how a file was judged

pub refused-judged : (j : Judged Sheet) (e : Refusal) → sheet_read_of j ≡ Err e → j ≡ bad e
refused-judged (good h) e v = never cc
refused-judged (bad r) e v = let q : r ≡ e = cc in ap bad q

pub taken-judged : (j : Judged Sheet) (h : Sheet) → sheet_read_of j ≡ Ok h → j ≡ good h
taken-judged (good x) h v = let q : x ≡ h = cc in ap good q
taken-judged (bad r) h v = never cc

-- ---- 14 behind it

module _ (h : Sheet) where
  pub not-fitting : (e : Refusal) → made_of h ≡ Err e → then_fitting (good h) ≡ bad e
  not-fitting e = go (all (map is_near (made_numbers h)))
    where
      go : (t : Bool) → cond t (Ok (held_made h)) (Err (bad_result (0 + first_false (map is_near (made_numbers h))))) ≡ Err e
          → guard t (bad (bad_result (first_false (map is_near (made_numbers h))))) (λ _. good h) ≡ bad e
      go true q = never cc
      go false q = let r : bad_result (0 + first_false (map is_near (made_numbers h))) ≡ e = cc in ap bad (rw zero-add at r)

  module _ (m : Made) (q : made_of h ≡ Ok m) where
    pub all-fitting : then_fitting (good h) ≡ good h
    all-fitting = go (all (map is_near (made_numbers h))) q
      where
        go : (t : Bool) → cond t (Ok (held_made h)) (Err (bad_result (0 + first_false (map is_near (made_numbers h))))) ≡ Ok m
            → guard t (bad (bad_result (first_false (map is_near (made_numbers h))))) (λ _. good h) ≡ good h
        go true q = refl
        go false q = never cc

    pub made_held : m ≡ held_made h
    made_held = near-holds 0 (made_numbers h) (held_made h) m q

module _ (s : List ℕ) where
  pub values-refused : (x : Refusal) → unfitted s ≡ Err x → sheet_judged s ≡ bad x
  unfolding sheet_judged unfitted
  values-refused x v = let j = unfitted_of (values_of sheet_form s) in fitted (values_of sheet_form s) ∙ ap then_fitting (refused-judged j x v)

  pub values-taken : (h : Sheet) → unfitted s ≡ Ok h → sheet_judged s ≡ then_fitting (good h)
  unfolding sheet_judged unfitted
  values-taken h v = let j = unfitted_of (values_of sheet_form s) in fitted (values_of sheet_form s) ∙ ap then_fitting (taken-judged j h v)

  -- ---- what sheet to plant leaves

  module _ (buf : List ℕ) where
    pub unfit-left : (e : Refusal) → planned_of s ≡ Err e → made_left s buf ≡ refused_with e buf
    unfit-left e q = made-refused s e (go (unfitted s) refl q) buf
      where
        go : (r : SheetRead) → unfitted s ≡ r → planned_by r ≡ Err e → sheet_judged s ≡ bad e
        go (Ok h) v q = values-taken h v ∙ not-fitting h e q
        go (Err x) v q = let r : x ≡ e = cc in values-refused x v ∙ ap bad r

    pub fit-left : (m : Made) (coef : List ℤ) → planned_of s ≡ Ok m → coef ≡ planned_coef s → made_left s buf ≡ plant_left (plant_from m.outline m.ends coef) buf
    fit-left m coef q k = go (unfitted s) refl q k
      where
        go : (r : SheetRead) → unfitted s ≡ r → planned_by r ≡ Ok m → coef ≡ coef_by r → made_left s buf ≡ plant_left (plant_from m.outline m.ends coef) buf
        go (Ok h) v q k =
            sym (ap (λ (x : Made). plant_left (plant_from x.outline x.ends coef) buf) (made_held h m q)
            ∙ ap (λ (cs : List ℤ). plant_left (plant_from (held_outline h) (held_ends h) cs) buf) k
            ∙ held-left s h buf (values-taken h v ∙ all-fitting h m q))
        go (Err x) v q k = never cc
