-- The whole numbers that a sheet makes of its floats, by what each shows (document 01, "The sheet" and row 14): 0 with the nearest whole number exactly where
-- the float is finite and the plant can hold it, and else 14 with which number of the plant file it is; and a sheet's reader shows 14 exactly with the
-- first that does. Relies on pages Nearest and Firsts, and on pages Faults and Told for that nothing else is told by 14, and nothing by 0.
use Rattle.std.specs.Prelude.{ℕ, ◌<◌, ◌≡◌, refl, Bool, true, false, List, [], ◌∷◌, map, ◌↔◌, length, get_or, ℤ, Some, None, Err}
use Rattle.std.proofs.Common.{sym, ap, arith}
use Rattle.std.proofs.Math.Logic.Iff
use Rattle.laws.specs.Guards.{guard}
use Rattle.laws.specs.Lists.{all, first_false}
use Rattle.laws.specs.Tests.{never}
use Rattle.meaning.specs.Answers.{Whole, Verdict, verdict_in}
use Rattle.meaning.specs.declared.Refusal.{Refusal}
use Rattle.meaning.specs.declared.Sheet.{Sheet}
use Rattle.meaning.specs.Refusals.{whole_shown, verdict_shown, not_in_safe, narrow, bad_result}
use Rattle.meaning.specs.Boxes.{lies, within}
use Rattle.meaning.specs.Files.{Read, read, refused, values_of, good, bad}
use Rattle.meaning.specs.Plants as P
use Rattle.meaning.specs.Plants.{wide}
use Rattle.meaning.specs.Sheets as S
use Rattle.meaning.specs.Sheets.{finite, whole_of, units, units_of, sheet_form, sheet_of, made_numbers, is_near, near_value, root_sheet, safe_sheet, bands_sheet, sheet_related, sheet_read, sheet_read_of}
use Rattle.promises.specs.Sheets.Faults.{sheet-values-told}
use Rattle.promises.specs.Files.Firsts.{first-exactly}
use Rattle.promises.specs.Sheets.SheetNear.{near-is}
use Rattle.promises.specs.Paper.Shows.{shows, whole-exactly, verdict-exactly, refused-some}
use Rattle.promises.specs.Files.Telling.{not-told}
use Rattle.promises.specs.Paper.Told.{sheet-some}

-- of a sheet: 14 with the first number, in plant order, that shows 14, where its values are read to the end, R lies in S and each band is wide enough

-- the k-th number is the first that the plant cannot hold
pub record FirstOut (numbers : List Whole) (k : ℕ) : Type 0 where
  pub inside : k < length numbers
  pub out : whole_shown k (get_or numbers k None) ≡ shows 14 k 0 []
  pub before : (j : ℕ) → j < k → (v : ℤ) × (whole_shown j (get_or numbers j None) ≡ shows 0 0 0 (v ∷ []))

pub record BadResult (sheet : List ℕ) (k : ℕ) : Type 0 where
  pub values : List ℤ
  pub next : ℕ
  pub was_read : values_of sheet_form sheet ≡ read values next
  pub root-safe : within (root_sheet (sheet_of values)) (safe_sheet (sheet_of values)) ≡ true
  pub bands-wide : all (map (wide (sheet_of values).q) (bands_sheet (sheet_of values))) ≡ true
  pub first : FirstOut (made_numbers (sheet_of values)) k

first_out : (l : List Whole) (k : ℕ) → ((all (map is_near l) ≡ false) × (first_false (map is_near l) ≡ k)) ↔ FirstOut l k
first_out l k = Iff.trans (first-exactly is_near None l k) (
  λ f. record {
    inside = f.inside;
    out = out (get_or l k None) f.fails;
    before = λ j h. let w = get_or l j None in (near_value w, ap (whole_shown j) (near-is w (f.before j h)));
  },
  λ f. record {
    inside = f.inside;
    fails = rw ((whole-exactly k (get_or l k None) None).0 f.out) refl;
    before = λ j h. let w = f.before j h in rw ((whole-exactly j (get_or l j None) (Some w.0)).0 w.1) refl;
  },
)
  where
    out : (w : Whole) → is_near w ≡ false → whole_shown k w ≡ shows 14 k 0 []
    out None e = refl
    out (Some v) e = never (sym e)

-- the sheet's reader
pub fourteen-shown : (sheet : List ℕ) (k : ℕ) → (verdict_shown (verdict_in (sheet_read sheet)) ≡ shows 14 k 0 []) ↔ BadResult sheet k
unfolding S.sheet_judged P.wide_modes
fourteen-shown sheet k =
    Iff.trans (verdict-exactly (verdict_in (sheet_read sheet)) (Err (bad_result k)) (sheet-some sheet) (refused-some (bad_result k) (λ q. omega arith))) (
      λ e. there (values_of sheet_form sheet) refl e,
      λ b. back b,
    )
  where
    other : (e : Refusal) → (e.number ≡ 14 → ⊥) → ◌≡◌ {A = Verdict} (Err e) (Err (bad_result k)) → BadResult sheet k
    other e h a = let z : e ≡ bad_result k = cc in absurd (h (ap (λ (f : Refusal). f.number) z))

    there : (t : Read (List ℤ)) → values_of sheet_form sheet ≡ t → verdict_in (sheet_read_of (sheet_related t)) ≡ Err (bad_result k) → BadResult sheet k
    there (refused e) q a = let z : e.number ≡ 14 = cc in absurd (not-told (sheet-values-told sheet e q) 14 refl z)
    there (read vs next) q a = go (all (lies (root_sheet h) (safe_sheet h))) refl (all (map (wide h.q) (bands_sheet h))) refl (all (map is_near (made_numbers h))) refl a
      where
        h : Sheet
        h = sheet_of vs

        at_place : ◌≡◌ {A = Verdict} (Err (bad_result (first_false (map is_near (made_numbers h))))) (Err (bad_result k)) → first_false (map is_near (made_numbers h)) ≡ k
        at_place a = let z : bad_result (first_false (map is_near (made_numbers h))) ≡ bad_result k = cc in ap (λ (f : Refusal). f.place) z

        go : (a : Bool) → within (root_sheet h) (safe_sheet h) ≡ a → (b : Bool) → all (map (wide h.q) (bands_sheet h)) ≡ b → (c : Bool) → all (map is_near (made_numbers h)) ≡ c
            → verdict_in (sheet_read_of (guard a (bad (not_in_safe (first_false (lies (root_sheet h) (safe_sheet h))))) λ _.
            guard b (bad (narrow 0 (first_false (map (wide h.q) (bands_sheet h))))) λ _.
            guard c (bad (bad_result (first_false (map is_near (made_numbers h))))) λ _. good h)) ≡ Err (bad_result k)
            → BadResult sheet k
        go false p b r c u e = other (not_in_safe (first_false (lies (root_sheet h) (safe_sheet h)))) (λ z. omega arith) e
        go true p false r c u e = other (narrow 0 (first_false (map (wide h.q) (bands_sheet h)))) (λ z. omega arith) e
        go true p true r true u e = never cc
        go true p true r false u e =
            record { values = vs; next = next; was_read = q; root-safe = p; bands-wide = r; first = (first_out (made_numbers h) k).0 (u, at_place e) }

    back : BadResult sheet k → verdict_in (sheet_read sheet) ≡ Err (bad_result k)
    back b =
        let w = (first_out (made_numbers (sheet_of b.values)) k).1 b.first in
        rw b.was_read (rw (b.root-safe, b.bands-wide, w.0, w.1) refl)
