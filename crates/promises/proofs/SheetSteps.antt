-- S10 for sheets, the end of page SheetSteps (specs/Sheets): row by row, and the whole step. It rests on pages Nearest and Widening of this folder.
use Rattle.std.specs.Prelude.{ℕ, ◌*◌, ◌≤◌, ◌<◌, ◌≡◌, refl, true, List, map, T, length, ℤ, pos, nat_abs, ◌*ℤ◌, Float}
use Rattle.std.proofs.Common.{sym, ◌∙◌, subst, arith, pow_pos}
use Rattle.std.specs.Float.{binary64}
use Rattle.std.specs.Float.Ieee.{fits}
use Rattle.laws.specs.Every.{Every}
use Rattle.laws.specs.Lists.{at, tab, all}
use Rattle.laws.specs.Tabs.{length-tab}
use Rattle.meaning.specs.declared.Sheet.{Sheet}
use Rattle.meaning.specs.Boxes as B
use Rattle.meaning.specs.Boxes.{side_at, has}
use Rattle.meaning.specs.Files.{values_of, good}
use Rattle.meaning.specs.Images.{Row, reached, follows}
use Rattle.meaning.specs.Plants as P
use Rattle.meaning.specs.Plants.{entry_limit, offset_limit, row_of, step_of}
use Rattle.meaning.specs.Sheets as S
use Rattle.meaning.specs.Sheets.{room_at, fading_sum, one_f, coefficient, pushed, switched_on, offset, whole_of, largest_edge, widening, units, units_of, exact_row, exact_step, made_modes, made_numbers, is_near, near_value, made_plant, safe_sheet, sheet_form, sheet_judged}
use Rattle.promises.specs.Files.Related.{good-sheet}
use Rattle.promises.specs.Sheets.SheetNear.{Near, near-is, entry-near, offset_near, low-is, high_is}
use Rattle.promises.specs.Sheets.SheetNumbers.{entry_at, offset_at, row_made}
use Rattle.promises.specs.Sheets.Widening.{Close, Halves, widely}
use Rattle.promises.specs.Sheets.SheetSteps.{coefficient-held, offset-held, half-close, halves-tab, edges-largest, counts-small, enough, rows-kept}
use Rattle.promises.proofs.Nearest.{whole-nearest}
use Rattle.promises.proofs.Widening.{widened}

whole-close : (limit k : ℕ) (x : Float) → T (fits binary64 x) → Near (whole_of limit k x) → Close units 1 (near_value (whole_of limit k x)) (pos k *ℤ units_of x)
whole-close limit k x t e =
    let v = near_value (whole_of limit k x) in
    half-close units (pos k *ℤ units_of x) v (whole-nearest limit k x v t (near-is (whole_of limit k x) e))

-- ---- S10

-- what the exact row of a sheet allows, the row of the plant allows
row_kept : (h : Sheet) → all (map is_near (made_numbers h)) ≡ true → (u i : ℕ) → u < made_modes h → i < h.n
    → (x : List ℤ) → Every (λ z. nat_abs z ≤ largest_edge h h.n) x → (y : ℤ)
    → reached (h.q * units) x (exact_row h u i) y ≡ true → reached h.q x (row_of (made_plant h) u i) y ≡ true
row_kept h fit u i a b x few y e =
    let f : ℕ → ℤ = λ j. near_value (entry_at h u i j) in
    let g : ℕ → ℤ = λ j. pos h.q *ℤ units_of (coefficient h u i j) in
    let near : Halves units (tab f h.n 0) (tab g h.n 0) =
    halves-tab units f g h.n 0 (λ j c d. whole-close entry_limit h.q (coefficient h u i j) (coefficient-held h u i j) (entry-near h fit u i j a b (omega arith))) in
    let offset-close = whole-close offset_limit (h.q * h.r) (offset h u i) (offset-held h u i) (offset_near h fit u i a b) in
    let row : row_of (made_plant h) u i ≡ widely units (widening h) (tab f h.n 0) (near_value (offset_at h u i)) (at h.wlo i) (at h.whi i) =
    row_made h u i a b ∙ rw (low-is h fit i b, high_is h fit i b) refl in
    subst (λ (r : Row). reached h.q x r y ≡ true) (sym row)
    (widened units (pow_pos 1074) (largest_edge h h.n) (widening h) (tab f h.n 0) (tab g h.n 0) (near_value (offset_at h u i)) (pos (h.q * h.r) *ℤ units_of (offset h u i)) near offset-close
    (enough h (length (tab f h.n 0)) (length-tab f h.n 0)) h.q x few (at h.wlo i) (at h.whi i) y e)

-- a reading y that the sheet's own equation, its floats taken exactly, allows from a reading x of S, the plant made of the sheet allows
pub allowed : (s : List ℕ) (h : Sheet) → sheet_judged s ≡ good h → (u : ℕ) → u < made_modes h → (x y : List ℤ) → all (B.fits (safe_sheet h) x) ≡ true
    → follows (exact_step h u) x y ≡ true → follows (step_of (made_plant h) u) x y ≡ true
unfolding S.sheet_judged P.plant_of S.made_numbers
allowed s h e u a x y inside f =
    let fit = (good-sheet (values_of sheet_form s) h e).fit in
    let few = counts-small (largest_edge h h.n) h.slo h.shi h.n 0 (λ i b c. edges-largest h h.n i (omega arith)) x inside in
    rows-kept (h.q * units) h.q x (exact_row h u) (row_of (made_plant h) u) h.n 0 (λ i b c. row_kept h fit u i a (omega arith) x few) y f
