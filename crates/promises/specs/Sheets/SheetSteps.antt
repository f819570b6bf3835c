-- S10 for sheets (document 01, "Proved: .."): a whole reading that is allowed from a point of S by the float coefficients taken exactly, with the
-- sheet's band, is allowed by the plant made of the sheet. Relies on pages Nearest, Widening, SheetNumbers and SheetNear. Each coefficient is the result of
-- an operation, so binary64 holds it whatever the sheet's own floats are. That the plant made is a plant is page SheetPlants.
use Rattle.std.specs.Prelude.{ℕ, zero, suc, ◌+◌, ◌*◌, ◌≤◌, ◌<◌, ◌≡◌, refl, true, ◌&&◌, List, [], ◌∷◌, T, eqb, ℤ, nat_abs, Float}
use Rattle.std.proofs.Common.{arith}
use Rattle.std.proofs.Math.Decide.{dec_lt}
use Rattle.std.specs.Int.Signed.{le_z}
use Rattle.std.specs.Float.{binary64}
use Rattle.std.specs.Float.Ieee.{fits, mul}
use Rattle.std.specs.Float.Ieee.Fits.{cond-fits, add-fits, sub-fits, mul-fits}
use Rattle.laws.specs.Every as E
use Rattle.laws.specs.Every.{Every}
use Rattle.laws.specs.Integers.{zarith, abs, apart}
use Rattle.laws.specs.Lists as L
use Rattle.laws.specs.Lists.{at, tab, all}
use Rattle.laws.specs.Tests.{never, first, second, both, orders}
use Rattle.meaning.specs.declared.Emitter.{Emitter}
use Rattle.meaning.specs.declared.Sheet.{Sheet}
use Rattle.meaning.specs.Boxes as B
use Rattle.meaning.specs.Boxes.{side_at, has}
use Rattle.meaning.specs.Images as I
use Rattle.meaning.specs.Images.{Row, reached, reached_all, follows}
use Rattle.meaning.specs.Sheets as S
use Rattle.meaning.specs.Sheets.{room_at, fading_sum, one_f, coefficient, pushed, switched_on, offset, whole_of, largest_edge, widening, units, units_of, exact_row, exact_step, made_modes, made_numbers, is_near, near_value, made_plant, safe_sheet, sheet_form, sheet_judged}
use Rattle.promises.specs.Sheets.Nearest.{Nearest}
use Rattle.promises.specs.Sheets.Widening as W
use Rattle.promises.specs.Sheets.Widening.{Close, Halves, widely}

-- ---- the floats are results of operations

pub coefficient-held : (h : Sheet) (u i j : ℕ) → T (fits binary64 (coefficient h u i j))
unfolding S.coefficient
coefficient-held h u i j =
    cond-fits binary64 (eqb i j) _ _ (sub-fits binary64 one_f (mul binary64 h.time (fading_sum h u i))) (mul-fits binary64 h.time _)

pushed-held : (c time : Float) (e : Emitter) → T (fits binary64 c) → T (fits binary64 (pushed c time e))
pushed-held c time Emitter.None t = t
pushed-held c time (Emitter.Heater p water) t = add-fits binary64 c (mul binary64 time (mul binary64 p water))
pushed-held c time (Emitter.Steady rate) t = add-fits binary64 c (mul binary64 time rate)

pub offset-held : (h : Sheet) (u i : ℕ) → T (fits binary64 (offset h u i))
unfolding S.offset
offset-held h u i =
    let room = room_at h i in
    let c = mul-fits binary64 h.time (mul binary64 room.loss h.outside) in
    cond-fits binary64 (switched_on h u i) _ _ (pushed-held _ h.time room.emitter c) c

-- ---- a number that is near is no farther than a half

pub half-close : (u : ℕ) (z v : ℤ) → Nearest u z v → Close u 1 v z
half-close u z v n = omega (arith, n.half)

pub halves-tab : (u : ℕ) (f g : ℕ → ℤ) (m i : ℕ) → ((k : ℕ) → i ≤ k → k < i + m → Close u 1 (f k) (g k)) → Halves u (tab f m i) (tab g m i)
unfolding W.Halves L.tab
halves-tab u f g zero i h = tt
halves-tab u f g (suc m) i h = (h i (omega arith) (omega arith), halves-tab u f g m (i + 1) (λ k a b. h k (omega arith) (omega arith)))

-- ---- a reading in S

pub edges-largest : (h : Sheet) (m i : ℕ) → i < m → (nat_abs (at h.slo i) ≤ largest_edge h m) × (nat_abs (at h.shi i) ≤ largest_edge h m)
unfolding S.largest_edge
edges-largest h zero i l = absurd (omega arith)
edges-largest h (suc m) i l = go (dec_lt i m) (edges-largest h m i)
  where
    go : Dec (i < m) → (i < m → (nat_abs (at h.slo i) ≤ largest_edge h m) × (nat_abs (at h.shi i) ≤ largest_edge h m))
        → (nat_abs (at h.slo i) ≤ largest_edge h (suc m)) × (nat_abs (at h.shi i) ≤ largest_edge h (suc m))
    go (yes k) more = let w = more k in (omega arith, omega arith)
    go (no k) more = let e : i ≡ m = omega arith in rw e (omega arith, omega arith)

between : (M : ℕ) (lo hi x : ℤ) → nat_abs lo ≤ M → nat_abs hi ≤ M → (le_z lo x && le_z x hi) ≡ true → nat_abs x ≤ M
between M lo hi x a b e = let k = orders lo x x hi e in omega (zarith, k, abs lo, abs hi, abs x, apart x)

pub counts-small : (M : ℕ) (lo hi : List ℤ) (m i : ℕ) → ((k : ℕ) → i ≤ k → k < i + m → (nat_abs (at lo k) ≤ M) × (nat_abs (at hi k) ≤ M))
    → (x : List ℤ) → all (B.fits (tab (side_at lo hi) m i) x) ≡ true → Every (λ z. nat_abs z ≤ M) x
unfolding L.tab B.fits L.all E.Every
counts-small M lo hi zero i h [] e = tt
counts-small M lo hi zero i h (z ∷ x) e = never e
counts-small M lo hi (suc m) i h [] e = never e
counts-small M lo hi (suc m) i h (z ∷ x) e =
    let w = h i (omega arith) (omega arith) in
    let rest = all (B.fits (tab (side_at lo hi) m (i + 1)) x) in (
      between M (at lo i) (at hi i) z w.0 w.1 (first (has (side_at lo hi i) z) rest e),
      counts-small M lo hi m (i + 1) (λ k a b. h k (omega arith) (omega arith)) x (second (has (side_at lo hi i) z) rest e),
    )

pub enough : (h : Sheet) (m : ℕ) → m ≡ h.n → m * largest_edge h h.n + 1 ≤ 2 * widening h
unfolding S.widening
enough h m e = rw e (omega arith)

-- ---- row by row

pub rows-kept : (q p : ℕ) (x : List ℤ) (f g : ℕ → Row) (m i : ℕ) → ((k : ℕ) → i ≤ k → k < i + m → (y : ℤ) → reached q x (f k) y ≡ true → reached p x (g k) y ≡ true)
    → (y : List ℤ) → all (reached_all q x (tab f m i) y) ≡ true → all (reached_all p x (tab g m i) y) ≡ true
unfolding L.tab L.all I.reached_all
rows-kept q p x f g zero i h [] e = refl
rows-kept q p x f g zero i h (c ∷ y) e = never e
rows-kept q p x f g (suc m) i h [] e = never e
rows-kept q p x f g (suc m) i h (c ∷ y) e =
    let rest = all (reached_all q x (tab f m (i + 1)) y) in
    both (h i (omega arith) (omega arith) c (first (reached q x (f i) c) rest e))
    (rows-kept q p x f g m (i + 1) (λ k a b. h k (omega arith) (omega arith)) y (second (reached q x (f i) c) rest e))
