-- The bands and rows of a plant's modes, as lists and in their two arrays: laid, of each mode as they were with later modes behind them, and judged.
-- Assumes nothing.
use Rattle.std.specs.Prelude.{Ok}
use Prim.Native.Nat.{ℕ, zero, suc, ◌+◌, ◌-◌, ◌*◌, ◌≤◌, ◌<◌}
use mathlib.Core.Path.{◌≡◌, refl, sym, ap, ◌∙◌}
use mathlib.Core.Bool.{Bool, true, false}
use mathlib.Core.List.{List, [], ◌∷◌, ◌++◌, map}
use native.Mathlib.Omega.{arith}
use native.Mathlib.Decide.{dec_lt}
use native.Mathlib.Nat.{mul-le-mul, le_refl, zero-add}
use native.Mathlib.Numerals.{add-one}
use lib.ListN.{length, set, length-append, length-map}
use lib.Seq.{sets}
use borrow.Author.Tests.{lt-ltb, le-ltb}
use lib.IntN.{ℤ, pos}
use Rattle.laws.specs.Guards.{guard}
use Rattle.laws.specs.Lists.{at, tab, tabs, all, first_false}
use Rattle.laws.specs.Columns.{tab-at, tab-front}
use Rattle.laws.specs.Tabs.{get_d-tab, get_d-tabs, tab-same, tabs-step, tabs-done, length-tabs}
use Rattle.laws.specs.Tests.{first-within, first-behind}
use Rattle.laws.specs.Writing.{sets-out, sets-append}
use Rattle.meaning.specs.Answers.{Verdict}
use Rattle.meaning.specs.Refusals.{narrow}
use Rattle.meaning.specs.Files.{good, bad}
use Rattle.meaning.specs.Boxes.{Side, side_at, sides_of}
use Rattle.meaning.specs.Plants.{most_modes, most_coefs, band_of, band_numbers, band_start, band_side, wide, wide_modes}
use Rattle.promises.specs.Files.Related.{modes-pass}
use Rattle.files.specs.Beginnings.{verdict_of}
use Rattle.files.specs.Modes.{ends_alike, Numbers, Stored, bands_from, after_mode}

-- ---- sizes

-- the rows of mode u end within the array
pub rows_few : (n u : ℕ) → n ≤ 4 → u < most_modes → n * (n + 1) * (u + 1) ≤ most_coefs
rows_few n u few h =
    let c : n + 1 ≤ 5 = omega arith in
    let a : n * (n + 1) ≤ 4 * 5 = mul-le-mul few c in
    let b : n * (n + 1) * suc u ≤ 20 * most_modes = mul-le-mul a h in
    omega arith

-- of one mode
pub size_few : (n : ℕ) → n ≤ 4 → n * (n + 1) ≤ 20
size_few n few = let c : n + 1 ≤ 5 = omega arith in let a : n * (n + 1) ≤ 4 * 5 = mul-le-mul few c in omega arith

-- ---- laid: i dimensions are done, and whoever lays the others has laid all

module _ (n u : ℕ) (wlo whi bands₀ : List ℤ) where
  pub record LaidTo (i : ℕ) (bands : List ℤ) : Type 0 where
    pub rest : sets bands (2 * n * u + 2 * i) (tabs (band_of wlo whi) (n - i) i) ≡ sets bands₀ (2 * n * u) (tabs (band_of wlo whi) n 0)

  module _ {i : ℕ} {bands : List ℤ} (w : LaidTo i bands) where
    pub laid_more : i < n → LaidTo (i + 1) (set (set bands (2 * n * u + 2 * i) (at wlo i)) (2 * n * u + 2 * i + 1) (at whi i))
    laid_more h =
        let from = 2 * n * u + 2 * i in
        let more = tabs (band_of wlo whi) (n - (i + 1)) (i + 1) in
        let d : 2 * n * u + 2 * (i + 1) ≡ suc (suc from) = omega arith in
        let e : from + 1 ≡ suc from = add-one from in
        record {
          rest = rw (d, e) (ap (λ (vs : List ℤ). sets bands from vs) (sym (tabs-step (band_of wlo whi) n i h)) ∙ w.rest);
        }

    pub laid-all : n ≤ i → bands ≡ sets bands₀ (2 * n * u) (tabs (band_of wlo whi) n 0)
    laid-all h = ap (λ (vs : List ℤ). sets bands (2 * n * u + 2 * i) vs) (sym (tabs-done (band_of wlo whi) n i h)) ∙ w.rest

-- the same bands, laid for u modes
pub bands-long : (n : ℕ) (wlo whi : List ℤ) → length (tabs (band_of wlo whi) n 0) ≡ 2 * n
bands-long n wlo whi = length-tabs (band_of wlo whi) 2 (λ k. refl) n 0

module _ (n modes : ℕ) (wlo whi bands₀ : List ℤ) where
  abbrev one : ℕ → List ℤ
  one = λ _. tabs (band_of wlo whi) n 0

  pub record AlikeTo (u : ℕ) (bands : List ℤ) : Type 0 where
    pub rest : sets bands (2 * n * u) (tabs one (modes - u) u) ≡ sets bands₀ 0 (ends_alike n wlo whi modes)

  module _ {u : ℕ} {bands : List ℤ} (w : AlikeTo u bands) where
    pub alike-more : {more : List ℤ} → u < modes → more ≡ sets bands (2 * n * u) (tabs (band_of wlo whi) n 0) → AlikeTo (u + 1) more
    alike-more {more} h e =
        let others = tabs one (modes - (u + 1)) (u + 1) in
        let d : 2 * n * (u + 1) ≡ 2 * n * u + length (tabs (band_of wlo whi) n 0) = omega (arith, bands-long n wlo whi) in
        record {
          rest = rw (d, e) (sym (sets-append (tabs (band_of wlo whi) n 0) others bands (2 * n * u)) ∙ ap (λ (vs : List ℤ). sets bands (2 * n * u) vs) (sym (tabs-step one modes u h)) ∙ w.rest);
        }

    pub alike-full : length bands ≤ 2 * n * u → bands ≡ sets bands₀ 0 (ends_alike n wlo whi modes)
    alike-full h = sym (sets-out (tabs one (modes - u) u) bands (2 * n * u) h) ∙ w.rest

    pub alike_all : modes ≤ u → bands ≡ sets bands₀ 0 (ends_alike n wlo whi modes)
    alike_all h = ap (λ (vs : List ℤ). sets bands (2 * n * u) vs) (sym (tabs-done one modes u h)) ∙ w.rest

-- ---- numbers of some modes behind those of others

-- a list of w numbers as those of mode 0
pub of-first : (w : ℕ) (l : List ℤ) → length l ≡ w → tab (at l) w (w * 0) ≡ l
of-first w l e = let z : w * 0 ≡ 0 = omega arith in rw z (ap (λ (c : ℕ). tab (at l) c 0) (sym e) ∙ tab-at l)

-- w numbers for each of u modes, with others behind them: those of mode v
pub kept : (w u : ℕ) (xs ys : List ℤ) → length xs ≡ w * u → (v : ℕ) → v < u → tab (at (xs ++ ys)) w (w * v) ≡ tab (at xs) w (w * v)
kept w u xs ys e v h = let c : w * suc v ≤ w * u = mul-le-mul (le_refl w) h in tab-front xs ys w (w * v) (omega arith)

module _ {n v : ℕ} {xs fs : List ℤ} (p : Numbers n v xs fs) where
  pub numbers-joined : {w : ℕ} {ys gs : List ℤ} → Numbers n w ys gs → Numbers n (v + w) (xs ++ ys) (fs ++ gs)
  numbers-joined {w} {ys} {gs} q = record {
    ends-long = omega (arith, length-append xs ys, p.ends-long, q.ends-long);
    entries-long = omega (arith, length-append fs gs, p.entries-long, q.entries-long);
  }

  pub stored-joined : (u : ℕ) {ys gs bands₀ coef₀ bands coef bands' coef' : List ℤ} → Stored n u xs fs bands₀ coef₀ bands coef → Stored n (u + v) ys gs bands coef bands' coef'
      → Stored n u (xs ++ ys) (fs ++ gs) bands₀ coef₀ bands' coef'
  stored-joined u {ys} {gs} {bands₀} {coef₀} a b =
      let d : 2 * n * (u + v) ≡ 2 * n * u + length xs = omega (arith, p.ends-long) in
      let e : n * (n + 1) * (u + v) ≡ n * (n + 1) * u + length fs = omega (arith, p.entries-long) in
      record {
        bands-stored = b.bands-stored ∙ rw (d, a.bands-stored) (sym (sets-append xs ys bands₀ (2 * n * u)));
        coef-stored = b.coef-stored ∙ rw (e, a.coef-stored) (sym (sets-append fs gs coef₀ (n * (n + 1) * u)));
      }

-- ---- bands as sides

-- the sides of bands that were laid
pub bands-sides : (n u : ℕ) (wlo whi bands : List ℤ) → band_numbers n bands u ≡ tabs (band_of wlo whi) n 0 → bands_from n bands u ≡ sides_of n wlo whi
bands-sides n u wlo whi bands e = tab-same (band_side n bands u) (side_at wlo whi) n 0 (λ i a b. here i (omega arith))
  where
    entry : (i j : ℕ) → i < n → j < 2 → at bands (2 * n * u + (2 * i + j)) ≡ at (band_of wlo whi i) j
    entry i j h l =
        sym (get_d-tab (at bands) (pos 0) (2 * n) (2 * n * u) (2 * i + j) (omega arith))
        ∙ ap (λ (t : List ℤ). at t (2 * i + j)) e ∙ get_d-tabs (band_of wlo whi) 2 (λ k. refl) (pos 0) n 0 i j h l ∙ ap (λ (k : ℕ). at (band_of wlo whi k) j) (zero-add i)

    here : (i : ℕ) → i < n → band_side n bands u i ≡ side_at wlo whi i
    here i h =
        let p : band_start n u i ≡ 2 * n * u + (2 * i + 0) = omega arith in
        let q : band_start n u i + 1 ≡ 2 * n * u + (2 * i + 1) = omega arith in
        let a : at bands (band_start n u i) ≡ at wlo i = ap (at bands) p ∙ entry i 0 h (omega arith) in
        let b : at bands (band_start n u i + 1) ≡ at whi i = ap (at bands) q ∙ entry i 1 h (omega arith) in
        rw (a, b) refl

-- ---- judged

module _ (q : ℕ) where
  abbrev pub said : ℕ → List (List Side) → Verdict
  said u modes = verdict_of {A = Unit {0}} (wide_modes q u modes λ _. good tt)

  one-said : (b : List Side) (n u thin : ℕ) → length b ≡ n → thin ≡ first_false (map (wide q) b) → said u (b ∷ []) ≡ after_mode (Ok tt) n u thin
  unfolding wide_modes
  one-said b n u thin long e = go (dec_lt thin n)
    where
      size : length (map (wide q) b) ≡ n
      size = length-map b (wide q) ∙ long

      go : Dec (thin < n) → said u (b ∷ []) ≡ after_mode (Ok tt) n u thin
      go (yes h) = let a = first-within (map (wide q) b) (omega (arith, size, e)) in simp (a, lt-ltb _ _ h) (rw e refl)
      go (no h) = let l : n ≤ thin = omega arith in let a = first-behind (map (wide q) b) (omega (arith, size, e)) in simp (a, le-ltb _ _ l)

  -- one mode more
  pub said_more : (f : ℕ → List Side) (n m u thin : ℕ) → length (f (u + m)) ≡ n → thin ≡ first_false (map (wide q) (f (u + m)))
      → said u (tab f (suc m) u) ≡ after_mode (said u (tab f m u)) n (u + m) thin
  unfolding wide_modes tab
  said_more f n zero u thin long e = let z : u + 0 ≡ u = omega arith in rw z (one-said (f u) n u thin (rw z at long) (rw z at e))
  said_more f n (suc m) u thin long e =
      let z : u + suc m ≡ u + 1 + m = omega arith in
      let more = said_more f n m (u + 1) thin (rw z at long) (rw z at e) in
      rw z (go (all (map (wide q) (f u))) more)
    where
      go : (t : Bool) → said (u + 1) (tab f (suc m) (u + 1)) ≡ after_mode (said (u + 1) (tab f m (u + 1))) n (u + 1 + m) thin
          → verdict_of {A = Unit {0}} (guard t (bad (narrow u (first_false (map (wide q) (f u))))) λ _. wide_modes q (u + 1) (tab f (suc m) (u + 1)) λ _. good tt)
          ≡ after_mode (verdict_of {A = Unit {0}} (guard t (bad (narrow u (first_false (map (wide q) (f u))))) λ _. wide_modes q (u + 1) (tab f m (u + 1)) λ _. good tt)) n (u + 1 + m) thin
      go true h = h
      go false h = refl

  -- one band for all modes
  pub said-alike : (f : ℕ → List Side) (m : ℕ) → 1 ≤ m → ((u : ℕ) → u < m → f u ≡ f 0) → said 0 (tab f m 0) ≡ said 0 (f 0 ∷ [])
  unfolding wide_modes tab
  said-alike f zero h same = absurd (omega arith)
  said-alike f (suc m) h same = go (all (map (wide q) (f 0))) refl
    where
      go : (t : Bool) → all (map (wide q) (f 0)) ≡ t
          → verdict_of {A = Unit {0}} (guard t (bad (narrow 0 (first_false (map (wide q) (f 0))))) λ _. wide_modes q (0 + 1) (tab f m (0 + 1)) λ _. good tt)
          ≡ verdict_of {A = Unit {0}} (guard t (bad (narrow 0 (first_false (map (wide q) (f 0))))) λ _. good tt)
      go true e = ap verdict_of (modes-pass q (λ _. good tt) f m (0 + 1) (λ t l. rw (same (0 + 1 + t) (omega arith)) e))
      go false e = refl
