-- Entries of a list that are taken out into arrays, and put together again: `tab` and `tabs` joined, and zeros behind what `padded` made up. Assumes nothing.
use Prim.Native.Nat.{ℕ, zero, suc, ◌+◌, ◌-◌, ◌*◌, ◌≤◌, ◌<◌}
use Rattle.std.specs.Prelude.{◌≡◌, length, get_or, drop, replicate, ℤ, pos}
use Rattle.std.proofs.Math.Path.{refl}
use Rattle.std.proofs.Common.{sym, ap, ◌∙◌, zero-add, mul-zero, add-one, drop-cons, get_or-append-add, ext_get_or}
use mathlib.Core.List.{List, [], ◌∷◌, ◌++◌}
use native.Mathlib.Omega.{arith}
use Rattle.std.proofs.Math.Decide.{dec_lt}
use Rattle.std.proofs.Math.ListN.{get_or-append, get_or-eq_default}
use Rattle.std.proofs.lemmas.List.{get_or-replicate}
use Rattle.laws.specs.Lists.{at, tab, tabs, padded}
use Rattle.laws.specs.Tabs.{length-tab, get_d-tab, tab-same, length-tabs, get_d-tabs, padding-size, FilledBy, Filled}

-- ---- put together

module _ {ℓ} {A : Type ℓ} (g : ℕ → A) where
  pub tab-join : (m k i : ℕ) → tab g m i ++ tab g k (i + m) ≡ tab g (m + k) i
  unfolding tab
  tab-join zero k i = let a : i + 0 ≡ i = omega arith in let b : 0 + k ≡ k = omega arith in rw (a, b) refl
  tab-join (suc m) k i =
      let a : i + suc m ≡ i + 1 + m = omega arith in
      let b : suc m + k ≡ suc (m + k) = omega arith in
      rw (a, b) (ap (λ (t : List A). g i ∷ t) (tab-join m k (i + 1)))

  groups : (f : ℕ → List A) (w base m i : ℕ) → ((k : ℕ) → i ≤ k → k < i + m → f k ≡ tab g w (base + w * k)) → tabs f m i ≡ tab g (w * m) (base + w * i)
  unfolding tab tabs
  groups f w base zero i h = rw (mul-zero w) refl
  groups f w base (suc m) i h =
      let a : w * suc m ≡ w + w * m = omega arith in
      let b : base + w * (i + 1) ≡ base + w * i + w = omega arith in
      rw (h i (omega arith) (omega arith), groups f w base m (i + 1) (λ k a b. h k (omega arith) (omega arith)), a, b) (tab-join w (w * m) (base + w * i))

  -- lists of w entries of g each
  pub tabs-tab : (f : ℕ → List A) (w base m : ℕ) → ((k : ℕ) → k < m → f k ≡ tab g w (base + w * k)) → tabs f m 0 ≡ tab g (w * m) base
  tabs-tab f w base m h = let e : base + w * 0 ≡ base = omega arith in groups f w base m 0 (λ k a b. h k (omega arith)) ∙ rw e refl

-- all entries of a list
pub tab-get_d : {A : Type 0} (z : A) (l : List A) → tab (λ k. get_or l k z) (length l) 0 ≡ l
tab-get_d {A} z l = ext_get_or z (tab entry (length l) 0) l long (λ k h. get_d-tab entry z (length l) 0 k (omega (arith, long)) ∙ rw zero-add refl)
  where
    entry : ℕ → A
    entry k = get_or l k z

    long : length (tab entry (length l) 0) ≡ length l
    long = length-tab entry (length l) 0

pub tab-at : (l : List ℤ) → tab (at l) (length l) 0 ≡ l
tab-at l = tab-get_d (pos 0) l

-- the first m entries from i on, in front of what is behind them
pub tab-drop : (l : List ℤ) (m i : ℕ) → i + m ≤ length l → tab (at l) m i ++ drop (i + m) l ≡ drop i l
unfolding tab
tab-drop l zero i h = let e : i + 0 ≡ i = omega arith in rw e refl
tab-drop l (suc m) i h =
    let e : i + suc m ≡ i + 1 + m = omega arith in
    rw (e, tab-drop l m (i + 1) (omega arith))
    (sym (drop-cons l i (pos 0) (omega arith) ∙ ap (λ (k : ℕ). at l i ∷ drop k l) (sym (add-one i))))

-- the same lists, counted from one further on
pub tabs-later : {A : Type 0} (f g : ℕ → List A) (m i : ℕ) → ((k : ℕ) → f (k + 1) ≡ g k) → tabs f m (i + 1) ≡ tabs g m i
unfolding tabs
tabs-later f g zero i h = refl
tabs-later f g (suc m) i h = rw (h i, tabs-later f g m (i + 1) h) refl

-- entries as lists of one
pub tab-tabs : {A : Type 0} (f : ℕ → A) (m i : ℕ) → tab f m i ≡ tabs (λ k. f k ∷ []) m i
unfolding tab tabs
tab-tabs f zero i = refl
tab-tabs f (suc m) i = rw (tab-tabs f m (i + 1)) refl

-- ---- taken out: n entries, made up to m, stand in front of what they were made up with

pub padding-filled : {A : Type 0} (z : A) (f : ℕ → A) (m n : ℕ) → n ≤ m → FilledBy z m n (padded m z (tab f n 0))
padding-filled {A} z f m n h = record { size = padding-size z f m n h; rest = λ k l. behind k l (dec_lt k m) }
  where
    more : List A
    more = replicate (m - length (tab f n 0)) z

    behind : (k : ℕ) → n ≤ k → Dec (k < m) → get_or (tab f n 0 ++ more) k z ≡ z
    behind k l (yes a) =
        let e : length (tab f n 0) + (k - n) ≡ k = omega (arith, length-tab f n 0) in
        ap (λ (c : ℕ). get_or (tab f n 0 ++ more) c z) (sym e) ∙ get_or-append-add (tab f n 0) more (k - n) z
        ∙ get_or-replicate (m - length (tab f n 0)) (k - n) z z (omega (arith, length-tab f n 0))
    behind k l (no a) = get_or-eq_default (tab f n 0 ++ more) z (omega (arith, padding-size z f m n h))

pub padded-filled : (f : ℕ → ℤ) (m n : ℕ) → n ≤ m → Filled m n (padded m (pos 0) (tab f n 0))
padded-filled f m n h = padding-filled (pos 0) f m n h

-- ---- lists of one length, taken out of a list where each begins

-- the same entries from another place on
pub tab-moved : {A : Type 0} (f g : ℕ → A) (m i j : ℕ) → ((k : ℕ) → k < m → f (i + k) ≡ g (j + k)) → tab f m i ≡ tab g m j
unfolding tab
tab-moved f g zero i j h = refl
tab-moved {A} f g (suc m) i j h =
    let a : i + 0 ≡ i = omega arith in
    let b : j + 0 ≡ j = omega arith in
    let first : f i ≡ g j = rw (a, b) at (h 0 (omega arith)) in
    rw (first, tab-moved f g m (i + 1) (j + 1) (λ k l. let c : i + 1 + k ≡ i + suc k = omega arith in let d : j + 1 + k ≡ j + suc k = omega arith in rw (c, d) (h (suc k) (omega arith)))) refl

-- entries in front of a seam, and those behind it
pub tab-front : (xs ys : List ℤ) (w i : ℕ) → i + w ≤ length xs → tab (at (xs ++ ys)) w i ≡ tab (at xs) w i
tab-front xs ys w i h = tab-same (at (xs ++ ys)) (at xs) w i (λ k a b. get_or-append xs ys (pos 0) k (omega arith))

pub tab-behind : (xs ys : List ℤ) (w i j : ℕ) → length xs + j ≡ i → tab (at (xs ++ ys)) w i ≡ tab (at ys) w j
tab-behind xs ys w i j e =
    tab-moved (at (xs ++ ys)) (at ys) w i j (λ k h. let q : i + k ≡ length xs + (j + k) = omega arith in rw q (get_or-append-add xs ys (j + k) (pos 0)))

-- all of them
pub tab-back : (xs ys : List ℤ) (w i : ℕ) → length xs ≡ i → length ys ≡ w → tab (at (xs ++ ys)) w i ≡ ys
tab-back xs ys w i e f = tab-behind xs ys w i 0 (omega arith) ∙ ap (λ (c : ℕ). tab (at ys) c 0) (sym f) ∙ tab-at ys

module _ (vs : List ℤ) (w : ℕ) (g : ℕ → ℕ) (m : ℕ) where
  -- w entries from g u on, for each u below m
  abbrev pub parted : List ℤ
  parted = tabs (λ u. tab (at vs) w (g u)) m 0

  pub parted-long : length parted ≡ w * m
  parted-long = length-tabs (λ u. tab (at vs) w (g u)) w (λ u. length-tab (at vs) w (g u)) m 0

  pub parted-at : (u j : ℕ) → u < m → j < w → at parted (w * u + j) ≡ at vs (g u + j)
  parted-at u j h l =
      get_d-tabs (λ u. tab (at vs) w (g u)) w (λ u. length-tab (at vs) w (g u)) (pos 0) m 0 u j h l
      ∙ ap (λ (k : ℕ). at (tab (at vs) w (g k)) j) (zero-add u)
      ∙ get_d-tab (at vs) (pos 0) w (g u) j l

  -- part u is found where it was put
  pub parted-tab : (u : ℕ) → u < m → tab (at parted) w (w * u) ≡ tab (at vs) w (g u)
  parted-tab u h = tab-moved (at parted) (at vs) w (w * u) (g u) (λ k l. parted-at u k h l)
