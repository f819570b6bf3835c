-- Laws of lists by their entries: `tab`, `tabs`, `padded`, and arrays that are filled from the front. Assumes nothing.
use Prim.Native.Nat.{ℕ, zero, suc, ◌+◌, ◌-◌, ◌*◌, ◌≤◌, ◌<◌}
use Rattle.std.specs.Prelude.{◌≡◌, get_or, set, replicate, ℤ, pos}
use Rattle.std.proofs.Math.Path.{refl, sym, ap}
use Rattle.std.proofs.Common.{◌∙◌, zero-add, add_comm, add-one, length-set, get_or-set_same, get_or-set_other, get_or-append-add, ext_get_or}
use mathlib.Core.List.{List, [], ◌∷◌, ◌++◌, map, append_assoc, append-nil, map-append}
use native.Mathlib.Omega.{arith}
use Rattle.std.proofs.Math.Nat.{add-zero, sub-zero, mul-zero, mul-suc}
use Rattle.std.proofs.Math.Decide.{dec_lt}
use Rattle.std.proofs.Math.ListN.{length, length-append, get_or-append}
use Rattle.std.proofs.lemmas.List.{length-replicate, get_or-replicate}
use Rattle.laws.specs.Lists.{at, tab, tabs, padded}

-- ---- tab

module _ {ℓ} {A : Type ℓ} (f : ℕ → A) where
  pub length-tab : (m i : ℕ) → length (tab f m i) ≡ m
  unfolding tab
  length-tab zero i = refl
  length-tab (suc m) i = ap suc (length-tab m (i + 1))

  pub get_d-tab : (d : A) (m i k : ℕ) → k < m → get_or (tab f m i) k d ≡ f (i + k)
  unfolding tab
  get_d-tab d zero i k h = absurd (omega arith)
  get_d-tab d (suc m) i zero h = rw add-zero refl
  get_d-tab d (suc m) i (suc k) h = let q : i + 1 + k ≡ i + suc k = omega arith in get_d-tab d m (i + 1) k (omega arith) ∙ rw q refl

  -- j of n are done
  pub tab-step : (n j : ℕ) → j < n → tab f (n - j) j ≡ f j ∷ tab f (n - (j + 1)) (j + 1)
  unfolding tab
  tab-step n j h = let q : n - j ≡ suc (n - (j + 1)) = omega arith in rw q refl

  pub tab-all : (n : ℕ) → tab f (n - 0) 0 ≡ tab f n 0
  tab-all n = rw sub-zero refl

  pub tab-done : (n j : ℕ) → n ≤ j → tab f (n - j) j ≡ []
  unfolding tab
  tab-done n j h = let q : n - j ≡ 0 = omega arith in rw q refl

  snoc : (m i : ℕ) → tab f (suc m) i ≡ tab f m i ++ f (i + m) ∷ []
  unfolding tab
  snoc zero i = rw add-zero refl
  snoc (suc m) i = let q : i + 1 + m ≡ i + suc m = omega arith in ap (λ (t : List A). f i ∷ t) (snoc m (i + 1) ∙ rw q refl)

  pub tab-snoc : (m i : ℕ) → tab f (m + 1) i ≡ tab f m i ++ f (i + m) ∷ []
  tab-snoc m i = rw add-one (snoc m i)

  pub tab-same : (g : ℕ → A) (m i : ℕ) → ((k : ℕ) → i ≤ k → k < i + m → f k ≡ g k) → tab f m i ≡ tab g m i
  unfolding tab
  tab-same g zero i h = refl
  tab-same g (suc m) i h = rw (h i (omega arith) (omega arith), tab-same g m (i + 1) (λ k a b. h k (omega arith) (omega arith))) refl

pub map-tab : {A B : Type 0} (g : A → B) (f : ℕ → A) (m i : ℕ) → map g (tab f m i) ≡ tab (λ k. g (f k)) m i
unfolding tab
map-tab g f zero i = refl
map-tab g f (suc m) i = rw (map-tab g f m (i + 1)) refl

-- ---- tabs

pub map-tabs : {A B : Type 0} (g : A → B) (f : ℕ → List A) (m i : ℕ) → map g (tabs f m i) ≡ tabs (λ k. map g (f k)) m i
unfolding tabs
map-tabs g f zero i = refl
map-tabs g f (suc m) i = map-append g (f i) (tabs f m (i + 1)) ∙ rw (map-tabs g f m (i + 1)) refl

module _ {ℓ} {A : Type ℓ} (f : ℕ → List A) where
  -- j of n are done
  pub tabs-step : (n j : ℕ) → j < n → tabs f (n - j) j ≡ f j ++ tabs f (n - (j + 1)) (j + 1)
  unfolding tabs
  tabs-step n j h = let q : n - j ≡ suc (n - (j + 1)) = omega arith in rw q refl

  pub tabs-done : (n j : ℕ) → n ≤ j → tabs f (n - j) j ≡ []
  unfolding tabs
  tabs-done n j h = let q : n - j ≡ 0 = omega arith in rw q refl

  snocs : (m i : ℕ) → tabs f (suc m) i ≡ tabs f m i ++ f (i + m)
  unfolding tabs
  snocs zero i = rw (add-zero, append-nil) refl
  snocs (suc m) i =
      let q : i + 1 + m ≡ i + suc m = omega arith in
      ap (λ (t : List A). f i ++ t) (snocs m (i + 1) ∙ rw q refl) ∙ sym (append_assoc (f i) (tabs f m (i + 1)) (f (i + suc m)))

  pub tabs-snoc : (m i : ℕ) → tabs f (m + 1) i ≡ tabs f m i ++ f (i + m)
  tabs-snoc m i = rw add-one (snocs m i)

  pub tabs-same : (g : ℕ → List A) (m i : ℕ) → ((k : ℕ) → i ≤ k → k < i + m → f k ≡ g k) → tabs f m i ≡ tabs g m i
  unfolding tabs
  tabs-same g zero i h = refl
  tabs-same g (suc m) i h = rw (h i (omega arith) (omega arith), tabs-same g m (i + 1) (λ k a b. h k (omega arith) (omega arith))) refl

-- lists of one length w behind one another: how long they are, and the j-th entry of the i-th
module _ {ℓ} {A : Type ℓ} (f : ℕ → List A) (w : ℕ) (even : (k : ℕ) → length (f k) ≡ w) where
  pub length-tabs : (m i : ℕ) → length (tabs f m i) ≡ w * m
  unfolding tabs
  length-tabs zero i = sym (mul-zero w)
  length-tabs (suc m) i = length-append (f i) (tabs f m (i + 1)) ∙ rw (even i, length-tabs m (i + 1), mul-suc) (add_comm w (w * m))

  pub get_d-tabs : (d : A) (m b i j : ℕ) → i < m → j < w → get_or (tabs f m b) (w * i + j) d ≡ get_or (f (b + i)) j d
  unfolding tabs
  get_d-tabs d zero b i j h l = absurd (omega arith)
  get_d-tabs d (suc m) b zero j h l =
      let q : w * 0 + j ≡ j = omega (arith, mul-zero w) in
      let z : b + 0 ≡ b = add-zero b in
      rw (q, z) (get_or-append (f b) (tabs f m (b + 1)) d j (omega (arith, even b)))
  get_d-tabs d (suc m) b (suc i) j h l =
      let q : w * suc i + j ≡ length (f b) + (w * i + j) = omega (arith, mul-suc w i, even b) in
      let z : b + 1 + i ≡ b + suc i = omega arith in
      rw q (get_or-append-add (f b) (tabs f m (b + 1)) (w * i + j) d) ∙ get_d-tabs d m (b + 1) i j (omega arith) l ∙ rw z refl

-- within a list, what stands behind its end does not matter
pub any-default {ℓ} : {A : Type ℓ} (l : List A) (i : ℕ) (d e : A) → i < length l → get_or l i d ≡ get_or l i e
any-default [] i d e h = absurd (omega arith)
any-default (x ∷ l) zero d e h = refl
any-default (x ∷ l) (suc i) d e h = any-default l i d e (omega arith)

-- ---- the first k of m entries, made up

module _ {A : Type 0} (z : A) (f : ℕ → A) (m k : ℕ) where
  pub padding-size : k ≤ m → length (padded m z (tab f k 0)) ≡ m
  padding-size h =
      let e = length-tab f k 0 in
      length-append (tab f k 0) (replicate (m - length (tab f k 0)) z) ∙ rw (length-replicate (m - length (tab f k 0)) z) (omega arith)

  pub padding-at : (i : ℕ) → i < k → get_or (padded m z (tab f k 0)) i z ≡ f i
  padding-at i h =
      get_or-append (tab f k 0) (replicate (m - length (tab f k 0)) z) z i (omega (arith, length-tab f k 0))
      ∙ get_d-tab f z k 0 i h ∙ rw zero-add refl

-- the same of signed numbers, made up by 0
module _ (f : ℕ → ℤ) (m k : ℕ) where
  pub padded-size : k ≤ m → length (padded m (pos 0) (tab f k 0)) ≡ m
  padded-size h = padding-size (pos 0) f m k h

  pub padded-at : (i : ℕ) → i < k → at (padded m (pos 0) (tab f k 0)) i ≡ f i
  padded-at i h = padding-at (pos 0) f m k i h

-- ---- arrays filled from the front

-- of m entries those from i on are z
pub record FilledBy {A : Type 0} (z : A) (m i : ℕ) (l : List A) : Type 0 where
  pub size : length l ≡ m
  pub rest : (k : ℕ) → i ≤ k → get_or l k z ≡ z

-- of m entries those from i on are 0
abbrev pub Filled : ℕ → ℕ → List ℤ → Type 0
Filled m i l = FilledBy (pos 0) m i l

module _ {A : Type 0} (z : A) where
  pub filling-none : (m : ℕ) → FilledBy z m 0 (replicate m z)
  filling-none m = record { size = length-replicate m z; rest = λ k h. same m k }
    where
      same : (m k : ℕ) → get_or (replicate m z) k z ≡ z
      same zero k = refl
      same (suc m) zero = refl
      same (suc m) (suc k) = same m k

  -- below the place of a store nothing changes
  pub get_d-below : (l : List A) (i : ℕ) (v : A) (k : ℕ) → k < i → get_or (set l i v) k z ≡ get_or l k z
  get_d-below l i v k h = get_or-set_other l i k v z (λ e. absurd (omega arith))

  -- one more is filled
  pub filling-more : {m i : ℕ} {l : List A} (v : A) → FilledBy z m i l → FilledBy z m (i + 1) (set l i v)
  filling-more {m} {i} {l} v f = record {
    size = length-set l i v ∙ f.size;
    rest = λ k h. get_or-set_other l i k v z (λ e. absurd (omega arith)) ∙ f.rest k (omega arith);
  }

-- the same of signed numbers
pub filled_none : (m : ℕ) → Filled m 0 (replicate m (pos 0))
filled_none m = filling-none (pos 0) m

pub at-below : (l : List ℤ) (i : ℕ) (v : ℤ) (k : ℕ) → k < i → at (set l i v) k ≡ at l k
at-below l i v k h = get_d-below (pos 0) l i v k h

pub filled_more : {m i : ℕ} {l : List ℤ} (v : ℤ) → Filled m i l → Filled m (i + 1) (set l i v)
filled_more v f = filling-more (pos 0) v f

pub at_stored : (l : List ℤ) (i : ℕ) (v : ℤ) → i < length l → at (set l i v) i ≡ v
at_stored l i v h = get_or-set_same l i v (pos 0) h

pub tab-stored : (l : List ℤ) (i : ℕ) (v : ℤ) → i < length l → tab (at (set l i v)) (i + 1) 0 ≡ tab (at l) i 0 ++ v ∷ []
tab-stored l i v h =
    let q : 0 + i ≡ i = zero-add i in
    let new : at (set l i v) (0 + i) ≡ v = rw q (at_stored l i v h) in
    tab-snoc (at (set l i v)) i 0 ∙ rw (tab-same (at (set l i v)) (at l) i 0 (λ k a b. at-below l i v k (omega arith)), new) refl

-- such an array is its first entries, made up
pub filling-padded : {A : Type 0} (z : A) {m i : ℕ} {l : List A} → FilledBy z m i l → i ≤ m → padded m z (tab (λ k. get_or l k z) i 0) ≡ l
filling-padded {A} z {m} {i} {l} f h = ext_get_or z (padded m z front) l (long ∙ sym f.size) (λ k g. same k (dec_lt k i) (omega (arith, long)))
  where
    front : List A
    front = tab (λ k. get_or l k z) i 0

    width : length front ≡ i
    width = length-tab (λ k. get_or l k z) i 0

    long : length (padded m z front) ≡ m
    long = padding-size z (λ k. get_or l k z) m i h

    same : (k : ℕ) → Dec (k < i) → k < m → get_or (padded m z front) k z ≡ get_or l k z
    same k (yes a) g = padding-at z (λ k. get_or l k z) m i k a
    same k (no a) g =
        let e : length front + (k - i) ≡ k = omega (arith, width) in
        ap (λ (c : ℕ). get_or (padded m z front) c z) (sym e) ∙ get_or-append-add front (replicate (m - length front) z) (k - i) z
        ∙ get_or-replicate (m - length front) (k - i) z z (omega (arith, width)) ∙ sym (f.rest k (omega arith))

pub filled-padded : {m i : ℕ} {l : List ℤ} → Filled m i l → i ≤ m → padded m (pos 0) (tab (at l) i 0) ≡ l
filled-padded f h = filling-padded (pos 0) f h
