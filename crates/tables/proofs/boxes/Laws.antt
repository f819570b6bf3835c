-- Laws of boxes for the proofs of module boxes and of its callers: the x-th child of a box by the bits of x, and how many there are; small boxes;
-- the tests of a box, dimension by dimension. Assumes nothing.
use Prim.Native.Nat.{ℕ, zero, suc, ◌+◌, ◌-◌, ◌*◌, ◌/◌, ◌%◌, ◌^◌, ◌≤◌, ◌<◌}
use mathlib.Core.Path.{◌≡◌, refl, sym, ap, ◌∙◌}
use mathlib.Core.Bool.{Bool, true, false, ◌||◌, cond}
use mathlib.Core.List.{List, [], ◌∷◌, ◌++◌, map, append_assoc, append-nil}
use native.Mathlib.Omega.{arith}
use native.Mathlib.Numerals.{add-one}
use native.Mathlib.Decide.{ℕ_discrete}
use native.Mathlib.Nat.{mul_assoc, mul_comm, pow-suc, zero-add}
use lib.Pow.{pow_mono}
use lib.Dec.{eqb}
use lib.ListN.{length, get_or, set, length-append}
use lib.IntN.{ℤ, pos, nat_abs, ◌+ℤ◌}
use lib.Signed.{◌≤ℤ◌, lt_z}
use Rattle.laws.specs.Integers.{zarith, add, abs, apart}
use Rattle.laws.specs.Lists.{at, tab}
use Rattle.laws.specs.Tabs.{tab-step, tab-done, tab-snoc, tab-same, at-below, at_stored}
use Rattle.meaning.specs.Boxes.{Side, side, side_at, has, fits, covers, lies, long, middle, in_front, pieces, any_long, children}
use Rattle.promises.specs.Tables.Boxes.{middle-in}
use Rattle.tables.specs.Boxes.{Small, lower, upper, piece_of, rest_of}
use Rattle.promises.specs.Files.Sound.{Bounded}

-- ---- boxes by their number

-- the x-th child, and the number of the pieces
unfoldable pub child_at : List Side → ℕ → List Side
child_at [] x = []
child_at (s ∷ ss) x = piece_of s x ∷ child_at ss (rest_of s x)

unfoldable pub count_of : List Side → ℕ
count_of [] = 1
count_of (s ∷ ss) = cond (long s) (2 * count_of ss) (count_of ss)

two : (a b : Side) (rs : List (List Side)) (x : ℕ) → x < 2 * length rs → get_or (in_front (a ∷ b ∷ []) rs) x [] ≡ cond (eqb (x % 2) 0) a b ∷ get_or rs (x / 2) []
unfolding in_front
two a b [] x h = absurd (omega arith)
two a b (r ∷ rs) zero h = refl
two a b (r ∷ rs) (suc zero) h = refl
two a b (r ∷ rs) (suc (suc x)) h =
    let q : suc (suc x) % 2 ≡ x % 2 = omega arith in
    let d : suc (suc x) / 2 ≡ suc (x / 2) = omega arith in
    rw (q, d) (two a b rs x (omega arith))

one : (a : Side) (rs : List (List Side)) (x : ℕ) → x < length rs → get_or (in_front (a ∷ []) rs) x [] ≡ a ∷ get_or rs x []
unfolding in_front
one a [] x h = absurd (omega arith)
one a (r ∷ rs) zero h = refl
one a (r ∷ rs) (suc x) h = one a rs x (omega arith)

front_length : (hs : List Side) (rs : List (List Side)) → length (in_front hs rs) ≡ length hs * length rs
unfolding in_front
front_length hs [] = omega arith
front_length hs (r ∷ rs) = length-append (map (λ h. h ∷ r) hs) (in_front hs rs) ∙ rw (heads hs r, front_length hs rs) (omega arith)
  where
    heads : (hs : List Side) (r : List Side) → length (map (λ h. h ∷ r) hs) ≡ length hs
    heads [] r = refl
    heads (h ∷ hs) r = ap suc (heads hs r)

pub pieces-length : (b : List Side) → length (pieces b) ≡ count_of b
unfolding pieces count_of
pieces-length [] = refl
pieces-length (s ∷ ss) = go (long s) (pieces-length ss)
  where
    go : (t : Bool) → length (pieces ss) ≡ count_of ss → length (in_front (cond t (lower s ∷ upper s ∷ []) (s ∷ [])) (pieces ss)) ≡ cond t (2 * count_of ss) (count_of ss)
    go true e = front_length (lower s ∷ upper s ∷ []) (pieces ss) ∙ rw e (omega arith)
    go false e = front_length (s ∷ []) (pieces ss) ∙ rw e (omega arith)

pieces-at : (b : List Side) (x : ℕ) → x < count_of b → get_or (pieces b) x [] ≡ child_at b x
unfolding pieces count_of child_at
pieces-at [] x h = let q : x ≡ 0 = omega arith in rw q refl
pieces-at (s ∷ ss) x h = go (long s) h (λ y. pieces-at ss y)
  where
    go : (t : Bool) → x < cond t (2 * count_of ss) (count_of ss) → ((y : ℕ) → y < count_of ss → get_or (pieces ss) y [] ≡ child_at ss y)
        → get_or (in_front (cond t (lower s ∷ upper s ∷ []) (s ∷ [])) (pieces ss)) x [] ≡ cond t (cond (eqb (x % 2) 0) (lower s) (upper s)) s ∷ child_at ss (cond t (x / 2) x)
    go true l f = two (lower s) (upper s) (pieces ss) x (omega (arith, pieces-length ss)) ∙ rw (f (x / 2) (omega arith)) refl
    go false l f = one s (pieces ss) x (omega (arith, pieces-length ss)) ∙ rw (f x l) refl

-- one piece alone where no side is long, and else more
abbrev Agrees : Bool → ℕ → Type 0
Agrees true m = 2 ≤ m
Agrees false m = m ≡ 1

some : (t : Bool) (m : ℕ) → Agrees t m → 1 ≤ m
some true m h = omega arith
some false m h = omega arith

count_long : (b : List Side) → Agrees (any_long b) (count_of b)
unfolding count_of any_long
count_long [] = refl
count_long (s ∷ ss) = go (long s) (count_long ss)
  where
    go : (t : Bool) → Agrees (any_long ss) (count_of ss) → Agrees (t || any_long ss) (cond t (2 * count_of ss) (count_of ss))
    go true h = omega (arith, some (any_long ss) (count_of ss) h)
    go false h = h

module _ (b : List Side) where
  pub none-long : count_of b ≡ 1 → any_long b ≡ false
  none-long e = go (any_long b) (count_long b)
    where
      go : (t : Bool) → Agrees t (count_of b) → t ≡ false
      go true h = absurd (omega arith)
      go false h = refl

  pub some-long : (count_of b ≡ 1 → ⊥) → any_long b ≡ true
  some-long e = go (any_long b) (count_long b)
    where
      go : (t : Bool) → Agrees t (count_of b) → t ≡ true
      go true h = refl
      go false h = absurd (e h)

  pub children-none : count_of b ≡ 1 → children b ≡ []
  unfolding children
  children-none e = rw (none-long e) refl

  pub children-some : (count_of b ≡ 1 → ⊥) → children b ≡ pieces b
  unfolding children
  children-some e = rw (some-long e) refl

  pub count-one : count_of b ≡ 1 → 0 ≡ length (children b)
  count-one e = rw (children-none e) refl

  pub count-more : (count_of b ≡ 1 → ⊥) → count_of b ≡ length (children b)
  count-more e = rw (children-some e) (sym (pieces-length b))

  pub children-at : (x : ℕ) → x < length (children b) → get_or (children b) x [] ≡ child_at b x
  children-at x h = go (ℕ_discrete (count_of b) 1)
    where
      go : Dec (count_of b ≡ 1) → get_or (children b) x [] ≡ child_at b x
      go (yes e) = absurd (omega (arith, ap length (children-none e)))
      go (no e) = rw (children-some e) (pieces-at b x (omega (arith, ap length (children-some e), pieces-length b)))

-- ---- two sides of the same edges

pub same-side : {a b x y : ℤ} → a ≡ x → b ≡ y → side a b ≡ side x y
same-side e f = rw (e, f) refl

-- ---- small boxes

pub small_at : {k : ℕ} (f : ℕ → Side) (m i j : ℕ) → Small k (tab f m i) → i ≤ j → j < i + m → Bounded k (f j)
unfolding tab Small
small_at f zero i j s l h = absurd (omega arith)
small_at {k} f (suc m) i j s l h = go (ℕ_discrete j i) s.0 (λ e. small_at f m (i + 1) j s.1 (omega arith) (omega arith))
  where
    go : Dec (j ≡ i) → Bounded k (f i) → ((j ≡ i → ⊥) → Bounded k (f j)) → Bounded k (f j)
    go (yes e) t r = rw e t
    go (no e) t r = r e

pub small-tab : {k : ℕ} (f : ℕ → Side) (m i : ℕ) → ((j : ℕ) → i ≤ j → j < i + m → Bounded k (f j)) → Small k (tab f m i)
unfolding tab Small
small-tab f zero i h = tt
small-tab f (suc m) i h = (h i (omega arith) (omega arith), small-tab f m (i + 1) (λ j a b. h j (omega arith) (omega arith)))

pub small-side : {k : ℕ} (lo hi : List ℤ) (n j : ℕ) → Small k (tab (side_at lo hi) n 0) → j < n → Bounded k (side_at lo hi j)
small-side lo hi n j s h = small_at (side_at lo hi) n 0 j s (omega arith) (omega arith)

-- an edge between two others
pub between : {k : ℕ} (a b z : ℤ) → nat_abs a ≤ k → nat_abs b ≤ k → a ≤ℤ z → z ≤ℤ b → nat_abs z ≤ k
between a b z g h l m = omega (zarith, abs a, abs b, abs z, apart z)

-- the halves of a long side
module _ {k : ℕ} {a : Side} (e : long a ≡ true) (g : Bounded k a) where
  pub small-lower : Bounded k (lower a)
  small-lower =
      let m = middle-in a e in
      record { low = g.low; high = between a.lo a.hi (middle a) g.low g.high m.0 (omega (zarith, m)); order = m.0 }

  pub small-upper : Bounded k (upper a)
  small-upper =
      let m = middle-in a e in
      let o : (middle a +ℤ pos 1) ≤ℤ a.hi = omega (zarith, m, add (middle a) (pos 1)) in
      record { low = between a.lo a.hi (middle a +ℤ pos 1) g.low g.high (omega (zarith, m, add (middle a) (pos 1))) o; high = g.high; order = o }

small-child : (k : ℕ) (b : List Side) (x : ℕ) → Small k b → Small k (child_at b x)
unfolding Small child_at
small-child k [] x s = tt
small-child k (a ∷ b) x s = (go (long a) refl (eqb (x % 2) 0), small-child k b (rest_of a x) s.1)
  where
    go : (t : Bool) → long a ≡ t → (w : Bool) → Bounded k (cond t (cond w (lower a) (upper a)) a)
    go false e w = s.0
    go true e true = small-lower e s.0
    go true e false = small-upper e s.0

-- a child of a small box is small where all long sides are halved
pub small_all : (k : ℕ) (b : List Side) (x : ℕ) → x < length (children b) → Small k b → Small k (get_or (children b) x [])
small_all k b x h s = rw (children-at b x h) (small-child k b x s)

-- ---- the loops

-- one more side is stored
module _ (lo hi : List ℤ) (j : ℕ) (u v : ℤ) (h : j < length lo) (k : j < length hi) where
  kept : (i : ℕ) → 0 ≤ i → i < 0 + j → side_at (set lo j u) (set hi j v) i ≡ side_at lo hi i
  kept i a l = rw (at-below lo j u i (omega arith), at-below hi j v i (omega arith)) refl

  new : side_at (set lo j u) (set hi j v) (0 + j) ≡ side u v
  new = rw (zero-add, at_stored lo j u h, at_stored hi j v k) refl

  pub sides-stored : tab (side_at (set lo j u) (set hi j v)) (j + 1) 0 ≡ tab (side_at lo hi) j 0 ++ side u v ∷ []
  sides-stored =
      tab-snoc (side_at (set lo j u) (set hi j v)) j 0 ∙ rw (tab-same (side_at (set lo j u) (set hi j v)) (side_at lo hi) j 0 kept, new) refl

-- of a child of the box bl, bh the first j sides stand in lo, hi; the others are cut by the bits that are left
abbrev pub Cut : List ℤ → List ℤ → List ℤ → List ℤ → ℕ → ℕ → ℕ → List Side → Type 0
Cut bl bh lo hi n j bits whole = tab (side_at lo hi) j 0 ++ child_at (tab (side_at bl bh) (n - j) j) bits ≡ whole

pub cut-none : (bl bh lo hi : List ℤ) (n bits : ℕ) → Cut bl bh lo hi n 0 bits (child_at (tab (side_at bl bh) n 0) bits)
unfolding tab
cut-none bl bh lo hi n bits = let q : n - 0 ≡ n = omega arith in rw q refl

module _ (bl bh lo hi : List ℤ) (n j bits : ℕ) (whole : List Side) where
  pub cut-done : j ≡ n → Cut bl bh lo hi n j bits whole → tab (side_at lo hi) n 0 ≡ whole
  unfolding child_at
  cut-done e c =
      let d = rw (tab-done (side_at bl bh) n j (omega arith), append-nil (tab (side_at lo hi) j 0)) at c in
      rw (← e) d

  pub cut-more : (u v : ℤ) (y : ℕ) → j < n → j < length lo → j < length hi → side u v ≡ piece_of (side_at bl bh j) bits
      → y ≡ rest_of (side_at bl bh j) bits → Cut bl bh lo hi n j bits whole → Cut bl bh (set lo j u) (set hi j v) n (j + 1) y whole
  unfolding child_at
  cut-more u v y p g h e f c =
      rw (sides-stored lo hi j u v g h, append_assoc (tab (side_at lo hi) j 0) (side u v ∷ []) (child_at (tab (side_at bl bh) (n - (j + 1)) (j + 1)) y), e, f)
      (rw (tab-step (side_at bl bh) n j p) at c)

-- the count, with j sides behind it
module _ (lo hi : List ℤ) (n j : ℕ) where
  pub count-end : n ≤ j → count_of (tab (side_at lo hi) (n - j) j) ≡ 1
  unfolding count_of
  count-end h = rw (tab-done (side_at lo hi) n j h) refl

  module _ (h : j < n) where
    pub count-twice : lt_z (at lo j) (at hi j) ≡ true → count_of (tab (side_at lo hi) (n - j) j) ≡ 2 * count_of (tab (side_at lo hi) (n - (j + 1)) (j + 1))
    unfolding count_of
    count-twice e = rw (tab-step (side_at lo hi) n j h) (simp e)

    pub count_same : lt_z (at lo j) (at hi j) ≡ false → count_of (tab (side_at lo hi) (n - j) j) ≡ count_of (tab (side_at lo hi) (n - (j + 1)) (j + 1))
    unfolding count_of
    count_same e = rw (tab-step (side_at lo hi) n j h) (simp e)

pub pow_small : (j : ℕ) → j < 4 → 2 ^ j ≤ 8
pow_small j h = pow_mono {i = j} {j = 3} (omega arith)

pub pow-next : (j : ℕ) → 2 ^ (j + 1) ≡ 2 * 2 ^ j
pow-next j = rw add-one (pow-suc 2 j ∙ mul_comm (2 ^ j) 2)

pub twice : (k c d r : ℕ) → c ≡ 2 * d → k * c ≡ r → k * 2 * d ≡ r
twice k c d r e f = mul_assoc k 2 d ∙ rw (← e) f

-- the tests of a reading in a box and of a box in a box, as lists of tests by dimension
abbrev pub holds_at : List ℤ → List ℤ → List ℤ → ℕ → Bool
holds_at lo hi x j = has (side_at lo hi j) (at x j)

abbrev pub covers_at : List ℤ → List ℤ → List ℤ → List ℤ → ℕ → Bool
covers_at al ah bl bh j = covers (side_at bl bh j) (side_at al ah j)

pub fits-tab : (f : ℕ → Side) (g : ℕ → ℤ) (m i : ℕ) → fits (tab f m i) (tab g m i) ≡ tab (λ j. has (f j) (g j)) m i
unfolding tab fits
fits-tab f g zero i = refl
fits-tab f g (suc m) i = rw (fits-tab f g m (i + 1)) refl

pub lies-tab : (f g : ℕ → Side) (m i : ℕ) → lies (tab f m i) (tab g m i) ≡ tab (λ j. covers (g j) (f j)) m i
unfolding tab lies
lies-tab f g zero i = refl
lies-tab f g (suc m) i = rw (lies-tab f g m (i + 1)) refl
