-- Laws of images for the proofs of module images and of its callers: a term by its sign and by its parts, and that both say the same; the sum of a
-- row's terms; the sides of an image; and that an image inside S is a small box again. Assumes nothing.
use Prim.Native.Nat.{ℕ, zero, suc, ◌+◌, ◌*◌, ◌≤◌, ◌<◌}
use mathlib.Core.Path.{◌≡◌, refl, sym, ap, ◌∙◌}
use mathlib.Core.Bool.{true}
use mathlib.Core.List.{List, [], ◌∷◌, ◌++◌}
use native.Mathlib.Omega.{arith}
use borrow.Author.Tests.{le-leb}
use native.Mathlib.Nat.{mul-le-mul, mul-le-mul_left, zero-add}
use lib.ListN.{length, set}
use lib.IntN.{ℤ, pos, negsuc, nat_abs, ◌+ℤ◌, ◌-ℤ◌, ◌*ℤ◌, +ℤ_assoc, +ℤ_idl, +ℤ_idr, zero-*ℤ}
use lib.Signed.{◌≤ℤ◌, ◌<ℤ◌, ≤ℤ_refl}
use Rattle.std.specs.Int.{int_min}
use Rattle.laws.specs.Integers.{zarith, of_le, add, sub, mul, abs-add, abs-mul}
use Rattle.laws.specs.Division.{floor_z, ceil_z}
use Rattle.laws.specs.DivisionLaws.{ceil-floor}
use Rattle.laws.specs.Lists.{at, tab, all}
use Rattle.laws.specs.Tabs.{length-tab, tab-snoc, map-tab}
use Rattle.laws.specs.Tests.{orders, all-tab}
use Rattle.meaning.specs.Boxes.{Side, side, side_at, covers, within}
use Rattle.meaning.specs.Images.{Row, least_of, greatest_of, extreme, image_side, image}
use Rattle.meaning.specs.Plants.{edge_limit, band_limit, entry_limit, band_start, band_side}
use Rattle.tables.specs.declared.frames.Frame.{Frame}
use Rattle.tables.specs.Boxes.{box_of, Small}
use Rattle.promises.specs.Files.Sound.{Bounded}
use Rattle.tables.specs.Images.{positive_part, negative_part, term_limit, row_limit, entry_at, entries_of, row_from, step_from, RowSound, BandSound, Extremes}
use Rattle.tables.specs.Frames.{PlantSound}
use Rattle.tables.proofs.boxes.Laws.{small_at, small-tab, small-side, between, sides-stored, lies-tab}

-- ---- one term: by the sign of a; and the greatest is the least of the turned side

above : (Q : ℤ → Type 0) → ((m : ℕ) → Q (pos m)) → (a : ℤ) → pos 0 ≤ℤ a → Q a
above Q f (pos m) k = f m
above Q f (negsuc m) k = absurd k.le

below : (Q : ℤ → Type 0) → ((m : ℕ) → Q (negsuc m)) → (a : ℤ) → a <ℤ pos 0 → Q a
below Q f (pos m) k = absurd (none k)
  where
    none : {m : ℕ} → pos m <ℤ pos 0 → ⊥
    none {m} k = omega zarith
below Q f (negsuc m) k = f m

module _ (a l h : ℤ) where
  pub least_above : pos 0 ≤ℤ a → (a *ℤ l ≡ least_of a (side l h)) × (a *ℤ h ≡ greatest_of a (side l h))
  least_above = above (λ z. (z *ℤ l ≡ least_of z (side l h)) × (z *ℤ h ≡ greatest_of z (side l h))) (λ m. (refl, refl)) a

  pub least-below : a <ℤ pos 0 → (a *ℤ h ≡ least_of a (side l h)) × (a *ℤ l ≡ greatest_of a (side l h))
  least-below = below (λ z. (z *ℤ h ≡ least_of z (side l h)) × (z *ℤ l ≡ greatest_of z (side l h))) (λ m. (refl, refl)) a

turned : (a : ℤ) (s : Side) → least_of a (side s.hi s.lo) ≡ greatest_of a s
turned (pos a) s = refl
turned (negsuc a) s = refl

-- ---- the same term by parts: the positive part times one edge and the negative part times the other say what the sign says

pub min-negative : (a : ℤ) → int_min a (pos 0) ≡ negative_part a
min-negative (pos zero) = refl
min-negative (pos (suc a)) = simp (le-leb 1 (suc a) (omega arith))
min-negative (negsuc a) = refl

positive-left : (a : ℤ) → a -ℤ negative_part a ≡ positive_part a
positive-left (pos a) = omega (zarith, sub (pos a) (pos 0))
positive-left (negsuc a) = omega (zarith, sub (negsuc a) (negsuc a))

parts-least : (a l h : ℤ) → positive_part a *ℤ l +ℤ negative_part a *ℤ h ≡ least_of a (side l h)
parts-least (pos a) l h = rw (zero-*ℤ h) (+ℤ_idr (pos a *ℤ l))
parts-least (negsuc a) l h = rw (zero-*ℤ l) (+ℤ_idl (negsuc a *ℤ h))

parts-greatest : (a l h : ℤ) → positive_part a *ℤ h +ℤ negative_part a *ℤ l ≡ greatest_of a (side l h)
parts-greatest a l h = parts-least a h l ∙ turned a (side l h)

-- of n that is a's negative part: how large it is, and both terms added to z part by part
module _ {n : ℤ} (a : ℤ) (e : n ≡ negative_part a) where
  pub negative-small : {k : ℕ} → nat_abs a ≤ k → nat_abs n ≤ k
  negative-small {k} f = rw e (go a f)
    where
      go : (a : ℤ) → nat_abs a ≤ k → nat_abs (negative_part a) ≤ k
      go (pos a) f = omega arith
      go (negsuc a) f = f

  pub parts_added : (z l h : ℤ) → (z +ℤ (a -ℤ n) *ℤ l +ℤ n *ℤ h ≡ z +ℤ least_of a (side l h)) × (z +ℤ (a -ℤ n) *ℤ h +ℤ n *ℤ l ≡ z +ℤ greatest_of a (side l h))
  parts_added z l h = rw (e, positive-left a) (
    +ℤ_assoc z (positive_part a *ℤ l) (negative_part a *ℤ h) ∙ ap (λ (t : ℤ). z +ℤ t) (parts-least a l h),
    +ℤ_assoc z (positive_part a *ℤ h) (negative_part a *ℤ l) ∙ ap (λ (t : ℤ). z +ℤ t) (parts-greatest a l h),
  )

-- ---- how large a term is

abs-least : {m k : ℕ} (a : ℤ) (s : Side) → nat_abs a ≤ m → nat_abs s.lo ≤ k → nat_abs s.hi ≤ k → nat_abs (least_of a s) ≤ m * k
abs-least (pos a) s f g h = omega (zarith, abs-mul (pos a) s.lo, mul-le-mul f g)
abs-least (negsuc a) s f g h = omega (zarith, abs-mul (negsuc a) s.hi, mul-le-mul f h)

pub least-small : (a : ℤ) (s : Side) → nat_abs a ≤ entry_limit → Bounded edge_limit s → nat_abs (least_of a s) ≤ term_limit
least-small a s f b = abs-least a s f b.low b.high

pub greatest-small : (a : ℤ) (s : Side) → nat_abs a ≤ entry_limit → Bounded edge_limit s → nat_abs (greatest_of a s) ≤ term_limit
greatest-small a s f b = rw (← turned a s) (abs-least a (side s.hi s.lo) f b.high b.low)

-- ---- the sum of the first j terms: stated once for the least and the greatest

pub record Summed (of : ℤ → Side → ℤ) (es : ℕ → ℤ) (ss : ℕ → Side) (j : ℕ) (z : ℤ) : Type 0 where
  pub small : nat_abs z ≤ term_limit * j
  pub sum : z ≡ extreme of (tab es j 0) (tab ss j 0)

-- one term behind lists of one length
extreme-behind : (of : ℤ → Side → ℤ) (es : List ℤ) (ss : List Side) (a : ℤ) (s : Side) → length es ≡ length ss → extreme of (es ++ a ∷ []) (ss ++ s ∷ []) ≡ extreme of es ss +ℤ of a s
unfolding extreme
extreme-behind of [] [] a s q = +ℤ_idr (of a s) ∙ sym (+ℤ_idl (of a s))
extreme-behind of [] (t ∷ ss) a s q = absurd (omega arith)
extreme-behind of (e ∷ es) [] a s q = absurd (omega arith)
extreme-behind of (e ∷ es) (t ∷ ss) a s q =
    ap (λ (z : ℤ). of e t +ℤ z) (extreme-behind of es ss a s (omega arith)) ∙ sym (+ℤ_assoc (of e t) (extreme of es ss) (of a s))

module _ (of : ℤ → Side → ℤ) (es : ℕ → ℤ) (ss : ℕ → Side) where
  summed-none : Summed of es ss 0 (pos 0)
  unfolding extreme tab
  summed-none = record { small = omega arith; sum = refl }

  summed-more : (j : ℕ) (z y : ℤ) → Summed of es ss j z → nat_abs (of (es j) (ss j)) ≤ term_limit → y ≡ z +ℤ of (es j) (ss j) → Summed of es ss (j + 1) y
  summed-more j z y s k e =
      let q : 0 + j ≡ j = zero-add j in
      let l : length (tab es j 0) ≡ length (tab ss j 0) = length-tab es j 0 ∙ sym (length-tab ss j 0) in
      record {
        small = rw e (omega (arith, s.small, abs-add z (of (es j) (ss j))));
        sum = e ∙ ap (λ (x : ℤ). x +ℤ of (es j) (ss j)) s.sum ∙ sym (extreme-behind of (tab es j 0) (tab ss j 0) (es j) (ss j) l)
            ∙ sym (rw (tab-snoc es j 0, tab-snoc ss j 0, q) refl);
      }

-- both sums over the first j rooms of the row that starts at `start`, and what is asked for one room more
module _ (n : ℕ) (coef : List ℤ) (start : ℕ) (ss : ℕ → Side) where
  abbrev pub Sums : ℕ → ℤ → ℤ → Type 0
  Sums j lo hi = Summed least_of (entry_at coef start) ss j lo × Summed greatest_of (entry_at coef start) ss j hi

  pub sums_none : Sums 0 (pos 0) (pos 0)
  sums_none = (summed-none least_of (entry_at coef start) ss, summed-none greatest_of (entry_at coef start) ss)

  pub sums-done : (j : ℕ) (lo hi : ℤ) → n ≡ j → j ≤ 4 → Sums j lo hi → Extremes (entries_of n coef start) (tab ss n 0) lo hi
  sums-done j lo hi q h w = record {
    least = rw q w.0.sum;
    greatest = rw q w.1.sum;
    low = omega (arith, w.0.small);
    high = omega (arith, w.1.small);
  }

  module _ (r : RowSound n coef start) (small : Small edge_limit (tab ss n 0)) (j : ℕ) (h : j < n) where
    bounded : Bounded edge_limit (ss j)
    bounded = small_at ss n 0 j small (omega arith) (omega arith)

    pub sums-more : (x y lo hi : ℤ) → Sums j x y → (lo ≡ x +ℤ least_of (entry_at coef start j) (ss j)) × (hi ≡ y +ℤ greatest_of (entry_at coef start j) (ss j)) → Sums (j + 1) lo hi
    sums-more x y lo hi w e = (
      summed-more least_of (entry_at coef start) ss j x lo w.0 (least-small (entry_at coef start j) (ss j) (r.entries j h) bounded) e.0,
      summed-more greatest_of (entry_at coef start) ss j y hi w.1 (greatest-small (entry_at coef start j) (ss j) (r.entries j h) bounded) e.1,
    )

    pub sums-place : (j < 4) × (start + j < length coef)
    sums-place = (omega (arith, r.rooms), omega (arith, r.inside))

    pub sums-asked : (lo hi : ℤ) → Sums j lo hi → ((nat_abs (entry_at coef start j) ≤ entry_limit) × Bounded edge_limit (ss j)) × ((nat_abs lo ≤ row_limit) × (nat_abs hi ≤ row_limit))
    sums-asked lo hi w = let f = r.rooms in ((r.entries j h, bounded), (omega (arith, w.0.small), omega (arith, w.1.small)))

-- ---- the band of mode u in dimension i, read at its place

module _ (n : ℕ) (bands : List ℤ) (u i place : ℕ) (e : place ≡ band_start n u i) where
  abbrev pub band_here : Side
  band_here = side (at bands place) (at bands (place + 1))

  pub band-here : band_here ≡ band_side n bands u i
  band-here = rw e refl

  module _ (g : BandSound n bands u i) where
    pub band-small : Bounded band_limit band_here
    band-small = rw e g.ends

    pub band-inside : place + 1 < length bands
    band-inside = rw e g.inside

-- ---- the image, side by side

-- one side, of what the calls answer
pub side-is : {es : List ℤ} {b : List Side} {lo hi : ℤ} (x y o wl wh : ℤ) (q : ℕ) → Extremes es b lo hi → x ≡ ceil_z (lo +ℤ o +ℤ wl) q → y ≡ floor_z (hi +ℤ o +ℤ wh) q
    → side x y ≡ image_side q b (record { entries = es; offset = o; low = wl; high = wh })
side-is x y o wl wh q e f g = rw (f, g, e.least, e.greatest) refl

-- side i of the image of b
abbrev pub image_side_at : ℕ → ℕ → List ℤ → List ℤ → ℕ → List Side → ℕ → Side
image_side_at n q bands coef u b i = image_side q b (row_from n bands coef u i)

pub image-tab : (n q : ℕ) (bands coef : List ℤ) (u : ℕ) (b : List Side) → image (step_from n q bands coef u) b ≡ tab (image_side_at n q bands coef u b) n 0
unfolding image
image-tab n q bands coef u b = map-tab (image_side q b) (row_from n bands coef u) n 0

-- one more side is stored
pub image-more : (f : ℕ → Side) (lo hi : List ℤ) (i : ℕ) (x y : ℤ) → i < length lo → i < length hi → side x y ≡ f i → tab (side_at lo hi) i 0 ≡ tab f i 0
    → tab (side_at (set lo i x) (set hi i y)) (i + 1) 0 ≡ tab f (i + 1) 0
image-more f lo hi i x y h k e t =
    let q : 0 + i ≡ i = zero-add i in
    sides-stored lo hi i x y h k ∙ rw (e, t) (sym (tab-snoc f i 0 ∙ rw q refl))

pub image-done : (f : ℕ → Side) (lo hi : List ℤ) (n i : ℕ) → i ≡ n → tab (side_at lo hi) i 0 ≡ tab f i 0 → tab (side_at lo hi) n 0 ≡ tab f n 0
image-done f lo hi n i q e = rw q at e

-- ---- an image that lies in S is small again: its edges lie between those of S, and the band rule keeps them in order

least-greatest : (a : ℤ) (s : Side) → s.lo ≤ℤ s.hi → least_of a s ≤ℤ greatest_of a s
least-greatest (pos a) s h = omega (zarith, mul (pos a) s.lo, mul (pos a) s.hi, mul-le-mul_left a (of_le h))
least-greatest (negsuc a) s h = omega (zarith, mul (negsuc a) s.lo, mul (negsuc a) s.hi, mul-le-mul_left (suc a) (of_le h))

extreme-order : (k : ℕ) (es : List ℤ) (b : List Side) → Small k b → extreme least_of es b ≤ℤ extreme greatest_of es b
unfolding extreme Small
extreme-order k [] b s = ≤ℤ_refl (pos 0)
extreme-order k (a ∷ es) [] s = ≤ℤ_refl (pos 0)
extreme-order k (a ∷ es) (x ∷ b) s =
    omega (zarith, of_le (extreme-order k es b s.1), of_le (least-greatest a x s.0.order), add (least_of a x) (extreme least_of es b), add (greatest_of a x) (extreme greatest_of es b))

side-order : (k q : ℕ) (b : List Side) (r : Row) → Small k b → 1 ≤ q → (pos q -ℤ pos 1) ≤ℤ (r.high -ℤ r.low) → (image_side q b r).lo ≤ℤ (image_side q b r).hi
side-order k q b r s h w =
    let l = extreme least_of r.entries b in
    let g = extreme greatest_of r.entries b in
    ceil-floor q h (l +ℤ r.offset +ℤ r.low) (g +ℤ r.offset +ℤ r.high)
    (omega (
      zarith,
      of_le (extreme-order k r.entries b s),
      of_le w,
      sub (pos q) (pos 1),
      sub r.high r.low,
      add l r.offset,
      add (l +ℤ r.offset) r.low,
      add (l +ℤ r.offset +ℤ r.low) (pos q),
      add g r.offset,
      add (g +ℤ r.offset) r.high,
      add (g +ℤ r.offset +ℤ r.high) (pos 1),
    ))

inside-small : {k : ℕ} (a s : Side) → Bounded k s → covers s a ≡ true → a.lo ≤ℤ a.hi → Bounded k a
inside-small a s b e o =
    let t = orders s.lo a.lo a.hi s.hi e in
    record {
      low = between s.lo s.hi a.lo b.low b.high t.0 (omega (zarith, t));
      high = between s.lo s.hi a.hi b.low b.high (omega (zarith, t)) t.1;
      order = o;
    }

module _ (f : Frame) (bands coef : List ℤ) (g : PlantSound f bands coef) (u : ℕ) (m : u < f.modes) (b : List Side) (s : Small edge_limit b) where
  abbrev next : List Side
  next = image (step_from f.n f.q bands coef u) b

  pub small-image : within next (box_of f.n f.safe) ≡ true → Small edge_limit next
  small-image e = rw (image-tab f.n f.q bands coef u b) (small-tab sides f.n 0 (λ j l h. at_side j (omega arith)))
    where
      sides : ℕ → Side
      sides = image_side_at f.n f.q bands coef u b

      safe : ℕ → Side
      safe = side_at f.safe.lo f.safe.hi

      inside : all (tab (λ j. covers (safe j) (sides j)) f.n 0) ≡ true
      inside = sym (ap all (lies-tab sides safe f.n 0)) ∙ (rw (image-tab f.n f.q bands coef u b) at e)

      at_side : (j : ℕ) → j < f.n → Bounded edge_limit (sides j)
      at_side j h =
          inside-small (sides j) (safe j) (small-side f.safe.lo f.safe.hi f.n j g.0.safe h)
          (rw zero-add at (all-tab (λ j. covers (safe j) (sides j)) f.n 0 j h inside))
          (side-order edge_limit f.q b (row_from f.n bands coef u j) s g.0.least (g.1.wide u j m h))
