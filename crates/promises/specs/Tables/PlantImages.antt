-- S3 for plants (document 01, "Image", its last sentence): of a plant that was judged good, in every mode, the image of a box of n sides, none of them
-- empty, is such a box again, and each of its edges is a count of a reading that may follow, by the mode's own equation and band, some reading of the box.
-- So along a pattern, whether it works or not, each image is reached from the one before. Relies on pages Images, Reached and Judged.
-- Edges are reached one by one: that a corner of the image is reached from one point is not said, and need not be so.
use Prim.Native.Nat.{ℕ, zero, suc, ◌+◌, ◌≤◌, ◌<◌}
use Rattle.std.specs.Prelude.{◌≡◌, refl, true, List, [], ◌∷◌, length, get_or, ℤ, pos, ◌≤ℤ◌}
use Rattle.std.proofs.Common.{sym, ap, ◌∙◌, zero-add}
use native.Mathlib.Omega.{arith}
use Rattle.std.proofs.lemmas.List.{length-map}
use Rattle.laws.specs.Every.{Every, every-tab, every_map}
use Rattle.laws.specs.Lists as L
use Rattle.laws.specs.Lists.{at, tab, all}
use Rattle.laws.specs.Tabs.{length-tab, get_d-tab, map-tab}
use Rattle.laws.specs.Tests.{never, first, second, both, orders}
use Rattle.meaning.specs.Boxes as B
use Rattle.meaning.specs.Boxes.{Side, side, side_at, has, fits, covers, lies, within}
use Rattle.meaning.specs.Files.{good}
use Rattle.meaning.specs.Images as I
use Rattle.meaning.specs.Images.{Row, Step, reached, reached_all, image_side}
use Rattle.meaning.specs.Plants.{Plant, plant_judged, root_of, row_of, step_of}
use Rattle.meaning.specs.Rules.{holds}
use Rattle.meaning.specs.Tables.{children_by, rules_of}
use Rattle.meaning.specs.Trees as Y
use Rattle.meaning.specs.Trees.{AllBelow}
use Rattle.promises.specs.Tables.Boxes.{Nonempty, points, points-fit}
use Rattle.promises.specs.Tables.Children.{Child}
use Rattle.promises.specs.Tables.Halving.{children-by-are}
use Rattle.promises.specs.Tables.Images.{image_holds}
use Rattle.promises.specs.Files.Judged.{judged-sound}
use Rattle.promises.specs.Tables.Patterns as T
use Rattle.promises.specs.Tables.Patterns.{images}
use Rattle.promises.specs.Tables.PlantMotion.{whole}
use Rattle.promises.specs.Tables.Reached.{Wide, Reached, edges-reached, floor-reached, next, reached-size, some-follows}
use Rattle.promises.specs.Files.Sound.{Sound}

-- a box of n sides, none of them empty
pub record Boxed (n : ℕ) (b : List Side) : Type 0 where
  pub sides : length b ≡ n
  pub filled : Nonempty b

-- the side of a box in a dimension, from 0
abbrev pub side_in : List Side → ℕ → Side
side_in b i = get_or b i (side (pos 0) (pos 0))

-- some reading of the box may be followed in mode u by one that has count y in dimension i
pub record CanFollow (p : Plant) (u : ℕ) (b : List Side) (i : ℕ) (y : ℤ) : Type 0 where
  pub point : List ℤ
  pub held : holds (rules_of 1 p) b point ≡ true
  pub reading : List ℤ
  pub follows : (rules_of 1 p).follows u point reading ≡ true
  pub count : at reading i ≡ y

-- the image of a box in mode u: no side is empty, and each edge is reached from the box
pub record ImageReached (p : Plant) (u : ℕ) (b : List Side) : Type 0 where
  pub boxed : Boxed p.n ((rules_of 1 p).image u b)
  pub low : (i : ℕ) → i < p.n → CanFollow p u b i (side_in ((rules_of 1 p).image u b) i).lo
  pub high : (i : ℕ) → i < p.n → CanFollow p u b i (side_in ((rules_of 1 p).image u b) i).hi

-- the successive images of a box along a pattern, each reached from the one before
pub data Along (p : Plant) : List Side → List ℕ → List (List Side) → Type 0 where
  done : {b : List Side} → Along p b [] []
  goes : {b : List Side} {u : ℕ} {us : List ℕ} {cs : List (List Side)}
      → ImageReached p u b → Along p ((rules_of 1 p).image u b) us cs → Along p b (u ∷ us) ((rules_of 1 p).image u b ∷ cs)

-- ---- one dimension

-- the least count of a side of an image is reached, so the image has it: it is not above the greatest
side-filled : (q : ℕ) (b : List Side) (r : Row) → 1 ≤ q → Wide q r → Nonempty b → (image_side q b r).lo ≤ℤ (image_side q b r).hi
unfolding I.image I.reached_all B.fits L.all
side-filled q b r p w f =
    let e = (edges-reached q b r p w f).0 in
    let s = image_side q b r in
    let st : Step = record { rows = r ∷ []; q = q } in
    let h = image_holds st b e.point (s.lo ∷ []) p e.held (both e.reaches refl) in
    (orders s.lo s.lo s.lo s.hi (first (has s s.lo) true h)).1

-- a box in a box has as many sides, and so has a reading in it counts
within-size : (a b : List Side) → within a b ≡ true → length a ≡ length b
unfolding B.lies L.all
within-size [] [] e = refl
within-size [] (t ∷ b) e = never e
within-size (s ∷ a) [] e = never e
within-size (s ∷ a) (t ∷ b) e = ap suc (within-size a b (second (covers t s) (all (lies a b)) e))

held-size : (b : List Side) (x : List ℤ) → all (fits b x) ≡ true → length x ≡ length b
held-size b x e = sym (length-map x (λ z. side z z)) ∙ within-size (points x) b (rw (points-fit b x) e)

-- a count that row i reaches, beside counts that the other rows reach
module _ (q : ℕ) (positive : 1 ≤ q) (x : List ℤ) (f : ℕ → Row) where
  beside : (m j : ℕ) → ((k : ℕ) → j ≤ k → k < j + m → Wide q (f k)) → (i : ℕ) → i < m → (v : ℤ) → reached q x (f (j + i)) v ≡ true
      → (y : List ℤ) × (all (reached_all q x (tab f m j) y) ≡ true) × (at y i ≡ v)
  unfolding L.tab I.reached_all L.all
  beside zero j w i l v h = absurd (omega arith)
  beside (suc m) j w zero l v h =
      let e : j + 0 ≡ j = omega arith in
      let more : Step = record { rows = tab f m (j + 1); q = q } in
      let rest = some-follows more x positive (every-tab (Wide q) f m (j + 1) (λ k a b. w k (omega arith) (omega arith))) in
      (v ∷ rest.0, both (rw e at h) rest.1, refl)
  beside (suc m) j w (suc i) l v h =
      let e : j + suc i ≡ j + 1 + i = omega arith in
      let rest = beside m (j + 1) (λ k a b. w k (omega arith) (omega arith)) i (omega arith) v (rw e at h) in
      (next q x (f j) ∷ rest.0, both (floor-reached q positive (f j) x (w j (omega arith) (omega arith))) rest.1, rest.2)

-- ---- a sound plant

module _ (p : Plant) (s : Sound p) (u : ℕ) (m : u < p.modes) (b : List Side) (h : Boxed p.n b) where
  abbrev side_by : ℕ → Side
  side_by i = image_side p.q b (row_of p u i)

  image-sides : (rules_of 1 p).image u b ≡ tab side_by p.n 0
  unfolding I.image
  image-sides = map-tab (image_side p.q b) (row_of p u) p.n 0

  image-side : (i : ℕ) → i < p.n → side_in ((rules_of 1 p).image u b) i ≡ side_by i
  image-side i l = rw image-sides (get_d-tab side_by (side (pos 0) (pos 0)) p.n 0 i l ∙ rw zero-add refl)

  image-boxed : Boxed p.n ((rules_of 1 p).image u b)
  image-boxed = rw image-sides (record {
    sides = length-tab side_by p.n 0;
    filled = every-tab (λ t. t.lo ≤ℤ t.hi) side_by p.n 0 (λ i a c. side-filled p.q b (row_of p u i) s.ranges.q-low (s.wide u i m (omega arith)) h.filled);
  })

  can-follow : (i : ℕ) → i < p.n → (v : ℤ) → Reached p.q b (row_of p u i) v → CanFollow p u b i v
  can-follow i l v r =
      let x = r.point in
      let here : reached p.q x (row_of p u (0 + i)) v ≡ true = rw zero-add r.reaches in
      let w = beside p.q s.ranges.q-low x (row_of p u) p.n 0 (λ k a c. s.wide u k m (omega arith)) i l v here in
      let e = whole p.n x (held-size b x r.held ∙ h.sides) in
      let f = whole p.n w.0 (reached-size p.q x (step_of p u).rows w.0 w.1 ∙ length-tab (row_of p u) p.n 0) in
      record { point = x; held = rw e r.held; reading = w.0; follows = rw (e, f) w.1; count = w.2 }

  sound-reached : ImageReached p u b
  sound-reached = record {
    boxed = image-boxed;
    low = λ i l. rw (image-side i l) (can-follow i l (side_by i).lo (edges i l).0);
    high = λ i l. rw (image-side i l) (can-follow i l (side_by i).hi (edges i l).1);
  }
    where
      edges : (i : ℕ) → i < p.n → Reached p.q b (row_of p u i) (side_by i).lo × Reached p.q b (row_of p u i) (side_by i).hi
      edges i l = edges-reached p.q b (row_of p u i) s.ranges.q-low (s.wide u i m l) h.filled

sound-along : (form : ℕ) (p : Plant) → Sound p → (us : List ℕ) → AllBelow p.modes us → (b : List Side) → Boxed p.n b → Along p b us (images (rules_of form p) b us)
unfolding T.images Y.AllBelow
sound-along form p s [] m b h = done
sound-along form p s (u ∷ us) m b h = let k = sound-reached p s u m.0 b h in goes k (sound-along form p s us m.1 ((rules_of 1 p).image u b) k.boxed)

-- ---- where such boxes come from: R, and the children of one

pub children-boxed : (form n : ℕ) (b : List Side) → Boxed n b → Every (Boxed n) (children_by form b)
children-boxed form n b h =
    every_map (Child b) (Boxed n) (λ c k. record { sides = within-size c b k.inside ∙ h.sides; filled = k.filled h.filled }) (children_by form b) (children-by-are form b)

-- ---- S3, of a plant that was judged good

module _ (plant : List ℕ) (p : Plant) (e : plant_judged plant ≡ good p) where
  pub root-boxed : Boxed p.n (root_of p)
  root-boxed =
      let s = judged-sound plant p e in
      let sides = side_at p.rlo p.rhi in
      record { sides = length-tab sides p.n 0; filled = every-tab (λ t. t.lo ≤ℤ t.hi) sides p.n 0 (λ i a c. (s.ranges.root.sides i (omega arith)).order) }

  -- each edge of an image is reached from the box
  pub image-reached : (u : ℕ) → u < p.modes → (b : List Side) → Boxed p.n b → ImageReached p u b
  image-reached = sound-reached p (judged-sound plant p e)

  -- and along every pattern, whatever the table's form
  pub images-reached : (form : ℕ) (us : List ℕ) → AllBelow p.modes us → (b : List Side) → Boxed p.n b → Along p b us (images (rules_of form p) b us)
  images-reached form = sound-along form p (judged-sound plant p e)
