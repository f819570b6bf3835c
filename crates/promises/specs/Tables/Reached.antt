-- S3 and S12: what a wide band reaches. Each edge of the image of a box is reached, dimension by dimension, from some point of the box (a
-- corner of the image need not be reached from one point); and some reading always follows.
-- Relies on the law of wide bands in laws' page DivisionLaws. Any step, any number of dimensions; plants are page PlantImages.
use Prim.Native.Nat.{ℕ, suc, ◌≤◌}
use Rattle.std.specs.Prelude.{◌≡◌, true, length, ℤ, pos, negsuc, ◌+ℤ◌, ◌-ℤ◌, ◌*ℤ◌, ◌≤ℤ◌}
use Rattle.std.proofs.Math.Path.{refl, ap}
use mathlib.Core.List.{List, [], ◌∷◌, map}
use Rattle.std.specs.Int.Signed.{≤ℤ_refl}
use Rattle.laws.specs.Division.{floor_z, ceil_z}
use Rattle.laws.specs.DivisionLaws.{floor-banded, ceil-banded}
use Rattle.laws.specs.Every as E
use Rattle.laws.specs.Every.{Every}
use Rattle.laws.specs.Lists as L
use Rattle.laws.specs.Lists.{all}
use Rattle.laws.specs.Tests.{never, second, both, ordered}
use Rattle.meaning.specs.Boxes as B
use Rattle.meaning.specs.Boxes.{Side, has, fits}
use Rattle.meaning.specs.Images as I
use Rattle.meaning.specs.Images.{Row, Step, dot, reached, reached_all, follows, least_of, greatest_of, extreme, image_side}
use Rattle.promises.specs.Tables.Boxes.{Nonempty}

-- w hi − w lo ≥ q − 1
abbrev pub Wide : ℕ → Row → Type 0
Wide q r = (pos q -ℤ pos 1) ≤ℤ (r.high -ℤ r.low)

-- ---- from a point: the least count that the band reaches, and the greatest

module _ (q : ℕ) (positive : 1 ≤ q) (r : Row) (x : List ℤ) (wide : Wide q r) where
  ceil-reached : reached q x r (ceil_z (dot r.entries x +ℤ r.offset +ℤ r.low) q) ≡ true
  ceil-reached = let h = ceil-banded q positive (dot r.entries x +ℤ r.offset) r.low r.high wide in ordered h.0 h.1

  pub floor-reached : reached q x r (floor_z (dot r.entries x +ℤ r.offset +ℤ r.high) q) ≡ true
  floor-reached = let h = floor-banded q positive (dot r.entries x +ℤ r.offset) r.low r.high wide in ordered h.0 h.1

-- ---- the point of a box at which a row's sum is least, or greatest

corner : (ℤ → Side → ℤ) → List ℤ → List Side → List ℤ
corner end cs [] = []
corner end [] (s ∷ b) = end (pos 0) s ∷ corner end [] b
corner end (c ∷ cs) (s ∷ b) = end c s ∷ corner end cs b

module _ (of end : ℤ → Side → ℤ) (meets : (c : ℤ) (s : Side) → c *ℤ end c s ≡ of c s) where
  corner-meets : (cs : List ℤ) (b : List Side) → dot cs (corner end cs b) ≡ extreme of cs b
  unfolding corner I.dot I.extreme
  corner-meets [] b = refl
  corner-meets (c ∷ cs) [] = refl
  corner-meets (c ∷ cs) (s ∷ b) = rw (meets c s, corner-meets cs b) refl

module _ (end : ℤ → Side → ℤ) (lies : (c : ℤ) (s : Side) → s.lo ≤ℤ s.hi → has s (end c s) ≡ true) where
  corner-held : (cs : List ℤ) (b : List Side) → Nonempty b → all (fits b (corner end cs b)) ≡ true
  unfolding corner B.fits L.all E.Every
  corner-held cs [] h = refl
  corner-held [] (s ∷ b) h = both (lies (pos 0) s h.0) (corner-held [] b h.1)
  corner-held (c ∷ cs) (s ∷ b) h = both (lies c s h.0) (corner-held cs b h.1)

-- the edge that c takes, by its sign: the low one at the least and the high one at the greatest where c ≥ 0, else the other
abbrev by_sign : ℤ → ℤ → ℤ → ℤ
by_sign (pos c) one other = one
by_sign (negsuc c) one other = other

abbrev least_end : ℤ → Side → ℤ
least_end c s = by_sign c s.lo s.hi

abbrev greatest_end : ℤ → Side → ℤ
greatest_end c s = by_sign c s.hi s.lo

least-meets : (c : ℤ) (s : Side) → c *ℤ least_end c s ≡ least_of c s
least-meets (pos c) s = refl
least-meets (negsuc c) s = refl

greatest-meets : (c : ℤ) (s : Side) → c *ℤ greatest_end c s ≡ greatest_of c s
greatest-meets (pos c) s = refl
greatest-meets (negsuc c) s = refl

end-lies : (c : ℤ) (s : Side) (a b : ℤ) → has s a ≡ true → has s b ≡ true → has s (by_sign c a b) ≡ true
end-lies (pos c) s a b h k = h
end-lies (negsuc c) s a b h k = k

least-lies : (c : ℤ) (s : Side) → s.lo ≤ℤ s.hi → has s (least_end c s) ≡ true
least-lies c s h = end-lies c s s.lo s.hi (ordered (≤ℤ_refl s.lo) h) (ordered h (≤ℤ_refl s.hi))

greatest-lies : (c : ℤ) (s : Side) → s.lo ≤ℤ s.hi → has s (greatest_end c s) ≡ true
greatest-lies c s h = end-lies c s s.hi s.lo (ordered h (≤ℤ_refl s.hi)) (ordered (≤ℤ_refl s.lo) h)

-- some point of the box reaches y in the dimension of the row
pub record Reached (q : ℕ) (b : List Side) (r : Row) (y : ℤ) : Type 0 where
  pub point : List ℤ
  pub held : all (fits b point) ≡ true
  pub reaches : reached q point r y ≡ true

-- the band being wide enough, each edge of the image is reached
pub edges-reached : (q : ℕ) (b : List Side) (r : Row) → 1 ≤ q → Wide q r → Nonempty b → Reached q b r (image_side q b r).lo × Reached q b r (image_side q b r).hi
edges-reached q b r p w f =
    let low = corner least_end r.entries b in
    let high = corner greatest_end r.entries b in (
      record {
        point = low;
        held = corner-held least_end least-lies r.entries b f;
        reaches = rw (← corner-meets least_of least_end least-meets r.entries b) (ceil-reached q p r low w);
      },
      record {
        point = high;
        held = corner-held greatest_end greatest-lies r.entries b f;
        reaches = rw (← corner-meets greatest_of greatest_end greatest-meets r.entries b) (floor-reached q p r high w);
      },
    )

-- ---- S12

module _ (q : ℕ) (x : List ℤ) where
  -- the greatest count that the row reaches
  abbrev pub next : Row → ℤ
  next r = floor_z (dot r.entries x +ℤ r.offset +ℤ r.high) q

  next-reached : 1 ≤ q → (rows : List Row) → Every (Wide q) rows → all (reached_all q x rows (map next rows)) ≡ true
  unfolding I.reached_all L.all E.Every
  next-reached p [] w = refl
  next-reached p (r ∷ rows) w = both (floor-reached q p r x w.0) (next-reached p rows w.1)

  -- what is reached in every dimension has a count for each row
  pub reached-size : (rows : List Row) (y : List ℤ) → all (reached_all q x rows y) ≡ true → length y ≡ length rows
  unfolding I.reached_all L.all
  reached-size [] [] e = refl
  reached-size [] (y ∷ ys) e = never e
  reached-size (r ∷ rows) [] e = never e
  reached-size (r ∷ rows) (y ∷ ys) e = ap suc (reached-size rows ys (second (reached q x r y) (all (reached_all q x rows ys)) e))

-- the bands being wide enough, some reading always follows
pub some-follows : (st : Step) (x : List ℤ) → 1 ≤ st.q → Every (Wide st.q) st.rows → (y : List ℤ) × (follows st x y ≡ true)
some-follows st x p w = (map (next st.q x) st.rows, next-reached st.q x p st.rows w)
