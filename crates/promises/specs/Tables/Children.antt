-- S4, form 1's split: each child of a box lies in it, is smaller, and has no empty side where the box has none.
-- Relies on meaning's page Boxes and the law of the middle. Any number of dimensions.
use Rattle.std.specs.Prelude.{ℕ, ◌+◌, ◌≤◌, ◌<◌, ◌≡◌, refl, Bool, true, false, cond, pos, ◌+ℤ◌, ◌-ℤ◌, ◌≤ℤ◌}
use mathlib.Core.List.{List, [], ◌∷◌, map}
use Rattle.std.proofs.Common.{arith}
use Rattle.std.specs.Int.Signed.{≤ℤ_refl}
use Rattle.laws.specs.Counting.{bit, bit_or}
use Rattle.laws.specs.Every as E
use Rattle.laws.specs.Every.{Every, every_append, every_map}
use Rattle.laws.specs.Integers.{P, zarith, add, sub, apart}
use Rattle.laws.specs.Lists as L
use Rattle.laws.specs.Tests.{both, ordered}
use Rattle.meaning.specs.Boxes as B
use Rattle.meaning.specs.Boxes.{Side, side, covers, within, long, middle, halves, in_front, pieces, any_long, children}
use Rattle.promises.specs.Tables.Boxes.{Nonempty, middle-in}

-- how many counts a side has beyond its first, and the sum of these over a box
abbrev pub width : Side → ℕ
width s = P (s.hi -ℤ s.lo)

unfoldable pub extent : List Side → ℕ
extent [] = 0
extent (s ∷ b) = width s + extent b

pub record Half (s h : Side) : Type 0 where
  pub inside : covers s h ≡ true
  pub shorter : width h + bit (long s) ≤ width s
  pub filled : s.lo ≤ℤ s.hi → h.lo ≤ℤ h.hi

pub halves_are : (s : Side) → Every (Half s) (halves s)
unfolding E.Every
halves_are s = go (long s) refl
  where
    go : (t : Bool) → long s ≡ t → Every (Half s) (cond t (side s.lo (middle s) ∷ side (middle s +ℤ pos 1) s.hi ∷ []) (s ∷ []))
    go true e =
        let m = middle s in
        let k = middle-in s e in
        let in-a : s.lo ≤ℤ (m +ℤ pos 1) = omega (zarith, k, add m (pos 1)) in
        let in_b : m ≤ℤ s.hi = omega (zarith, k) in
        let low : width (side s.lo m) + 1 ≤ width s = omega (zarith, k, sub m s.lo, sub s.hi s.lo, apart (m -ℤ s.lo)) in
        let high : width (side (m +ℤ pos 1) s.hi) + 1 ≤ width s = omega (zarith, k, add m (pos 1), sub s.hi (m +ℤ pos 1), sub s.hi s.lo, apart (s.hi -ℤ (m +ℤ pos 1))) in
        let up : (m +ℤ pos 1) ≤ℤ s.hi = omega (zarith, k, add m (pos 1)) in (
          record { inside = ordered (≤ℤ_refl s.lo) in_b; shorter = rw e low; filled = λ f. k.0 },
          (record { inside = ordered in-a (≤ℤ_refl s.hi); shorter = rw e high; filled = λ f. up }, tt),
        )
    go false e = (record { inside = ordered (≤ℤ_refl s.lo) (≤ℤ_refl s.hi); shorter = rw e (omega arith); filled = λ f. f }, tt)

record Piece (b c : List Side) : Type 0 where
  inside : within c b ≡ true
  smaller : extent c + bit (any_long b) ≤ extent b
  filled : Nonempty b → Nonempty c

piece-more : (s h : Side) (b c : List Side) → Half s h → Piece b c → Piece (s ∷ b) (h ∷ c)
unfolding B.lies B.any_long L.all E.Every extent
piece-more s h b c k p = record {
  inside = both k.inside p.inside;
  smaller = omega (arith, k.shorter, p.smaller, bit_or (long s) (any_long b));
  filled = λ f. (k.filled f.0, p.filled f.1);
}

module _ (s : Side) (b : List Side) where
  heads-are : (hs c : List Side) → Every (Half s) hs → Piece b c → Every (Piece (s ∷ b)) (map (λ h. h ∷ c) hs)
  unfolding E.Every
  heads-are [] c k p = tt
  heads-are (h ∷ hs) c k p = (piece-more s h b c k.0 p, heads-are hs c k.1 p)

  front-are : (hs : List Side) (cs : List (List Side)) → Every (Half s) hs → Every (Piece b) cs → Every (Piece (s ∷ b)) (in_front hs cs)
  unfolding E.Every B.in_front
  front-are hs [] k p = tt
  front-are hs (c ∷ cs) k p = every_append (Piece (s ∷ b)) (map (λ h. h ∷ c) hs) (in_front hs cs) (heads-are hs c k p.0) (front-are hs cs k p.1)

pieces_are : (b : List Side) → Every (Piece b) (pieces b)
unfolding E.Every B.pieces B.lies B.any_long L.all extent
pieces_are [] = (record { inside = refl; smaller = omega arith; filled = λ f. f }, tt)
pieces_are (s ∷ b) = front-are s b (halves s) (pieces b) (halves_are s) (pieces_are b)

-- S4: each child lies in the box (and so has as many sides), is smaller, and has no empty side where the box has none
pub record Child (b c : List Side) : Type 0 where
  pub inside : within c b ≡ true
  pub smaller : extent c < extent b
  pub filled : Nonempty b → Nonempty c

pub children-are : (b : List Side) → Every (Child b) (children b)
unfolding E.Every B.children
children-are b = go (any_long b) refl
  where
    child : any_long b ≡ true → (c : List Side) → Piece b c → Child b c
    child e c p = record { inside = p.inside; smaller = omega (arith, rw e at p.smaller); filled = p.filled }

    go : (t : Bool) → any_long b ≡ t → Every (Child b) (cond t (pieces b) [])
    go true e = every_map (Piece b) (Child b) (child e) (pieces b) (pieces_are b)
    go false e = tt
