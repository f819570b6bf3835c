-- A plant that turns: its one mode takes each reading of R out of R and back to itself in six samples, and spreads each box of R whose second
-- side is long farther than R is wide. So the first pattern of a box of one reading has six modes, and a box whose second side is long has none, whatever the
-- table's form. Page LongestTable makes its tables. Relies on pages First and Patterns; the numbers are compared over ℤ, nothing but the plant's own numbers is computed.
use Rattle.std.specs.Prelude.{ℕ, zero, suc, ◌+◌, ◌-◌, ◌*◌, ◌/◌, ◌≤◌, ◌<◌, ◌≡◌, true, ◌&&◌, length, ℤ, negsuc, neg_ℤ, ◌+ℤ◌, ◌*ℤ◌, ◌≤ℤ◌}
use Rattle.std.proofs.Math.Path.{refl}
use Rattle.std.proofs.Common.{sym, ap, ◌∙◌}
use mathlib.Core.List.{List, [], ◌∷◌}
use Rattle.std.proofs.Math.Option.{none, some}
use native.Mathlib.Omega.{arith}
use Rattle.std.proofs.Math.IntN.{pos}
use Rattle.std.specs.Int.Signed.{le_z}
use Rattle.laws.specs.Division.{floor_z, ceil_z}
use Rattle.laws.specs.Integers.{P, N, zarith, add, mul, neg, apart, to-eq}
use Rattle.laws.specs.Tests.{first, both, orders, ordered}
use Rattle.meaning.specs.declared.Tried.TheVariants.{Works}
use Rattle.meaning.specs.Boxes.{Side, side, within}
use Rattle.meaning.specs.Computing.{computing}
use Rattle.meaning.specs.Files.{good, file_of}
use Rattle.meaning.specs.Images.{image}
use Rattle.meaning.specs.Plants.{Plant, plant_form, plant_of, plant_judged, root_of, safe_of, step_of}
use Rattle.meaning.specs.Rules as R
use Rattle.meaning.specs.Rules.{Rules, rule_from, rule}
use Rattle.meaning.specs.Tables.{rules_of}
use Rattle.meaning.specs.Trees as Y
use Rattle.meaning.specs.Trees.{AllBelow, Pattern}
use Rattle.meaning.specs.Defined.{first_pattern}
use Rattle.promises.specs.Tables.First.{NotAfter, end, then, none-exactly, first-exactly}
use Rattle.promises.specs.Tables.Patterns.{goal-works, safe-works}

-- ---- the plant: form, n 2, N 1, q 1, K 6, D 6; R 1000..1063 and S ±1,000,000 in each dimension; w 0..0; rows (4, −13, 0) and (1, −3, 0)

abbrev pub values : List ℤ
values =
    pos 1 ∷ pos 2 ∷ pos 1 ∷ pos 1 ∷ pos 6 ∷ pos 6
    ∷ pos 1000 ∷ pos 1063 ∷ neg_ℤ (pos 1_000_000) ∷ pos 1_000_000 ∷ pos 1000 ∷ pos 1063 ∷ neg_ℤ (pos 1_000_000) ∷ pos 1_000_000
    ∷ pos 0 ∷ pos 0 ∷ pos 0 ∷ pos 0
    ∷ pos 4 ∷ neg_ℤ (pos 13) ∷ pos 0 ∷ pos 1 ∷ neg_ℤ (pos 3) ∷ pos 0 ∷ []

abbrev pub bytes : List ℕ
bytes = file_of plant_form values

abbrev pub p : Plant
p = plant_of values

pub judged : plant_judged bytes ≡ good p
unfolding computing
judged = refl

-- ---- its image: nothing is rounded, q being 1

floor-one : (z : ℤ) → floor_z z 1 ≡ z
floor-one (pos a) = let q : a / 1 ≡ a = omega arith in rw q refl
floor-one (negsuc a) = let q : a / 1 ≡ a = omega arith in rw q refl

ceil-one : (z : ℤ) → ceil_z z 1 ≡ z
ceil-one z = rw (floor-one (neg_ℤ z)) (to-eq (omega (arith, neg z, neg (neg_ℤ z))))

-- u = 4x − 13y, and v = x − 3y
abbrev Row1 : ℤ → ℤ → ℤ → Type 0
Row1 x y u = P u + 13 * P y + 4 * N x ≡ N u + 13 * N y + 4 * P x

abbrev Row2 : ℤ → ℤ → ℤ → Type 0
Row2 x y v = P v + 3 * P y + N x ≡ N v + 3 * N y + P x

row1 : (x y u : ℤ) → Row1 x y u → pos 4 *ℤ x +ℤ (negsuc 12 *ℤ y +ℤ pos 0) +ℤ pos 0 +ℤ pos 0 ≡ u
row1 x y u h =
    let s = pos 4 *ℤ x in
    let t = negsuc 12 *ℤ y in
    to-eq (omega (arith, h, mul (pos 4) x, mul (negsuc 12) y, add t (pos 0), add s (t +ℤ pos 0), add (s +ℤ (t +ℤ pos 0)) (pos 0), add (s +ℤ (t +ℤ pos 0) +ℤ pos 0) (pos 0)))

row2 : (x y v : ℤ) → Row2 x y v → pos 1 *ℤ x +ℤ (negsuc 2 *ℤ y +ℤ pos 0) +ℤ pos 0 +ℤ pos 0 ≡ v
row2 x y v h =
    let s = pos 1 *ℤ x in
    let t = negsuc 2 *ℤ y in
    to-eq (omega (arith, h, mul (pos 1) x, mul (negsuc 2) y, add t (pos 0), add s (t +ℤ pos 0), add (s +ℤ (t +ℤ pos 0)) (pos 0), add (s +ℤ (t +ℤ pos 0) +ℤ pos 0) (pos 0)))

turned : (a b c d lo hi lo2 hi2 : ℤ) → Row1 a d lo → Row1 b c hi → Row2 a d lo2 → Row2 b c hi2
    → image (step_of p 0) (side a b ∷ side c d ∷ []) ≡ side lo hi ∷ side lo2 hi2 ∷ []
unfolding computing
turned a b c d lo hi lo2 hi2 e f g h =
    rw (
      ceil-one (pos 4 *ℤ a +ℤ (negsuc 12 *ℤ d +ℤ pos 0) +ℤ pos 0 +ℤ pos 0),
      floor-one (pos 4 *ℤ b +ℤ (negsuc 12 *ℤ c +ℤ pos 0) +ℤ pos 0 +ℤ pos 0),
      ceil-one (pos 1 *ℤ a +ℤ (negsuc 2 *ℤ d +ℤ pos 0) +ℤ pos 0 +ℤ pos 0),
      floor-one (pos 1 *ℤ b +ℤ (negsuc 2 *ℤ c +ℤ pos 0) +ℤ pos 0 +ℤ pos 0),
      row1 a d lo e,
      row1 b c hi f,
      row2 a d lo2 g,
      row2 b c hi2 h,
    ) refl

-- its rules, of a form
abbrev pub r : ℕ → Rules
r form = rules_of form p

-- there is one mode
only-mode : (u : ℕ) → u < p.modes → u ≡ 0
unfolding computing
only-mode u h = omega arith

-- ---- a box is spread: its sides have at least v and w counts beyond the first

record Spread (v w : ℕ) (box : List Side) : Type 0 where
  a : ℤ
  b : ℤ
  c : ℤ
  d : ℤ
  is : box ≡ side a b ∷ side c d ∷ []
  first-side : P a + N b + v ≤ P b + N a
  second-side : P c + N d + w ≤ P d + N c

row1-is : (x y : ℤ) → Row1 x y (pos 4 *ℤ x +ℤ negsuc 12 *ℤ y)
row1-is x y = omega (arith, mul (pos 4) x, mul (negsuc 12) y, add (pos 4 *ℤ x) (negsuc 12 *ℤ y))

row2-is : (x y : ℤ) → Row2 x y (x +ℤ negsuc 2 *ℤ y)
row2-is x y = omega (arith, mul (negsuc 2) y, add x (negsuc 2 *ℤ y))

spread : (v w : ℕ) (box : List Side) → Spread v w box → Spread (4 * v + 13 * w) (v + 3 * w) (image (step_of p 0) box)
spread v w box s =
    let a = s.a in
    let b = s.b in
    let c = s.c in
    let d = s.d in
    let lo = pos 4 *ℤ a +ℤ negsuc 12 *ℤ d in
    let hi = pos 4 *ℤ b +ℤ negsuc 12 *ℤ c in
    let lo2 = a +ℤ negsuc 2 *ℤ d in
    let hi2 = b +ℤ negsuc 2 *ℤ c in
    record {
      a = lo;
      b = hi;
      c = lo2;
      d = hi2;
      is = ap (image (step_of p 0)) s.is ∙ turned a b c d lo hi lo2 hi2 (row1-is a d) (row1-is b c) (row2-is a d) (row2-is b c);
      first-side = omega (arith, s.first-side, s.second-side, row1-is a d, row1-is b c);
      second-side = omega (arith, s.first-side, s.second-side, row2-is a d, row2-is b c);
    }

-- a box that lies in R has at most 64 counts in its first side, and none of them is below 1000
in-root : (a b c d : ℤ) → within (side a b ∷ side c d ∷ []) (root_of p) ≡ true → (pos 1000 ≤ℤ a) × (b ≤ℤ pos 1063)
unfolding computing
in-root a b c d e = orders (pos 1000) a b (pos 1063) (first (le_z (pos 1000) a && le_z b (pos 1063)) (le_z (pos 1000) c && le_z d (pos 1063) && true) e)

too_wide : (v w : ℕ) (box : List Side) → 64 ≤ v → Spread v w box → within box (root_of p) ≡ true → ⊥
too_wide v w box l s e =
    let q : box ≡ side s.a s.b ∷ side s.c s.d ∷ [] = s.is in
    let h = in-root s.a s.b s.c s.d (rw q at e) in
    omega (zarith, h, s.first-side)

-- so that no pattern works from there
never_back : (form : ℕ) (us : List ℕ) (i v w : ℕ) (box : List Side) → 64 ≤ v → Spread v w box → AllBelow p.modes us → rule_from (r form) i box us ≡ Works → ⊥
unfolding R.rule_from Y.AllBelow
never_back form [] i v w box l s h e = too_wide v w box l s ((goal-works (within box (root_of p)) i).0 e)
never_back form (u ∷ us) i v w box l s h e =
    let q : u ≡ 0 = only-mode u h.0 in
    let k = (safe-works (within (image (step_of p u) box) (safe_of p)) i (λ m. rule_from (r form) m (image (step_of p u) box) us)).0 e in
    never_back form us (suc i) (4 * v + 13 * w) (v + 3 * w) (image (step_of p 0) box) (omega arith) (spread v w box s) h.1 (rw q at k.1)

-- ---- a box of R whose second side is long: one mode takes it out of R, two spread it too far

module _ (form a b c d : ℕ) (some : a ≤ b) (long : c < d) (low : 1000 ≤ c) (high : b ≤ 1063) where
  abbrev whole : List Side
  whole = side (pos a) (pos b) ∷ side (pos c) (pos d) ∷ []

  whole-spread : Spread 0 1 whole
  whole-spread = record { a = pos a; b = pos b; c = pos c; d = pos d; is = refl; first-side = omega arith; second-side = omega arith }

  -- 4·1063 < 13·1000
  one_out : within (image (step_of p 0) whole) (root_of p) ≡ true → ⊥
  one_out e =
      let lo = pos 4 *ℤ pos a +ℤ negsuc 12 *ℤ pos d in
      let hi = pos 4 *ℤ pos b +ℤ negsuc 12 *ℤ pos c in
      let lo2 = pos a +ℤ negsuc 2 *ℤ pos d in
      let hi2 = pos b +ℤ negsuc 2 *ℤ pos c in
      let q = turned (pos a) (pos b) (pos c) (pos d) lo hi lo2 hi2 (row1-is (pos a) (pos d)) (row1-is (pos b) (pos c)) (row2-is (pos a) (pos d)) (row2-is (pos b) (pos c)) in
      let h = in-root lo hi lo2 hi2 (sym (ap (λ (k : List Side). within k (root_of p)) q) ∙ e) in
      omega (zarith, h, row1-is (pos a) (pos d))

  none-works : (us : List ℕ) → Pattern p.k p.modes us → rule (r form) whole us ≡ Works → ⊥
  unfolding R.rule_from Y.AllBelow
  none-works [] g e = omega (arith, g.some)
  none-works (u ∷ []) g e =
      let q : u ≡ 0 = only-mode u g.modes.0 in
      let k = (safe-works (within (image (step_of p u) whole) (safe_of p)) 0 (λ m. rule_from (r form) m (image (step_of p u) whole) [])).0 e in
      one_out (rw q at ((goal-works (within (image (step_of p u) whole) (root_of p)) 1).0 k.1))
  none-works (u ∷ v ∷ us) g e =
      let q : u ≡ 0 = only-mode u g.modes.0 in
      let t : v ≡ 0 = only-mode v g.modes.1.0 in
      let b1 = image (step_of p 0) whole in
      let k = (safe-works (within (image (step_of p u) whole) (safe_of p)) 0 (λ m. rule_from (r form) m (image (step_of p u) whole) (v ∷ us))).0 e in
      let k2 : rule_from (r form) 1 b1 (v ∷ us) ≡ Works = rw q at k.1 in
      let k3 = (safe-works (within (image (step_of p v) b1) (safe_of p)) 1 (λ m. rule_from (r form) m (image (step_of p v) b1) us)).0 k2 in
      never_back form us 2 91 22 (image (step_of p 0) b1) (omega arith) (spread 13 3 b1 (spread 0 1 whole whole-spread)) g.modes.1.1 (rw t at k3.1)

  -- so that no pattern is found for it
  pub none_first : first_pattern (r form) whole ≡ none
  none_first = (none-exactly (r form) whole).1 none-works

-- ---- a reading of R comes back in six samples, and no sooner

abbrev point : ℤ → ℤ → List Side
point x y = side x x ∷ side y y ∷ []

moves : (x y u v : ℤ) → Row1 x y u → Row2 x y v → image (step_of p 0) (point x y) ≡ point u v
moves x y u v e f = turned x x y y u u v v e e f f

point-safe : (x y : ℤ) → P x ≤ 1_000_000 → N x ≤ 1_000_000 → P y ≤ 1_000_000 → N y ≤ 1_000_000 → within (point x y) (safe_of p) ≡ true
unfolding computing
point-safe x y a b c d =
    let lo : neg_ℤ (pos 1_000_000) ≤ℤ x = omega (zarith, apart x) in
    let hi : x ≤ℤ pos 1_000_000 = omega zarith in
    let lo2 : neg_ℤ (pos 1_000_000) ≤ℤ y = omega (zarith, apart y) in
    let hi2 : y ≤ℤ pos 1_000_000 = omega zarith in
    both (ordered lo hi) (both (ordered lo2 hi2) refl)

-- the next n samples, this one among them, are outside R
unfoldable Away : ℕ → List Side → Type 0
Away zero box = Unit {0}
Away (suc n) box = (within box (root_of p) ≡ true → ⊥) × Away n (image (step_of p 0) box)

away-long : (form : ℕ) (us : List ℕ) (n i : ℕ) (box : List Side) → Away n box → AllBelow p.modes us → rule_from (r form) i box us ≡ Works → n ≤ length us
unfolding R.rule_from Y.AllBelow Away
away-long form us zero i box s h e = omega arith
away-long form [] (suc n) i box s h e = absurd (s.0 ((goal-works (within box (root_of p)) i).0 e))
away-long form (u ∷ us) (suc n) i box s h e =
    let q : u ≡ 0 = only-mode u h.0 in
    let k = (safe-works (within (image (step_of p u) box) (safe_of p)) i (λ m. rule_from (r form) m (image (step_of p u) box) us)).0 e in
    let l = away-long form us n (suc i) (image (step_of p 0) box) s.1 h.1 (rw q at k.1) in
    omega arith

-- a step of a pattern, from a box to its image in S
goes : (form : ℕ) (us : List ℕ) (i : ℕ) (b c : List Side) → image (step_of p 0) b ≡ c → within c (safe_of p) ≡ true → rule_from (r form) i b (0 ∷ us) ≡ rule_from (r form) (suc i) c us
unfolding R.rule_from
goes form us i b c e h = rw (e, h) refl

abbrev pub six : List ℕ
six = 0 ∷ 0 ∷ 0 ∷ 0 ∷ 0 ∷ 0 ∷ []

six-pattern : Pattern p.k p.modes six
unfolding computing Y.AllBelow
six-pattern = let l : 0 < 1 = omega arith in record { some = omega arith; few = omega arith; modes = (l, (l, (l, (l, (l, (l, tt)))))) }

-- where there is one mode, patterns of one length are one
alike : (us vs : List ℕ) → AllBelow p.modes us → AllBelow p.modes vs → length vs ≡ length us → NotAfter us vs
unfolding Y.AllBelow
alike [] [] g h e = end
alike [] (v ∷ vs) g h e = absurd (omega arith)
alike (u ∷ us) [] g h e = absurd (omega arith)
alike (u ∷ us) (v ∷ vs) g h e =
    let q : u ≡ 0 = only-mode u g.0 in
    let t : v ≡ 0 = only-mode v h.0 in
    rw (q, t) (then (alike us vs g.1 h.1 (omega arith)))

module _ (form a c : ℕ) (low-a : 1000 ≤ a) (high-a : a ≤ 1063) (low-c : 1000 ≤ c) (high-c : c ≤ 1063) where
  -- where the reading a, c is after each sample
  abbrev p0 : List Side
  p0 = point (pos a) (pos c)

  abbrev p1 : List Side
  p1 = point (negsuc (13 * c - 4 * a - 1)) (negsuc (3 * c - a - 1))

  abbrev p2 : List Side
  p2 = point (negsuc (13 * c - 3 * a - 1)) (negsuc (4 * c - a - 1))

  abbrev p3 : List Side
  p3 = point (negsuc (a - 1)) (negsuc (c - 1))

  abbrev p4 : List Side
  p4 = point (pos (13 * c - 4 * a)) (pos (3 * c - a))

  abbrev p5 : List Side
  p5 = point (pos (13 * c - 3 * a)) (pos (4 * c - a))

  to1 : image (step_of p 0) p0 ≡ p1
  to1 = moves (pos a) (pos c) (negsuc (13 * c - 4 * a - 1)) (negsuc (3 * c - a - 1)) (omega arith) (omega arith)

  to2 : image (step_of p 0) p1 ≡ p2
  to2 = moves (negsuc (13 * c - 4 * a - 1)) (negsuc (3 * c - a - 1)) (negsuc (13 * c - 3 * a - 1)) (negsuc (4 * c - a - 1)) (omega arith) (omega arith)

  to3 : image (step_of p 0) p2 ≡ p3
  to3 = moves (negsuc (13 * c - 3 * a - 1)) (negsuc (4 * c - a - 1)) (negsuc (a - 1)) (negsuc (c - 1)) (omega arith) (omega arith)

  to4 : image (step_of p 0) p3 ≡ p4
  to4 = moves (negsuc (a - 1)) (negsuc (c - 1)) (pos (13 * c - 4 * a)) (pos (3 * c - a)) (omega arith) (omega arith)

  to5 : image (step_of p 0) p4 ≡ p5
  to5 = moves (pos (13 * c - 4 * a)) (pos (3 * c - a)) (pos (13 * c - 3 * a)) (pos (4 * c - a)) (omega arith) (omega arith)

  to6 : image (step_of p 0) p5 ≡ p0
  to6 = moves (pos (13 * c - 3 * a)) (pos (4 * c - a)) (pos a) (pos c) (omega arith) (omega arith)

  -- below 1000, or beyond 1063
  under : (m : ℕ) (y : ℤ) → within (point (negsuc m) y) (root_of p) ≡ true → ⊥
  under m y e = let h = in-root (negsuc m) (negsuc m) y y e in omega (zarith, h)

  over : (m : ℕ) (y : ℤ) → 1063 < m → within (point (pos m) y) (root_of p) ≡ true → ⊥
  over m y l e = let h = in-root (pos m) (pos m) y y e in omega (zarith, h)

  away5 : Away 1 p5
  unfolding Away
  away5 = (over (13 * c - 3 * a) (pos (4 * c - a)) (omega arith), tt)

  away4 : Away 2 p4
  unfolding Away
  away4 = (over (13 * c - 4 * a) (pos (3 * c - a)) (omega arith), rw to5 away5)

  away3 : Away 3 p3
  unfolding Away
  away3 = (under (a - 1) (negsuc (c - 1)), rw to4 away4)

  away2 : Away 4 p2
  unfolding Away
  away2 = (under (13 * c - 3 * a - 1) (negsuc (4 * c - a - 1)), rw to3 away3)

  away1 : Away 5 p1
  unfolding Away
  away1 = (under (13 * c - 4 * a - 1) (negsuc (3 * c - a - 1)), rw to2 away2)

  in-root0 : within p0 (root_of p) ≡ true
  unfolding computing
  in-root0 =
      let lo : pos 1000 ≤ℤ pos a = omega zarith in
      let hi : pos a ≤ℤ pos 1063 = omega zarith in
      let lo2 : pos 1000 ≤ℤ pos c = omega zarith in
      let hi2 : pos c ≤ℤ pos 1063 = omega zarith in
      both (ordered lo hi) (both (ordered lo2 hi2) refl)

  home : rule_from (r form) 6 p0 [] ≡ Works
  unfolding R.rule_from
  home = rw in-root0 refl

  six-work : rule (r form) p0 six ≡ Works
  six-work =
      goes form (0 ∷ 0 ∷ 0 ∷ 0 ∷ 0 ∷ []) 0 p0 p1 to1 (point-safe (negsuc (13 * c - 4 * a - 1)) (negsuc (3 * c - a - 1)) (omega arith) (omega arith) (omega arith) (omega arith))
      ∙ goes form (0 ∷ 0 ∷ 0 ∷ 0 ∷ []) 1 p1 p2 to2 (point-safe (negsuc (13 * c - 3 * a - 1)) (negsuc (4 * c - a - 1)) (omega arith) (omega arith) (omega arith) (omega arith))
      ∙ goes form (0 ∷ 0 ∷ 0 ∷ []) 2 p2 p3 to3 (point-safe (negsuc (a - 1)) (negsuc (c - 1)) (omega arith) (omega arith) (omega arith) (omega arith))
      ∙ goes form (0 ∷ 0 ∷ []) 3 p3 p4 to4 (point-safe (pos (13 * c - 4 * a)) (pos (3 * c - a)) (omega arith) (omega arith) (omega arith) (omega arith))
      ∙ goes form (0 ∷ []) 4 p4 p5 to5 (point-safe (pos (13 * c - 3 * a)) (pos (4 * c - a)) (omega arith) (omega arith) (omega arith) (omega arith))
      ∙ goes form [] 5 p5 p0 to6 (point-safe (pos a) (pos c) (omega arith) (omega arith) (omega arith) (omega arith))
      ∙ home

  six-least : (vs : List ℕ) → Pattern p.k p.modes vs → rule (r form) p0 vs ≡ Works → 6 ≤ length vs
  unfolding R.rule_from Y.AllBelow
  six-least [] g e = absurd (omega (arith, g.some))
  six-least (u ∷ vs) g e =
      let q : u ≡ 0 = only-mode u g.modes.0 in
      let k = (safe-works (within (image (step_of p u) p0) (safe_of p)) 0 (λ m. rule_from (r form) m (image (step_of p u) p0) vs)).0 e in
      let h : rule_from (r form) 1 p1 vs ≡ Works = rw (q, to1) at k.1 in
      let l = away-long form vs 5 1 p1 away1 g.modes.1 h in
      omega arith

  -- the first pattern of a reading of R
  pub six-first : first_pattern (r form) p0 ≡ some six
  six-first = (first-exactly (r form) p0 six).1 (record {
    shape = six-pattern;
    works = six-work;
    shortest = six-least;
    foremost = λ vs g e q. alike six vs six-pattern.modes g.modes q;
  })
