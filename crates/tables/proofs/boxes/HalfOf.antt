-- The child that holds a reading, side by side: of the halves of a side that holds a count exactly one holds it, and so the child's sides, its number, and the
-- number of the first child that holds the reading are those; and the loop that goes through the sides. Relies on page Laws.
use Prim.Native.Nat.{ℕ, suc, ◌+◌, ◌-◌, ◌*◌, ◌/◌, ◌%◌, ◌^◌, ◌≤◌, ◌<◌}
use mathlib.Core.Path.{◌≡◌, refl, sym, ap, ◌∙◌}
use mathlib.Core.Bool.{Bool, true, false, ◌&&◌, cond}
use mathlib.Core.List.{List, [], ◌∷◌, ◌++◌, append_assoc, append-nil}
use native.Mathlib.Omega.{arith}
use native.Mathlib.Nat.{mul_assoc, mul-add, add_assoc, sub-zero}
use lib.Dec.{eqb}
use lib.Pow.{pow_mono}
use lib.ListN.{length, set, length-set}
use lib.IntN.{ℤ, pos, ◌+ℤ◌}
use lib.Signed.{le_z, lt_z, ◌≤ℤ◌}
use Rattle.laws.specs.Integers.{zarith, add, le_z-true, le_z-false}
use Rattle.laws.specs.Lists.{at, tab, all}
use Rattle.laws.specs.Tabs.{tab-step, tab-done}
use Rattle.laws.specs.Tests.{never, first, second, both, orders, ordered}
use Rattle.meaning.specs.Boxes.{Side, side, side_at, has, fits, long, middle, halves, in_front, pieces, children}
use Rattle.meaning.specs.Tables.{reading_of}
use Rattle.tables.specs.declared.boxes.Holder.{Holder}
use Rattle.tables.specs.Boxes.{box_of, lower, upper, part_of, bit_of}
use Rattle.tables.specs.Finds.{holds_in, first_held, HalfOf}
use Rattle.tables.proofs.boxes.Laws.{child_at, count_of, pieces-length, children-none, children-some, children-at, sides-stored, pow-next}

-- the child's sides, and its number
unfoldable pub kid_of : List Side → List ℤ → List Side
kid_of [] x = []
kid_of (s ∷ b) [] = []
kid_of (s ∷ b) (v ∷ x) = part_of s v ∷ kid_of b x

unfoldable pub number_of : List Side → List ℤ → ℕ
number_of [] x = 0
number_of (s ∷ b) [] = 0
number_of (s ∷ b) (v ∷ x) = bit_of s v + length (halves s) * number_of b x

-- its number by the two tests of the first side, and that of the others
abbrev number_by : Side → Bool → Bool → ℕ → ℕ
number_by s t w m = cond t (cond w 0 1) 0 + length (cond t (lower s ∷ upper s ∷ []) (s ∷ [])) * m

-- ---- by sides

-- what a reading in the upper half gives, where the sides before make `count` children
module _ (l h v : ℤ) (count : ℕ) where
  abbrev Gives : Side → ℕ → ℕ → Type 0
  Gives s more ways = (part_of (side l h) v ≡ s) × (more ≡ count * bit_of (side l h) v) × (ways ≡ count * length (halves (side l h)))

  pub part-upper : lt_z l h ≡ true → le_z v (middle (side l h)) ≡ false → Gives (upper (side l h)) count (count * 2)
  part-upper e q = (simp (e, q), simp (e, q) (omega arith), simp e)

part-has : (s : Side) (v : ℤ) → has s v ≡ true → has (part_of s v) v ≡ true
part-has s v e = go (long s)
  where
    o : (s.lo ≤ℤ v) × (v ≤ℤ s.hi)
    o = orders s.lo v v s.hi e

    by : (w : Bool) → le_z v (middle s) ≡ w → has (cond w (lower s) (upper s)) v ≡ true
    by true q = ordered o.0 (le_z-true v (middle s) q)
    by false q =
        let past : (middle s +ℤ pos 1) ≤ℤ v = omega (zarith, le_z-false v (middle s) q, add (middle s) (pos 1)) in
        ordered past o.1

    go : (t : Bool) → has (cond t (cond (le_z v (middle s)) (lower s) (upper s)) s) v ≡ true
    go true = by (le_z v (middle s)) refl
    go false = e

-- ---- by boxes, over a reading that the box holds

pub kid-held : (b : List Side) (x : List ℤ) → all (fits b x) ≡ true → all (fits (kid_of b x) x) ≡ true
unfolding fits all kid_of
kid-held [] [] e = refl
kid-held [] (v ∷ x) e = never e
kid-held (s ∷ b) [] e = never e
kid-held (s ∷ b) (v ∷ x) e = both (part-has s v (first (has s v) (all (fits b x)) e)) (kid-held b x (second (has s v) (all (fits b x)) e))

pub number-below : (b : List Side) (x : List ℤ) → all (fits b x) ≡ true → number_of b x < count_of b
unfolding fits all number_of count_of
number-below [] x e = omega arith
number-below (s ∷ b) [] e = never e
number-below (s ∷ b) (v ∷ x) e = go (long s) (le_z v (middle s)) (number-below b x (second (has s v) (all (fits b x)) e))
  where
    go : (t w : Bool) → number_of b x < count_of b
        → number_by s t w (number_of b x) < cond t (2 * count_of b) (count_of b)
    go true true h = omega arith
    go true false h = omega arith
    go false w h = omega arith

-- the child of that number
pub kid_at : (b : List Side) (x : List ℤ) → all (fits b x) ≡ true → child_at b (number_of b x) ≡ kid_of b x
unfolding fits all child_at number_of kid_of
kid_at [] x e = refl
kid_at (s ∷ b) [] e = never e
kid_at (s ∷ b) (v ∷ x) e = go (long s) (le_z v (middle s)) (kid_at b x (second (has s v) (all (fits b x)) e))
  where
    go : (t w : Bool) → child_at b (number_of b x) ≡ kid_of b x
        → cond t (cond (eqb (number_by s t w (number_of b x) % 2) 0) (lower s) (upper s)) s ∷ child_at b (cond t (number_by s t w (number_of b x) / 2) (number_by s t w (number_of b x)))
        ≡ cond t (cond w (lower s) (upper s)) s ∷ kid_of b x
    go true true h =
        let q : number_by s true true (number_of b x) % 2 ≡ 0 = omega arith in
        let d : number_by s true true (number_of b x) / 2 ≡ number_of b x = omega arith in
        rw (q, d, h) refl
    go true false h =
        let q : number_by s true false (number_of b x) % 2 ≡ 1 = omega arith in
        let d : number_by s true false (number_of b x) / 2 ≡ number_of b x = omega arith in
        rw (q, d, h) refl
    go false w h =
        let d : number_by s false w (number_of b x) ≡ number_of b x = omega arith in
        rw (d, h) refl

-- ---- the first that holds the reading

and-false : (t : Bool) → (t && false) ≡ false
and-false true = refl
and-false false = refl

module _ (v : ℤ) (x : List ℤ) where
  abbrev before : List (List Side) → ℕ
  before cs = first_held (λ c. all (fits c x)) cs

  abbrev found : List (List Side) → ℕ
  found cs = first_held (λ c. all (fits c (v ∷ x))) cs

  -- in front of each box of the other dimensions: the side itself; two halves, of which the lower has the count; two, of which the upper alone has it
  front-one : (s : Side) (cs : List (List Side)) → has s v ≡ true → found (in_front (s ∷ []) cs) ≡ before cs
  unfolding first_held in_front fits all
  front-one s [] e = refl
  front-one s (c ∷ cs) e = go (all (fits c x)) (front-one s cs e)
    where
      go : (t : Bool) → found (in_front (s ∷ []) cs) ≡ before cs → cond (has s v && t) 0 (suc (found (in_front (s ∷ []) cs))) ≡ cond t 0 (suc (before cs))
      go true h = rw e refl
      go false h = rw (and-false (has s v)) (ap suc h)

  front-lower : (a b : Side) (cs : List (List Side)) → has a v ≡ true → found (in_front (a ∷ b ∷ []) cs) ≡ 2 * before cs
  unfolding first_held in_front fits all
  front-lower a b [] e = omega arith
  front-lower a b (c ∷ cs) e = go (all (fits c x)) (front-lower a b cs e)
    where
      go : (t : Bool) → found (in_front (a ∷ b ∷ []) cs) ≡ 2 * before cs
          → cond (has a v && t) 0 (suc (cond (has b v && t) 0 (suc (found (in_front (a ∷ b ∷ []) cs))))) ≡ 2 * cond t 0 (suc (before cs))
      go true h = rw e refl
      go false h = rw (and-false (has a v), and-false (has b v)) (omega (arith, h))

  front-upper : (a b : Side) (cs : List (List Side)) → has a v ≡ false → has b v ≡ true → before cs < length cs → found (in_front (a ∷ b ∷ []) cs) ≡ 1 + 2 * before cs
  unfolding first_held in_front fits all
  front-upper a b [] e f h = absurd (omega arith)
  front-upper a b (c ∷ cs) e f h = go (all (fits c x)) h (λ l. front-upper a b cs e f l)
    where
      go : (t : Bool) → cond t 0 (suc (before cs)) < suc (length cs) → (before cs < length cs → found (in_front (a ∷ b ∷ []) cs) ≡ 1 + 2 * before cs)
          → cond (has a v && t) 0 (suc (cond (has b v && t) 0 (suc (found (in_front (a ∷ b ∷ []) cs))))) ≡ 1 + 2 * cond t 0 (suc (before cs))
      go true l ih = rw (e, f) refl
      go false l ih = rw (and-false (has a v), and-false (has b v)) (omega (arith, ih (omega arith)))

pub first-held : (b : List Side) (x : List ℤ) → all (fits b x) ≡ true → first_held (λ c. all (fits c x)) (pieces b) ≡ number_of b x
unfolding fits all pieces first_held number_of
first-held [] [] e = refl
first-held [] (v ∷ x) e = never e
first-held (s ∷ b) [] e = never e
first-held (s ∷ b) (v ∷ x) e = go (long s) (le_z v (middle s)) refl (first-held b x held)
  where
    mine : has s v ≡ true
    mine = first (has s v) (all (fits b x)) e

    held : all (fits b x) ≡ true
    held = second (has s v) (all (fits b x)) e

    go : (t w : Bool) → le_z v (middle s) ≡ w → before v x (pieces b) ≡ number_of b x
        → found v x (in_front (cond t (lower s ∷ upper s ∷ []) (s ∷ [])) (pieces b)) ≡ number_by s t w (number_of b x)
    go true true z h =
        let o = orders s.lo v v s.hi mine in
        front-lower v x (lower s) (upper s) (pieces b) (ordered o.0 (le_z-true v (middle s) z)) ∙ rw h (omega arith)
    go true false z h =
        let o = orders s.lo v v s.hi mine in
        let past : (middle s +ℤ pos 1) ≤ℤ v = omega (zarith, le_z-false v (middle s) z, add (middle s) (pos 1)) in
        let below : before v x (pieces b) < length (pieces b) = omega (arith, h, number-below b x held, pieces-length b) in
        front-upper v x (lower s) (upper s) (pieces b) (rw z (and-false (le_z s.lo v))) (ordered past o.1) below ∙ rw h (omega arith)
    go false w z h = front-one v x s (pieces b) mine ∙ rw h (omega arith)

-- ---- all of it

pub half_is : (n : ℕ) (b : List Side) (x : List ℤ) (r : Holder) → holds_in n x b ≡ true → box_of n r.kid ≡ kid_of b (reading_of n x)
    → r.number ≡ number_of b (reading_of n x) → r.count ≡ count_of b → r.count ≤ 16 → HalfOf n b x r
half_is n b x r e kid number count few = record {
  stuck = λ q. children-none b (sym count ∙ q);
  many = λ q. count ∙ sym (pieces-length b) ∙ ap length (sym (some q));
  few = few;
  inside = below;
  kid_is = λ q. kid ∙ sym (kid_at b (reading_of n x) e) ∙ ap (child_at b) (sym number) ∙ sym (children-at b r.number (omega (arith, below, count, pieces-length b, ap length (some q))));
  first = λ q. number ∙ sym (first-held b (reading_of n x) e) ∙ ap (first_held (holds_in n x)) (sym (some q));
  held = ap (holds_in n x) kid ∙ kid-held b (reading_of n x) e;
}
  where
    below : r.number < r.count
    below = omega (arith, number, count, number-below b (reading_of n x) e)

    some : (r.count ≡ 1 → ⊥) → children b ≡ pieces b
    some q = children-some b (λ z. q (count ∙ z))

-- ---- the loop: of the box bl, bh the child's first j sides stand in lo, hi

pub record Halfway (bl bh x lo hi : List ℤ) (n number count j : ℕ) : Type 0 where
  pub most : j ≤ n
  pub low-size : length lo ≡ 4
  pub high-size : length hi ≡ 4
  pub number_small : number < 2 ^ j
  pub count_small : count ≤ 2 ^ j
  pub sides : tab (side_at lo hi) j 0 ++ kid_of (tab (side_at bl bh) (n - j) j) (tab (at x) (n - j) j) ≡ kid_of (tab (side_at bl bh) n 0) (tab (at x) n 0)
  pub place : number + count * number_of (tab (side_at bl bh) (n - j) j) (tab (at x) (n - j) j) ≡ number_of (tab (side_at bl bh) n 0) (tab (at x) n 0)
  pub ways : count * count_of (tab (side_at bl bh) (n - j) j) ≡ count_of (tab (side_at bl bh) n 0)

pub halfway-none : (bl bh x lo hi : List ℤ) (n : ℕ) → length lo ≡ 4 → length hi ≡ 4 → Halfway bl bh x lo hi n 0 1 0
unfolding tab
halfway-none bl bh x lo hi n l h = record {
  most = omega arith;
  low-size = l;
  high-size = h;
  number_small = omega arith;
  count_small = omega arith;
  sides = rw sub-zero refl;
  place = rw sub-zero (omega arith);
  ways = rw sub-zero (omega arith);
}

pub pow-most : (j : ℕ) → j ≤ 4 → 2 ^ j ≤ 16
pow-most j h = pow_mono {i = j} {j = 4} h

-- a side has one half or two, of which it takes one
few-halves : (s : Side) (v : ℤ) (count : ℕ) → (count * bit_of s v ≤ count) × (count * length (halves s) ≤ 2 * count)
few-halves s v count = go (long s) (le_z v (middle s))
  where
    go : (t w : Bool) → (count * cond t (cond w 0 1) 0 ≤ count) × (count * length (cond t (lower s ∷ upper s ∷ []) (s ∷ [])) ≤ 2 * count)
    go true true = (omega arith, omega arith)
    go true false = (omega arith, omega arith)
    go false w = (omega arith, omega arith)

count-halves : (s : Side) (b : List Side) → count_of (s ∷ b) ≡ length (halves s) * count_of b
unfolding count_of
count-halves s b = go (long s)
  where
    go : (t : Bool) → cond t (2 * count_of b) (count_of b) ≡ length (cond t (lower s ∷ upper s ∷ []) (s ∷ [])) * count_of b
    go true = omega arith
    go false = omega arith

module _ {bl bh x lo hi : List ℤ} {n number count j : ℕ} (w : Halfway bl bh x lo hi n number count j) where
  module _ (h : j < n) where
    abbrev rest : List Side
    rest = tab (side_at bl bh) (n - (j + 1)) (j + 1)

    abbrev counts : List ℤ
    counts = tab (at x) (n - (j + 1)) (j + 1)

    kid-step : kid_of (tab (side_at bl bh) (n - j) j) (tab (at x) (n - j) j) ≡ part_of (side_at bl bh j) (at x j) ∷ kid_of rest counts
    unfolding kid_of
    kid-step = rw (tab-step (side_at bl bh) n j h, tab-step (at x) n j h) refl

    number_step : number_of (tab (side_at bl bh) (n - j) j) (tab (at x) (n - j) j) ≡ bit_of (side_at bl bh j) (at x j) + length (halves (side_at bl bh j)) * number_of rest counts
    unfolding number_of
    number_step = rw (tab-step (side_at bl bh) n j h, tab-step (at x) n j h) refl

    count-step : count_of (tab (side_at bl bh) (n - j) j) ≡ length (halves (side_at bl bh j)) * count_of rest
    count-step = ap count_of (tab-step (side_at bl bh) n j h) ∙ count-halves (side_at bl bh j) rest

    pub halfway-more : n ≤ 4 → (u v : ℤ) (more ways : ℕ) → side u v ≡ part_of (side_at bl bh j) (at x j) → more ≡ count * bit_of (side_at bl bh j) (at x j)
        → ways ≡ count * length (halves (side_at bl bh j)) → Halfway bl bh x (set lo j u) (set hi j v) n (number + more) ways (j + 1)
    halfway-more k u v more ways e f g =
        let s = side_at bl bh j in
        let few = few-halves s (at x j) count in
        let p = pow-next j in
        record {
          most = omega arith;
          low-size = length-set lo j u ∙ w.low-size;
          high-size = length-set hi j v ∙ w.high-size;
          number_small = omega (arith, few.0, w.number_small, w.count_small, p, f);
          count_small = omega (arith, few.1, w.count_small, p, g);
          sides =
              rw (sides-stored lo hi j u v (omega (arith, w.low-size)) (omega (arith, w.high-size)), append_assoc (tab (side_at lo hi) j 0) (side u v ∷ []) (kid_of rest counts), e)
              (rw kid-step at w.sides);
          place =
              rw (
                f,
                g,
                mul_assoc count (length (halves s)) (number_of rest counts),
                add_assoc number (count * bit_of s (at x j)) (count * (length (halves s) * number_of rest counts)),
                ← mul-add count (bit_of s (at x j)) (length (halves s) * number_of rest counts),
              )
              (rw number_step at w.place);
          ways = rw (g, mul_assoc count (length (halves s)) (count_of rest)) (rw count-step at w.ways);
        }

  pub halfway-done : n ≤ j → (tab (side_at lo hi) n 0 ≡ kid_of (tab (side_at bl bh) n 0) (tab (at x) n 0))
      × (number ≡ number_of (tab (side_at bl bh) n 0) (tab (at x) n 0)) × (count ≡ count_of (tab (side_at bl bh) n 0))
  unfolding kid_of number_of count_of
  halfway-done h =
      let q : j ≡ n = omega (arith, w.most) in (
        sym (append-nil (tab (side_at lo hi) n 0)) ∙ (rw (tab-done (side_at bl bh) n j h, q) at w.sides),
        omega (arith, rw (tab-done (side_at bl bh) n j h) at w.place),
        omega (arith, rw (tab-done (side_at bl bh) n j h) at w.ways),
      )
