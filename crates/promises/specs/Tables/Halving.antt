-- S4 for form 3 (request 2026-06): where a box can be split, its longest side by counts, the lowest dimension where several are equal, is halved and the
-- others stay; the children lie in the box, are smaller, have no empty side where it has none, and each reading of it is in exactly one. A box with
-- no long side, so one of a single reading, cannot be split, and every other can. Relies on meaning's page Boxes and on the laws of a side's halves (pages Children and Splits).
-- Any number of dimensions, any readings.
use Rattle.std.specs.Prelude.{ℕ, ◌*◌, ◌≡◌, refl, Bool, true, false, ◌&&◌, ◌||◌, cond, List, [], ◌∷◌, ◌++◌, map, length, ℤ, pos, ◌≤ℤ◌, ◌<ℤ◌}
use Rattle.std.proofs.Common.{sym, ap, subst, ◌∙◌, arith, mul-add, mul-zero}
use Rattle.std.proofs.lemmas.List.{length-map}
use Rattle.std.specs.Int.Signed.{le_z, ≤ℤ_refl}
use Rattle.laws.specs.Counting as C
use Rattle.laws.specs.Counting.{bit, bit_and, count}
use Rattle.laws.specs.Every as E
use Rattle.laws.specs.Every.{Every, every_map, every-parts}
use Rattle.laws.specs.Integers.{zarith, sub, le_z-true, le_z-false, lt_z-true, lt_z-false}
use Rattle.laws.specs.Lists as L
use Rattle.laws.specs.Lists.{all}
use Rattle.laws.specs.Tests.{never, both}
use Rattle.meaning.specs.Boxes as B
use Rattle.meaning.specs.Boxes.{Side, side, has, fits, long, middle, halves, any_long, children, reach, larger, furthest, halved, longest_halved}
use Rattle.meaning.specs.Tables.{one_side, children_by}
use Rattle.promises.specs.Tables.Boxes.{covers-itself, within-itself}
use Rattle.promises.specs.Tables.Children as K
use Rattle.promises.specs.Tables.Children.{Half, halves_are, Child, children-are}
use Rattle.promises.specs.Tables.Splits.{count-halves, holds_all, count-heads}

-- ---- a side that reaches a count or more beyond its first is long, and a long one does

reach-long : (s : Side) (far : ℤ) → pos 1 ≤ℤ far → far ≤ℤ reach s → long s ≡ true
reach-long s far l h = go (long s) refl
  where
    go : (t : Bool) → long s ≡ t → t ≡ true
    go true e = refl
    go false e = absurd (omega (zarith, l, h, sub s.hi s.lo, lt_z-false s.lo s.hi e))

long-reach : (s : Side) → long s ≡ true → pos 1 ≤ℤ reach s
long-reach s e = let k = lt_z-true s.lo s.hi e in omega (zarith, k, sub s.hi s.lo)

-- the larger of two is at least each of them, and one of them
pub larger-first : (a b : ℤ) → a ≤ℤ larger a b
larger-first a b = go (le_z a b) refl
  where
    go : (t : Bool) → le_z a b ≡ t → a ≤ℤ cond t b a
    go true e = le_z-true a b e
    go false e = omega zarith

pub larger-second : (a b : ℤ) → b ≤ℤ larger a b
larger-second a b = go (le_z a b) refl
  where
    go : (t : Bool) → le_z a b ≡ t → b ≤ℤ cond t b a
    go true e = omega zarith
    go false e = omega (zarith, le_z-false a b e)

pub larger-both : (a b c : ℤ) → a ≤ℤ c → b ≤ℤ c → larger a b ≤ℤ c
larger-both a b c l h = go (le_z a b)
  where
    go : (t : Bool) → cond t b a ≤ℤ c
    go true = h
    go false = l

larger-not-first : (a b far : ℤ) → a <ℤ far → far ≤ℤ larger a b → far ≤ℤ b
larger-not-first a b far l = go (le_z a b) refl
  where
    go : (t : Bool) → le_z a b ≡ t → far ≤ℤ cond t b a → far ≤ℤ b
    go true e h = h
    go false e h = absurd (omega (zarith, l, h))

-- a box with a long side reaches a count or more
far-enough : (b : List Side) → any_long b ≡ true → pos 1 ≤ℤ furthest b
unfolding B.any_long B.furthest
far-enough [] e = never e
far-enough (s ∷ b) e = go (long s) refl e (far-enough b)
  where
    go : (t : Bool) → long s ≡ t → (t || any_long b) ≡ true → (any_long b ≡ true → pos 1 ≤ℤ furthest b) → pos 1 ≤ℤ larger (reach s) (furthest b)
    go true q e ih = omega (zarith, long-reach s q, larger-first (reach s) (furthest b))
    go false q e ih = omega (zarith, ih e, larger-second (reach s) (furthest b))

-- ---- each child by itself

halves-children : (s : Side) (b hs : List Side) → long s ≡ true → Every (Half s) hs → Every (Child (s ∷ b)) (map (λ h. h ∷ b) hs)
unfolding E.Every B.lies L.all K.extent
halves-children s b [] e k = tt
halves-children s b (h ∷ hs) e k = (
  record {
    inside = both k.0.inside (within-itself b);
    smaller = omega (arith, rw e at k.0.shorter);
    filled = λ f. (k.0.filled f.0, f.1);
  },
  halves-children s b hs e k.1,
)

behind-children : (s : Side) (b : List Side) (cs : List (List Side)) → Every (Child b) cs → Every (Child (s ∷ b)) (map (λ c. s ∷ c) cs)
unfolding E.Every B.lies L.all K.extent
behind-children s b [] k = tt
behind-children s b (c ∷ cs) k = (
  record {
    inside = both (covers-itself s) k.0.inside;
    smaller = omega (arith, k.0.smaller);
    filled = λ f. (f.0, k.0.filled f.1);
  },
  behind-children s b cs k.1,
)

halved-are : (far : ℤ) → pos 1 ≤ℤ far → (b : List Side) → Every (Child b) (halved far b)
unfolding E.Every B.halved
halved-are far l [] = tt
halved-are far l (s ∷ b) = go (le_z far (reach s)) refl (halved-are far l b)
  where
    go : (t : Bool) → le_z far (reach s) ≡ t → Every (Child b) (halved far b)
        → Every (Child (s ∷ b)) (cond t (map (λ h. h ∷ b) (halves s)) (map (λ c. s ∷ c) (halved far b)))
    go true e k = halves-children s b (halves s) (reach-long s far l (le_z-true far (reach s) e)) (halves_are s)
    go false e k = behind-children s b (halved far b) k

pub longest-are : (b : List Side) → Every (Child b) (longest_halved b)
unfolding E.Every B.longest_halved
longest-are b = go (any_long b) refl
  where
    go : (t : Bool) → any_long b ≡ t → Every (Child b) (cond t (halved (furthest b) b) [])
    go true e = halved-are (furthest b) (far-enough b e) b
    go false e = tt

-- ---- each reading in exactly one

count-behind : (s : Side) (x : ℤ) (xs : List ℤ) (cs : List (List Side))
    → count (holds_all x xs) (map (λ c. s ∷ c) cs) ≡ bit (has s x) * count (λ c. all (fits c xs)) cs
unfolding C.count B.fits L.all
count-behind s x xs [] = sym (mul-zero (bit (has s x)))
count-behind s x xs (c ∷ cs) =
    rw (bit_and (has s x) (all (fits c xs)), count-behind s x xs cs) (sym (mul-add (bit (has s x)) (bit (all (fits c xs))) (count (λ c. all (fits c xs)) cs)))

-- a reading that is too short is in none
none-short : {A : Type 0} (f : A → Side) (g : A → List Side) (of : List A) → count (λ b. all (fits b [])) (map (λ a. f a ∷ g a) of) ≡ 0
unfolding C.count B.fits L.all
none-short f g [] = refl
none-short f g (a ∷ of) = omega (arith, none-short f g of)

count-halved : (far : ℤ) (b : List Side) (x : List ℤ) → (halved far b ≡ [] → ⊥) → count (λ c. all (fits c x)) (halved far b) ≡ bit (all (fits b x))
unfolding C.count B.halved B.fits L.all
count-halved far [] x some = absurd (some refl)
count-halved far (s ∷ b) [] some = go (le_z far (reach s))
  where
    go : (t : Bool) → count (λ c. all (fits c [])) (cond t (map (λ h. h ∷ b) (halves s)) (map (λ c. s ∷ c) (halved far b))) ≡ 0
    go true = none-short (λ h. h) (λ h. b) (halves s)
    go false = none-short (λ c. s) (λ c. c) (halved far b)
count-halved far (s ∷ b) (x ∷ xs) some = go (le_z far (reach s)) some (count-halved far b xs)
  where
    go : (t : Bool) → (cond t (map (λ h. h ∷ b) (halves s)) (map (λ c. s ∷ c) (halved far b)) ≡ [] → ⊥)
        → ((halved far b ≡ [] → ⊥) → count (λ c. all (fits c xs)) (halved far b) ≡ bit (all (fits b xs)))
        → count (holds_all x xs) (cond t (map (λ h. h ∷ b) (halves s)) (map (λ c. s ∷ c) (halved far b))) ≡ bit (has s x && all (fits b xs))
    go true some ih = count-heads x xs (halves s) b ∙ rw (count-halves s x) (sym (bit_and (has s x) (all (fits b xs))))
    go false some ih =
        count-behind s x xs (halved far b) ∙ rw (ih (λ e. some (ap (map (λ c. s ∷ c)) e))) (sym (bit_and (has s x) (all (fits b xs))))

pub one-half : (b : List Side) (x : List ℤ) → (longest_halved b ≡ [] → ⊥) → count (λ c. all (fits c x)) (longest_halved b) ≡ bit (all (fits b x))
unfolding B.longest_halved
one-half b x some = go (any_long b) some
  where
    go : (t : Bool) → (cond t (halved (furthest b) b) [] ≡ [] → ⊥) → count (λ c. all (fits c x)) (cond t (halved (furthest b) b) []) ≡ bit (all (fits b x))
    go true some = count-halved (furthest b) b x some
    go false some = absurd (some refl)

-- ---- which side, and when: a box can be split exactly where some side is long

-- The longest side of a box, and the first that is: those before it are shorter, by counts, and none behind it is longer. It is halved, the others stay.
pub record Longest (b : List Side) : Type 0 where
  pub front : List Side
  pub one : Side
  pub back : List Side
  pub are : b ≡ front ++ one ∷ back
  pub before : Every (λ s. reach s <ℤ reach one) front
  pub behind : Every (λ s. reach s ≤ℤ reach one) back
  pub splits : longest_halved b ≡ map (λ h. front ++ h ∷ back) (halves one)
  pub two : long one ≡ true

-- no side reaches further than the furthest
none-further : (b : List Side) → Every (λ s. reach s ≤ℤ furthest b) b
unfolding E.Every B.furthest
none-further [] = tt
none-further (s ∷ b) = (
  larger-first (reach s) (furthest b),
  every_map (λ t. reach t ≤ℤ furthest b) (λ t. reach t ≤ℤ larger (reach s) (furthest b))
      (λ t l. omega (zarith, l, larger-second (reach s) (furthest b))) b (none-further b),
)

record Halves (far : ℤ) (b : List Side) : Type 0 where
  front : List Side
  one : Side
  back : List Side
  are : b ≡ front ++ one ∷ back
  before : Every (λ s. reach s <ℤ far) front
  here : far ≤ℤ reach one
  splits : halved far b ≡ map (λ h. front ++ h ∷ back) (halves one)

map-behind : (s : Side) (f : Side → List Side) (hs : List Side) → map (λ c. s ∷ c) (map f hs) ≡ map (λ h. s ∷ f h) hs
map-behind s f [] = refl
map-behind s f (h ∷ hs) = ap (λ (l : List (List Side)). (s ∷ f h) ∷ l) (map-behind s f hs)

-- some side reaches as far as the furthest
first-far : (far : ℤ) → pos 1 ≤ℤ far → (b : List Side) → far ≤ℤ furthest b → Halves far b
unfolding E.Every B.furthest B.halved
first-far far l [] h = absurd (omega (zarith, l, h))
first-far far l (s ∷ b) h = go (le_z far (reach s)) refl (first-far far l b)
  where
    go : (t : Bool) → le_z far (reach s) ≡ t → (far ≤ℤ furthest b → Halves far b) → Halves far (s ∷ b)
    go true e ih = record { front = []; one = s; back = b; are = refl; before = tt; here = le_z-true far (reach s) e; splits = rw e refl }
    go false e ih =
        let shorter = le_z-false far (reach s) e in
        let w = ih (larger-not-first (reach s) (furthest b) far shorter h) in
        record {
          front = s ∷ w.front;
          one = w.one;
          back = w.back;
          are = ap (λ (c : List Side). s ∷ c) w.are;
          before = (shorter, w.before);
          here = w.here;
          splits = rw e (ap (map (λ c. s ∷ c)) w.splits ∙ map-behind s (λ h. w.front ++ h ∷ w.back) (halves w.one));
        }

pub longest : (b : List Side) → any_long b ≡ true → Longest b
unfolding E.Every B.longest_halved
longest b e =
    let l = far-enough b e in
    let far = furthest b in
    let w = first-far far l b (≤ℤ_refl far) in
    let all-far : Every (λ s. reach s ≤ℤ far) (w.front ++ w.one ∷ w.back) =
    subst (λ (c : List Side). Every (λ s. reach s ≤ℤ furthest b) c) w.are (none-further b) in
    let parts = every-parts (λ s. reach s ≤ℤ far) w.front (w.one ∷ w.back) all-far in
    record {
      front = w.front;
      one = w.one;
      back = w.back;
      are = w.are;
      before = every_map (λ s. reach s <ℤ far) (λ s. reach s <ℤ reach w.one) (λ s k. omega (zarith, k, w.here)) w.front w.before;
      behind = every_map (λ s. reach s ≤ℤ far) (λ s. reach s ≤ℤ reach w.one) (λ s k. omega (zarith, k, w.here)) w.back parts.1.1;
      splits = rw e w.splits;
      two = reach-long w.one far l w.here;
    }

-- so a box with a long side can be split, in two, and one of a single reading cannot
pub in_two : (b : List Side) → any_long b ≡ true → length (longest_halved b) ≡ 2
in_two b e =
    let w = longest b e in
    ap length w.splits ∙ length-map (halves w.one) (λ h. w.front ++ h ∷ w.back) ∙ rw w.two refl

pub in-none : (b : List Side) → any_long b ≡ false → longest_halved b ≡ []
unfolding B.longest_halved
in-none b e = rw e refl

-- ---- the children by a table's form

pub children-by-are : (form : ℕ) (b : List Side) → Every (Child b) (children_by form b)
children-by-are form b = go (one_side form)
  where
    go : (t : Bool) → Every (Child b) (cond t (longest_halved b) (children b))
    go true = longest-are b
    go false = children-are b
