-- S4, form 1's split, as a count: each reading is held by exactly one child of a box that holds it, and by none of a box that does not; so children
-- cover their box and do not meet. What each child is by itself is page Children.
-- Relies on meaning's page Boxes and the law of the middle. Any number of dimensions, any readings.
use Rattle.std.specs.Prelude.{◌+◌, ◌*◌, ◌≡◌, refl, Bool, true, false, ◌&&◌, cond, ℤ, pos, ◌+ℤ◌, ◌≤ℤ◌, ◌<ℤ◌}
use Rattle.std.proofs.Math.Path.{sym}
use Rattle.std.proofs.Common.{◌∙◌, arith, add-mul, mul-add, zero-mul, mul-zero, add-zero}
use mathlib.Core.List.{List, [], ◌∷◌, map}
use Rattle.std.specs.Int.Signed.{le_z}
use Rattle.laws.specs.Counting as C
use Rattle.laws.specs.Counting.{bit, bit_and, count, count-append}
use Rattle.laws.specs.Integers.{zarith, add, le_z-true, le_z-false}
use Rattle.laws.specs.Lists as L
use Rattle.laws.specs.Lists.{all}
use Rattle.laws.specs.Tests.{true-le_z, false-le_z}
use Rattle.meaning.specs.Boxes as B
use Rattle.meaning.specs.Boxes.{Side, side, has, fits, long, middle, halves, in_front, pieces, any_long, children}
use Rattle.promises.specs.Tables.Boxes.{middle-in}

-- ---- by sides

-- a..m and m+1..b, with a ≤ m < b, share no count and have those of a..b
two-halves : (a m b x : ℤ) → a ≤ℤ m → m <ℤ b → bit (le_z a x && le_z x m) + (bit (le_z (m +ℤ pos 1) x && le_z x b) + 0) ≡ bit (le_z a x && le_z x b)
two-halves a m b x h k = go (le_z x m) refl
  where
    after : le_z a x ≡ true → (t : Bool) → le_z x b ≡ t → bit (le_z a x && false) + (bit (true && t) + 0) ≡ bit (le_z a x && t)
    after e true f = rw e refl
    after e false f = rw e refl

    before : (t : Bool) → le_z a x ≡ t → bit (t && true) + (bit (false && true) + 0) ≡ bit (t && true)
    before true f = refl
    before false f = refl

    go : (t : Bool) → le_z x m ≡ t → bit (le_z a x && le_z x m) + (bit (le_z (m +ℤ pos 1) x && le_z x b) + 0) ≡ bit (le_z a x && le_z x b)
    go true e =
        let under = le_z-true x m e in
        let past : x <ℤ (m +ℤ pos 1) = omega (zarith, under, add m (pos 1)) in
        let in_b : x ≤ℤ b = omega zarith in
        simp (e, false-le_z past, true-le_z in_b) (before (le_z a x) refl)
    go false e =
        let over = le_z-false x m e in
        let past : (m +ℤ pos 1) ≤ℤ x = omega (zarith, over, add m (pos 1)) in
        let in-a : a ≤ℤ x = omega zarith in
        simp (e, true-le_z past) (after (true-le_z in-a) (le_z x b) refl)

pub count-halves : (s : Side) (x : ℤ) → count (λ h. has h x) (halves s) ≡ bit (has s x)
unfolding C.count
count-halves s x = go (long s) refl
  where
    go : (t : Bool) → long s ≡ t → count (λ h. has h x) (cond t (side s.lo (middle s) ∷ side (middle s +ℤ pos 1) s.hi ∷ []) (s ∷ [])) ≡ bit (has s x)
    go true e = let m = middle-in s e in two-halves s.lo (middle s) s.hi x m.0 m.1
    go false e = add-zero (bit (has s x))

-- ---- by boxes

module _ (x : ℤ) (xs : List ℤ) where
  abbrev pub holds_all : List Side → Bool
  holds_all b = all (fits b (x ∷ xs))

  pub count-heads : (hs c : List Side) → count holds_all (map (λ h. h ∷ c) hs) ≡ count (λ h. has h x) hs * bit (all (fits c xs))
  unfolding C.count B.fits L.all
  count-heads [] c = sym (zero-mul (bit (all (fits c xs))))
  count-heads (h ∷ hs) c = rw (bit_and (has h x) (all (fits c xs)), count-heads hs c) (sym (add-mul (bit (has h x)) (count (λ h. has h x) hs) (bit (all (fits c xs)))))

  count-front : (hs : List Side) (cs : List (List Side)) → count holds_all (in_front hs cs) ≡ count (λ h. has h x) hs * count (λ c. all (fits c xs)) cs
  unfolding C.count B.in_front
  count-front hs [] = sym (mul-zero (count (λ h. has h x) hs))
  count-front hs (c ∷ cs) =
      count-append holds_all (map (λ h. h ∷ c) hs) (in_front hs cs)
      ∙ rw (count-heads hs c, count-front hs cs) (sym (mul-add (count (λ h. has h x) hs) (bit (all (fits c xs))) (count (λ c. all (fits c xs)) cs)))

-- a reading that is too short is in no piece
count-short : (hs : List Side) (cs : List (List Side)) → count (λ b. all (fits b [])) (in_front hs cs) ≡ 0
unfolding C.count B.in_front B.fits L.all
count-short hs [] = refl
count-short hs (c ∷ cs) = count-append (λ b. all (fits b [])) (map (λ h. h ∷ c) hs) (in_front hs cs) ∙ rw (none hs, count-short hs cs) refl
  where
    none : (hs : List Side) → count (λ b. all (fits b [])) (map (λ h. h ∷ c) hs) ≡ 0
    none [] = refl
    none (h ∷ hs) = omega (arith, none hs)

count-pieces : (b : List Side) (x : List ℤ) → count (λ c. all (fits c x)) (pieces b) ≡ bit (all (fits b x))
unfolding C.count B.pieces B.fits L.all
count-pieces [] [] = refl
count-pieces [] (x ∷ xs) = refl
count-pieces (s ∷ b) [] = count-short (halves s) (pieces b)
count-pieces (s ∷ b) (x ∷ xs) = count-front x xs (halves s) (pieces b) ∙ rw (count-halves s x, count-pieces b xs) (sym (bit_and (has s x) (all (fits b xs))))

-- S4: each reading is held by exactly one child of a box that can be split, where the box holds it, and by none where it does not
pub one-child : (b : List Side) (x : List ℤ) → (children b ≡ [] → ⊥) → count (λ c. all (fits c x)) (children b) ≡ bit (all (fits b x))
unfolding B.children
one-child b x some = go (any_long b) some
  where
    go : (t : Bool) → (cond t (pieces b) [] ≡ [] → ⊥) → count (λ c. all (fits c x)) (cond t (pieces b) []) ≡ bit (all (fits b x))
    go true some = count-pieces b x
    go false some = absurd (some refl)
