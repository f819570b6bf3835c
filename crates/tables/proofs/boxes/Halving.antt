-- Laws of form 3's children (request 2026-06) for the proofs of module boxes and of its callers: the place of the longest side, in a loop over the sides;
-- the x-th child by that place; and the children by a table's form. Relies on promises' page Halving. Leaves out form 1's children (page Laws).
use Prim.Native.Nat.{ℕ, zero, suc, ◌+◌, ◌-◌, ◌≤◌, ◌<◌}
use mathlib.Core.Path.{◌≡◌, refl, sym, ap, ◌∙◌}
use mathlib.Core.Bool.{Bool, true, false, cond}
use mathlib.Core.List.{List, [], ◌∷◌, ◌++◌, map}
use native.Mathlib.Omega.{arith}
use native.Mathlib.Nat.{add-zero, zero-add}
use borrow.Author.Tests.{ne_eqb}
use lib.ListN.{length, get_or, set, length-append}
use lib.Seq.{set-append_seam, get_or-append-add, get_or-set_other}
use lib.IntN.{ℤ, pos, ◌+ℤ◌}
use lib.Signed.{le_z, ◌≤ℤ◌, ◌<ℤ◌}
use Rattle.laws.specs.Every as E
use Rattle.laws.specs.Every.{Every}
use Rattle.laws.specs.Integers.{zarith, sub, le_z-true, le_z-false, lt_z-true}
use Rattle.laws.specs.Lists.{at, tab}
use Rattle.laws.specs.Tabs.{length-tab, get_d-tab, tab-step, tab-done, tab-same, at_stored}
use Rattle.laws.specs.Tests.{true-le_z, false-le_z}
use Rattle.meaning.specs.Boxes as B
use Rattle.meaning.specs.Boxes.{Side, side, side_at, long, middle, halves, any_long, children, reach, larger, furthest, longest_halved}
use Rattle.meaning.specs.Tables.{one_side, children_by}
use Rattle.promises.specs.Files.Sound.{Bounded}
use Rattle.promises.specs.Tables.Halving.{Longest, longest, in_two, in-none, larger-first, larger-second, larger-both}
use Rattle.tables.specs.Boxes.{Small, lower, upper, longest_at}
use Rattle.tables.proofs.boxes.Laws.{count_of, none-long, some-long, count-one, count-more, small-lower, small-upper, small_all}

-- ---- the loop: of the sides that are passed the longest is at `place` and reaches `most`; those left stand from dimension j on

-- the place of the longest of all; a side that is left must reach further to be it
abbrev pub leads : ℤ → ℕ → ℕ → List Side → ℕ
leads most place j ss = cond (le_z (furthest ss) most) place (j + longest_at ss)

module _ (most : ℤ) (place j : ℕ) where
  leads-none : pos 0 ≤ℤ most → leads most place j [] ≡ place
  unfolding B.furthest longest_at
  leads-none h = rw (true-le_z h) refl

  module _ (s : Side) (ss : List Side) where
    leads-new : most <ℤ reach s → leads most place j (s ∷ ss) ≡ leads (reach s) j (j + 1) ss
    unfolding B.furthest longest_at
    leads-new h =
        let k : most <ℤ larger (reach s) (furthest ss) = omega (zarith, h, larger-first (reach s) (furthest ss)) in
        rw (false-le_z k) (go (le_z (furthest ss) (reach s)))
      where
        go : (t : Bool) → j + cond t 0 (suc (longest_at ss)) ≡ cond t j (j + 1 + longest_at ss)
        go true = omega arith
        go false = omega arith

    leads-same : reach s ≤ℤ most → leads most place j (s ∷ ss) ≡ leads most place (j + 1) ss
    unfolding B.furthest longest_at
    leads-same h = go (le_z (furthest ss) most) refl
      where
        go : (t : Bool) → le_z (furthest ss) most ≡ t
            → cond (le_z (larger (reach s) (furthest ss)) most) place (j + cond (le_z (furthest ss) (reach s)) 0 (suc (longest_at ss))) ≡ cond t place (j + 1 + longest_at ss)
        go true e = rw (true-le_z (larger-both (reach s) (furthest ss) most h (le_z-true (furthest ss) most e))) refl
        go false e =
            let k = le_z-false (furthest ss) most e in
            let l : most <ℤ larger (reach s) (furthest ss) = omega (zarith, k, larger-second (reach s) (furthest ss)) in
            let z : reach s <ℤ furthest ss = omega (zarith, h, k) in
            rw (false-le_z l, false-le_z z) (omega arith)

-- no side is empty, so before the loop the first side leads
pub leads-all : (k : ℕ) (b : List Side) → Small k b → leads (pos 0) 0 0 b ≡ longest_at b
unfolding B.furthest longest_at Small
leads-all k [] h = refl
leads-all k (s ∷ ss) h = go (le_z (larger (reach s) (furthest ss)) (pos 0)) refl
  where
    go : (t : Bool) → le_z (larger (reach s) (furthest ss)) (pos 0) ≡ t
        → cond t 0 (0 + cond (le_z (furthest ss) (reach s)) 0 (suc (longest_at ss))) ≡ cond (le_z (furthest ss) (reach s)) 0 (suc (longest_at ss))
    go true e =
        let l = le_z-true (larger (reach s) (furthest ss)) (pos 0) e in
        let z : furthest ss ≤ℤ reach s = omega (zarith, l, larger-second (reach s) (furthest ss), sub s.hi s.lo, h.0.order) in
        rw (true-le_z z) refl
    go false e = zero-add _

module _ (lo hi : List ℤ) (n j : ℕ) (most : ℤ) (place : ℕ) where
  pub leads-end : n ≤ j → pos 0 ≤ℤ most → leads most place j (tab (side_at lo hi) (n - j) j) ≡ place
  leads-end h z = rw (tab-done (side_at lo hi) n j h) (leads-none most place j z)

  module _ (h : j < n) where
    pub leads-further : most <ℤ reach (side_at lo hi j)
        → leads most place j (tab (side_at lo hi) (n - j) j) ≡ leads (reach (side_at lo hi j)) j (j + 1) (tab (side_at lo hi) (n - (j + 1)) (j + 1))
    leads-further k = rw (tab-step (side_at lo hi) n j h) (leads-new most place j (side_at lo hi j) _ k)

    pub leads-still : reach (side_at lo hi j) ≤ℤ most
        → leads most place j (tab (side_at lo hi) (n - j) j) ≡ leads most place (j + 1) (tab (side_at lo hi) (n - (j + 1)) (j + 1))
    leads-still k = rw (tab-step (side_at lo hi) n j h) (leads-same most place j (side_at lo hi j) _ k)

-- ---- the place is that of promises' `Longest`

back-short : (m : ℤ) (back : List Side) → pos 0 ≤ℤ m → Every (λ s. reach s ≤ℤ m) back → furthest back ≤ℤ m
unfolding E.Every B.furthest
back-short m [] z h = z
back-short m (s ∷ back) z h = larger-both (reach s) (furthest back) m h.0 (back-short m back z h.1)

reached : (front : List Side) (one : Side) (back : List Side) → reach one ≤ℤ furthest (front ++ one ∷ back)
unfolding B.furthest
reached [] one back = larger-first (reach one) (furthest back)
reached (s ∷ front) one back = omega (zarith, reached front one back, larger-second (reach s) (furthest (front ++ one ∷ back)))

place_is : (front : List Side) (one : Side) (back : List Side) → pos 0 ≤ℤ reach one → Every (λ s. reach s <ℤ reach one) front → Every (λ s. reach s ≤ℤ reach one) back
    → longest_at (front ++ one ∷ back) ≡ length front
unfolding E.Every longest_at
place_is [] one back z f h = rw (true-le_z (back-short (reach one) back z h)) refl
place_is (s ∷ front) one back z f h =
    let k : reach s <ℤ furthest (front ++ one ∷ back) = omega (zarith, f.0, reached front one back) in
    rw (false-le_z k) (ap suc (place_is front one back z f.1 h))

-- ---- a child: one half stands at the place of the longest side

-- a box that has a child has a long side, and two children
pub can-split : (b : List Side) (x : ℕ) → x < length (longest_halved b) → (any_long b ≡ true) × (x < 2)
can-split b x h = go (any_long b) refl
  where
    go : (t : Bool) → any_long b ≡ t → (any_long b ≡ true) × (x < 2)
    go true e = (e, omega (arith, in_two b e))
    go false e = absurd (omega (arith, ap length (in-none b e)))

-- what a box's sides are read with behind its end, where none stands
abbrev zero-side : Side
zero-side = side (pos 0) (pos 0)

module _ (b : List Side) (e : any_long b ≡ true) where
  abbrev found : Longest b
  found = longest b e

  abbrev its : Side
  its = get_or b (longest_at b) zero-side

  place : longest_at b ≡ length found.front
  place =
      let o = found.one in
      ap longest_at found.are
      ∙ place_is found.front o found.back (omega (zarith, sub o.hi o.lo, lt_z-true o.lo o.hi found.two)) found.before found.behind

  there : longest_at b < length b
  there = omega (arith, place, ap length found.are, length-append found.front (found.one ∷ found.back))

  here : its ≡ found.one
  here =
      let q : length found.front + 0 ≡ length found.front = add-zero _ in
      ap (λ (c : List Side). get_or c (longest_at b) zero-side) found.are ∙ rw (place, ← q) (get_or-append-add found.front (found.one ∷ found.back) 0 zero-side)

  is-long : long its ≡ true
  is-long = rw here found.two

  -- child x is made by the half f, lower or upper
  made : (f : Side → Side) (x : ℕ) → get_or (map (λ h. found.front ++ h ∷ found.back) (halves found.one)) x [] ≡ found.front ++ f found.one ∷ found.back
      → get_or (longest_halved b) x [] ≡ set b (longest_at b) (f its)
  made f x g =
      ap (λ (cs : List (List Side)). get_or cs x []) found.splits ∙ g
      ∙ sym (ap (λ (c : List Side). set c (longest_at b) (f its)) found.are ∙ rw (here, place) (set-append_seam found.front found.one found.back (f found.one)))

  at-lower : get_or (longest_halved b) 0 [] ≡ set b (longest_at b) (lower its)
  at-lower = made lower 0 (rw found.two refl)

  at-upper : get_or (longest_halved b) 1 [] ≡ set b (longest_at b) (upper its)
  at-upper = made upper 1 (rw found.two refl)

-- a side stored in the arrays
tab-set : {A : Type 0} (f g : ℕ → A) (m i j : ℕ) → j < m → ((k : ℕ) → (k ≡ i + j → ⊥) → g k ≡ f k) → tab g m i ≡ set (tab f m i) j (g (i + j))
unfolding tab
tab-set f g zero i j h s = absurd (omega arith)
tab-set f g (suc m) i zero h s = rw (add-zero, tab-same g f m (i + 1) (λ k a l. s k (λ e. absurd (omega arith)))) refl
tab-set f g (suc m) i (suc j) h s =
    let q : i + 1 + j ≡ i + suc j = omega arith in
    rw (s i (λ e. absurd (omega arith)), ← q) (ap (λ t. f i ∷ t) (tab-set f g m (i + 1) j (omega arith) (λ k n. s k (λ e. n (omega arith)))))

-- stored at the place j of the longest side, the new edge v of one half gives the child
module _ (lo hi : List ℤ) (n x : ℕ) (h : x < length (longest_halved (tab (side_at lo hi) n 0))) (j : ℕ) (p : j ≡ longest_at (tab (side_at lo hi) n 0)) where
  abbrev box : List Side
  box = tab (side_at lo hi) n 0

  can : any_long box ≡ true
  can = (can-split box x h).0

  pub place_in : j < n
  place_in = omega (arith, p, there box can, length-tab (side_at lo hi) n 0)

  side-there : get_or box (longest_at box) zero-side ≡ side_at lo hi j
  side-there = rw (← p) (get_d-tab (side_at lo hi) zero-side n 0 j place_in ∙ rw zero-add refl)

  module _ (v : ℤ) where
    pub lower-child : x ≡ 0 → v ≡ middle (side_at lo hi j) → j < length hi → tab (side_at lo (set hi j v)) n 0 ≡ get_or (longest_halved box) x []
    lower-child e m l =
        tab-set (side_at lo hi) (side_at lo (set hi j v)) n 0 j place_in (λ k a. ap (side (at lo k)) (get_or-set_other hi j k v (pos 0) (λ q. a (omega arith))))
        ∙ rw (zero-add, at_stored hi j v l, m) (sym (ap (λ (y : ℕ). get_or (longest_halved box) y []) e ∙ (rw (side-there, ← p) at (at-lower box can))))

    pub upper-child : (x ≡ 0 → ⊥) → v ≡ middle (side_at lo hi j) +ℤ pos 1 → j < length lo → tab (side_at (set lo j v) hi) n 0 ≡ get_or (longest_halved box) x []
    upper-child e m l =
        let one : x ≡ 1 = omega (arith, (can-split box x h).1) in
        tab-set (side_at lo hi) (side_at (set lo j v) hi) n 0 j place_in (λ k a. ap (λ (z : ℤ). side z (at hi k)) (get_or-set_other lo j k v (pos 0) (λ q. a (omega arith))))
        ∙ rw (zero-add, at_stored lo j v l, m) (sym (ap (λ (y : ℕ). get_or (longest_halved box) y []) one ∙ (rw (side-there, ← p) at (at-upper box can))))

-- ---- the children by a table's form

module _ (form : ℕ) (b : List Side) where
  by-longest : form ≡ 3 → children_by form b ≡ longest_halved b
  by-longest e = rw e refl

  by_all : (form ≡ 3 → ⊥) → children_by form b ≡ children b
  by_all e = rw (ne_eqb form 3 e) refl

  pub count_none : count_of b ≡ 1 → 0 ≡ length (children_by form b)
  count_none e = go (one_side form)
    where
      go : (t : Bool) → 0 ≡ length (cond t (longest_halved b) (children b))
      go true = rw (in-none b (none-long b e)) refl
      go false = count-one b e

  pub count-two : form ≡ 3 → (count_of b ≡ 1 → ⊥) → 2 ≡ length (children_by form b)
  count-two f e = rw (by-longest f) (sym (in_two b (some-long b e)))

  pub count-all : (form ≡ 3 → ⊥) → (count_of b ≡ 1 → ⊥) → count_of b ≡ length (children_by form b)
  count-all f e = rw (by_all f) (count-more b e)

-- ---- a child of a small box is small

small-changed : (k : ℕ) (b : List Side) (j : ℕ) (v : Side) → j < length b → (Bounded k (get_or b j zero-side) → Bounded k v) → Small k b → Small k (set b j v)
unfolding Small
small-changed k [] j v h f s = absurd (omega arith)
small-changed k (a ∷ b) zero v h f s = (f s.0, s.1)
small-changed k (a ∷ b) (suc j) v h f s = (s.0, small-changed k b j v (omega arith) f s.1)

small-half : (k : ℕ) (b : List Side) (x : ℕ) → x < length (longest_halved b) → Small k b → Small k (get_or (longest_halved b) x [])
small-half k b x h s = go x (can-split b x h).1
  where
    e : any_long b ≡ true
    e = (can-split b x h).0

    go : (y : ℕ) → y < 2 → Small k (get_or (longest_halved b) y [])
    go zero l = rw (at-lower b e) (small-changed k b (longest_at b) _ (there b e) (small-lower (is-long b e)) s)
    go (suc zero) l = rw (at-upper b e) (small-changed k b (longest_at b) _ (there b e) (small-upper (is-long b e)) s)
    go (suc (suc y)) l = absurd (omega arith)

pub small-children : (form k : ℕ) (b : List Side) (x : ℕ) → x < length (children_by form b) → Small k b → Small k (get_or (children_by form b) x [])
small-children form k b x = go (one_side form)
  where
    go : (t : Bool) → x < length (cond t (longest_halved b) (children b)) → Small k b → Small k (get_or (cond t (longest_halved b) (children b)) x [])
    go true h s = small-half k b x h s
    go false h s = small_all k b x h s
