-- `boxes::longest_halved`: the longest side is halved at its middle, and the edge that moves is stored at its place. Assumes nothing.
use mathlib.Core.Path.{◌≡◌, ap, ◌∙◌}
use Prim.Native.Nat.{◌<◌}
use native.Mathlib.Omega.{arith}
use borrow.Author.Rules.{rules}
use lib.ListN.{length}
use lib.IntN.{ℤ, pos, nat_abs, ◌+ℤ◌}
use Rattle.laws.specs.Integers.{zarith, abs-add}
use Rattle.laws.specs.Lists.{at}
use Rattle.laws.specs.Expressions.{Ex, var, lit, ◌⊕◌, need, exact, under}
use Rattle.laws.specs.Rounding.{abs-floor}
use Rattle.meaning.specs.Boxes.{side_at, middle}
use Rattle.meaning.specs.Plants.{edge_limit}
use Rattle.tables.proofs.boxes.Laws.{small-side}
use Rattle.tables.proofs.boxes.Halving.{place_in, lower-child, upper-child}
use Rattle.tables.proofs.boxes.longest_halved.Goals as goal

pub offset_bounds-b-j : goal.offset_bounds-b-j
offset_bounds-b-j c =
    let inside : c.longest-j.result < c.args.n = let a = c.args in place_in a.b.lo a.b.hi a.n a.x c.requires.2 c.longest-j.result c.longest-j.ensures in
    omega (arith, inside)

pub bounds-b-j : goal.bounds-b-j
bounds-b-j c =
    let inside : c.longest-j.result < c.args.n = let a = c.args in place_in a.b.lo a.b.hi a.n a.x c.requires.2 c.longest-j.result c.longest-j.ensures in
    omega (arith, inside)

pub offset_bounds-b-j-2 : goal.offset_bounds-b-j-2
offset_bounds-b-j-2 c =
    let inside : c.longest-j.result < c.args.n = let a = c.args in place_in a.b.lo a.b.hi a.n a.x c.requires.2 c.longest-j.result c.longest-j.ensures in
    omega (arith, inside)

pub bounds-b-j-2 : goal.bounds-b-j-2
bounds-b-j-2 c =
    let inside : c.longest-j.result < c.args.n = let a = c.args in place_in a.b.lo a.b.hi a.n a.x c.requires.2 c.longest-j.result c.longest-j.ensures in
    omega (arith, inside)

pub middle-m-requires : goal.middle-m-requires
middle-m-requires c =
    let inside : c.longest-j.result < c.args.n = let a = c.args in place_in a.b.lo a.b.hi a.n a.x c.requires.2 c.longest-j.result c.longest-j.ensures in
    let low : Ex = let a = c.args in var (at a.b.lo c.longest-j.result) edge_limit (small-side a.b.lo a.b.hi a.n c.longest-j.result c.requires.1 inside).low in
    let high : Ex = let a = c.args in var (at a.b.hi c.longest-j.result) edge_limit (small-side a.b.lo a.b.hi a.n c.longest-j.result c.requires.1 inside).high in
    (under low edge_limit tt, under high edge_limit tt)

pub offset_bounds-kid-j : goal.offset_bounds-kid-j
offset_bounds-kid-j c =
    let inside : c.longest-j.result < c.args.n = let a = c.args in place_in a.b.lo a.b.hi a.n a.x c.requires.2 c.longest-j.result c.longest-j.ensures in
    omega (arith, inside)

pub bounds-kid-j : goal.bounds-kid-j
bounds-kid-j c =
    let inside : c.longest-j.result < c.args.n = let a = c.args in place_in a.b.lo a.b.hi a.n a.x c.requires.2 c.longest-j.result c.longest-j.ensures in
    omega (arith, inside)

pub overflow_add-above : goal.overflow_add-above
overflow_add-above c =
    let inside : c.longest-j.result < c.args.n = let a = c.args in place_in a.b.lo a.b.hi a.n a.x c.requires.2 c.longest-j.result c.longest-j.ensures in
    let low : Ex = let a = c.args in var (at a.b.lo c.longest-j.result) edge_limit (small-side a.b.lo a.b.hi a.n c.longest-j.result c.requires.1 inside).low in
    let high : Ex = let a = c.args in var (at a.b.hi c.longest-j.result) edge_limit (small-side a.b.lo a.b.hi a.n c.longest-j.result c.requires.1 inside).high in
    let gave : c.middle-m.result ≡ middle (side_at c.args.b.lo c.args.b.hi c.longest-j.result) = rw (exact low tt, exact high tt) at c.middle-m.ensures in
    let mid : Ex = let a = c.args in let l = at a.b.lo c.longest-j.result in let h = at a.b.hi c.longest-j.result in let s = small-side a.b.lo a.b.hi a.n c.longest-j.result c.requires.1 inside in let e = ap nat_abs gave in var c.middle-m.result 2_000_000 (omega (zarith, s.low, s.high, abs-floor (l +ℤ h) 2, abs-add l h)) in
    need (mid ⊕ lit _) tt

pub offset_bounds-kid-j-else-x-eq0 : goal.offset_bounds-kid-j-else-x-eq0
offset_bounds-kid-j-else-x-eq0 c =
    let inside : c.longest-j.result < c.args.n = let a = c.args in place_in a.b.lo a.b.hi a.n a.x c.requires.2 c.longest-j.result c.longest-j.ensures in
    omega (arith, inside)

pub bounds-kid-j-else-x-eq0 : goal.bounds-kid-j-else-x-eq0
bounds-kid-j-else-x-eq0 c =
    let inside : c.longest-j.result < c.args.n = let a = c.args in place_in a.b.lo a.b.hi a.n a.x c.requires.2 c.longest-j.result c.longest-j.ensures in
    omega (arith, inside)

pub returns-then-x-eq0 : goal.returns-then-x-eq0
returns-then-x-eq0 c =
    let inside : c.longest-j.result < c.args.n = let a = c.args in place_in a.b.lo a.b.hi a.n a.x c.requires.2 c.longest-j.result c.longest-j.ensures in
    let low : Ex = let a = c.args in var (at a.b.lo c.longest-j.result) edge_limit (small-side a.b.lo a.b.hi a.n c.longest-j.result c.requires.1 inside).low in
    let high : Ex = let a = c.args in var (at a.b.hi c.longest-j.result) edge_limit (small-side a.b.lo a.b.hi a.n c.longest-j.result c.requires.1 inside).high in
    let gave : c.middle-m.result ≡ middle (side_at c.args.b.lo c.args.b.hi c.longest-j.result) = rw (exact low tt, exact high tt) at c.middle-m.ensures in
    let mid : Ex = let a = c.args in let l = at a.b.lo c.longest-j.result in let h = at a.b.hi c.longest-j.result in let s = small-side a.b.lo a.b.hi a.n c.longest-j.result c.requires.1 inside in let e = ap nat_abs gave in var c.middle-m.result 2_000_000 (omega (zarith, s.low, s.high, abs-floor (l +ℤ h) 2, abs-add l h)) in
    let a = c.args in
    let size : length a.b.hi ≡ 4 = search rules in
    lower-child a.b.lo a.b.hi a.n a.x c.requires.2 c.longest-j.result c.longest-j.ensures _ c.if-x-eq0.true
    (exact mid tt ∙ gave) (omega (arith, inside, size))

pub returns-else-x-eq0 : goal.returns-else-x-eq0
returns-else-x-eq0 c =
    let inside : c.longest-j.result < c.args.n = let a = c.args in place_in a.b.lo a.b.hi a.n a.x c.requires.2 c.longest-j.result c.longest-j.ensures in
    let low : Ex = let a = c.args in var (at a.b.lo c.longest-j.result) edge_limit (small-side a.b.lo a.b.hi a.n c.longest-j.result c.requires.1 inside).low in
    let high : Ex = let a = c.args in var (at a.b.hi c.longest-j.result) edge_limit (small-side a.b.lo a.b.hi a.n c.longest-j.result c.requires.1 inside).high in
    let gave : c.middle-m.result ≡ middle (side_at c.args.b.lo c.args.b.hi c.longest-j.result) = rw (exact low tt, exact high tt) at c.middle-m.ensures in
    let mid : Ex = let a = c.args in let l = at a.b.lo c.longest-j.result in let h = at a.b.hi c.longest-j.result in let s = small-side a.b.lo a.b.hi a.n c.longest-j.result c.requires.1 inside in let e = ap nat_abs gave in var c.middle-m.result 2_000_000 (omega (zarith, s.low, s.high, abs-floor (l +ℤ h) 2, abs-add l h)) in
    let a = c.args in
    let size : length a.b.lo ≡ 4 = search rules in
    upper-child a.b.lo a.b.hi a.n a.x c.requires.2 c.longest-j.result c.longest-j.ensures _ c.if-x-eq0.false
    (exact (mid ⊕ lit (pos 1)) tt ∙ ap (λ (z : ℤ). z +ℤ pos 1) gave) (omega (arith, inside, size))
