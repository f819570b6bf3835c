-- `boxes::count`: with j sides behind it, k times the count of the others is the whole count. Assumes nothing.
use mathlib.Core.Path.{◌≡◌, ◌∙◌}
use Prim.Native.Nat.{◌<◌}
use native.Mathlib.Omega.{arith}
use mir.Facts.{to_z-of_z}
use Rattle.laws.specs.Integers.{ok64}
use Rattle.laws.specs.Lists.{at}
use Rattle.tables.specs.Boxes.{box_of}
use Rattle.tables.proofs.boxes.Laws.{count_of, count-end, count-twice, count_same, twice, pow-next}
use Rattle.tables.proofs.boxes.Halving.{count_none, count-two, count-all}
use Rattle.tables.proofs.boxes.count.Goals as goal
use Rattle.tables.proofs.boxes.count.Goals.{then-b-j, else-b-j}

pub loop-j-preserved : goal.loop-j-preserved
loop-j-preserved c =
    let l = c.loop-j in
    let a = c.args in
    let h : l.j < a.n = omega arith in
    let lo = c.args.b.lo in
    let hi = c.args.b.hi in
    let el = to_z-of_z (ok64 (at lo l.j) (omega arith)) in
    let eh = to_z-of_z (ok64 (at hi l.j) (omega arith)) in
    let p = pow-next l.j in
    elim c.if-b-j.branch [
      | then-b-j w ↦ (omega arith, omega (arith, w.k-is), rw w.k-is (twice l.k _ _ _ (count-twice lo hi a.n l.j h (rw (el, eh) at w.if-b-j.true)) l.invariant.2))
      | else-b-j w ↦ (omega arith, omega (arith, w.k-is), rw w.k-is (rw (← count_same lo hi a.n l.j h (rw (el, eh) at w.if-b-j.false)) l.invariant.2))
    ]

pub returns-then-k-eq1 : goal.returns-then-k-eq1
returns-then-k-eq1 c =
    let l = c.loop-j in
    let a = c.args in
    let e = rw (count-end a.b.lo a.b.hi a.n l.j c.loop-j-test.false) at l.invariant.2 in
    count_none a.form (box_of a.n a.b) (omega (arith, e, c.if-k-eq1.true))

pub returns-then-form-eq3 : goal.returns-then-form-eq3
returns-then-form-eq3 c =
    let l = c.loop-j in
    let a = c.args in
    let e = rw (count-end a.b.lo a.b.hi a.n l.j c.loop-j-test.false) at l.invariant.2 in
    let all : l.k ≡ count_of (box_of a.n a.b) = omega (arith, e) in
    count-two a.form (box_of a.n a.b) c.if-form-eq3.true (λ z. c.if-k-eq1.false (all ∙ z))

pub returns-else-form-eq3 : goal.returns-else-form-eq3
returns-else-form-eq3 c =
    let l = c.loop-j in
    let a = c.args in
    let e = rw (count-end a.b.lo a.b.hi a.n l.j c.loop-j-test.false) at l.invariant.2 in
    let all : l.k ≡ count_of (box_of a.n a.b) = omega (arith, e) in
    all ∙ count-all a.form (box_of a.n a.b) c.if-form-eq3.false (λ z. c.if-k-eq1.false (all ∙ z))
