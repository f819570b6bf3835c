-- `boxes::longest`: the side that leads, against the sides that are left, is the longest of all. Assumes nothing.
use mathlib.Core.Path.{◌≡◌, ◌∙◌, sym}
use Prim.Native.Nat.{ℕ, ◌<◌}
use native.Mathlib.Omega.{arith}
use native.Mathlib.Nat.{sub-zero}
use mir.Syntax.{w64}
use mir.Val.{to_z}
use Rattle.laws.specs.Integers.{zarith, lt_z-true, lt_z-false}
use Rattle.laws.specs.Lists.{at}
use Rattle.laws.specs.Expressions.{Ex, var, ◌⊝◌, need, exact}
use Rattle.meaning.specs.Boxes.{side_at, reach}
use Rattle.meaning.specs.Plants.{edge_limit}
use Rattle.tables.specs.Boxes.{box_of}
use Rattle.tables.proofs.boxes.Laws.{small-side}
use Rattle.tables.proofs.boxes.Halving.{leads-all, leads-end, leads-further, leads-still}
use Rattle.tables.proofs.boxes.longest.Goals as goal
use Rattle.tables.proofs.boxes.longest.Goals.{then-most-far, else-most-far}

pub loop-j-init : goal.loop-j-init
loop-j-init c = (omega arith, omega zarith, rw sub-zero (leads-all edge_limit (box_of c.args.n c.args.b) c.requires.1))

pub overflow_sub-far : goal.overflow_sub-far
overflow_sub-far c =
    let low : (j : ℕ) → (h : j < c.args.n) → Ex = λ j. λ h. var (at c.args.b.lo j) edge_limit (small-side c.args.b.lo c.args.b.hi c.args.n j c.requires.1 h).low in
    let high : (j : ℕ) → (h : j < c.args.n) → Ex = λ j. λ h. var (at c.args.b.hi j) edge_limit (small-side c.args.b.lo c.args.b.hi c.args.n j c.requires.1 h).high in
    let far : (j : ℕ) → (h : j < c.args.n) → Ex = λ j. λ h. (high j h) ⊝ (low j h) in
    need (far c.loop-j.j (omega arith)) tt

pub loop-j-preserved : goal.loop-j-preserved
loop-j-preserved c =
    let low : (j : ℕ) → (h : j < c.args.n) → Ex = λ j. λ h. var (at c.args.b.lo j) edge_limit (small-side c.args.b.lo c.args.b.hi c.args.n j c.requires.1 h).low in
    let high : (j : ℕ) → (h : j < c.args.n) → Ex = λ j. λ h. var (at c.args.b.hi j) edge_limit (small-side c.args.b.lo c.args.b.hi c.args.n j c.requires.1 h).high in
    let far : (j : ℕ) → (h : j < c.args.n) → Ex = λ j. λ h. (high j h) ⊝ (low j h) in
    let l = c.loop-j in
    let a = c.args in
    let h : l.j < a.n = omega arith in
    let q = exact (far l.j h) tt in
    elim c.if-most-far.branch [
      | then-most-far w ↦
          let k = lt_z-true (to_z w64 l.most-bits) (reach (side_at a.b.lo a.b.hi l.j)) (rw q at w.if-most-far.true) in
          let m : to_z w64 c.if-most-far.most-bits ≡ reach (side_at a.b.lo a.b.hi l.j) = rw w.most-is q in
          (omega arith, omega (zarith, k, m, l.invariant.1), rw (m, w.place-is) (sym (leads-further a.b.lo a.b.hi a.n l.j _ _ h k) ∙ l.invariant.2))
      | else-most-far w ↦
          let k = lt_z-false (to_z w64 l.most-bits) (reach (side_at a.b.lo a.b.hi l.j)) (rw q at w.if-most-far.false) in
          (omega arith, rw w.most-is l.invariant.1, rw (w.most-is, w.place-is) (sym (leads-still a.b.lo a.b.hi a.n l.j _ _ h k) ∙ l.invariant.2))
    ]

pub returns : goal.returns
returns c =
    let l = c.loop-j in
    let a = c.args in
    sym (leads-end a.b.lo a.b.hi a.n l.j (to_z w64 l.most-bits) l.place c.loop-j-test.false l.invariant.1) ∙ l.invariant.2
