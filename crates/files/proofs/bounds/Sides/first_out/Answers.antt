-- `bounds::Sides::first_out` goes by the tests of the dimensions. Assumes nothing.
use mathlib.Core.Path.{◌≡◌, sym, ap, ◌∙◌}
use mathlib.Core.Bool.{false}
use native.Mathlib.Omega.{arith}
use mir.Facts.{to_z-of_z}
use Rattle.laws.specs.Integers.{ok64}
use Rattle.laws.specs.Lists.{at, first_false}
use Rattle.laws.specs.Tests.{hold-more, first-here, first-none}
use Rattle.files.proofs.bounds.Laws.{inside, lies-tab, below, above, between}
use Rattle.files.proofs.bounds.Sides.first_out.Goals as goal
use Rattle.files.proofs.bounds.Sides.first_out.Goals.{then-self-i-via-then-self-i, then-self-i-via-else-self-i+then-other-i}

pub returns-then-self-i : goal.returns-then-self-i
returns-then-self-i c =
    let a = c.args in
    let i = c.loop-i.i in
    let f = ok64 (at a.self.lo i) (omega arith) in
    let g = ok64 (at a.other.lo i) (omega arith) in
    let out : inside a.self.lo a.self.hi a.other.lo a.other.hi i ≡ false = elim c.then-self-i.branch [
      | then-self-i-via-then-self-i w ↦ below a.self.lo a.self.hi a.other.lo a.other.hi i (simp to_z-of_z at w.if-self-i.true)
      | then-self-i-via-else-self-i+then-other-i w ↦
          (let h = ok64 (at a.other.hi i) (omega arith) in
          let k = ok64 (at a.self.hi i) (omega arith) in
          above a.self.lo a.self.hi a.other.lo a.other.hi i (simp to_z-of_z at w.if-self-i.false) (simp to_z-of_z at w.if-other-i.true))
    ] in
    first-here c.loop-i.invariant (omega arith) out ∙ ap first_false (sym (lies-tab a.self.lo a.self.hi a.other.lo a.other.hi a.n 0))

pub loop-i-preserved : goal.loop-i-preserved
loop-i-preserved c =
    let a = c.args in
    let i = c.loop-i.i in
    let f = ok64 (at a.self.lo i) (omega arith) in
    let g = ok64 (at a.other.lo i) (omega arith) in
    let h = ok64 (at a.other.hi i) (omega arith) in
    let k = ok64 (at a.self.hi i) (omega arith) in
    hold-more c.loop-i.invariant (omega arith) (between a.self.lo a.self.hi a.other.lo a.other.hi i (simp to_z-of_z at c.if-self-i.false) (simp to_z-of_z at c.if-other-i.false))

pub returns : goal.returns
returns c =
    let a = c.args in
    let q : a.n ≡ c.loop-i.i = omega arith in
    q ∙ first-none c.loop-i.invariant (omega arith) ∙ ap first_false (sym (lies-tab a.self.lo a.self.hi a.other.lo a.other.hi a.n 0))
