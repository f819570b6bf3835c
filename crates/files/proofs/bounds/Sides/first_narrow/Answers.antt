-- `bounds::Sides::first_narrow` goes by the tests of the dimensions. Assumes nothing.
use mathlib.Core.Path.{◌≡◌, sym, ap, ◌∙◌}
use native.Mathlib.Omega.{arith}
use mir.Facts.{to_z-of_z}
use Rattle.laws.specs.Integers.{ok64}
use Rattle.laws.specs.Lists.{at, first_false}
use Rattle.laws.specs.Tests.{hold-more, first-here, first-none}
use Rattle.files.proofs.bounds.Laws.{wide-tab, thin, thick}
use Rattle.files.proofs.bounds.Sides.first_narrow.Goals as goal

pub returns-then-self-i : goal.returns-then-self-i
returns-then-self-i c =
    let a = c.args in
    let i = c.loop-i.i in
    let z = c.requires.fact_3 i (omega arith) in
    let f = ok64 (at a.self.hi i) (omega arith) in
    let g = ok64 (at a.self.lo i) (omega arith) in
    first-here c.loop-i.invariant (omega arith) (thin a.q a.self.lo a.self.hi i (omega arith) z.0 z.1 (simp to_z-of_z at c.if-self-i.true))
    ∙ ap first_false (sym (wide-tab a.q a.self.lo a.self.hi a.n))

pub loop-i-preserved : goal.loop-i-preserved
loop-i-preserved c =
    let a = c.args in
    let i = c.loop-i.i in
    let z = c.requires.fact_3 i (omega arith) in
    let f = ok64 (at a.self.hi i) (omega arith) in
    let g = ok64 (at a.self.lo i) (omega arith) in
    hold-more c.loop-i.invariant (omega arith) (thick a.q a.self.lo a.self.hi i (omega arith) z.0 z.1 (simp to_z-of_z at c.if-self-i.false))

pub returns : goal.returns
returns c =
    let a = c.args in
    let q : a.n ≡ c.loop-i.i = omega arith in
    q ∙ first-none c.loop-i.invariant (omega arith) ∙ ap first_false (sym (wide-tab a.q a.self.lo a.self.hi a.n))
