-- `boxes::missed`: the first j tests hold. Assumes nothing.
use mathlib.Core.Path.{◌≡◌, sym, ap, ◌∙◌}
use mathlib.Core.Bool.{Bool}
use Prim.Native.Nat.{ℕ}
use native.Mathlib.Omega.{arith}
use mir.Facts.{to_z-of_z}
use Rattle.laws.specs.Integers.{ok64}
use Rattle.laws.specs.Lists.{at, tab, first_false}
use Rattle.laws.specs.Tests.{hold-more, first-here, first-none}
use Rattle.meaning.specs.Boxes.{side_at, fits}
use Rattle.meaning.specs.Tables.{reading_of}
use Rattle.tables.specs.Boxes.{box_of}
use Rattle.tables.proofs.boxes.Laws.{holds_at, fits-tab}
use Rattle.tables.proofs.boxes.missed.Goals as goal

pub loop-j-preserved : goal.loop-j-preserved
loop-j-preserved c =
    let test : ℕ → Bool = holds_at c.args.b.lo c.args.b.hi c.args.x in
    let v = to_z-of_z (ok64 (at c.args.x c.loop-j.j) (omega arith)) in
    let l = to_z-of_z (ok64 (at c.args.b.lo c.loop-j.j) (omega arith)) in
    let h = to_z-of_z (ok64 (at c.args.b.hi c.loop-j.j) (omega arith)) in
    let tested : c.ordered.result ≡ test c.loop-j.j = rw (l, v, h) at c.ordered.ensures in
    hold-more c.loop-j.invariant (omega arith) (sym tested ∙ c.if-not-ordered.false)

pub returns-then-not-ordered : goal.returns-then-not-ordered
returns-then-not-ordered c =
    let test : ℕ → Bool = holds_at c.args.b.lo c.args.b.hi c.args.x in
    let whole : first_false (fits (box_of c.args.n c.args.b) (reading_of c.args.n c.args.x)) ≡ first_false (tab test c.args.n 0) = let a = c.args in ap first_false (fits-tab (side_at a.b.lo a.b.hi) (at a.x) a.n 0) in
    let v = to_z-of_z (ok64 (at c.args.x c.loop-j.j) (omega arith)) in
    let l = to_z-of_z (ok64 (at c.args.b.lo c.loop-j.j) (omega arith)) in
    let h = to_z-of_z (ok64 (at c.args.b.hi c.loop-j.j) (omega arith)) in
    let tested : c.ordered.result ≡ test c.loop-j.j = rw (l, v, h) at c.ordered.ensures in
    first-here c.loop-j.invariant (omega arith) (sym tested ∙ c.if-not-ordered.true) ∙ sym whole

pub returns : goal.returns
returns c =
    let test : ℕ → Bool = holds_at c.args.b.lo c.args.b.hi c.args.x in
    let whole : first_false (fits (box_of c.args.n c.args.b) (reading_of c.args.n c.args.x)) ≡ first_false (tab test c.args.n 0) = let a = c.args in ap first_false (fits-tab (side_at a.b.lo a.b.hi) (at a.x) a.n 0) in
    let e : c.args.n ≡ c.loop-j.j = omega arith in
    e ∙ first-none c.loop-j.invariant c.loop-j-test.false ∙ sym whole
