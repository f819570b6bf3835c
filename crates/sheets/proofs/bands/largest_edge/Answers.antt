-- `bands::largest_edge`: so far, that of the first i rooms. Assumes nothing.
use Prim.Native.Nat.{◌≤◌}
use mathlib.Core.Path.{◌≡◌, sym, ap, ◌∙◌}
use native.Mathlib.Omega.{arith}
use lib.IntN.{ℤ, nat_abs}
use mir.Syntax.{w64}
use mir.Val.{to_z, of_z}
use Rattle.laws.specs.Lists.{at}
use Rattle.laws.specs.Expressions.{var, exact}
use Rattle.meaning.specs.Plants.{edge_limit}
use Rattle.sheets.proofs.bands.Laws.{largest-none, largest-more}
use Rattle.sheets.proofs.bands.largest_edge.Goals as goal

-- an edge as the machine holds it
plain : (v : ℤ) → nat_abs v ≤ edge_limit → to_z w64 (of_z w64 v) ≡ v
plain v h = exact (var v edge_limit h) tt

pub loop-i-init : goal.loop-i-init
loop-i-init c = sym (largest-none c.args.h)

pub loop-i-preserved : goal.loop-i-preserved
loop-i-preserved c =
    let h = c.args.h in
    let i = c.loop-i.i in
    let e = c.requires.edges i (omega arith) in
    let lo = c.unsigned_abs.ensures.value ∙ ap nat_abs (plain (at h.slo i) e.0) in
    let hi = c.unsigned_abs-in-loop-i.ensures.value ∙ ap nat_abs (plain (at h.shi i) e.1) in
    omega (arith, c.max-most.ensures, c.max-edge.ensures, largest-more h i)
