-- `images::negative_part`: the smaller of a number and 0. Assumes nothing.
use mathlib.Core.Path.{◌≡◌, ◌∙◌}
use mir.Syntax.{w64}
use mir.Val.{SFits}
use mir.Facts.{to_z-of_z}
use native.Mathlib.Omega.{arith}
use Rattle.laws.specs.Expressions.{Ex, any, exact}
use Rattle.tables.specs.Images.{negative_part}
use Rattle.tables.proofs.images.Laws.{min-negative}
use Rattle.tables.proofs.images.negative_part.Goals as goal

pub returns : goal.returns
returns c =
    let number : Ex = any c.args.a c.ranges.a in
    let got : c.min.result ≡ negative_part c.args.a = (rw (exact number tt) at c.min.ensures.value) ∙ min-negative c.args.a in
    let f : SFits w64 c.min.result = record { sfits = omega arith } in
    simp to_z-of_z got
