-- `chains::box_on` takes a box out of the edges, side by side. Assumes nothing.
use Prim.Native.Nat.{◌*◌, ◌+◌}
use mathlib.Core.Path.{◌≡◌, refl, ap, ◌∙◌}
use mathlib.Core.List.{List}
use native.Mathlib.Omega.{arith}
use lib.IntN.{ℤ}
use Rattle.meaning.specs.Plants.{column}
use Rattle.tables.specs.Frames.{box_from}
use Rattle.tables.proofs.chains.Laws.{all-out}
use Rattle.tables.proofs.chains.box_on.Goals as goal

same-box : {lo hi x y : List ℤ} → lo ≡ x → hi ≡ y → box_from lo hi ≡ box_from x y
same-box e f = rw (e, f) refl

pub returns : goal.returns
returns c =
    let l = c.loop-j in
    let a = c.args in
    let j : l.j ≡ a.n = omega arith in
    same-box (all-out l.invariant.0 (omega arith) ∙ ap (column a.edges.now (2 * (a.i * a.n)) 2) j) (all-out l.invariant.1 (omega arith) ∙ ap (column a.edges.now (2 * (a.i * a.n) + 1) 2) j)
