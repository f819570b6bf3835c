-- `start_control::idle_choice`: the admission to Rm, then the lowest box. Assumes nothing.
use Rattle.std.proofs.lemmas.Result.{err_from_is_err_and}
use mathlib.Core.Path.{ap, ◌∙◌}
use native.Mathlib.Omega.{arith}
use lib.Dec.{eqb}
use Rattle.tables.specs.Boxes.{box_of}
use Rattle.tables.specs.Chains.{values_in}
use Rattle.tables.specs.Control.{admission}
use Rattle.tables.proofs.start_control.Laws.{box-fits, choice-refused, choice-lowest}
use Rattle.tables.proofs.start_control.idle_choice.Goals as goal

pub returns-in_err-admit : goal.returns-in_err-admit
returns-in_err-admit c =
    let a = c.args in
    let b = c.box_at-top in
    let asked = c.admit.ensures ∙ ap (admission (eqb a.i 0)) (box-fits a.n (omega arith) a.root a.edges.now a.m a.x a.m b.result b.ensures) in
    let p = err_from_is_err_and c.from_residual.result c.from_residual.ensures.1 in
    rw (p.1, p.2) (choice-refused a.n (box_of a.n a.root) (values_in a.m a.edges.now) a.x a.i c.admit.result asked _ c.in_err-admit.was)

pub returns : goal.returns
returns c =
    let a = c.args in
    let b = c.box_at-top in
    let asked = c.admit.ensures ∙ ap (admission (eqb a.i 0)) (box-fits a.n (omega arith) a.root a.edges.now a.m a.x a.m b.result b.ensures) in
    choice-lowest a.n (box_of a.n a.root) (values_in a.m a.edges.now) a.x a.i c.admit.result asked c.in_ok-admit.was c.lowest.result c.lowest.ensures
