-- `texts::put_decimal`: the digits that io puts are those of the definition. Assumes nothing.
use native.Mathlib.Omega.{arith}
use mathlib.Core.Path.{◌∙◌}
use Rattle.figures.specs.Texts.{decimal}
use Rattle.figures.proofs.texts.Laws.{digits_are, few-digits}
use Rattle.figures.proofs.texts.put_decimal.Goals as goal

pub returns : goal.returns
unfolding decimal
returns c =
    let d = c.decimal-k in
    let a = c.args in
    rw (d.ensures.digits ∙ digits_are 20 d.result a.v (few-digits a.v d.result (omega (arith, c.ranges.v)) d.ensures.len) d.ensures.len) at c.put.ensures
