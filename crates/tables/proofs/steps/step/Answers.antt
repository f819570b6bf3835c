-- `steps::step`: the sums stay within the limits, and what they are divided to is the image. Assumes nothing.
use mathlib.Core.Path.{ap, ◌∙◌}
use native.Mathlib.Omega.{arith}
use Rattle.laws.specs.Tabs.{tab-same}
use Rattle.meaning.specs.Boxes.{Side, side_at}
use Rattle.tables.specs.Levels.{box_in}
use Rattle.meaning.specs.Plants.{band_side}
use Rattle.tables.specs.Limits.{divided, sums_at, divided_in, divided_at}
use Rattle.tables.proofs.steps.Laws.{tab-entry}
use Rattle.tables.proofs.steps.step.Goals as goal

pub returns-then-stays-clause-image : goal.returns-then-stays-clause-image
returns-then-stays-clause-image c = λ e.
    let a = c.args in
    let box = box_in a.n a.boxes.now a.place in
    let lo = c.stays.new.kept.lo in
    let hi = c.stays.new.kept.hi in
    c.divide.ensures.sides
    ∙ tab-same (divided_in a.n a.q a.bands.now a.u lo hi) (divided_at a.n a.q a.bands.now a.coef.now a.u box) a.n 0
    (λ i l h. ap (λ (z : Side). divided a.q (band_side a.n a.bands.now a.u i) z) (tab-entry (side_at lo hi) (sums_at a.n a.coef.now a.u box) a.n i (c.stays.ensures.sums c.if-stays.true) (omega arith)))
