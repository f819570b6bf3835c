-- `search::descend`: a level that stands, one that is made, and none. Assumes nothing.
use Prim.Native.Nat.{suc, ◌+◌, ◌*◌}
use mathlib.Core.Path.{◌≡◌, sym, ◌∙◌}
use native.Mathlib.Omega.{arith}
use Rattle.tables.specs.Levels.{wide, level_in}
use Rattle.tables.specs.Limits.{image_lent}
use Rattle.tables.proofs.search.Paths.{entered, entered_here, entered_below, same-to, standing-new}
use Rattle.tables.proofs.search.descend.Goals as goal

pub returns-then-step : goal.returns-then-step
returns-then-step c =
    let a = c.args in
    let t = c.requires.lent.0 in
    let g = c.requires.level.0 in
    let h = c.requires.lent.1 in
    let boxes = c.step.new.boxes in
    let q : wide * a.l + wide ≡ wide * suc a.l = omega arith in
    let i : level_in a.n boxes (suc a.l) ≡ image_lent a.n a.q a.bands.now a.coef.now a.u (level_in a.n a.boxes.now a.l) = rw q at (c.step.ensures.image c.if-step.true) in
    let stays = sym c.step.ensures.stays ∙ c.if-step.true in record {
      stays = sym c.if-step.true ∙ c.step.ensures.stays;
      standing = standing-new a.n a.count a.q a.bands.now a.coef.now a.limits.now t.rooms a.boxes.now a.us.now g a.l a.u h boxes c.step.ensures.beside stays i;
      same = same-to a.n t.rooms a.l a.boxes.now boxes c.step.ensures.beside a.us.now (entered a.us.now a.count a.l a.u)
          (λ j o. entered_below a.us.now a.count a.l a.u j (λ z. absurd (omega arith)) (λ z. absurd (omega arith)));
      new = λ z. (entered_here a.us.now a.count a.l a.u (omega (arith, g.long)), i);
    }
