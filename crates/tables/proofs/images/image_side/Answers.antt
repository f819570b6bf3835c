-- `images::image_side`: each edge by its sum and its division. Assumes nothing.
use mathlib.Core.Path.{◌∙◌}
use Prim.Native.Nat.{◌+◌}
use mir.Facts.{to_z-of_z}
use Rattle.laws.specs.Integers.{ok64}
use Rattle.laws.specs.Lists.{at}
use Rattle.laws.specs.Expressions.{Ex, var, ◌⊕◌, exact, under}
use Rattle.meaning.specs.Plants.{offset_limit, band_limit}
use Rattle.tables.specs.Images.{row_limit, sum_limit}
use Rattle.tables.proofs.images.Laws.{side-is}
use Rattle.tables.proofs.images.image_side.Goals as goal

pub floor-high-requires : goal.floor-high-requires
floor-high-requires c =
    let offset : Ex = let a = c.args in var (at a.coef.now (a.start + a.n)) offset_limit c.requires.row.0.offset in
    let greatest : Ex = var c.extremes-sums.result.hi row_limit c.extremes-sums.ensures.high ⊕ offset in
    let high : Ex = greatest ⊕ var c.args.wh band_limit c.requires.step.3 in
    (under high sum_limit tt, c.requires.step.0, c.requires.step.1)

pub returns : goal.returns
returns c =
    let offset : Ex = let a = c.args in var (at a.coef.now (a.start + a.n)) offset_limit c.requires.row.0.offset in
    let least : Ex = var c.extremes-sums.result.lo row_limit c.extremes-sums.ensures.low ⊕ offset in
    let greatest : Ex = var c.extremes-sums.result.hi row_limit c.extremes-sums.ensures.high ⊕ offset in
    let low : Ex = least ⊕ var c.args.wl band_limit c.requires.step.2 in
    let high : Ex = greatest ⊕ var c.args.wh band_limit c.requires.step.3 in
    let a = c.args in
    let x = c.ceiling-low in
    let y = c.floor-high in
    side-is _ _ (at a.coef.now (a.start + a.n)) a.wl a.wh a.q c.extremes-sums.ensures
    (to_z-of_z (ok64 x.result x.type_inv) ∙ (rw (exact low tt) at x.ensures))
    (to_z-of_z (ok64 y.result y.type_inv) ∙ (rw (exact high tt) at y.ensures))
