-- `steps::sums`: the extremes of a row, and its offset added to each. Assumes nothing.
use Prim.Native.Nat.{◌+◌}
use Rattle.laws.specs.Lists.{at}
use Rattle.laws.specs.Expressions.{Ex, var, ◌⊕◌, exact, under}
use Rattle.meaning.specs.Plants.{offset_limit}
use Rattle.tables.specs.Images.{row_limit}
use Rattle.tables.specs.Limits.{add_limit}
use Rattle.tables.proofs.steps.Laws.{sides-are}
use Rattle.tables.proofs.steps.sums.Goals as goal

pub returns : goal.returns
returns c =
    let offset : Ex = let a = c.args in var (at a.coef.now (a.start + a.n)) offset_limit c.requires.0.offset in
    let least : Ex = var c.extremes-e.result.lo row_limit c.extremes-e.ensures.low ⊕ offset in
    let greatest : Ex = var c.extremes-e.result.hi row_limit c.extremes-e.ensures.high ⊕ offset in
    let o = c.args in
    record { sides = rw (exact least tt, exact greatest tt) (sides-are c.extremes-e.ensures (at o.coef.now (o.start + o.n))); sizes = (under least add_limit tt, under greatest add_limit tt) }
