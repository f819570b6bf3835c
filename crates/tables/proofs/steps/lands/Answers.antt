-- `steps::lands`: where the last row leaves the limits the image does, and otherwise all rows are tried. Assumes nothing.
use Prim.Native.Nat.{ℕ, ◌-◌, ◌≤◌, ◌<◌}
use mathlib.Core.Path.{◌≡◌, sym, ap, ◌∙◌}
use mathlib.Core.Bool.{Bool}
use mathlib.Core.List.{List}
use native.Mathlib.Omega.{arith}
use lib.IntN.{ℤ, nat_abs, ◌+ℤ◌}
use lib.ListN.{length, take, drop}
use lib.Seq.{take_all}
use Rattle.laws.specs.Lists.{at}
use Rattle.laws.specs.Expressions.{Ex, var, ◌⊕◌, exact}
use Rattle.meaning.specs.Boxes.{Side, side, covers}
use Rattle.meaning.specs.Plants.{offset_limit, row_start}
use Rattle.tables.specs.Images.{row_limit, RowSound}
use Rattle.tables.specs.Levels.{side_in, box_in}
use Rattle.tables.specs.Limits.{goal_at, offset_at, last_offset, sums_at, covered_at}
use Rattle.tables.proofs.steps.Laws.{sides-are, one-fails}
use Rattle.tables.proofs.steps.lands.Goals as goal

-- a part from the first number on is the whole
whole_part : (l : List ℤ) → take (length l - 0) (drop 0 l) ≡ l
whole_part l = take_all (length l - 0) (drop 0 l) (omega arith)

pub returns : goal.returns
returns c =
    let index : ℕ = c.args.n - 1 in
    let inside-rows : index < c.args.n = let k = c.requires.row.1 in omega arith in
    let last_row : RowSound c.args.n c.args.coef.now (row_start c.args.n c.args.u index) = c.requires.row.2 index inside-rows in
    let tests : ℕ → Bool = let a = c.args in covered_at a.n a.coef.now a.limits.now (goal_at a.u) a.u (box_in a.n a.boxes.now a.place) in
    let offset : ℤ = at c.args.marks.now (offset_at c.args.u) in
    let small : nat_abs offset ≤ offset_limit = rw c.requires.last.1 last_row.offset in
    let least : Ex = var c.args.e.lo row_limit c.requires.last.0.low ⊕ var offset offset_limit small in
    let greatest : Ex = var c.args.e.hi row_limit c.requires.last.0.high ⊕ var offset offset_limit small in
    let tested : (c.inside.result ≡ tests index) = let a = c.args in let sums : side (a.e.lo +ℤ offset) (a.e.hi +ℤ offset) ≡ sums_at a.n a.coef.now a.u (box_in a.n a.boxes.now a.place) index = rw c.requires.last.1 (sides-are c.requires.last.0 (last_offset a.n a.coef.now a.u)) in (rw (exact least tt, exact greatest tt) at c.inside.ensures) ∙ ap (λ (z : Side). covers (side_in a.limits.now (goal_at a.u) index) z) sums in
    one-fails tests c.args.n index inside-rows (sym tested ∙ c.if-inside.false)
