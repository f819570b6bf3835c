-- `boxes::part_of` gives one side of the child that holds a reading. Assumes nothing.
use mathlib.Core.Path.{◌≡◌, sym, ap, ◌∙◌}
use mathlib.Core.Bool.{true, false}
use lib.IntN.{ℤ, pos, nat_abs, ◌+ℤ◌}
use lib.Signed.{le_z, lt_z}
use mir.Facts.{to_z-of_z}
use Rattle.laws.specs.Integers.{zarith, abs-add}
use Rattle.laws.specs.Expressions.{Ex, var, lit, ◌⊕◌, exact}
use Rattle.laws.specs.Rounding.{abs-floor}
use Rattle.meaning.specs.Boxes.{side, middle}
use Rattle.meaning.specs.Plants.{edge_limit}
use Rattle.tables.proofs.boxes.Laws.{same-side}
use Rattle.tables.proofs.boxes.HalfOf.{part-upper}
use Rattle.tables.proofs.boxes.part_of.Goals as goal

pub returns-else-v-m : goal.returns-else-v-m
returns-else-v-m c =
    let low : Ex = var c.args.l edge_limit c.requires.0 in
    let high : Ex = var c.args.h edge_limit c.requires.1 in
    let gave : c.middle-m.result ≡ middle (side c.args.l c.args.h) = rw (exact low tt, exact high tt) at c.middle-m.ensures in
    let mid : Ex = let e = ap nat_abs gave in var c.middle-m.result 2_000_000 (omega (zarith, c.requires.0, c.requires.1, abs-floor (c.args.l +ℤ c.args.h) 2, abs-add c.args.l c.args.h)) in
    let long-side : lt_z c.args.l c.args.h ≡ true = rw (exact low tt, exact high tt) at c.if-l-h.true in
    let in-upper : le_z c.args.v (middle (side c.args.l c.args.h)) ≡ false = rw (to_z-of_z c.ranges.v, exact mid tt, gave) at c.if-v-m.false in
    let a = c.args in
    let w = part-upper a.l a.h a.v a.count long-side in-upper in
    (same-side (exact (mid ⊕ lit (pos 1)) tt ∙ ap (λ (z : ℤ). z +ℤ pos 1) gave) (exact high tt) ∙ sym w.0, w.1, w.2)
