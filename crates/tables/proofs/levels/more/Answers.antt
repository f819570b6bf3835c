-- `levels::more`: two sums, each of what was there and a term. Assumes nothing.
use Prim.Native.Nat.{◌+◌, ◌≤◌}
use mathlib.Core.Path.{◌≡◌, ap, ◌∙◌}
use lib.IntN.{ℤ, nat_abs, ◌+ℤ◌}
use Rattle.laws.specs.Lists.{at}
use Rattle.laws.specs.Expressions.{Ex, var, ◌⊕◌, need, exact}
use Rattle.meaning.specs.Boxes.{Side}
use Rattle.meaning.specs.Images.{least_of, greatest_of}
use Rattle.meaning.specs.Plants.{edge_limit, entry_limit}
use Rattle.tables.specs.Images.{term_limit, row_limit}
use Rattle.tables.specs.Levels.{side_in}
use Rattle.tables.proofs.images.Laws.{least-small, greatest-small}
use Rattle.tables.proofs.levels.more.Goals as goal

pub overflow_add-least : goal.overflow_add-least
overflow_add-least c =
    let entry : Ex = var (at c.args.coef.now (c.args.start + c.args.j)) entry_limit c.requires.entry.0 in
    let sides : Side = side_in c.args.boxes.now c.args.place c.args.j in
    let low : Ex = var sides.lo edge_limit c.requires.entry.1.low in
    let high : Ex = var sides.hi edge_limit c.requires.entry.1.high in
    let gave : (c.term-t.result.lo ≡ least_of (at c.args.coef.now (c.args.start + c.args.j)) sides) × (c.term-t.result.hi ≡ greatest_of (at c.args.coef.now (c.args.start + c.args.j)) sides) = rw (exact entry tt, exact low tt, exact high tt) at c.term-t.ensures in
    let least-term : nat_abs c.term-t.result.lo ≤ term_limit = rw gave.0 (least-small (at c.args.coef.now (c.args.start + c.args.j)) sides c.requires.entry.0 c.requires.entry.1) in
    let least : Ex = var c.args.s.lo row_limit c.requires.sums.0 ⊕ var c.term-t.result.lo term_limit least-term in
    need least tt

pub overflow_add-greatest : goal.overflow_add-greatest
overflow_add-greatest c =
    let entry : Ex = var (at c.args.coef.now (c.args.start + c.args.j)) entry_limit c.requires.entry.0 in
    let sides : Side = side_in c.args.boxes.now c.args.place c.args.j in
    let low : Ex = var sides.lo edge_limit c.requires.entry.1.low in
    let high : Ex = var sides.hi edge_limit c.requires.entry.1.high in
    let gave : (c.term-t.result.lo ≡ least_of (at c.args.coef.now (c.args.start + c.args.j)) sides) × (c.term-t.result.hi ≡ greatest_of (at c.args.coef.now (c.args.start + c.args.j)) sides) = rw (exact entry tt, exact low tt, exact high tt) at c.term-t.ensures in
    let greatest-term : nat_abs c.term-t.result.hi ≤ term_limit = rw gave.1 (greatest-small (at c.args.coef.now (c.args.start + c.args.j)) sides c.requires.entry.0 c.requires.entry.1) in
    let greatest : Ex = var c.args.s.hi row_limit c.requires.sums.1 ⊕ var c.term-t.result.hi term_limit greatest-term in
    need greatest tt

pub returns : goal.returns
returns c =
    let entry : Ex = var (at c.args.coef.now (c.args.start + c.args.j)) entry_limit c.requires.entry.0 in
    let sides : Side = side_in c.args.boxes.now c.args.place c.args.j in
    let low : Ex = var sides.lo edge_limit c.requires.entry.1.low in
    let high : Ex = var sides.hi edge_limit c.requires.entry.1.high in
    let gave : (c.term-t.result.lo ≡ least_of (at c.args.coef.now (c.args.start + c.args.j)) sides) × (c.term-t.result.hi ≡ greatest_of (at c.args.coef.now (c.args.start + c.args.j)) sides) = rw (exact entry tt, exact low tt, exact high tt) at c.term-t.ensures in
    let least-term : nat_abs c.term-t.result.lo ≤ term_limit = rw gave.0 (least-small (at c.args.coef.now (c.args.start + c.args.j)) sides c.requires.entry.0 c.requires.entry.1) in
    let greatest-term : nat_abs c.term-t.result.hi ≤ term_limit = rw gave.1 (greatest-small (at c.args.coef.now (c.args.start + c.args.j)) sides c.requires.entry.0 c.requires.entry.1) in
    let least : Ex = var c.args.s.lo row_limit c.requires.sums.0 ⊕ var c.term-t.result.lo term_limit least-term in
    let greatest : Ex = var c.args.s.hi row_limit c.requires.sums.1 ⊕ var c.term-t.result.hi term_limit greatest-term in
    record { least = exact least tt ∙ ap (λ (z : ℤ). c.args.s.lo +ℤ z) gave.0; greatest = exact greatest tt ∙ ap (λ (z : ℤ). c.args.s.hi +ℤ z) gave.1 }
