-- `images::more`: two sums, each of what was there, the positive part times one edge and the negative part times the other. Assumes nothing.
use Prim.Native.Nat.{◌+◌}
use mathlib.Core.Path.{◌≡◌, ◌∙◌}
use lib.IntN.{ℤ, ◌+ℤ◌, ◌*ℤ◌}
use Rattle.laws.specs.Lists.{at}
use Rattle.laws.specs.Expressions.{Ex, var, ◌⊕◌, ◌⊝◌, ◌⊗◌, val, need, exact}
use Rattle.meaning.specs.Boxes.{Side, side_at}
use Rattle.meaning.specs.Images.{least_of, greatest_of}
use Rattle.meaning.specs.Plants.{edge_limit, entry_limit}
use Rattle.tables.specs.Images.{negative_part, row_limit}
use Rattle.tables.proofs.images.Laws.{negative-small, parts_added}
use Rattle.tables.proofs.images.more.Goals as goal

pub overflow_mul-least : goal.overflow_mul-least
overflow_mul-least c =
    let entry : Ex = var (at c.args.coef.now (c.args.start + c.args.j)) entry_limit c.requires.entry.0 in
    let sides : Side = side_at c.args.lo.now c.args.hi.now c.args.j in
    let low : Ex = var sides.lo edge_limit c.requires.entry.1.low in
    let gave : c.negative_part-negative.result ≡ negative_part (val entry) = rw (exact entry tt) at c.negative_part-negative.ensures in
    let negative : Ex = var c.negative_part-negative.result entry_limit (negative-small (val entry) gave c.requires.entry.0) in
    let positive : Ex = entry ⊝ negative in
    need (positive ⊗ low) tt

pub overflow_add-least : goal.overflow_add-least
overflow_add-least c =
    let entry : Ex = var (at c.args.coef.now (c.args.start + c.args.j)) entry_limit c.requires.entry.0 in
    let sides : Side = side_at c.args.lo.now c.args.hi.now c.args.j in
    let low : Ex = var sides.lo edge_limit c.requires.entry.1.low in
    let gave : c.negative_part-negative.result ≡ negative_part (val entry) = rw (exact entry tt) at c.negative_part-negative.ensures in
    let negative : Ex = var c.negative_part-negative.result entry_limit (negative-small (val entry) gave c.requires.entry.0) in
    let positive : Ex = entry ⊝ negative in
    let least₁ : Ex = var c.args.s.lo row_limit c.requires.sums.0 ⊕ positive ⊗ low in
    need least₁ tt

pub overflow_mul-least-2 : goal.overflow_mul-least-2
overflow_mul-least-2 c =
    let entry : Ex = var (at c.args.coef.now (c.args.start + c.args.j)) entry_limit c.requires.entry.0 in
    let sides : Side = side_at c.args.lo.now c.args.hi.now c.args.j in
    let high : Ex = var sides.hi edge_limit c.requires.entry.1.high in
    let gave : c.negative_part-negative.result ≡ negative_part (val entry) = rw (exact entry tt) at c.negative_part-negative.ensures in
    let negative : Ex = var c.negative_part-negative.result entry_limit (negative-small (val entry) gave c.requires.entry.0) in
    need (negative ⊗ high) tt

pub overflow_add-least-2 : goal.overflow_add-least-2
overflow_add-least-2 c =
    let entry : Ex = var (at c.args.coef.now (c.args.start + c.args.j)) entry_limit c.requires.entry.0 in
    let sides : Side = side_at c.args.lo.now c.args.hi.now c.args.j in
    let low : Ex = var sides.lo edge_limit c.requires.entry.1.low in
    let high : Ex = var sides.hi edge_limit c.requires.entry.1.high in
    let gave : c.negative_part-negative.result ≡ negative_part (val entry) = rw (exact entry tt) at c.negative_part-negative.ensures in
    let negative : Ex = var c.negative_part-negative.result entry_limit (negative-small (val entry) gave c.requires.entry.0) in
    let positive : Ex = entry ⊝ negative in
    let least₁ : Ex = var c.args.s.lo row_limit c.requires.sums.0 ⊕ positive ⊗ low in
    need (least₁ ⊕ negative ⊗ high) tt

pub overflow_mul-greatest : goal.overflow_mul-greatest
overflow_mul-greatest c =
    let entry : Ex = var (at c.args.coef.now (c.args.start + c.args.j)) entry_limit c.requires.entry.0 in
    let sides : Side = side_at c.args.lo.now c.args.hi.now c.args.j in
    let high : Ex = var sides.hi edge_limit c.requires.entry.1.high in
    let gave : c.negative_part-negative.result ≡ negative_part (val entry) = rw (exact entry tt) at c.negative_part-negative.ensures in
    let negative : Ex = var c.negative_part-negative.result entry_limit (negative-small (val entry) gave c.requires.entry.0) in
    let positive : Ex = entry ⊝ negative in
    need (positive ⊗ high) tt

pub overflow_add-greatest : goal.overflow_add-greatest
overflow_add-greatest c =
    let entry : Ex = var (at c.args.coef.now (c.args.start + c.args.j)) entry_limit c.requires.entry.0 in
    let sides : Side = side_at c.args.lo.now c.args.hi.now c.args.j in
    let high : Ex = var sides.hi edge_limit c.requires.entry.1.high in
    let gave : c.negative_part-negative.result ≡ negative_part (val entry) = rw (exact entry tt) at c.negative_part-negative.ensures in
    let negative : Ex = var c.negative_part-negative.result entry_limit (negative-small (val entry) gave c.requires.entry.0) in
    let positive : Ex = entry ⊝ negative in
    let greatest₁ : Ex = var c.args.s.hi row_limit c.requires.sums.1 ⊕ positive ⊗ high in
    need greatest₁ tt

pub overflow_mul-greatest-2 : goal.overflow_mul-greatest-2
overflow_mul-greatest-2 c =
    let entry : Ex = var (at c.args.coef.now (c.args.start + c.args.j)) entry_limit c.requires.entry.0 in
    let sides : Side = side_at c.args.lo.now c.args.hi.now c.args.j in
    let low : Ex = var sides.lo edge_limit c.requires.entry.1.low in
    let gave : c.negative_part-negative.result ≡ negative_part (val entry) = rw (exact entry tt) at c.negative_part-negative.ensures in
    let negative : Ex = var c.negative_part-negative.result entry_limit (negative-small (val entry) gave c.requires.entry.0) in
    need (negative ⊗ low) tt

pub overflow_add-greatest-2 : goal.overflow_add-greatest-2
overflow_add-greatest-2 c =
    let entry : Ex = var (at c.args.coef.now (c.args.start + c.args.j)) entry_limit c.requires.entry.0 in
    let sides : Side = side_at c.args.lo.now c.args.hi.now c.args.j in
    let low : Ex = var sides.lo edge_limit c.requires.entry.1.low in
    let high : Ex = var sides.hi edge_limit c.requires.entry.1.high in
    let gave : c.negative_part-negative.result ≡ negative_part (val entry) = rw (exact entry tt) at c.negative_part-negative.ensures in
    let negative : Ex = var c.negative_part-negative.result entry_limit (negative-small (val entry) gave c.requires.entry.0) in
    let positive : Ex = entry ⊝ negative in
    let greatest₁ : Ex = var c.args.s.hi row_limit c.requires.sums.1 ⊕ positive ⊗ high in
    let greatest : Ex = greatest₁ ⊕ negative ⊗ low in
    need greatest tt

pub returns : goal.returns
returns c =
    let entry : Ex = var (at c.args.coef.now (c.args.start + c.args.j)) entry_limit c.requires.entry.0 in
    let sides : Side = side_at c.args.lo.now c.args.hi.now c.args.j in
    let low : Ex = var sides.lo edge_limit c.requires.entry.1.low in
    let high : Ex = var sides.hi edge_limit c.requires.entry.1.high in
    let gave : c.negative_part-negative.result ≡ negative_part (val entry) = rw (exact entry tt) at c.negative_part-negative.ensures in
    let negative : Ex = var c.negative_part-negative.result entry_limit (negative-small (val entry) gave c.requires.entry.0) in
    let positive : Ex = entry ⊝ negative in
    let least₁ : Ex = var c.args.s.lo row_limit c.requires.sums.0 ⊕ positive ⊗ low in
    let least : Ex = least₁ ⊕ negative ⊗ high in
    let greatest₁ : Ex = var c.args.s.hi row_limit c.requires.sums.1 ⊕ positive ⊗ high in
    let greatest : Ex = greatest₁ ⊕ negative ⊗ low in
    let more : (z : ℤ) → (z +ℤ val positive *ℤ sides.lo +ℤ val negative *ℤ sides.hi ≡ z +ℤ least_of (val entry) sides) × (z +ℤ val positive *ℤ sides.hi +ℤ val negative *ℤ sides.lo ≡ z +ℤ greatest_of (val entry) sides) = λ z. parts_added (val entry) gave z sides.lo sides.hi in
    let s = c.args.s in
    record { least = exact least tt ∙ (more s.lo).0; greatest = exact greatest tt ∙ (more s.hi).1 }
