-- `division::floor` rounds down, on both sides of zero. Assumes nothing.
use mathlib.Core.Path.{◌∙◌}
use native.Mathlib.Omega.{arith}
use lib.IntN.{pos}
use mir.Facts.{to_z_pos, sfits_lit}
use mir.Syntax.{w64}
use mir.Val.{to_z}
use Rattle.laws.specs.Integers.{le-held, le-failed}
use Rattle.laws.specs.Expressions.{Ex, var, held, lit, ◌⊕◌, ◌⊝◌, ◌⊘◌, need, exact}
use Rattle.laws.specs.Rounding.{quot-floor, quot-floor-below}
use Rattle.tables.specs.Images.{sum_limit}
use Rattle.tables.proofs.division.floor.Goals as goal

pub overflow_add-result : goal.overflow_add-result
overflow_add-result c =
    let num : Ex = var c.args.num sum_limit c.requires.0 in
    let divisor : Ex = held (to_z w64 c.args.q) (pos c.args.q) 10_000 (to_z_pos w64 (omega arith)) c.requires.2 in
    need (num ⊕ divisor) tt

pub nonzero_div-result : goal.nonzero_div-result
nonzero_div-result c =
    let num : Ex = var c.args.num sum_limit c.requires.0 in
    let divisor : Ex = held (to_z w64 c.args.q) (pos c.args.q) 10_000 (to_z_pos w64 (omega arith)) c.requires.2 in
    (c.requires.1, need ((num ⊕ divisor) ⊘ divisor) tt)

pub overflow_sub-result : goal.overflow_sub-result
overflow_sub-result c =
    let num : Ex = var c.args.num sum_limit c.requires.0 in
    let divisor : Ex = held (to_z w64 c.args.q) (pos c.args.q) 10_000 (to_z_pos w64 (omega arith)) c.requires.2 in
    let above : Ex = (num ⊕ divisor) ⊘ divisor ⊝ lit (pos 1) in
    need above tt

pub overflow_sub-result-else-num-ge0 : goal.overflow_sub-result-else-num-ge0
overflow_sub-result-else-num-ge0 c =
    let divisor : Ex = held (to_z w64 c.args.q) (pos c.args.q) 10_000 (to_z_pos w64 (omega arith)) c.requires.2 in
    need (divisor ⊝ lit (pos 1)) tt

pub overflow_sub-result-else-num-ge0-2 : goal.overflow_sub-result-else-num-ge0-2
overflow_sub-result-else-num-ge0-2 c =
    let num : Ex = var c.args.num sum_limit c.requires.0 in
    let divisor : Ex = held (to_z w64 c.args.q) (pos c.args.q) 10_000 (to_z_pos w64 (omega arith)) c.requires.2 in
    need (divisor ⊝ lit (pos 1) ⊝ num) tt

pub nonzero_div-result-else-num-ge0 : goal.nonzero_div-result-else-num-ge0
nonzero_div-result-else-num-ge0 c =
    let num : Ex = var c.args.num sum_limit c.requires.0 in
    let divisor : Ex = held (to_z w64 c.args.q) (pos c.args.q) 10_000 (to_z_pos w64 (omega arith)) c.requires.2 in
    let mirrored : Ex = (divisor ⊝ lit (pos 1) ⊝ num) ⊘ divisor in
    (c.requires.1, need mirrored tt)

pub overflow_sub-result-else-num-ge0-3 : goal.overflow_sub-result-else-num-ge0-3
overflow_sub-result-else-num-ge0-3 c =
    let num : Ex = var c.args.num sum_limit c.requires.0 in
    let divisor : Ex = held (to_z w64 c.args.q) (pos c.args.q) 10_000 (to_z_pos w64 (omega arith)) c.requires.2 in
    let mirrored : Ex = (divisor ⊝ lit (pos 1) ⊝ num) ⊘ divisor in
    let below : Ex = lit (pos 0) ⊝ mirrored in
    need below tt

pub returns-then-num-ge0 : goal.returns-then-num-ge0
returns-then-num-ge0 c =
    let num : Ex = var c.args.num sum_limit c.requires.0 in
    let divisor : Ex = held (to_z w64 c.args.q) (pos c.args.q) 10_000 (to_z_pos w64 (omega arith)) c.requires.2 in
    let above : Ex = (num ⊕ divisor) ⊘ divisor ⊝ lit (pos 1) in
    exact above tt ∙ quot-floor c.args.num c.args.q c.requires.1 (le-held (pos 0) c.args.num (sfits_lit tt) c.ranges.num c.if-num-ge0.true)

pub returns-else-num-ge0 : goal.returns-else-num-ge0
returns-else-num-ge0 c =
    let num : Ex = var c.args.num sum_limit c.requires.0 in
    let divisor : Ex = held (to_z w64 c.args.q) (pos c.args.q) 10_000 (to_z_pos w64 (omega arith)) c.requires.2 in
    let mirrored : Ex = (divisor ⊝ lit (pos 1) ⊝ num) ⊘ divisor in
    let below : Ex = lit (pos 0) ⊝ mirrored in
    exact below tt ∙ quot-floor-below c.args.num c.args.q c.requires.1 (le-failed (pos 0) c.args.num (sfits_lit tt) c.ranges.num c.if-num-ge0.false)
