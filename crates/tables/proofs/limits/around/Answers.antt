-- `limits::around`: each end by its expression, every step of which fits. Assumes nothing.
use mathlib.Core.Path.{refl}
use native.Mathlib.Omega.{arith}
use lib.IntN.{pos}
use mir.Facts.{to_z_pos}
use mir.Syntax.{w64}
use mir.Val.{to_z}
use Rattle.laws.specs.Expressions.{Ex, var, held, lit, ◌⊕◌, ◌⊝◌, ◌⊗◌, need, exact}
use Rattle.meaning.specs.Plants.{edge_limit, band_limit}
use Rattle.tables.proofs.limits.around.Goals as goal

pub overflow_mul-from : goal.overflow_mul-from
overflow_mul-from c =
    let divisor : Ex = held (to_z w64 c.args.q) (pos c.args.q) 10_000 (to_z_pos w64 (omega arith)) c.requires.0 in
    let before : Ex = divisor ⊗ (var c.args.l edge_limit c.requires.2.low ⊝ lit (pos 1)) in
    need before tt

pub overflow_add-from : goal.overflow_add-from
overflow_add-from c =
    let divisor : Ex = held (to_z w64 c.args.q) (pos c.args.q) 10_000 (to_z_pos w64 (omega arith)) c.requires.0 in
    let before : Ex = divisor ⊗ (var c.args.l edge_limit c.requires.2.low ⊝ lit (pos 1)) in
    need (before ⊕ lit (pos 1)) tt

pub overflow_sub-from-2 : goal.overflow_sub-from-2
overflow_sub-from-2 c =
    let divisor : Ex = held (to_z w64 c.args.q) (pos c.args.q) 10_000 (to_z_pos w64 (omega arith)) c.requires.0 in
    let before : Ex = divisor ⊗ (var c.args.l edge_limit c.requires.2.low ⊝ lit (pos 1)) in
    let from : Ex = before ⊕ lit (pos 1) ⊝ var c.args.wl band_limit c.requires.1.low in
    need from tt

pub overflow_mul-to : goal.overflow_mul-to
overflow_mul-to c =
    let divisor : Ex = held (to_z w64 c.args.q) (pos c.args.q) 10_000 (to_z_pos w64 (omega arith)) c.requires.0 in
    let behind : Ex = divisor ⊗ (var c.args.h edge_limit c.requires.2.high ⊕ lit (pos 1)) in
    need behind tt

pub overflow_sub-to : goal.overflow_sub-to
overflow_sub-to c =
    let divisor : Ex = held (to_z w64 c.args.q) (pos c.args.q) 10_000 (to_z_pos w64 (omega arith)) c.requires.0 in
    let behind : Ex = divisor ⊗ (var c.args.h edge_limit c.requires.2.high ⊕ lit (pos 1)) in
    need (behind ⊝ lit (pos 1)) tt

pub overflow_sub-to-2 : goal.overflow_sub-to-2
overflow_sub-to-2 c =
    let divisor : Ex = held (to_z w64 c.args.q) (pos c.args.q) 10_000 (to_z_pos w64 (omega arith)) c.requires.0 in
    let behind : Ex = divisor ⊗ (var c.args.h edge_limit c.requires.2.high ⊕ lit (pos 1)) in
    let to : Ex = behind ⊝ lit (pos 1) ⊝ var c.args.wh band_limit c.requires.1.high in
    need to tt

pub returns : goal.returns
returns c =
    let divisor : Ex = held (to_z w64 c.args.q) (pos c.args.q) 10_000 (to_z_pos w64 (omega arith)) c.requires.0 in
    let before : Ex = divisor ⊗ (var c.args.l edge_limit c.requires.2.low ⊝ lit (pos 1)) in
    let behind : Ex = divisor ⊗ (var c.args.h edge_limit c.requires.2.high ⊕ lit (pos 1)) in
    let from : Ex = before ⊕ lit (pos 1) ⊝ var c.args.wl band_limit c.requires.1.low in
    let to : Ex = behind ⊝ lit (pos 1) ⊝ var c.args.wh band_limit c.requires.1.high in
    rw (exact from tt, exact to tt) refl
