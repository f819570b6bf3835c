-- `division::ceiling` rounds up: the floor on the other side of zero. Assumes nothing.
use mathlib.Core.Path.{◌≡◌, ap, ◌∙◌}
use lib.IntN.{ℤ, pos, nat_abs, neg_ℤ, +ℤ_idl}
use Rattle.laws.specs.Division.{floor_z}
use Rattle.laws.specs.Integers.{zarith, abs_neg}
use Rattle.laws.specs.Expressions.{Ex, var, lit, ◌⊝◌, need, exact, under}
use Rattle.laws.specs.Rounding.{abs-floor}
use Rattle.tables.specs.Images.{sum_limit}
use Rattle.tables.proofs.division.ceiling.Goals as goal

pub overflow_sub-num : goal.overflow_sub-num
overflow_sub-num c =
    let mirrored : Ex = lit (pos 0) ⊝ var c.args.num sum_limit c.requires.0 in
    need mirrored tt

pub floor-requires : goal.floor-requires
floor-requires c =
    let mirrored : Ex = lit (pos 0) ⊝ var c.args.num sum_limit c.requires.0 in
    (under mirrored sum_limit tt, c.requires.1, c.requires.2)

pub overflow_sub-result : goal.overflow_sub-result
overflow_sub-result c =
    let mirrored : Ex = lit (pos 0) ⊝ var c.args.num sum_limit c.requires.0 in
    let gave : c.floor.result ≡ floor_z (neg_ℤ c.args.num) c.args.q = let a = c.args in (rw (exact mirrored tt) at c.floor.ensures) ∙ ap (λ (z : ℤ). floor_z z a.q) (+ℤ_idl (neg_ℤ a.num)) in
    let back : Ex = let a = c.args in let e = ap nat_abs gave in lit (pos 0) ⊝ var c.floor.result sum_limit (omega (zarith, abs-floor (neg_ℤ a.num) a.q, abs_neg a.num, c.requires.0)) in
    need back tt

pub returns : goal.returns
returns c =
    let mirrored : Ex = lit (pos 0) ⊝ var c.args.num sum_limit c.requires.0 in
    let gave : c.floor.result ≡ floor_z (neg_ℤ c.args.num) c.args.q = let a = c.args in (rw (exact mirrored tt) at c.floor.ensures) ∙ ap (λ (z : ℤ). floor_z z a.q) (+ℤ_idl (neg_ℤ a.num)) in
    let back : Ex = let a = c.args in let e = ap nat_abs gave in lit (pos 0) ⊝ var c.floor.result sum_limit (omega (zarith, abs-floor (neg_ℤ a.num) a.q, abs_neg a.num, c.requires.0)) in
    exact back tt ∙ +ℤ_idl (neg_ℤ c.floor.result) ∙ ap neg_ℤ gave
