-- `bands::widened` goes dimension by dimension. Assumes nothing.
use Prim.Native.Nat.{◌+◌, ◌*◌}
use mathlib.Core.Path.{◌≡◌, sym, ◌∙◌}
use native.Mathlib.Omega.{arith}
use mir.Syntax.{w64}
use mir.Val.{SFits}
use mir.Facts.{to_z-of_z}
use Rattle.std.proofs.lemmas.Result.{err_from_is_err_and}
use Rattle.meaning.specs.Refusals.{bad_result}
use Rattle.sheets.specs.Bands.{most_ends, end_at}
use Rattle.sheets.proofs.wholes.Counts.{fit-none}
use Rattle.sheets.proofs.bands.Laws.{low-stops, high-stops, bands-more, bands-all}
use Rattle.sheets.proofs.bands.widened.Goals as goal

pub loop-i-init : goal.loop-i-init
loop-i-init c = fit-none most_ends (end_at c.args.h) (2 * c.args.h.n)

pub returns-in_err-lo : goal.returns-in_err-lo
returns-in_err-lo c =
    let z = c.args in
    let i = c.loop-i.i in
    let p = err_from_is_err_and c.from_residual.result c.from_residual.ensures.1 in
    let w = c.in_err-lo.ensures in
    let e : c.in_err-lo.field-0.0 ≡ bad_result (z.place + 2 * i) = grind (arith, w.value, w.ok_part, c.bad_result.ensures) in
    rw (p.1, p.2, e) (sym (low-stops z.h i c.loop-i.ends z.place c.loop-i.invariant (omega arith) (sym c.low_end.ensures ∙ w.ok_part)))

pub returns-in_err-hi : goal.returns-in_err-hi
returns-in_err-hi c =
    let z = c.args in
    let i = c.loop-i.i in
    let p = err_from_is_err_and c.from_residual-in_err-hi.result c.from_residual-in_err-hi.ensures.1 in
    let w = c.in_err-hi.ensures in
    let e : c.in_err-hi.field-0.0 ≡ bad_result (z.place + 2 * i + 1) = grind (arith, w.value, w.ok_part, c.bad_result-in-loop-i.ensures) in
    rw (p.1, p.2, e) (sym (high-stops z.h i c.loop-i.ends z.place c.loop-i.invariant c.requires.fact_1.few (omega arith) c.in_ok-lo.lo (sym c.low_end.ensures ∙ c.in_ok-lo.ensures.ok_part) (sym c.high_end.ensures ∙ w.ok_part)))

pub loop-i-preserved : goal.loop-i-preserved
loop-i-preserved c =
    let z = c.args in
    let lo = c.in_ok-lo in
    let hi = c.in_ok-hi in
    let l : SFits w64 lo.lo = record { sfits = omega arith } in
    let m : SFits w64 hi.hi = record { sfits = omega arith } in
    rw (to_z-of_z l, to_z-of_z m) (bands-more z.h c.loop-i.i c.loop-i.ends z.place c.loop-i.invariant c.requires.fact_1.few (omega arith) lo.lo (sym c.low_end.ensures ∙ lo.ensures.ok_part) hi.hi (sym c.high_end.ensures ∙ hi.ensures.ok_part))

pub returns : goal.returns
returns c = sym (bands-all c.args.h c.loop-i.i c.loop-i.ends c.args.place c.loop-i.invariant c.requires.fact_1.few (omega arith))
