-- `made::coefficients` goes place by place. Assumes nothing.
use mathlib.Core.Path.{sym, ◌∙◌}
use native.Mathlib.Omega.{arith}
use mir.Syntax.{w64}
use mir.Val.{SFits}
use mir.Facts.{to_z-of_z}
use Rattle.sheets.specs.Made.{most_entries, entry_at}
use Rattle.sheets.proofs.wholes.Counts.{fit-none, fit-more, fit-out, fit-all}
use Rattle.sheets.proofs.made.coefficients.Goals as goal

pub loop-p-init : goal.loop-p-init
loop-p-init c = rw c.requires.zeros (fit-none most_entries (entry_at c.args.h) c.args.count)

pub returns-in_default : goal.returns-in_default
returns-in_default c =
    let z = c.args in
    rw c.bad_result.ensures (fit-out most_entries (entry_at z.h) z.count c.loop-p.invariant z.place (omega arith) (sym c.entry.ensures ∙ c.in_default.is))

pub loop-p-preserved : goal.loop-p-preserved
loop-p-preserved c =
    let z = c.args in
    let v = c.in-Some in
    let m : SFits w64 v.v = record { sfits = omega arith } in
    rw (to_z-of_z m) (fit-more most_entries (entry_at z.h) z.count c.loop-p.invariant v.v (omega arith) (omega arith) (sym c.entry.ensures ∙ v.is))

pub returns : goal.returns
returns c = fit-all most_entries (entry_at c.args.h) c.args.count c.loop-p.invariant c.args.place (omega arith) c.requires.fact_2
