-- `control::control`: the plant, then the call on its frame. Assumes nothing.
use Rattle.std.proofs.lemmas.Result.{err_from_is_err_and}
use mathlib.Core.Path.{sym, ap, ◌∙◌}
use mathlib.Core.List.{[]}
use Rattle.meaning.specs.Control.{call}
use Rattle.meaning.specs.Plants.{plant_judged}
use Rattle.meaning.specs.Tables.{form_of}
use Rattle.promises.specs.Tables.PlantRules.{read-bad, controlled-bad, controlled-as}
use Rattle.tables.specs.declared.frames.Frame.{Frame}
use Rattle.tables.specs.Frames.{own_frame, formed, rules_by}
use Rattle.tables.proofs.frames.Laws.{framed-sound}
use Rattle.tables.proofs.control.Laws.{framed-own, call_by}
use Rattle.tables.proofs.control.control.Goals as goal

pub returns-in_err-outline : goal.returns-in_err-outline
returns-in_err-outline c =
    let a = c.args in
    let r = c.judge_plant in
    let p = err_from_is_err_and c.from_residual.result c.from_residual.ensures.1 in
    rw (p.1, p.2) (sym (controlled-bad a.plant.now _ (read-bad (plant_judged a.plant.now) r.result r.ensures _ c.in_err-outline.was) a.table.now a.st a.x))

pub call-requires : goal.call-requires
call-requires c =
    let t = framed-own c.args.plant.now c.judge_plant.ensures c.in_ok-outline.was c.framed.ensures in
    framed-sound t.plant t.sound c.framed.result t.framed

pub returns : goal.returns
returns c =
    let a = c.args in
    let t = framed-own a.plant.now c.judge_plant.ensures c.in_ok-outline.was c.framed.ensures in
    let p = t.plant in
    c.call.ensures ∙ ap (λ (f : Frame). call (rules_by f [] [] (form_of a.table.now)) a.table.now a.st a.x) t.framed
    ∙ call_by (formed (own_frame p) (form_of a.table.now)) [] [] p.bands p.coef a.table.now a.st a.x
    ∙ sym (controlled-as a.plant.now p t.was a.table.now a.st a.x)
