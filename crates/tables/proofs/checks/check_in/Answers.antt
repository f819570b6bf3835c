-- `checks::check_in`: the plant's file, which with the arrays is sound where it was judged good, then the table. Assumes nothing.
use Rattle.std.proofs.lemmas.Result.{err_from_is_err_and}
use mathlib.Core.Path.{sym, ap, ◌∙◌}
use Rattle.meaning.specs.Plants.{plant_judged}
use Rattle.meaning.specs.Rules.{Rules}
use Rattle.meaning.specs.Tables.{form_of}
use Rattle.meaning.specs.Verdicts.{verdict}
use Rattle.promises.specs.Tables.PlantRules.{read-bad, checked-bad, checked-as}
use Rattle.tables.specs.declared.frames.Frame.{Frame}
use Rattle.tables.specs.Frames.{formed, rules_by}
use Rattle.tables.proofs.arrays.Laws.{read-into}
use Rattle.tables.proofs.checks.check_in.Goals as goal

pub returns-in_err-outline : goal.returns-in_err-outline
returns-in_err-outline g c =
    let r = c.read_plant in
    let p = err_from_is_err_and c.from_residual.result c.from_residual.ensures.1 in
    rw (p.1, p.2) (sym (checked-bad c.args.plant.now _ (read-bad (plant_judged c.args.plant.now) r.result r.ensures.answer _ c.in_err-outline.was) c.args.table.now))

pub judge-requires : goal.judge-requires
judge-requires g c =
    let r = c.read_plant in
    (read-into c.args.plant.now _ _ c.requires.room r.result r.new.bands r.new.coef (r.ensures.answer, (r.ensures.bands, r.ensures.coef)) c.in_ok-outline.was c.framed.result c.framed.ensures).sound

pub returns : goal.returns
returns g c =
    let r = c.read_plant in
    let t = read-into c.args.plant.now _ _ c.requires.room r.result r.new.bands r.new.coef (r.ensures.answer, (r.ensures.bands, r.ensures.coef)) c.in_ok-outline.was c.framed.result c.framed.ensures in
    let p = t.plant in
    let table = c.args.table.now in
    c.judge.ensures ∙ ap (λ (r : Rules). verdict r table) (t.rules (formed c.framed.result (form_of table)))
    ∙ ap (λ (f : Frame). verdict (rules_by f p.bands p.coef (form_of table)) table) t.framed
    ∙ sym (checked-as c.args.plant.now p t.was table)
