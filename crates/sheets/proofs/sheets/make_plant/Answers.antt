-- `sheets::make_plant`: the plant, or what its sheet is refused by, then the plant's writer. Assumes nothing.
use mathlib.Core.Path.{sym, ap, ◌∙◌}
use Rattle.meaning.specs.Buffers.{Left}
use Rattle.sheets.proofs.sheets.Fitting.{unfit-left, fit-left}
use Rattle.sheets.proofs.sheets.make_plant.Goals as goal

pub returns-in-Err : goal.returns-in-Err
returns-in-Err c =
    let z = c.args in
    let w = c.refuse in
    let e = unfit-left z.sheet.now z.buf.now c.in-Err.e (sym c.in-Err.ensures.plant) in
    record { answer = w.ensures.answer ∙ ap (λ (x : Left). x.answer) (sym e); bytes = w.ensures.bytes ∙ ap (λ (x : Left). x.buffer) (sym e) }

pub returns-in-Ok : goal.returns-in-Ok
returns-in-Ok c =
    let z = c.args in
    let w = c.write_plant in
    let e = fit-left z.sheet.now z.buf.now c.in-Ok.made _ (sym c.in-Ok.ensures.plant) c.in-Ok.ensures.coef in
    record { answer = w.ensures.answer ∙ ap (λ (x : Left). x.answer) (sym e); bytes = w.ensures.bytes ∙ ap (λ (x : Left). x.buffer) (sym e) }
