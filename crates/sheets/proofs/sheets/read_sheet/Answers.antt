-- `sheets::read_sheet`: what was read up to and with 5, then 14. Assumes nothing.
use mathlib.Core.Path.{sym, ap, ◌∙◌}
use Rattle.std.proofs.lemmas.Result.{err_from_is_err_and}
use Rattle.meaning.specs.Sheets.{sheet_read_of}
use Rattle.sheets.proofs.sheets.Fitting.{values-refused, values-taken}
use Rattle.sheets.proofs.sheets.read_sheet.Goals as goal

pub returns-in_err-read_values : goal.returns-in_err-read_values
returns-in_err-read_values c =
    let p = err_from_is_err_and c.from_residual.result c.from_residual.ensures.1 in
    rw (p.1, p.2) (ap sheet_read_of (sym (values-refused c.args.s.now _ (sym c.in_err-read_values.ensures.value))))

pub returns : goal.returns
returns c = c.fitted.ensures ∙ ap sheet_read_of (sym (values-taken c.args.s.now _ (sym c.in_ok-read_values.ensures.value)))
