-- `sheets::read_values`: a beginning, and what stands behind it. Assumes nothing.
use mathlib.Core.Path.{sym, ◌∙◌}
use Rattle.std.proofs.lemmas.Result.{err_from_is_err_and}
use Rattle.sheets.proofs.sheets.Laws.{beginning-refused, beginning-read}
use Rattle.sheets.proofs.sheets.read_values.Goals as goal

pub returns-in_err-read-clause-value : goal.returns-in_err-read-clause-value
returns-in_err-read-clause-value c =
    let p = err_from_is_err_and c.from_residual.result c.from_residual.ensures.1 in
    p.1 ∙ sym (beginning-refused c.args.s.now p.0 (rw p.2 c.in_err-read.ensures.told))

pub returns-clause-value : goal.returns-clause-value
returns-clause-value c =
    let r = c.in_ok-read.read in
    c.read_body.ensures.value ∙ sym (beginning-read c.args.s.now r.beginning r.next c.in_ok-read.ensures.told.0)
