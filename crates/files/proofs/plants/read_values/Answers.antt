-- `plants::read_values`: each return cites the law of the part that it stops at. Relies on page Laws.
use mathlib.Core.Path.{sym, ap, ◌∙◌}
use Rattle.std.proofs.lemmas.Result.{err_from_is_err_and}
use Rattle.meaning.specs.Files.{bad}
use Rattle.files.proofs.plants.Laws.{beginning-refused, beginning-read, modes-refused, left_over, thin-told, all_told}
use Rattle.files.proofs.plants.read_values.Goals as goal

pub returns-in_err-begun : goal.returns-in_err-begun
returns-in_err-begun c =
    let p = err_from_is_err_and c.from_residual.result c.from_residual.ensures.1 in
    rw (p.1, p.2) (beginning-refused c.args.s.now c.in_err-begun.field-0.0 c.in_err-begun.ensures.told)

pub returns-in_err-modes : goal.returns-in_err-modes
returns-in_err-modes c =
    let s = c.args.s.now in
    let r = c.in_ok-begun.begun in
    let p = err_from_is_err_and c.from_residual-in_err-modes.result c.from_residual-in_err-modes.ensures.1 in
    rw (p.1, p.2)
    (beginning-read s r.beginning r.next c.in_ok-begun.ensures.told.0 ∙ modes-refused s r.beginning r.next c.in_err-modes.field-0.0 c.in_err-modes.ensures)

pub returns-then-modes-s : goal.returns-then-modes-s
returns-then-modes-s c =
    let s = c.args.s.now in
    let r = c.in_ok-begun.begun in
    beginning-read s r.beginning r.next c.in_ok-begun.ensures.told.0
    ∙ left_over s r.beginning r.next c.in_ok-modes.ensures c.if-modes-s.true ∙ ap bad (sym c.unfit.ensures)

pub returns-in_err-modes-2 : goal.returns-in_err-modes-2
returns-in_err-modes-2 c =
    let s = c.args.s.now in
    let r = c.in_ok-begun.begun in
    let t = c.in_ok-begun.ensures.told.0 in
    let p = err_from_is_err_and c.from_residual-in_err-modes-2.result c.from_residual-in_err-modes-2.ensures.1 in
    rw (p.1, p.2)
    (beginning-read s r.beginning r.next t ∙ thin-told s r.beginning r.next c.in_ok-modes.ensures t c.if-modes-s.false _ c.in_err-modes-2.was)

pub returns : goal.returns
returns c =
    let s = c.args.s.now in
    let r = c.in_ok-begun.begun in
    let t = c.in_ok-begun.ensures.told.0 in
    rw (c.outline.ensures, beginning-read s r.beginning r.next t)
    (all_told s r.beginning r.next c.in_ok-modes.ensures t c.if-modes-s.false c.in_ok-modes-2.was)
