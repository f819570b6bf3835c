-- `control::call`: the form that the table says, the header, then the state; a running call hangs on no form. Assumes nothing.
use Rattle.std.proofs.lemmas.Result.{err_from_is_err_and}
use Prim.Native.Nat.{ℕ}
use mathlib.Core.Path.{ap, ◌∙◌}
use mathlib.Core.List.{[]}
use Rattle.meaning.specs.Control.{idle_call}
use Rattle.meaning.specs.Tables.{form_of}
use Rattle.meaning.specs.Verdicts.{header}
use Rattle.tables.specs.declared.frames.Frame.{Frame}
use Rattle.tables.specs.Frames.{formed, rules_in, rules_by}
use Rattle.tables.proofs.control.Laws.{call-refused, call-idle, call-running}
use Rattle.tables.proofs.control.call.Goals as goal

pub returns-in_err-at : goal.returns-in_err-at
returns-in_err-at c =
    let a = c.args in
    let headed = c.header.ensures ∙ ap (λ (form : ℕ). header form a.f.n a.table.now) c.form_of-form.ensures in
    let p = err_from_is_err_and c.from_residual.result c.from_residual.ensures.1 in
    rw (p.1, p.2) (call-refused (rules_by a.f [] [] (form_of a.table.now)) a.table.now a.x a.st c.header.result headed _ c.in_err-at.was)

pub returns-then-st-eq0 : goal.returns-then-st-eq0
returns-then-st-eq0 c =
    let a = c.args in
    let headed = c.header.ensures ∙ ap (λ (form : ℕ). header form a.f.n a.table.now) c.form_of-form.ensures in
    let framed = c.formed.ensures ∙ ap (formed a.f) c.form_of-form.ensures in
    c.idle_call.ensures
    ∙ ap (λ (f : Frame). idle_call (rules_in f [] []) a.table.now c.in_ok-at.at a.st.place a.x) framed
    ∙ call-idle (rules_by a.f [] [] (form_of a.table.now)) a.table.now a.x a.st c.header.result headed c.in_ok-at.at c.in_ok-at.was c.if-st-eq0.true

pub returns-else-st-eq0 : goal.returns-else-st-eq0
returns-else-st-eq0 c =
    let a = c.args in
    let headed = c.header.ensures ∙ ap (λ (form : ℕ). header form a.f.n a.table.now) c.form_of-form.ensures in
    c.running_call.ensures
    ∙ call-running (rules_by a.f [] [] (form_of a.table.now)) a.table.now a.x a.st c.header.result headed c.in_ok-at.at c.in_ok-at.was c.if-st-eq0.false
