-- `chains::read_head` reads the two numbers that a chain begins with. Each return cites the law of the number that it stops at. Assumes nothing.
use mathlib.Core.Path.{sym, ap, ◌∙◌}
use Rattle.std.proofs.lemmas.Result.{err_from_is_err_and}
use Rattle.meaning.specs.Files.{refused}
use Rattle.tables.proofs.chains.Reading.{form-broken, form-wrong, m-broken, m-over, headed}
use Rattle.tables.proofs.refusals.Laws.{there, nothing}
use Rattle.tables.proofs.chains.read_head.Goals as goal

pub returns-in_err-form : goal.returns-in_err-form
returns-in_err-form c =
    let x = err_from_is_err_and c.from_residual.result c.from_residual.ensures.1 in
    let k = nothing c.number.result c.broken.result c.in_err-form.ensures.value in
    rw (x.1, x.2) (λ n. form-broken c.args.s.now (sym c.number.ensures ∙ k.0) n ∙ ap refused (sym (k.1 ∙ c.broken.ensures)))

pub returns-then-form-ne1 : goal.returns-then-form-ne1
returns-then-form-ne1 c =
    let e = sym c.number.ensures ∙ there c.number.result c.broken.result c.in_ok-form.ensures.value in
    λ n. form-wrong c.args.s.now c.in_ok-form.form c.in_ok-form.at e c.if-form-ne1.true n ∙ ap refused (sym c.wrong_form.ensures)

pub returns-in_err-m : goal.returns-in_err-m
returns-in_err-m c =
    let e = sym c.number.ensures ∙ there c.number.result c.broken.result c.in_ok-form.ensures.value in
    let x = err_from_is_err_and c.from_residual-in_err-m.result c.from_residual-in_err-m.ensures.1 in
    let k = nothing c.number-2.result c.broken-2.result c.in_err-m.ensures.value in
    rw (x.1, x.2) (λ n. m-broken c.args.s.now c.in_ok-form.form c.in_ok-form.at e c.if-form-ne1.false (sym c.number-2.ensures ∙ k.0) n ∙ ap refused (sym (k.1 ∙ c.broken-2.ensures)))

pub returns-then-m-gt-ABOVE : goal.returns-then-m-gt-ABOVE
returns-then-m-gt-ABOVE c =
    let e = sym c.number.ensures ∙ there c.number.result c.broken.result c.in_ok-form.ensures.value in
    let f = sym c.number-2.ensures ∙ there c.number-2.result c.broken-2.result c.in_ok-m.ensures.value in
    λ n. m-over c.args.s.now c.in_ok-form.form c.in_ok-form.at e c.if-form-ne1.false c.in_ok-m.m c.in_ok-m.next f c.if-m-gt-ABOVE.true n
    ∙ ap refused (sym c.unfit.ensures)

pub returns : goal.returns
returns c =
    let e = sym c.number.ensures ∙ there c.number.result c.broken.result c.in_ok-form.ensures.value in
    let f = sym c.number-2.ensures ∙ there c.number-2.result c.broken-2.result c.in_ok-m.ensures.value in
    headed c.args.s.now c.in_ok-form.form c.in_ok-form.at e c.if-form-ne1.false c.in_ok-m.m c.in_ok-m.next f c.if-m-gt-ABOVE.false
