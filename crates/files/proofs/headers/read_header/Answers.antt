-- `headers::read_header` reads the header's numbers in order. Each return cites the law of the number that it stops at. Relies on page Laws.
use Rattle.std.specs.Prelude.{Some, None}
use mathlib.Core.Path.{◌≡◌, sym, ap, ◌∙◌}
use mathlib.Core.Bool.{true}
use native.Mathlib.Omega.{arith}
use borrow.Author.Tests.{not-true, not-false}
use Rattle.std.proofs.lemmas.Result.{err_from_is_err_and}
use Rattle.meaning.specs.Files.{refused}
use Rattle.meaning.specs.Refusals.{broken}
use Rattle.meaning.specs.Numbers.{number_at}
use Rattle.meaning.specs.Plants.{from}
use Rattle.files.specs.HeaderLaws.{form-broken, form-wrong}
use Rattle.files.proofs.headers.Laws.{n-left, m-left, q-left, k-left, d-left, deep, header-read, product-fits}
use Rattle.files.proofs.headers.read_header.Goals as goal

pub returns-in_err-form : goal.returns-in_err-form
returns-in_err-form c =
    let p = err_from_is_err_and c.from_residual.result c.from_residual.ensures.1 in
    let e : number_at c.args.s.now 0 ≡ None = grind arith in
    let said : broken 0 ≡ c.in_err-form.field-0.0 = grind arith in
    rw (p.1, p.2) (λ rest. form-broken c.args.forms c.args.most c.args.s.now e rest ∙ ap refused said)

pub returns-then-unknown : goal.returns-then-unknown
returns-then-unknown c =
    let form = c.in_ok-form in
    let e : number_at c.args.s.now 0 ≡ Some (form.form, form.a) = grind arith in
    λ rest.
    form-wrong c.args.forms c.args.most c.args.s.now form.form form.a e (not-true (from 1 c.args.forms form.form) (sym c.unknown.ensures ∙ c.if-unknown.true)) rest
    ∙ ap refused (sym c.wrong_form.ensures)

pub returns-in_err-n : goal.returns-in_err-n
returns-in_err-n c =
    let z = c.args in
    let form = c.in_ok-form in
    let e : number_at z.s.now 0 ≡ Some (form.form, form.a) = grind arith in
    let known : from 1 z.forms form.form ≡ true = not-false (from 1 z.forms form.form) (sym c.unknown.ensures ∙ c.if-unknown.false) in
    let p = err_from_is_err_and c.from_residual-in_err-n.result c.from_residual-in_err-n.ensures.1 in
    rw (p.1, p.2) (n-left z.forms z.most z.s.now form.form form.a e known c.in_err-n.field-0.0 c.in_err-n.ensures)

pub returns-in_err-m : goal.returns-in_err-m
returns-in_err-m c =
    let z = c.args in
    let form = c.in_ok-form in
    let e : number_at z.s.now 0 ≡ Some (form.form, form.a) = grind arith in
    let known : from 1 z.forms form.form ≡ true = not-false (from 1 z.forms form.form) (sym c.unknown.ensures ∙ c.if-unknown.false) in
    let p = err_from_is_err_and c.from_residual-in_err-m.result c.from_residual-in_err-m.ensures.1 in
    rw (p.1, p.2) (m-left z.forms z.most z.s.now form.form form.a e known c.in_ok-n.n c.in_ok-n.b c.in_ok-n.ensures c.in_err-m.field-0.0 c.in_err-m.ensures)

pub returns-in_err-q : goal.returns-in_err-q
returns-in_err-q c =
    let z = c.args in
    let form = c.in_ok-form in
    let e : number_at z.s.now 0 ≡ Some (form.form, form.a) = grind arith in
    let known : from 1 z.forms form.form ≡ true = not-false (from 1 z.forms form.form) (sym c.unknown.ensures ∙ c.if-unknown.false) in
    let p = err_from_is_err_and c.from_residual-in_err-q.result c.from_residual-in_err-q.ensures.1 in
    rw (p.1, p.2) (q-left z.forms z.most z.s.now form.form form.a e known c.in_ok-n.n c.in_ok-n.b c.in_ok-n.ensures c.in_ok-m.m c.in_ok-m.c c.in_ok-m.ensures c.in_err-q.field-0.0 c.in_err-q.ensures)

pub returns-in_err-k : goal.returns-in_err-k
returns-in_err-k c =
    let z = c.args in
    let form = c.in_ok-form in
    let e : number_at z.s.now 0 ≡ Some (form.form, form.a) = grind arith in
    let known : from 1 z.forms form.form ≡ true = not-false (from 1 z.forms form.form) (sym c.unknown.ensures ∙ c.if-unknown.false) in
    let p = err_from_is_err_and c.from_residual-in_err-k.result c.from_residual-in_err-k.ensures.1 in
    rw (p.1, p.2) (k-left z.forms z.most z.s.now form.form form.a e known c.in_ok-n.n c.in_ok-n.b c.in_ok-n.ensures c.in_ok-m.m c.in_ok-m.c c.in_ok-m.ensures c.in_ok-q.q c.in_ok-q.e c.in_ok-q.ensures c.in_err-k.field-0.0 c.in_err-k.ensures)

pub returns-in_err-d : goal.returns-in_err-d
returns-in_err-d c =
    let z = c.args in
    let form = c.in_ok-form in
    let e : number_at z.s.now 0 ≡ Some (form.form, form.a) = grind arith in
    let known : from 1 z.forms form.form ≡ true = not-false (from 1 z.forms form.form) (sym c.unknown.ensures ∙ c.if-unknown.false) in
    let p = err_from_is_err_and c.from_residual-in_err-d.result c.from_residual-in_err-d.ensures.1 in
    rw (p.1, p.2) (d-left z.forms z.most z.s.now form.form form.a e known c.in_ok-n.n c.in_ok-n.b c.in_ok-n.ensures c.in_ok-m.m c.in_ok-m.c c.in_ok-m.ensures c.in_ok-q.q c.in_ok-q.e c.in_ok-q.ensures c.in_ok-k.k c.in_ok-k.f c.in_ok-k.ensures c.in_err-d.field-0.0 c.in_err-d.ensures)

pub overflow_mul-n : goal.overflow_mul-n
overflow_mul-n c = product-fits c.args.s.now c.in_ok-form.a c.in_ok-k.f c.in_ok-n.n c.in_ok-n.b c.in_ok-d.d c.in_ok-d.next c.in_ok-n.ensures c.in_ok-d.ensures

pub returns-then-n-d-gt12 : goal.returns-then-n-d-gt12
returns-then-n-d-gt12 c =
    let z = c.args in
    let form = c.in_ok-form in
    let e : number_at z.s.now 0 ≡ Some (form.form, form.a) = grind arith in
    let known : from 1 z.forms form.form ≡ true = not-false (from 1 z.forms form.form) (sym c.unknown.ensures ∙ c.if-unknown.false) in
    λ rest. deep z.forms z.most z.s.now form.form form.a e known c.in_ok-n.n c.in_ok-n.b c.in_ok-n.ensures c.in_ok-m.m c.in_ok-m.c c.in_ok-m.ensures c.in_ok-q.q c.in_ok-q.e c.in_ok-q.ensures c.in_ok-k.k c.in_ok-k.f c.in_ok-k.ensures c.in_ok-d.d c.in_ok-d.next c.in_ok-d.ensures c.if-n-d-gt12.true rest ∙ ap refused (sym c.unfit.ensures)

pub returns : goal.returns
returns c =
    let z = c.args in
    let form = c.in_ok-form in
    let e : number_at z.s.now 0 ≡ Some (form.form, form.a) = grind arith in
    let known : from 1 z.forms form.form ≡ true = not-false (from 1 z.forms form.form) (sym c.unknown.ensures ∙ c.if-unknown.false) in
    header-read z.forms z.most z.s.now form.form form.a e known c.in_ok-n.n c.in_ok-n.b c.in_ok-n.ensures c.in_ok-m.m c.in_ok-m.c c.in_ok-m.ensures c.in_ok-q.q c.in_ok-q.e c.in_ok-q.ensures c.in_ok-k.k c.in_ok-k.f c.in_ok-k.ensures c.in_ok-d.d c.in_ok-d.next c.in_ok-d.ensures c.if-n-d-gt12.false
