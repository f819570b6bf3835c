-- `beginnings::read_beginning`: a header, and what stands behind it. Relies on page Laws.
use Rattle.std.specs.Prelude.{Ok, Err}
use Rattle.std.proofs.lemmas.Result.{err_from_is_err_and}
use Rattle.files.specs.declared.beginnings.BeginningRead.{BeginningRead}
use Rattle.files.specs.Beginnings.{BeginningTold}
use Rattle.files.specs.BeginningLaws.{settled}
use Rattle.files.proofs.beginnings.Laws.{header-cut, bounds-cut, bounds-begun}
use Rattle.files.proofs.beginnings.read_beginning.Goals as goal

pub read_bounds-requires : goal.read_bounds-requires
read_bounds-requires c = c.in_ok-h.ensures.n-high

pub judge-requires : goal.judge-requires
judge-requires c =
    let h = c.in_ok-h in
    let b = c.in_ok-beginning in
    let t = bounds-begun c.args.forms c.args.most c.args.s.now h.h h.at h.ensures b.beginning b.next b.ensures in
    record { fact_1 = t.n-high; fact_2 = t.q-high; fact_3 = t.band-sizes }

pub returns-in_err-h : goal.returns-in_err-h
returns-in_err-h c =
    let z = c.args in
    let p = err_from_is_err_and c.from_residual.result c.from_residual.ensures.1 in
    let told = header-cut z.forms z.most z.s.now c.in_err-h.field-0.0 c.in_err-h.ensures in
    rw (p.1, p.2) (record { value = settled z.forms z.most z.s.now (Err c.in_err-h.field-0.0) told; told = told })

pub returns-in_err-beginning : goal.returns-in_err-beginning
returns-in_err-beginning c =
    let z = c.args in
    let h = c.in_ok-h in
    let p = err_from_is_err_and c.from_residual-in_err-beginning.result c.from_residual-in_err-beginning.ensures.1 in
    let told = bounds-cut z.forms z.most z.s.now h.h h.at h.ensures c.in_err-beginning.field-0.0 c.in_err-beginning.ensures in
    rw (p.1, p.2) (record { value = settled z.forms z.most z.s.now (Err c.in_err-beginning.field-0.0) told; told = told })

pub returns : goal.returns
returns c =
    let z = c.args in
    let h = c.in_ok-h in
    let b = c.in_ok-beginning in
    let r : BeginningRead = record { beginning = b.beginning; related = c.judge.result; next = b.next } in
    let told : BeginningTold z.forms z.most z.s.now (Ok r) =
    (bounds-begun z.forms z.most z.s.now h.h h.at h.ensures b.beginning b.next b.ensures, c.judge.ensures) in
    record { value = settled z.forms z.most z.s.now (Ok r) told; told = told }
