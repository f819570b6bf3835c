-- `sheets::read_body`: each return cites the law of the part that it stops at. Assumes nothing.
use mathlib.Core.Path.{sym, ap, ◌∙◌}
use Rattle.std.proofs.lemmas.Result.{err_from_is_err_and}
use Rattle.meaning.specs.declared.Refusal.{Refusal}
use Rattle.meaning.specs.Files.{bad}
use Rattle.meaning.specs.Sheets.{sheet_read_of}
use Rattle.sheets.proofs.sheets.Laws.{time-refused, rooms-refused, left_over, by-verdict}
use Rattle.sheets.proofs.sheets.read_body.Goals as goal

pub returns-in_err-time-clause-value : goal.returns-in_err-time-clause-value
returns-in_err-time-clause-value c =
    let z = c.args in
    let p = err_from_is_err_and c.from_residual.result c.from_residual.ensures.1 in
    rw (p.1, p.2) (sym (time-refused z.s.now z.b z.at _ c.in_err-time.ensures))

pub returns-in_err-rooms-clause-value : goal.returns-in_err-rooms-clause-value
returns-in_err-rooms-clause-value c =
    let z = c.args in
    let u = c.in_ok-time in
    let p = err_from_is_err_and c.from_residual-in_err-rooms.result c.from_residual-in_err-rooms.ensures.1 in
    rw (p.1, p.2) (sym (rooms-refused z.s.now z.b z.at u.time u.outside u.mid u.ensures _ c.in_err-rooms.ensures))

pub returns-then-next-s-clause-value : goal.returns-then-next-s-clause-value
returns-then-next-s-clause-value c =
    let z = c.args in
    let u = c.in_ok-time in
    let v = c.in_ok-rooms in
    ap (λ (k : Refusal). sheet_read_of (bad k)) c.unfit.ensures ∙ sym (left_over z.s.now z.b z.at u.time u.outside u.mid u.ensures v.rooms v.next v.ensures c.if-next-s.true)

pub returns-in_err-related-clause-value : goal.returns-in_err-related-clause-value
returns-in_err-related-clause-value c =
    let z = c.args in
    let u = c.in_ok-time in
    let v = c.in_ok-rooms in
    let p = err_from_is_err_and c.from_residual-in_err-related.result c.from_residual-in_err-related.ensures.1 in
    rw (p.1, p.2) (sym (by-verdict z.s.now z.b z.at u.time u.outside u.mid u.ensures v.rooms v.next v.ensures c.requires.fact_1 c.if-next-s.false z.related _ c.requires.fact_2 c.in_err-related.was))

pub returns-clause-value : goal.returns-clause-value
returns-clause-value c =
    let z = c.args in
    let u = c.in_ok-time in
    let v = c.in_ok-rooms in
    c.accepted.ensures ∙ sym (by-verdict z.s.now z.b z.at u.time u.outside u.mid u.ensures v.rooms v.next v.ensures c.requires.fact_1 c.if-next-s.false z.related _ c.requires.fact_2 c.in_ok-related.was)
