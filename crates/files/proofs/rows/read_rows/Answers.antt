-- `rows::read_rows` reads the coefficients number by number. Assumes nothing.
use native.Mathlib.Omega.{arith}
use mir.Syntax.{w64}
use mir.Val.{SFits}
use mir.Facts.{to_z-of_z}
use Rattle.std.proofs.lemmas.Result.{err_from_is_err_and}
use Rattle.files.proofs.rows.Laws.{entries_none, entries-more, rows-fails, rows_all}
use Rattle.files.proofs.rows.read_rows.Goals as goal

pub loop-c-init : goal.loop-c-init
loop-c-init c = let t = c.args in entries_none t.s.now t.at t.n _ t.from t.coef.now

pub returns-in_err-v : goal.returns-in_err-v
returns-in_err-v c =
    let p = err_from_is_err_and c.from_residual.result c.from_residual.ensures.1 in
    rw (p.1, p.2) (rows-fails c.args.count c.loop-c.invariant c.in_err-v.field-0.0 (omega arith) c.in_err-v.ensures)

pub loop-c-preserved : goal.loop-c-preserved
loop-c-preserved c =
    let f : SFits w64 c.in_ok-v.v = record { sfits = omega arith } in
    rw (c.next_column-column.ensures, c.store.ensures, to_z-of_z f)
    (entries-more c.loop-c.invariant c.in_ok-v.v c.in_ok-v.next (omega arith) c.in_ok-v.ensures)

pub returns : goal.returns
returns c = rows_all c.args.count c.loop-c.invariant (omega arith)
