-- `spans::read_span` reads lo and hi. Assumes nothing.
use mir.Syntax.{w64}
use mir.Val.{SFits}
use mir.Facts.{to_z-of_z}
use native.Mathlib.Omega.{arith}
use Rattle.std.proofs.lemmas.Result.{err_from_is_err_and}
use Rattle.files.proofs.spans.Laws.{lo-fails, hi-fails, spanned}
use Rattle.files.proofs.spans.read_span.Goals as goal

pub returns-in_err-lo : goal.returns-in_err-lo
returns-in_err-lo c =
    let f = c.ranges.least in
    let g = c.ranges.most in
    let p = err_from_is_err_and c.from_residual.result c.from_residual.ensures.1 in
    rw (p.1, p.2) (lo-fails c.args.least c.args.most c.args.s.now c.args.at c.in_err-lo.field-0.0 (simp to_z-of_z at c.in_err-lo.ensures))

pub returns-in_err-hi : goal.returns-in_err-hi
returns-in_err-hi c =
    let l : SFits w64 c.in_ok-lo.lo = record { sfits = omega arith } in
    let f = c.ranges.least in
    let g = c.ranges.most in
    let p = err_from_is_err_and c.from_residual-in_err-hi.result c.from_residual-in_err-hi.ensures.1 in
    rw (p.1, p.2)
    (hi-fails c.args.least c.args.most c.args.s.now c.args.at c.in_ok-lo.lo c.in_ok-lo.mid (simp to_z-of_z at c.in_ok-lo.ensures)
    c.in_err-hi.field-0.0 (simp to_z-of_z at c.in_err-hi.ensures))

pub returns : goal.returns
returns c =
    let l : SFits w64 c.in_ok-lo.lo = record { sfits = omega arith } in
    let m : SFits w64 c.in_ok-hi.hi = record { sfits = omega arith } in
    let f = c.ranges.least in
    let g = c.ranges.most in
    simp to_z-of_z
    (spanned c.args.least c.args.most c.args.s.now c.args.at c.in_ok-lo.lo c.in_ok-lo.mid (simp to_z-of_z at c.in_ok-lo.ensures)
    c.in_ok-hi.hi c.in_ok-hi.next (simp to_z-of_z at c.in_ok-hi.ensures))
