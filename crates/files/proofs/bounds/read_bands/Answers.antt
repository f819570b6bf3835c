-- `bounds::read_bands` reads the bands dimension by dimension. Assumes nothing.
use mir.Syntax.{w64}
use mir.Val.{SFits}
use mir.Facts.{to_z-of_z}
use native.Mathlib.Omega.{arith}
use Rattle.std.proofs.lemmas.Result.{err_from_is_err_and}
use Rattle.files.proofs.bounds.Laws.{bands-none, bands-more, bands-fails, bands-all}
use Rattle.files.proofs.bounds.read_bands.Goals as goal

pub loop-i-init : goal.loop-i-init
loop-i-init c = let w = c.default-bands.ensures in bands-none c.args.s.now c.args.at c.args.n w.0 w.1

pub returns-in_err-lo : goal.returns-in_err-lo
returns-in_err-lo c =
    let p = err_from_is_err_and c.from_residual.result c.from_residual.ensures.1 in
    rw (p.1, p.2) (bands-fails c.loop-i.invariant c.in_err-lo.field-0.0 (omega arith) c.in_err-lo.ensures)

pub loop-i-preserved : goal.loop-i-preserved
loop-i-preserved c =
    let a = c.in_ok-lo in
    let f : SFits w64 a.lo = record { sfits = omega arith } in
    let g : SFits w64 a.hi = record { sfits = omega arith } in
    simp to_z-of_z (bands-more c.loop-i.invariant a.lo a.hi a.next (omega arith) (omega arith) a.ensures)

pub returns : goal.returns
returns c = bands-all c.loop-i.invariant (omega arith)
