-- `bounds::read_edges` reads R and S dimension by dimension. Assumes nothing.
use native.Mathlib.Omega.{arith}
use mir.Syntax.{w64}
use mir.Val.{SFits}
use mir.Facts.{to_z-of_z}
use Rattle.std.proofs.lemmas.Result.{err_from_is_err_and}
use Rattle.files.proofs.bounds.Laws.{edges_none, edges_more, root-fails, safe-fails, edges-all}
use Rattle.files.proofs.bounds.read_edges.Goals as goal

pub loop-i-init : goal.loop-i-init
loop-i-init c =
    let r = c.default-root.ensures in
    let w = c.default-safe.ensures in
    edges_none c.args.s.now c.args.at c.args.n r.0 r.1 w.0 w.1

pub returns-in_err-root_lo : goal.returns-in_err-root_lo
returns-in_err-root_lo c =
    let p = err_from_is_err_and c.from_residual.result c.from_residual.ensures.1 in
    rw (p.1, p.2) (root-fails c.loop-i.invariant c.in_err-root_lo.field-0.0 (omega arith) c.in_err-root_lo.ensures)

pub returns-in_err-safe_lo : goal.returns-in_err-safe_lo
returns-in_err-safe_lo c =
    let a = c.in_ok-root_lo in
    let p = err_from_is_err_and c.from_residual-in_err-safe_lo.result c.from_residual-in_err-safe_lo.ensures.1 in
    rw (p.1, p.2)
    (safe-fails c.loop-i.invariant a.root_lo a.root_hi a.mid c.in_err-safe_lo.field-0.0 (omega arith) a.ensures c.in_err-safe_lo.ensures)

pub loop-i-preserved : goal.loop-i-preserved
loop-i-preserved c =
    let a = c.in_ok-root_lo in
    let b = c.in_ok-safe_lo in
    let f : SFits w64 a.root_lo = record { sfits = omega arith } in
    let g : SFits w64 a.root_hi = record { sfits = omega arith } in
    let h : SFits w64 b.safe_lo = record { sfits = omega arith } in
    let j : SFits w64 b.safe_hi = record { sfits = omega arith } in
    simp to_z-of_z
    (edges_more c.loop-i.invariant a.root_lo a.root_hi b.safe_lo b.safe_hi a.mid b.next (omega arith) (omega arith) a.ensures b.ensures)

pub returns : goal.returns
returns c = edges-all c.loop-i.invariant (omega arith)
