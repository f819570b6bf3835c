-- `chains::read_edges` reads the boxes' sides one by one. Assumes nothing.
use mathlib.Core.Path.{subst}
use native.Mathlib.Omega.{arith}
use lib.IntN.{pos, negsuc}
use mir.Syntax.{w64}
use mir.Val.{SFits}
use mir.Facts.{to_z-of_z}
use Rattle.std.proofs.lemmas.Result.{err_from_is_err_and}
use Rattle.files.specs.Spans.{SpanTold}
use Rattle.tables.proofs.chains.Reading.{edges_none, edges_more, edges-fails, edges-all}
use Rattle.tables.proofs.chains.read_edges.Goals as goal

pub loop-i-init : goal.loop-i-init
loop-i-init c = let t = c.args in rw c.requires.1 (edges_none t.s.now t.at t.count)

pub returns-in_err-lo : goal.returns-in_err-lo
returns-in_err-lo c =
    let x = err_from_is_err_and c.from_residual.result c.from_residual.ensures.1 in
    let t = subst (SpanTold (negsuc 999999) (pos 1000000) c.args.s.now c.loop-i.p) c.in_err-lo.was c.read_span.ensures in
    rw (x.1, x.2) (edges-fails c.loop-i.invariant (omega arith) t)

pub loop-i-preserved : goal.loop-i-preserved
loop-i-preserved c =
    let r = c.in_ok-lo in
    let f : SFits w64 r.lo = record { sfits = omega arith } in
    let g : SFits w64 r.hi = record { sfits = omega arith } in
    let t = subst (SpanTold (negsuc 999999) (pos 1000000) c.args.s.now c.loop-i.p) r.was c.read_span.ensures in
    simp to_z-of_z (edges_more c.loop-i.invariant r.lo r.hi r.next (omega arith) (omega arith) t)

pub returns : goal.returns
returns c = edges-all c.loop-i.invariant (omega arith)
