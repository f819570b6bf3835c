-- `chains::read_chain`: head, edges, bytes left over, 15. Each return cites the law of the part that it stops at. Assumes nothing.
use Prim.Native.Nat.{◌*◌}
use mathlib.Core.Path.{sym, ap, ◌∙◌, subst}
use Rattle.std.proofs.lemmas.Result.{err_from_is_err_and}
use Rattle.tables.specs.Chains.{no_chain, HeadTold, EdgesTold}
use Rattle.tables.proofs.chains.Reading.{head-stopped, edges-stopped, over-told, not-kept, taken}
use Rattle.tables.proofs.chains.read_chain.Goals as goal

pub returns-in_err-m : goal.returns-in_err-m
returns-in_err-m c =
    let a = c.args in
    let x = err_from_is_err_and c.from_residual.result c.from_residual.ensures.1 in
    rw (x.1, x.2) (head-stopped a.whole a.f a.s.now _ (subst (HeadTold a.s.now) c.in_err-m.was c.read_head.ensures a.f.n))

pub returns-in_err-next : goal.returns-in_err-next
returns-in_err-next c =
    let a = c.args in
    let headed = subst (HeadTold a.s.now) c.in_ok-m.was c.read_head.ensures in
    let told = subst (EdgesTold a.s.now c.in_ok-m.at (c.in_ok-m.m * a.f.n) c.read_edges.new.edges) c.in_err-next.was c.read_edges.ensures in
    let x = err_from_is_err_and c.from_residual-in_err-next.result c.from_residual-in_err-next.ensures.1 in
    rw (x.1, x.2) (edges-stopped a.whole a.f a.s.now c.in_ok-m.m c.in_ok-m.at headed _ told)

pub returns-then-left_over : goal.returns-then-left_over
returns-then-left_over c =
    let a = c.args in
    let headed = subst (HeadTold a.s.now) c.in_ok-m.was c.read_head.ensures in
    let told = subst (EdgesTold a.s.now c.in_ok-m.at (c.in_ok-m.m * a.f.n) c.read_edges.new.edges) c.in_ok-next.was c.read_edges.ensures in
    ap no_chain c.unfit.ensures
    ∙ over-told a.whole a.f a.s.now c.in_ok-m.m c.in_ok-m.at headed c.requires c.read_edges.new.edges c.in_ok-next.next told
    (sym c.left_over.ensures ∙ c.if-left_over.true)

pub returns-then-fault-m : goal.returns-then-fault-m
returns-then-fault-m c =
    let a = c.args in
    let headed = subst (HeadTold a.s.now) c.in_ok-m.was c.read_head.ensures in
    let told = subst (EdgesTold a.s.now c.in_ok-m.at (c.in_ok-m.m * a.f.n) c.read_edges.new.edges) c.in_ok-next.was c.read_edges.ensures in
    ap no_chain c.not_held.ensures
    ∙ not-kept a.whole a.f a.s.now c.in_ok-m.m c.in_ok-m.at headed c.requires c.read_edges.new.edges c.in_ok-next.next told
    (sym c.left_over.ensures ∙ c.if-left_over.false) c.first_unheld-fault.result c.first_unheld-fault.ensures c.if-fault-m.true

pub returns : goal.returns
returns c =
    let a = c.args in
    let headed = subst (HeadTold a.s.now) c.in_ok-m.was c.read_head.ensures in
    let told = subst (EdgesTold a.s.now c.in_ok-m.at (c.in_ok-m.m * a.f.n) c.read_edges.new.edges) c.in_ok-next.was c.read_edges.ensures in
    taken a.whole a.f a.s.now c.in_ok-m.m c.in_ok-m.at headed c.requires c.read_edges.new.edges c.in_ok-next.next told
    (sym c.left_over.ensures ∙ c.if-left_over.false) c.first_unheld-fault.result c.first_unheld-fault.ensures c.if-fault-m.false
