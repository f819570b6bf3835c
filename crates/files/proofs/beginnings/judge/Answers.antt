-- `beginnings::judge`: R in S, then the bands. Assumes nothing.
use Rattle.files.proofs.beginnings.Laws.{out-told, thin-told, all_told}
use Rattle.files.proofs.beginnings.judge.Goals as goal

pub returns-then-out-n : goal.returns-then-out-n
returns-then-out-n c =
    let o = c.first_out-out in
    rw c.not_in_safe.ensures (out-told c.args.b o.result o.ensures c.if-out-n.true)

pub returns-then-thin-n : goal.returns-then-thin-n
returns-then-thin-n c =
    let o = c.first_out-out in
    let q = c.first_narrow-thin in
    rw c.narrow.ensures (thin-told c.args.b o.result o.ensures c.if-out-n.false q.result q.ensures c.if-thin-n.true)

pub returns : goal.returns
returns c =
    let o = c.first_out-out in
    let q = c.first_narrow-thin in
    all_told c.args.b o.result o.ensures c.if-out-n.false q.result q.ensures c.if-thin-n.false
