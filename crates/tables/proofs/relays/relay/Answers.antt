-- `relays::relay`: what the checker refuses, or the table that it accepts, which is a tree's. Assumes nothing.
use mathlib.Core.Path.{sym, ap, ◌∙◌}
use Rattle.meaning.specs.Buffers.{Left}
use Rattle.promises.specs.Tables.Checked.{checked-exactly}
use Rattle.tables.proofs.relays.Laws.{left-refused}
use Rattle.tables.proofs.relays.relay.Goals as goal

pub lay-requires : goal.lay-requires
lay-requires c =
    let v = c.check in
    (checked-exactly c.args.plant.now c.args.table.now).0 (sym v.ensures ∙ c.in-Ok.is)

pub returns-in-Err : goal.returns-in-Err
returns-in-Err c =
    let v = c.check in
    let w = c.refuse in
    let e = left-refused c.args.plant.now c.args.table.now c.args.form c.args.buf.now c.in-Err.e (sym v.ensures ∙ c.in-Err.is) in
    record { answer = w.ensures.answer ∙ ap (λ (l : Left). l.answer) e; bytes = w.ensures.bytes ∙ ap (λ (l : Left). l.buffer) e }
