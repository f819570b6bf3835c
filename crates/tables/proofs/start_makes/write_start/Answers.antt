-- `start_makes::write_start`: the chain's bytes, then the tables; what is answered is told by the place behind them. Assumes nothing.
use Prim.Native.Nat.{ℕ}
use mathlib.Core.Path.{ap, ◌∙◌}
use mathlib.Core.List.{List}
use native.Mathlib.Omega.{arith}
use lib.ListN.{length-replicate}
use Rattle.laws.specs.Writing.{put-length}
use Rattle.meaning.specs.declared.Refusal.{Refusal}
use Rattle.meaning.specs.Buffers.{Left, refused_with}
use Rattle.meaning.specs.Files.{Judged}
use Rattle.tables.specs.StartMakes.{frames_tables}
use Rattle.tables.proofs.start_makes.Laws.{start-refused, start-short, start_fits}
use Rattle.tables.proofs.start_makes.write_start.Goals as goal

pub put_parts-requires : goal.put_parts-requires
put_parts-requires g c =
    let w = c.put_bytes-past_chain.ensures in
    record { frames = c.requires.frames; room = omega (arith, c.requires.room, length-replicate {A = ℕ} g.row.DRAFT 0); place = omega (arith, w.place, put-length w) }

pub returns-then-buf-size : goal.returns-then-buf-size
returns-then-buf-size g c =
    let tables : Judged (List (List ℕ)) = frames_tables c.args.f c.args.bands.now c.args.coef.now c.args.edges.now c.args.m in
    let out : List ℕ = c.put_parts.new.buf in
    let r = c.refuse-then-buf-size in
    let e = ap (λ (f : Refusal). refused_with f out) c.short.ensures
    ∙ start-short c.args.chain.now c.args.buf.now tables c.put_bytes-past_chain.ensures c.put_parts.result out c.put_parts.ensures c.in-Ok.size c.in-Ok.is c.if-buf-size.true in
    record { answer = r.ensures.answer ∙ ap (λ (l : Left). l.answer) e; bytes = r.ensures.bytes ∙ ap (λ (l : Left). l.buffer) e }

pub returns-in-Err : goal.returns-in-Err
returns-in-Err g c =
    let tables : Judged (List (List ℕ)) = frames_tables c.args.f c.args.bands.now c.args.coef.now c.args.edges.now c.args.m in
    let out : List ℕ = c.put_parts.new.buf in
    let r = c.refuse in
    let e = start-refused c.args.chain.now c.args.buf.now tables c.put_bytes-past_chain.ensures c.put_parts.result out c.put_parts.ensures c.in-Err.e c.in-Err.is in
    record { answer = r.ensures.answer ∙ ap (λ (l : Left). l.answer) e; bytes = r.ensures.bytes ∙ ap (λ (l : Left). l.buffer) e }

pub returns-else-buf-size : goal.returns-else-buf-size
returns-else-buf-size g c =
    let tables : Judged (List (List ℕ)) = frames_tables c.args.f c.args.bands.now c.args.coef.now c.args.edges.now c.args.m in
    let out : List ℕ = c.put_parts.new.buf in
    let e = start_fits c.args.chain.now c.args.buf.now tables c.put_bytes-past_chain.ensures c.put_parts.result out c.put_parts.ensures c.in-Ok.size c.in-Ok.is c.if-buf-size.false in
    record { answer = ap (λ (l : Left). l.answer) e; bytes = ap (λ (l : Left). l.buffer) e }
