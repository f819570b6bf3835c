-- `turns::leave`: the table where it fits, else 10. Assumes nothing.
use Prim.Native.Nat.{ℕ}
use mathlib.Core.Path.{ap, ◌∙◌}
use mathlib.Core.Bool.{not}
use mathlib.Core.List.{List}
use Rattle.meaning.specs.declared.Refusal.{Refusal}
use Rattle.meaning.specs.Buffers.{Left, refused_with}
use Rattle.meaning.specs.Trees.{Tree}
use Rattle.tables.specs.Turns.{table_by}
use Rattle.tables.proofs.turns.Laws.{put-fits, put-short}
use Rattle.tables.proofs.turns.leave.Goals as goal

pub returns-then-buf-size : goal.returns-then-buf-size
returns-then-buf-size c t m l =
    let out : List ℕ = c.put_table-size.new.buf in
    let bytes : Tree → List ℕ = λ t. table_by c.args.form c.args.f.n (not c.args.told) t in
    let r = c.refuse in
    let e = ap (λ (f : Refusal). refused_with f out) c.short.ensures ∙ put-short (bytes t) c.args.buf.now c.put_table-size.result out (c.put_table-size.ensures t m l) c.if-buf-size.true in
    (r.ensures.answer ∙ ap (λ (k : Left). k.answer) e, r.ensures.bytes ∙ ap (λ (k : Left). k.buffer) e)

pub returns : goal.returns
returns c t m l =
    let out : List ℕ = c.put_table-size.new.buf in
    let bytes : Tree → List ℕ = λ t. table_by c.args.form c.args.f.n (not c.args.told) t in
    let e = put-fits (bytes t) c.args.buf.now c.put_table-size.result out (c.put_table-size.ensures t m l) c.if-buf-size.false in
    (ap (λ (k : Left). k.answer) e, ap (λ (k : Left). k.buffer) e)
