-- `relays::lay`: the table itself, its tree in the other layout, or 2; each by its law. Assumes nothing.
use Prim.Native.Nat.{ℕ}
use mathlib.Core.Path.{◌≡◌, sym, ap, ◌∙◌}
use Rattle.meaning.specs.declared.Refusal.{Refusal}
use Rattle.meaning.specs.Buffers.{Left, refused_with}
use Rattle.tables.specs.Frames.{own_frame, formed}
use Rattle.tables.proofs.relays.Laws.{left-itself, left-two, end, frame-sound, lies, left-turned, frame_is}
use Rattle.tables.proofs.relays.lay.Goals as goal

pub returns-then-form-own : goal.returns-then-form-own
returns-then-form-own c =
    let o = c.form_of-own in
    let w = c.leave in
    let e = left-itself c.args.plant.now c.args.table.now c.args.form c.args.buf.now c.requires o.result o.ensures c.if-form-own.true in
    record { answer = w.ensures.answer ∙ ap (λ (l : Left). l.answer) e; bytes = w.ensures.bytes ∙ ap (λ (l : Left). l.buffer) e }

pub leave-requires-then-turns_into : goal.leave-requires-then-turns_into
leave-requires-then-turns_into c =
    let own : ℕ = c.form_of-own.result in
    let frame : c.formed-f.result ≡ formed (own_frame c.requires.p) own = frame_is c.args.plant.now c.requires.p c.requires.judged own c.in-Ok.outline (sym c.in-Ok.is ∙ c.judge_plant.ensures) c.framed.result c.framed.ensures c.formed-f.result c.formed-f.ensures in
    let o = c.form_of-own in
    let t = c.turns_into in
    let y = c.if-turns_into.true in
    let n = c.if-form-own.false in
    let plant = c.args.plant.now in
    let table = c.args.table.now in
    let form = c.args.form in
    let buf = c.args.buf.now in
    let f = c.formed-f.result in (
      frame-sound plant table form buf c.requires o.result o.ensures t.result t.ensures y n f frame,
      (c.requires.tree, end plant table form buf c.requires o.result o.ensures t.result t.ensures y n f frame, lies plant table form buf c.requires o.result o.ensures t.result t.ensures y n f frame),
    )

pub returns-then-turns_into : goal.returns-then-turns_into
returns-then-turns_into c =
    let own : ℕ = c.form_of-own.result in
    let frame : c.formed-f.result ≡ formed (own_frame c.requires.p) own = frame_is c.args.plant.now c.requires.p c.requires.judged own c.in-Ok.outline (sym c.in-Ok.is ∙ c.judge_plant.ensures) c.framed.result c.framed.ensures c.formed-f.result c.formed-f.ensures in
    let o = c.form_of-own in
    let t = c.turns_into in
    let y = c.if-turns_into.true in
    let n = c.if-form-own.false in
    let plant = c.args.plant.now in
    let table = c.args.table.now in
    let form = c.args.form in
    let buf = c.args.buf.now in
    let f = c.formed-f.result in
    let w = c.leave-then-turns_into.ensures c.requires.tree _ (lies plant table form buf c.requires o.result o.ensures t.result t.ensures y n f frame) in
    let e = left-turned plant table form buf c.requires o.result o.ensures t.result t.ensures y n f frame in
    record { answer = w.0 ∙ ap (λ (l : Left). l.answer) e; bytes = w.1 ∙ ap (λ (l : Left). l.buffer) e }

pub returns : goal.returns
returns c =
    let o = c.form_of-own in
    let t = c.turns_into in
    let w = c.refuse in
    let e = ap (λ (r : Refusal). refused_with r c.args.buf.now) c.wrong_form.ensures ∙ left-two c.args.plant.now c.args.table.now c.args.form c.args.buf.now c.requires o.result o.ensures t.result t.ensures c.if-turns_into.false in
    record { answer = w.ensures.answer ∙ ap (λ (l : Left). l.answer) e; bytes = w.ensures.bytes ∙ ap (λ (l : Left). l.buffer) e }
