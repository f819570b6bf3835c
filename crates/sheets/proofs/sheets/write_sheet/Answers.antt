-- `sheets::write_sheet`: the draft is read as the file would be, and what it is judged is left. Relies on page Drafts.
use mathlib.Core.Path.{sym, ap, ◌∙◌}
use lib.ListN.{take}
use lib.Seq.{length-take-le}
use Rattle.meaning.specs.Buffers.{Left}
use Rattle.sheets.proofs.sheets.Drafts.{in-draft, sheet-left}
use Rattle.sheets.proofs.sheets.write_sheet.Goals as goal

pub slice_bounds-draft-end : goal.slice_bounds-draft-end
slice_bounds-draft-end c =
    let d = c.put_sheet-drafted in
    (in-draft c.args.h d.result d.new.buf d.ensures).fits

pub slice_bounds-file-end : goal.slice_bounds-file-end
slice_bounds-file-end c =
    let d = c.put_sheet-drafted in
    sym (length-take-le d.result d.new.buf (in-draft c.args.h d.result d.new.buf d.ensures).fits)

pub returns : goal.returns
returns c =
    let z = c.args in
    let d = c.put_sheet-drafted in
    let x = c.read_sheet in
    let w = c.leave in
    let i = in-draft z.h d.result d.new.buf d.ensures in
    let e = sheet-left z.h (take d.result d.new.buf) x.result i.front x.ensures z.buf.now in
    record { answer = w.ensures.answer ∙ ap (λ (l : Left). l.answer) e; bytes = w.ensures.bytes ∙ ap (λ (l : Left). l.buffer) e }
