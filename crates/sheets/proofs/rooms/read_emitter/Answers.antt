-- `rooms::read_emitter`: the number, then the values that it calls for. Assumes nothing.
use Rattle.std.specs.Prelude.{Ok}
use mathlib.Core.Path.{◌≡◌, sym, ◌∙◌}
use native.Mathlib.Omega.{arith}
use Rattle.std.proofs.lemmas.Result.{err_from_is_err_and}
use Rattle.meaning.specs.declared.Emitter.{Emitter}
use Rattle.meaning.specs.Refusals.{broken}
use Rattle.sheets.proofs.rooms.Laws.{kind-cut, kind-over, own-told, none_read}
use Rattle.sheets.proofs.rooms.read_emitter.Goals as goal

pub returns-in_err-kind : goal.returns-in_err-kind
returns-in_err-kind c =
    let z = c.args in
    let p = err_from_is_err_and c.from_residual.result c.from_residual.ensures.1 in
    let h = c.in_err-kind.ensures in
    let e : c.in_err-kind.field-0.0 ≡ broken z.at = grind (arith, h.value, h.ok_part, c.broken.ensures) in
    rw (p.1, p.2, e) (kind-cut z.s.now z.at (sym c.number.ensures ∙ h.ok_part))

pub returns-in-0 : goal.returns-in-0
returns-in-0 c =
    let z = c.args in
    let k = c.in_ok-kind in
    own-told z.s.now z.at k.kind k.next (sym c.number.ensures ∙ k.ensures.ok_part) (omega arith) (Ok (Emitter.None, k.next)) (rw c.in-0.is (none_read z.s.now k.next))

pub returns-in-1 : goal.returns-in-1
returns-in-1 c =
    let z = c.args in
    let k = c.in_ok-kind in
    own-told z.s.now z.at k.kind k.next (sym c.number.ensures ∙ k.ensures.ok_part) (omega arith) c.read_heater.result (rw c.in-1.is c.read_heater.ensures)

pub returns-in-2 : goal.returns-in-2
returns-in-2 c =
    let z = c.args in
    let k = c.in_ok-kind in
    own-told z.s.now z.at k.kind k.next (sym c.number.ensures ∙ k.ensures.ok_part) (omega arith) c.read_steady.result (rw c.in-2.is c.read_steady.ensures)

pub returns-in_default : goal.returns-in_default
returns-in_default c =
    let z = c.args in
    let k = c.in_ok-kind in
    rw c.unfit.ensures (kind-over z.s.now z.at k.kind k.next (sym c.number.ensures ∙ k.ensures.ok_part) (omega arith))
