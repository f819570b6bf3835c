-- `floats::read_float`: each return cites the law of what it stops at. Assumes nothing.
use mathlib.Core.Path.{◌≡◌, sym, ap, ◌∙◌}
use native.Mathlib.Omega.{arith}
use Rattle.std.proofs.lemmas.Result.{err_from_is_err_and}
use Rattle.meaning.specs.Refusals.{broken}
use Rattle.sheets.specs.Floats.{bits_taken, ok_of}
use Rattle.sheets.proofs.floats.Laws.{float_cut, not_finite, no_nan, floated, not-asked}
use Rattle.sheets.proofs.floats.read_float.Goals as goal

pub returns-in_err-b : goal.returns-in_err-b
returns-in_err-b c =
    let z = c.args in
    let p = err_from_is_err_and c.from_residual.result c.from_residual.ensures.1 in
    let h = c.in_err-b.ensures in
    let e : c.in_err-b.field-0.0 ≡ broken z.at = grind (arith, h.value, h.ok_part, c.broken.ensures) in
    rw (p.1, p.2, e) (float_cut (ok_of z.asked) z.s.now z.at (sym c.read_bits.ensures ∙ ap bits_taken h.ok_part))

pub returns-then-b-eq2047 : goal.returns-then-b-eq2047
returns-then-b-eq2047 c =
    let z = c.args in
    let w = c.in_ok-b in
    let e = sym c.read_bits.ensures ∙ ap bits_taken w.ensures.ok_part in
    rw c.bad_float.ensures (not_finite (ok_of z.asked) z.s.now z.at w.b w.next e c.if-b-eq2047.true)

pub float_from_bits-x : goal.float_from_bits-x
float_from_bits-x c = no_nan c.in_ok-b.b c.if-b-eq2047.false

pub returns-then-passes : goal.returns-then-passes
returns-then-passes c =
    let z = c.args in
    let w = c.in_ok-b in
    let e = sym c.read_bits.ensures ∙ ap bits_taken w.ensures.ok_part in
    floated (ok_of z.asked) z.s.now z.at w.b w.next e c.if-b-eq2047.false (sym c.passes.ensures ∙ c.if-passes.true)

pub returns : goal.returns
returns c =
    let z = c.args in
    let w = c.in_ok-b in
    let e = sym c.read_bits.ensures ∙ ap bits_taken w.ensures.ok_part in
    rw c.bad_float-2.ensures (not-asked (ok_of z.asked) z.s.now z.at w.b w.next e c.if-b-eq2047.false (sym c.passes.ensures ∙ c.if-passes.false))
