-- `modes::put_modes`: what is left to write is the definition's rest. Assumes nothing.
use native.Mathlib.Omega.{arith}
use Rattle.laws.specs.Writing.{under_more, under-done, put-append}
use Rattle.files.proofs.modes.Writing.{rest-alike, rest-own, further-step, further-over}
use Rattle.files.proofs.modes.put_modes.Goals as goal

pub returns-then-form-ne2 : goal.returns-then-form-ne2
returns-then-form-ne2 c = let z = c.args in rw (rest-alike z.form z.n z.modes z.bands.now z.coef.now c.if-form-ne2.true) c.put_some.ensures

pub loop-u-preserved : goal.loop-u-preserved
loop-u-preserved c =
    let z = c.args in
    let l = c.loop-u in
    under_more (under_more (rw (further-step z.n z.modes z.bands.now z.coef.now l.u (omega arith)) at l.invariant) c.put_some-p-in-loop-u.ensures) c.put_some-p-in-loop-u-2.ensures

pub returns : goal.returns
returns c =
    let z = c.args in
    let l = c.loop-u in
    rw (rest-own z.form z.n z.modes z.bands.now z.coef.now c.if-form-ne2.false)
    (put-append c.put_some-p.ensures (under-done (rw (further-over z.n z.modes z.bands.now z.coef.now l.u (omega arith)) at l.invariant)))
