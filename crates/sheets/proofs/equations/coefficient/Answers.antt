-- `equations::coefficient`, on the diagonal, the room's emitter being on or not, and off it. Assumes nothing.
use mathlib.Core.Path.{sym, ◌∙◌}
use native.Mathlib.Omega.{arith}
use lib.Ieee.{of_bits}
use Rattle.sheets.proofs.equations.Laws.{bit-small, on-diagonal, off-diagonal, before-gap, behind-gap}
use Rattle.sheets.proofs.equations.coefficient.Goals as goal

pub switched-requires : goal.switched-requires
switched-requires c = bit-small c.args.h c.args.i c.args.bit c.requires.fact_5 (omega arith)

pub returns-then-switched : goal.returns-then-switched
unfolding of_bits
returns-then-switched c =
    let a = c.args in
    let set = rw c.requires.fact_5 at (sym c.switched.ensures ∙ c.if-switched.true) in
    rw (c.gained.ensures, c.room_of-room.ensures, c.requires.fact_4) (sym (on-diagonal a.h a.u a.i a.j c.if-i-j.true set))

pub returns-then-i-j : goal.returns-then-i-j
unfolding of_bits
returns-then-i-j c =
    let a = c.args in
    let unset = rw c.requires.fact_5 at (sym c.switched.ensures ∙ c.if-switched.false) in
    rw c.requires.fact_4 (sym (off-diagonal a.h a.u a.i a.j c.if-i-j.true unset))

pub returns-then-j-i : goal.returns-then-j-i
returns-then-j-i c =
    let a = c.args in
    rw (c.exchange.ensures, c.room_of-room.ensures) (sym (before-gap a.h a.u a.i a.j c.if-i-j.false c.if-j-i.true))

pub returns : goal.returns
returns c =
    let a = c.args in
    rw (c.exchange-2.ensures, c.room_of-room.ensures) (sym (behind-gap a.h a.u a.i a.j c.if-i-j.false c.if-j-i.false))
