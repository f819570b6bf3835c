-- `equations::offset`, the room's emitter being on or not. Assumes nothing.
use mathlib.Core.Path.{sym, ◌∙◌}
use native.Mathlib.Omega.{arith}
use Rattle.sheets.proofs.equations.Laws.{bit-small, pushed-offset, plain-offset}
use Rattle.sheets.proofs.equations.offset.Goals as goal

pub switched-requires : goal.switched-requires
switched-requires c = bit-small c.args.h c.args.i c.args.bit c.requires.fact_2 (omega arith)

pub returns-then-switched : goal.returns-then-switched
returns-then-switched c =
    let a = c.args in
    let set = rw c.requires.fact_2 at (sym c.switched.ensures ∙ c.if-switched.true) in
    c.pushed.ensures ∙ rw c.room_of-room.ensures (sym (pushed-offset a.h a.u a.i set))

pub returns : goal.returns
returns c =
    let a = c.args in
    let unset = rw c.requires.fact_2 at (sym c.switched.ensures ∙ c.if-switched.false) in
    rw c.room_of-room.ensures (sym (plain-offset a.h a.u a.i unset))
