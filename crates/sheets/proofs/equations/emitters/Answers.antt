-- `equations::emitters`: so far, those of the first rooms. Assumes nothing.
use Prim.Native.Nat.{◌<◌}
use mathlib.Core.Path.{◌≡◌, sym, ap, ◌∙◌}
use native.Mathlib.Omega.{arith}
use borrow.Author.Rules.{rules}
use lib.ListN.{length}
use Rattle.std.proofs.lemmas.List.{length-take, get_or-take, get_or_default}
use Rattle.meaning.specs.declared.Room.{Room}
use Rattle.meaning.specs.Sheets.{no_room, room_at, has_emitter}
use Rattle.promises.specs.Sheets.SheetPlants.{has_one}
use Rattle.sheets.proofs.equations.Laws.{none_before, one_more}
use Rattle.sheets.proofs.equations.emitters.Goals as goal

pub loop-room-init : goal.loop-room-init
loop-room-init c = (omega arith, sym (none_before c.args.h))

pub loop-room-preserved : goal.loop-room-preserved
loop-room-preserved c =
    let h = c.args.h in
    let i = c.loop-room.room-index in
    let long : length h.rooms ≡ 4 = search rules in
    let few : i < c.args.m = omega (arith, length-take c.args.m h.rooms) in
    let e = rw get_or-take at c.has_emitter-t.ensures in
    let one = e ∙ ap (λ (room : Room). has_emitter room.emitter) (get_or_default h.rooms i _ no_room (omega arith)) in
    let most = has_one (room_at h i).emitter in
    (omega arith, omega (arith, one_more h i, c.loop-room.invariant.1))
