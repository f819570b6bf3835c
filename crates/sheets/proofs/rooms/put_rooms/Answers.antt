-- `rooms::put_rooms`: what is left to write is the definition's rest. Assumes nothing.
use Prim.Native.Nat.{◌<◌}
use mathlib.Core.Path.{◌≡◌}
use native.Mathlib.Omega.{arith}
use borrow.Author.Rules.{rules}
use lib.ListN.{length}
use Rattle.std.proofs.lemmas.List.{length-take, get_or-take}
use Rattle.laws.specs.Tabs.{tabs-step, tabs-done}
use Rattle.laws.specs.Writing.{under_more, under-done}
use Rattle.sheets.specs.Rooms.{bytes_of_room}
use Rattle.sheets.proofs.rooms.Laws.{put-there}
use Rattle.sheets.proofs.rooms.put_rooms.Goals as goal

pub loop-room-preserved : goal.loop-room-preserved
loop-room-preserved c =
    let a = c.args in
    let i = c.loop-room.room-index in
    let long : length a.rooms ≡ 4 = search rules in
    let few : i < a.n = omega (arith, length-take a.n a.rooms) in
    under_more (rw (tabs-step (bytes_of_room a.n a.rooms) a.n i few) at c.loop-room.invariant) (put-there a.n a.rooms i _ (omega arith) (rw get_or-take at c.put_room-p.ensures))

pub returns : goal.returns
returns c =
    let a = c.args in
    let long : length a.rooms ≡ 4 = search rules in
    under-done (rw (tabs-done (bytes_of_room a.n a.rooms) a.n c.loop-room.room-index (omega (arith, length-take a.n a.rooms))) at c.loop-room.invariant)
