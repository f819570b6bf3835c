-- `rooms::put_exchanges`: what is left to write is the definition's rest. Assumes nothing.
use Prim.Native.Nat.{◌-◌}
use Rattle.laws.specs.Lists.{tabs}
use Rattle.laws.specs.Writing.{Under}
use Rattle.sheets.specs.Rooms.{exchange_bytes}
use Rattle.sheets.proofs.rooms.put_exchanges.Given as goal

abbrev pub invariant-loop-g : goal.invariant-loop-g
invariant-loop-g l =
    let bytes = exchange_bytes l.fn.exchange in
    Under l.initial.buf l.at (tabs bytes l.m 0) (tabs bytes (l.m - l.g-index) l.g-index) l.p l.buf
