-- `rooms::put_emitter` writes the number, then the values of its kind. Assumes nothing.
use Rattle.laws.specs.Writing.{put-append}
use Rattle.sheets.proofs.rooms.put_emitter.Goals as goal

pub returns-in-Heater : goal.returns-in-Heater
returns-in-Heater c = rw c.in-Heater.is (put-append c.put_number-past_kind.ensures (put-append c.put_float-past_coefficient.ensures c.put_float.ensures))

pub returns-in-Steady : goal.returns-in-Steady
returns-in-Steady c = rw c.in-Steady.is (put-append c.put_number-past_kind-in-Steady.ensures c.put_float-in-Steady.ensures)
