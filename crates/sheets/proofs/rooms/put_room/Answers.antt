-- `rooms::put_room` writes part by part. Assumes nothing.
use Rattle.laws.specs.Writing.{put-append}
use Rattle.sheets.proofs.rooms.put_room.Goals as goal

pub returns : goal.returns
returns c = put-append c.put_float-past_loss.ensures (put-append c.put_exchanges-past_exchanges.ensures c.put_emitter.ensures)
