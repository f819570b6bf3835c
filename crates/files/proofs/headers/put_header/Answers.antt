-- `headers::put_header` writes six numbers. Assumes nothing.
use Rattle.laws.specs.Writing.{put-append}
use Rattle.files.proofs.headers.put_header.Goals as goal

pub returns : goal.returns
returns c = put-append c.put_number-at.ensures (put-append c.put_number-at-2.ensures (put-append c.put_number-at-3.ensures (put-append c.put_number-at-4.ensures (put-append c.put_number-at-5.ensures c.put_number.ensures))))
