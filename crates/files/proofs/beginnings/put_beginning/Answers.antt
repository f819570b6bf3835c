-- `beginnings::put_beginning` writes part by part. Assumes nothing.
use mathlib.Core.List.{append-nil}
use Rattle.laws.specs.Writing.{put-append}
use Rattle.files.specs.Signed.{signed-append}
use Rattle.files.specs.BeginningFiles.{header-alone, all-drafted}
use Rattle.files.proofs.beginnings.put_beginning.Goals as goal

pub returns-then-n-gt4 : goal.returns-then-n-gt4
returns-then-n-gt4 c = rw (header-alone c.args.b c.if-n-gt4.true, append-nil) c.put_header-past_header.ensures

pub returns : goal.returns
returns c =
    rw (all-drafted c.args.b c.if-n-gt4.false, signed-append)
    (put-append c.put_header-past_header.ensures (put-append c.put_edges-past_edges.ensures c.put_bands.ensures))
