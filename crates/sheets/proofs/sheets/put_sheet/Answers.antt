-- `sheets::put_sheet` writes the beginning, then two floats and the rooms. Assumes nothing.
use mathlib.Core.List.{append-nil}
use Rattle.laws.specs.Writing.{put-append}
use Rattle.files.specs.DraftLaws.{wide-draft, many-draft, whole-draft}
use Rattle.sheets.specs.Sheets.{sheet_beginning, rest_bytes, sheet_draft}
use Rattle.sheets.proofs.sheets.put_sheet.Goals as goal
use Rattle.sheets.proofs.sheets.put_sheet.Goals.{then-n-gt4-via-then-n-gt4, then-n-gt4-via-else-n-gt4+then-r-gt1000}

pub returns-then-n-gt4 : goal.returns-then-n-gt4
unfolding sheet_draft
returns-then-n-gt4 c =
    let b = sheet_beginning c.args.h in
    let rest = rest_bytes c.args.h in
    elim c.then-n-gt4.branch [
      | then-n-gt4-via-then-n-gt4 w ↦ rw (wide-draft 1000 b rest w.if-n-gt4.true, append-nil) c.put_beginning-past.ensures
      | then-n-gt4-via-else-n-gt4+then-r-gt1000 w ↦ rw (many-draft 1000 b rest w.if-n-gt4.false w.if-r-gt1000.true, append-nil) c.put_beginning-past.ensures
    ]

pub returns : goal.returns
unfolding sheet_draft
returns c =
    let h = c.args.h in
    rw (whole-draft 1000 (sheet_beginning h) (rest_bytes h) c.if-n-gt4.false c.if-r-gt1000.false)
    (put-append c.put_beginning-past.ensures (put-append c.put_float-past_time.ensures (put-append c.put_float-past_outside.ensures c.put_rooms.ensures)))
