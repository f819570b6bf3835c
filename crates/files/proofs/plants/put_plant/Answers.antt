-- `plants::put_plant` writes the beginning, then the modes. Assumes nothing.
use mathlib.Core.List.{append-nil}
use native.Mathlib.Omega.{arith}
use Rattle.laws.specs.Writing.{Put, put-append, put-length}
use Rattle.meaning.specs.Plants.{most_modes, Plant, plant_from}
use Rattle.files.specs.Signed.{signed_bytes}
use Rattle.files.specs.Beginnings.{beginning_bytes}
use Rattle.files.specs.DraftLaws.{wide-draft, many-draft, whole-draft}
use Rattle.files.specs.Plants.{plant_beginning, rest_of, plant_draft}
use Rattle.files.proofs.plants.put_plant.Goals as goal

pub returns-then-n-gt4 : goal.returns-then-n-gt4
unfolding plant_draft
returns-then-n-gt4 c =
    let plant : Plant = plant_from c.args.p c.args.bands.now c.args.coef.now in
    let begun : Put c.args.buf.now 0 (beginning_bytes (plant_beginning plant)) c.put_beginning-past.result c.put_beginning-past.new.buf = rw (c.ends-wlo.ensures, c.ends-whi.ensures) at c.put_beginning-past.ensures in
    rw (wide-draft most_modes (plant_beginning plant) (signed_bytes (rest_of plant)) c.if-n-gt4.true, append-nil) begun

pub returns-then-modes-gt-MODES : goal.returns-then-modes-gt-MODES
unfolding plant_draft
returns-then-modes-gt-MODES c =
    let plant : Plant = plant_from c.args.p c.args.bands.now c.args.coef.now in
    let begun : Put c.args.buf.now 0 (beginning_bytes (plant_beginning plant)) c.put_beginning-past.result c.put_beginning-past.new.buf = rw (c.ends-wlo.ensures, c.ends-whi.ensures) at c.put_beginning-past.ensures in
    rw (many-draft most_modes (plant_beginning plant) (signed_bytes (rest_of plant)) c.if-n-gt4.false c.if-modes-gt-MODES.true, append-nil) begun

pub put_modes-requires : goal.put_modes-requires
put_modes-requires c =
    let plant : Plant = plant_from c.args.p c.args.bands.now c.args.coef.now in
    let begun : Put c.args.buf.now 0 (beginning_bytes (plant_beginning plant)) c.put_beginning-past.result c.put_beginning-past.new.buf = rw (c.ends-wlo.ensures, c.ends-whi.ensures) at c.put_beginning-past.ensures in
    let w = begun in record { sizes = (c.if-n-gt4.false, c.if-modes-gt-MODES.false); place = omega (arith, w.place, put-length w) }

pub returns : goal.returns
unfolding plant_draft
returns c =
    let plant : Plant = plant_from c.args.p c.args.bands.now c.args.coef.now in
    let begun : Put c.args.buf.now 0 (beginning_bytes (plant_beginning plant)) c.put_beginning-past.result c.put_beginning-past.new.buf = rw (c.ends-wlo.ensures, c.ends-whi.ensures) at c.put_beginning-past.ensures in
    rw (whole-draft most_modes (plant_beginning plant) (signed_bytes (rest_of plant)) c.if-n-gt4.false c.if-modes-gt-MODES.false) (put-append begun c.put_modes.ensures)
