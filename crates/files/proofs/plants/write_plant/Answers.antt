-- `plants::write_plant`: a draft of few modes or of any number. Relies on page Drafts.
use native.Mathlib.Omega.{arith}
use Rattle.meaning.specs.Plants.{most_modes, plant_from}
use Rattle.files.proofs.plants.Drafts.{draft-room}
use Rattle.files.proofs.plants.write_plant.Goals as goal

pub write_by-requires : goal.write_by-requires
write_by-requires c =
    let a = c.args in
    record { room = draft-room (plant_from a.p a.bands.now a.coef.now) most_modes (omega arith) (λ h. h); few = omega arith }

pub write_by-requires-else-p-gt-FEW : goal.write_by-requires-else-p-gt-FEW
write_by-requires-else-p-gt-FEW c =
    let a = c.args in
    record { room = draft-room (plant_from a.p a.bands.now a.coef.now) 16 (omega arith) (λ _. c.if-p-gt-FEW.false); few = omega arith }
