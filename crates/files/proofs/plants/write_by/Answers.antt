-- `plants::write_by`: the draft is read as the file would be, and what it is judged is left. Relies on page Drafts.
use mathlib.Core.Path.{ap, ◌∙◌}
use lib.ListN.{take}
use Rattle.meaning.specs.Buffers.{Left}
use Rattle.meaning.specs.Plants.{Plant, plant_from}
use Rattle.files.specs.DraftLaws.{InDraft, in_array}
use Rattle.files.specs.Plants.{plant_draft}
use Rattle.files.proofs.plants.Drafts.{plant-left}
use Rattle.files.proofs.plants.write_by.Goals as goal

pub returns : goal.returns
returns g c =
    let z = c.args in
    let plant : Plant = plant_from z.p z.bands.now z.coef.now in
    let put = c.put_plant-drafted in
    let drafted : InDraft (plant_draft plant) put.result put.new.buf = in_array g.row.N (plant_draft plant) put.result put.new.buf c.requires.room put.ensures in
    let w = c.leave in
    let e = plant-left plant (take put.result put.new.buf) c.judge_plant.result drafted.front c.judge_plant.ensures z.buf.now in
    record { answer = w.ensures.answer ∙ ap (λ (l : Left). l.answer) e; bytes = w.ensures.bytes ∙ ap (λ (l : Left). l.buffer) e }
