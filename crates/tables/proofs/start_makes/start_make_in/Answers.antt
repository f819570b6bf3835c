-- `start_makes::start_make_in`: the plant's file, which is sound where it was judged good, its arrays standing for its own bands and
-- coefficients; then the chain for its own frame. Assumes nothing.
use Prim.Native.Nat.{ℕ}
use mathlib.Core.Path.{◌≡◌, sym, ap, ◌∙◌, subst}
use mathlib.Core.Bool.{true}
use mathlib.Core.List.{List}
use lib.IntN.{ℤ, pos}
use lib.ListN.{replicate}
use Rattle.meaning.specs.Boxes.{within}
use Rattle.meaning.specs.Buffers.{Left}
use Rattle.meaning.specs.Plants.{Plant, plant_judged}
use Rattle.meaning.specs.Starts.{start_left}
use Rattle.promises.specs.Tables.PlantRules.{Taken, read-good, read-bad}
use Rattle.tables.specs.declared.frames.Frame.{Frame}
use Rattle.tables.specs.Boxes.{box_of}
use Rattle.tables.specs.Frames.{frame_of, own_frame, step_in, PlantSound}
use Rattle.tables.specs.StartMakes.{chain_left}
use Rattle.tables.proofs.arrays.Laws.{lent-plant, lent-steps}
use Rattle.tables.proofs.start_makes.Laws.{chain_steps, start-bad, start-own}
use Rattle.tables.proofs.start_makes.start_make_in.Goals as goal

pub make_start-requires : goal.make_start-requires
make_start-requires g c =
    let file : List ℕ = c.args.plant.now in
    let bands : List ℤ = c.read_plant.new.bands in
    let coef : List ℤ = c.read_plant.new.coef in
    let frame : Frame = c.framed.result in
    let taken : Taken (plant_judged file) c.in-Ok.outline = let r = c.read_plant in read-good (plant_judged file) r.result r.ensures.answer c.in-Ok.outline c.in-Ok.is in
    let plant : Plant = taken.plant in
    let framed : frame ≡ own_frame plant = c.framed.ensures ∙ ap frame_of taken.outline in
    let sound : PlantSound frame bands coef = let r = c.read_plant in lent-plant file (replicate g.row.SIDES (pos 0)) (replicate g.row.ROWS (pos 0)) c.requires.room plant taken.was bands coef r.ensures.bands r.ensures.coef frame framed in
    let in-safe : within (box_of frame.n frame.root) (box_of frame.n frame.safe) ≡ true = subst (λ (f : Frame). within (box_of f.n f.root) (box_of f.n f.safe) ≡ true) (sym framed) (subst (λ (f : Frame). within (box_of f.n f.goal) (box_of f.n f.safe) ≡ true) framed sound.0.in-safe) in
    record { frame = sound; root = in-safe }

pub returns-in-Err : goal.returns-in-Err
returns-in-Err g c =
    let a = c.args in
    let x = c.read_plant in
    let w = c.refuse in
    let e = start-bad a.plant.now a.chain.now a.form a.buf.now c.in-Err.e (read-bad (plant_judged a.plant.now) x.result x.ensures.answer c.in-Err.e c.in-Err.is) in
    record { answer = w.ensures.answer ∙ ap (λ (l : Left). l.answer) e; bytes = w.ensures.bytes ∙ ap (λ (l : Left). l.buffer) e }

pub returns-in-Ok : goal.returns-in-Ok
returns-in-Ok g c =
    let file : List ℕ = c.args.plant.now in
    let chain : List ℕ = c.args.chain.now in
    let buffer : List ℕ = c.args.buf.now in
    let bands : List ℤ = c.read_plant.new.bands in
    let coef : List ℤ = c.read_plant.new.coef in
    let frame : Frame = c.framed.result in
    let taken : Taken (plant_judged file) c.in-Ok.outline = let r = c.read_plant in read-good (plant_judged file) r.result r.ensures.answer c.in-Ok.outline c.in-Ok.is in
    let plant : Plant = taken.plant in
    let framed : frame ≡ own_frame plant = c.framed.ensures ∙ ap frame_of taken.outline in
    let steps : step_in frame bands coef ≡ step_in frame plant.bands plant.coef = let r = c.read_plant in lent-steps file (replicate g.row.SIDES (pos 0)) (replicate g.row.ROWS (pos 0)) c.requires.room plant taken.was bands coef r.ensures.bands r.ensures.coef frame in
    let own : chain_left frame bands coef chain c.args.form buffer ≡ start_left file chain c.args.form buffer = chain_steps frame bands coef plant.bands plant.coef steps chain c.args.form buffer ∙ start-own file chain c.args.form buffer plant taken.was frame framed in
    let w = c.make_start in
    let e = own in
    record { answer = w.ensures.answer ∙ ap (λ (l : Left). l.answer) e; bytes = w.ensures.bytes ∙ ap (λ (l : Left). l.buffer) e }
