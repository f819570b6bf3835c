-- `start_control::start_control`: the plant, the chain, whose frames are sound where it was accepted, then the call. Assumes nothing.
use Rattle.std.specs.Prelude.{Err}
use Rattle.std.proofs.lemmas.Result.{err_from_is_err_and}
use Prim.Native.Nat.{◌≤◌}
use mathlib.Core.Path.{sym, ◌∙◌, subst}
use mathlib.Core.Bool.{false}
use Rattle.meaning.specs.Plants.{plant_judged}
use Rattle.meaning.specs.Starts.{start_call}
use Rattle.promises.specs.Tables.PlantRules.{read-bad}
use Rattle.tables.specs.declared.frames.Frame.{Frame}
use Rattle.tables.proofs.chains.Laws.{plant-chain, plant-refused, plant-goes, plant-edged, plant-frames}
use Rattle.tables.proofs.control.Laws.{framed-own}
use Rattle.tables.proofs.start_control.Laws.{answer-as, plant-bad, plant-good}
use Rattle.tables.proofs.start_control.start_control.Goals as goal

pub returns-in_err-outline : goal.returns-in_err-outline
returns-in_err-outline c =
    let a = c.args in
    let r = c.judge_plant in
    let p = err_from_is_err_and c.from_residual.result c.from_residual.ensures.1 in
    rw (p.1, p.2) (plant-bad a.plant.now a.start.now a.st a.x _ (read-bad (plant_judged a.plant.now) r.result r.ensures _ c.in_err-outline.was))

pub read_chain-requires : goal.read_chain-requires
read_chain-requires c =
    let t = framed-own c.args.plant.now c.judge_plant.ensures c.in_ok-outline.was c.framed-f.ensures in
    subst (λ (f : Frame). f.n ≤ 4) (sym t.framed) t.sound.ranges.n-high

pub returns-in_err-chain : goal.returns-in_err-chain
returns-in_err-chain c =
    let a = c.args in
    let t = framed-own a.plant.now c.judge_plant.ensures c.in_ok-outline.was c.framed-f.ensures in
    let r = c.read_chain in
    let p = err_from_is_err_and c.from_residual-in_err-chain.result c.from_residual-in_err-chain.ensures.1 in
    rw (p.1, p.2) (
    plant-refused false t.plant t.sound c.framed-f.result t.framed a.start.now r.result r.ensures _ c.in_err-chain.was Err (λ vs next. start_call t.plant vs a.start.now next a.st a.x)
    ∙ plant-good a.plant.now a.start.now a.st a.x t.plant t.was
    )

pub start_call-requires : goal.start_call-requires
start_call-requires c =
    let t = framed-own c.args.plant.now c.judge_plant.ensures c.in_ok-outline.was c.framed-f.ensures in
    let r = c.read_chain in
    let k = plant-chain false t.plant t.sound c.framed-f.result t.framed c.args.start.now r.result r.ensures c.in_ok-chain.was in
    plant-frames false t.plant t.sound c.framed-f.result t.framed c.args.start.now k

pub returns : goal.returns
returns c =
    let a = c.args in
    let t = framed-own a.plant.now c.judge_plant.ensures c.in_ok-outline.was c.framed-f.ensures in
    let r = c.read_chain in
    let v = c.in_ok-chain.chain in
    let k = plant-chain false t.plant t.sound c.framed-f.result t.framed a.start.now r.result r.ensures c.in_ok-chain.was in
    let edged = plant-edged false t.plant t.sound c.framed-f.result t.framed a.start.now k in
    c.start_call.ensures
    ∙ answer-as t.plant t.sound.ranges.n-high v.edges k.vs edged v.m k.count c.framed-f.result t.framed a.start.now v.next a.st a.x
    ∙ plant-goes false t.plant t.sound c.framed-f.result t.framed a.start.now k Err (λ vs next. start_call t.plant vs a.start.now next a.st a.x)
    ∙ plant-good a.plant.now a.start.now a.st a.x t.plant t.was
