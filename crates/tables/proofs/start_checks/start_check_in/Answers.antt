-- `start_checks::start_check_in`: the plant, whose arrays stand for its own bands and coefficients; the chain, whose frames are sound where it was accepted; then
-- the tables. Assumes nothing.
use Rattle.std.specs.Prelude.{Err}
use Rattle.std.proofs.lemmas.Result.{err_from_is_err_and}
use Prim.Native.Nat.{ℕ, ◌+◌, ◌≤◌}
use mathlib.Core.Path.{sym, ap, ◌∙◌, subst, fun_ext}
use mathlib.Core.Bool.{false}
use Rattle.meaning.specs.Plants.{plant_judged}
use Rattle.meaning.specs.Starts.{above, box_rules, tables_at}
use Rattle.promises.specs.Files.Judged.{judged-sound}
use Rattle.promises.specs.Tables.PlantRules.{read-bad}
use Rattle.tables.specs.declared.frames.Frame.{Frame}
use Rattle.tables.specs.Chains.{frame_at}
use Rattle.tables.specs.Frames.{own_frame, formed}
use Rattle.tables.specs.StartChecks.{rules_at}
use Rattle.tables.proofs.arrays.Laws.{read-into}
use Rattle.tables.proofs.chains.Laws.{plant-chain, plant-refused, plant-goes, plant-edged, plant-frames, rules-at}
use Rattle.tables.proofs.start_checks.Laws.{tables-same, plant-bad, plant-good}
use Rattle.tables.proofs.start_checks.start_check_in.Goals as goal

pub returns-in_err-outline : goal.returns-in_err-outline
returns-in_err-outline g c =
    let a = c.args in
    let r = c.read_plant in
    let p = err_from_is_err_and c.from_residual.result c.from_residual.ensures.1 in
    rw (p.1, p.2) (plant-bad a.plant.now a.start.now _ (read-bad (plant_judged a.plant.now) r.result r.ensures.answer _ c.in_err-outline.was))

pub read_chain-requires : goal.read_chain-requires
read_chain-requires g c =
    let a = c.args in
    let r = c.read_plant in
    let t = read-into a.plant.now _ _ c.requires.room r.result r.new.bands r.new.coef (r.ensures.answer, (r.ensures.bands, r.ensures.coef)) c.in_ok-outline.was c.framed-f.result c.framed-f.ensures in
    let p = t.plant in
    let sound = judged-sound a.plant.now p t.was in
    subst (λ (f : Frame). f.n ≤ 4) (sym t.framed) sound.ranges.n-high

pub returns-in_err-chain : goal.returns-in_err-chain
returns-in_err-chain g c =
    let a = c.args in
    let r = c.read_plant in
    let t = read-into a.plant.now _ _ c.requires.room r.result r.new.bands r.new.coef (r.ensures.answer, (r.ensures.bands, r.ensures.coef)) c.in_ok-outline.was c.framed-f.result c.framed-f.ensures in
    let p = t.plant in
    let sound = judged-sound a.plant.now p t.was in
    let k = c.read_chain in
    let e = err_from_is_err_and c.from_residual-in_err-chain.result c.from_residual-in_err-chain.ensures.1 in
    rw (e.1, e.2) (
    plant-refused false p sound c.framed-f.result t.framed a.start.now k.result k.ensures _ c.in_err-chain.was Err (λ vs next. tables_at (box_rules p vs) a.start.now (above vs + 1) 0 next)
    ∙ plant-good a.plant.now a.start.now p t.was
    )

pub tables_at-requires : goal.tables_at-requires
tables_at-requires g c =
    let a = c.args in
    let r = c.read_plant in
    let t = read-into a.plant.now _ _ c.requires.room r.result r.new.bands r.new.coef (r.ensures.answer, (r.ensures.bands, r.ensures.coef)) c.in_ok-outline.was c.framed-f.result c.framed-f.ensures in
    let p = t.plant in
    let sound = judged-sound a.plant.now p t.was in
    let k = c.read_chain in
    let kept = plant-chain false p sound c.framed-f.result t.framed a.start.now k.result k.ensures c.in_ok-chain.was in
    (plant-frames false p sound c.framed-f.result t.framed a.start.now kept, t.sound.1)

pub returns : goal.returns
returns g c =
    let a = c.args in
    let r = c.read_plant in
    let t = read-into a.plant.now _ _ c.requires.room r.result r.new.bands r.new.coef (r.ensures.answer, (r.ensures.bands, r.ensures.coef)) c.in_ok-outline.was c.framed-f.result c.framed-f.ensures in
    let p = t.plant in
    let sound = judged-sound a.plant.now p t.was in
    let k = c.read_chain in
    let v = c.in_ok-chain.chain in
    let kept = plant-chain false p sound c.framed-f.result t.framed a.start.now k.result k.ensures c.in_ok-chain.was in
    let edged = plant-edged false p sound c.framed-f.result t.framed a.start.now kept in
    c.tables_at.ensures
    ∙ tables-same _ (rules_at c.framed-f.result v.edges p.bands p.coef) (λ i. fun_ext (λ form. t.rules (formed (frame_at c.framed-f.result v.edges i) form))) a.start.now (v.m + 1) 0 v.next
    ∙ ap (λ (g : Frame). tables_at (rules_at g v.edges p.bands p.coef) a.start.now (v.m + 1) 0 v.next) t.framed
    ∙ tables-same (rules_at (own_frame p) v.edges p.bands p.coef) (box_rules p kept.vs) (rules-at p sound.ranges.n-high v.edges kept.vs edged) a.start.now (v.m + 1) 0 v.next
    ∙ ap (λ (m : ℕ). tables_at (box_rules p kept.vs) a.start.now (m + 1) 0 v.next) kept.count
    ∙ plant-goes false p sound c.framed-f.result t.framed a.start.now kept Err (λ vs next. tables_at (box_rules p vs) a.start.now (above vs + 1) 0 next)
    ∙ plant-good a.plant.now a.start.now p t.was
