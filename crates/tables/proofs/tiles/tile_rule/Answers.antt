-- `tiles::tile_rule`: the rule from the present box on, over the modes that are left, is the whole. Assumes nothing.
use mathlib.Core.Path.{◌≡◌, sym, ap, ◌∙◌}
use mathlib.Core.List.{List}
use Prim.Native.Nat.{ℕ, ◌<◌}
use native.Mathlib.Omega.{arith}
use lib.IntN.{ℤ}
use Rattle.meaning.specs.declared.Tried.TheVariants.{Misses}
use Rattle.meaning.specs.Boxes.{Side}
use Rattle.meaning.specs.Rules.{Rules}
use Rattle.files.specs.declared.bounds.Sides.{Sides}
use Rattle.tables.specs.declared.frames.Frame.{Frame}
use Rattle.tables.specs.Boxes.{box_of}
use Rattle.tables.specs.Images.{StepSound}
use Rattle.tables.specs.Frames.{frame_from, rules_in}
use Rattle.tables.specs.Tiles.{mode_at}
use Rattle.tables.proofs.frames.Laws.{step-in}
use Rattle.tables.proofs.tiles.Laws.{rule-works, rule-misses, tile-leaves, tile-more, tile-small}
use Rattle.tables.proofs.tiles.tile_rule.Goals as goal

pub image-c-requires : goal.image-c-requires
image-c-requires c =
    let bands : List ℤ = c.args.bands.now in
    let coef : List ℤ = c.args.coef.now in
    let frame : Frame = frame_from c.args.f c.args.edges.now in
    let modes : ℕ → ℕ = mode_at c.args.us in
    let sound : (i : ℕ) → i < c.args.k → StepSound frame.n frame.q bands coef (modes i) = λ i. λ h. step-in frame bands coef c.requires.plant.0 (modes i) (c.requires.pattern.each i h) in
    let l = c.loop-i in
    (sound l.i c.loop-i-test.true, l.invariant.1)

pub loop-i-preserved : goal.loop-i-preserved
loop-i-preserved c =
    let bands : List ℤ = c.args.bands.now in
    let coef : List ℤ = c.args.coef.now in
    let frame : Frame = frame_from c.args.f c.args.edges.now in
    let modes : ℕ → ℕ = mode_at c.args.us in
    let box : Sides → List Side = λ b. box_of c.args.f.n b in
    let l = c.loop-i in
    let h = c.loop-i-test.true in
    let e = sym c.within.ensures ∙ c.if-not-within.false in (
      omega arith,
      tile-small frame bands coef modes c.args.k l.i (box l.c) (box c.image-c.result) h c.image-c.ensures e c.requires.plant.0 (c.requires.pattern.each l.i h) l.invariant.1,
      sym (tile-more frame bands coef modes c.args.k l.i (box l.c) (box c.image-c.result) h c.image-c.ensures e) ∙ l.invariant.2,
    )

pub returns-then-not-within : goal.returns-then-not-within
returns-then-not-within c =
    let bands : List ℤ = c.args.bands.now in
    let coef : List ℤ = c.args.coef.now in
    let frame : Frame = frame_from c.args.f c.args.edges.now in
    let modes : ℕ → ℕ = mode_at c.args.us in
    let box : Sides → List Side = λ b. box_of c.args.f.n b in
    let l = c.loop-i in
    let e = sym c.within.ensures ∙ c.if-not-within.true in
    sym (tile-leaves frame bands coef modes c.args.k l.i (box l.c) (box c.image-c.result) c.loop-i-test.true c.image-c.ensures e) ∙ l.invariant.2

pub returns-then-within : goal.returns-then-within
returns-then-within c =
    let bands : List ℤ = c.args.bands.now in
    let coef : List ℤ = c.args.coef.now in
    let frame : Frame = frame_from c.args.f c.args.edges.now in
    let rules : Rules = rules_in frame bands coef in
    let modes : ℕ → ℕ = mode_at c.args.us in
    let box : Sides → List Side = λ b. box_of c.args.f.n b in
    let l = c.loop-i in
    sym (rule-works rules modes c.args.k l.i (box l.c) c.loop-i-test.false (sym c.within-2.ensures ∙ c.if-within.true)) ∙ l.invariant.2

pub returns-else-within : goal.returns-else-within
returns-else-within c =
    let bands : List ℤ = c.args.bands.now in
    let coef : List ℤ = c.args.coef.now in
    let frame : Frame = frame_from c.args.f c.args.edges.now in
    let rules : Rules = rules_in frame bands coef in
    let modes : ℕ → ℕ = mode_at c.args.us in
    let box : Sides → List Side = λ b. box_of c.args.f.n b in
    let l = c.loop-i in
    let q : c.args.k ≡ l.i = omega arith in
    ap Misses q ∙ sym (rule-misses rules modes c.args.k l.i (box l.c) c.loop-i-test.false (sym c.within-2.ensures ∙ c.if-within.false)) ∙ l.invariant.2
