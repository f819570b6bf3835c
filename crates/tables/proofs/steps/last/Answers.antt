-- `steps::last`: the modes that are left say what all of them say, and the extremes are those of the mode before. Assumes nothing.
use Prim.Native.Nat.{ℕ, ◌+◌, ◌-◌, ◌<◌}
use mathlib.Core.Path.{◌≡◌, sym, ap, ◌∙◌}
use mathlib.Core.Bool.{Bool}
use mathlib.Core.List.{List, []}
use mathlib.Core.Option.{Option, none, some}
use native.Mathlib.Omega.{arith}
use borrow.Author.Tests.{lt-ltb, le-ltb}
use Rattle.laws.specs.Guards.{guard}
use Rattle.meaning.specs.Defined.{first_mode}
use Rattle.tables.specs.Levels.{box_in}
use Rattle.tables.specs.Limits.{landing}
use Rattle.tables.specs.Search.{picked, one_of}
use Rattle.tables.proofs.search.Laws.{modes-over, modes-hit, modes-miss}
use Rattle.tables.proofs.steps.last.Goals as goal

-- what a test says of the rest behind a mode
abbrev behind : Bool → Option (List ℕ)
behind c = guard c none λ _. some []

-- a mode that is tried and hit, with none before it, is the first of all
first-hit : (try : ℕ → Option (List ℕ)) (count u : ℕ) → u < count → try u ≡ some [] → first_mode try (count - u) u ≡ first_mode try count 0 → (u < count) × (one_of count u ≡ first_mode try count 0)
first-hit try count u h hit rest = (h, ap (λ (b : Bool). picked b u) (lt-ltb u count h) ∙ sym (modes-hit try count u h [] hit) ∙ rest)

pub shared-e-requires : goal.shared-e-requires
shared-e-requires c =
    let l = c.loop-u in
    let h = c.loop-u-test.true in
    let room = c.requires.rows.3.room in
    record { row = (omega arith, c.requires.rows.0, c.requires.rows.1 l.u h, c.requires.edges.0, c.requires.edges.1); kept = λ z. let m = (c.requires.rows.3.marked l.u h).shared z in rw (← m.1) (l.invariant.1 m.0) }

pub returns-then-lands-clause-found : goal.returns-then-lands-clause-found
returns-then-lands-clause-found c = let a = c.args in first-hit (landing a.n a.coef.now a.limits.now (box_in a.n a.boxes.now a.place)) a.count c.loop-u.u c.loop-u-test.true (ap behind (sym c.lands.ensures ∙ c.if-lands.true)) c.loop-u.invariant.2

pub loop-u-preserved : goal.loop-u-preserved
loop-u-preserved c =
    let try : ℕ → Option (List ℕ) = let a = c.args in landing a.n a.coef.now a.limits.now (box_in a.n a.boxes.now a.place) in
    let u = c.loop-u.u in
    let h = c.loop-u-test.true in
    let q : u + 1 - 1 ≡ u = omega arith in (
      omega arith,
      λ k. rw q c.shared-e.ensures,
      sym (modes-miss try c.args.count u h (ap behind (sym c.lands.ensures ∙ c.if-lands.false))) ∙ c.loop-u.invariant.2,
    )

pub returns-clause-none : goal.returns-clause-none
returns-clause-none c =
    let a = c.args in
    let try : ℕ → Option (List ℕ) = landing a.n a.coef.now a.limits.now (box_in a.n a.boxes.now a.place) in
    ap (λ (b : Bool). picked b a.count) (le-ltb a.count a.count (omega arith)) ∙ sym (modes-over try a.count c.loop-u.u c.loop-u-test.false) ∙ c.loop-u.invariant.2
