-- `steps::stays`: the first i rows hold, and their sums are stored. Assumes nothing.
use Prim.Native.Nat.{ℕ, ◌<◌}
use mathlib.Core.Path.{◌≡◌, refl, sym, ap, ◌∙◌}
use mathlib.Core.Bool.{Bool}
use native.Mathlib.Omega.{arith}
use lib.ListN.{length, length-set}
use Rattle.laws.specs.Lists.{tab}
use Rattle.laws.specs.Expressions.{Ex, var, mach, exact, under}
use Rattle.laws.specs.Tests.{hold-none, hold-more, fails-here, all_hold}
use Rattle.meaning.specs.Boxes.{Side, covers}
use Rattle.meaning.specs.Plants.{row_start}
use Rattle.tables.specs.Images.{RowSound}
use Rattle.tables.specs.Levels.{side_in, box_in}
use Rattle.tables.specs.Limits.{add_limit, sums_at, covered_at}
use Rattle.tables.proofs.images.Laws.{image-more, image-done}
use Rattle.tables.proofs.steps.Laws.{within_more}
use Rattle.tables.proofs.steps.stays.Goals as goal

pub loop-i-init : goal.loop-i-init
unfolding tab
loop-i-init c =
    let test : ℕ → Bool = let a = c.args in covered_at a.n a.coef.now a.limits.now a.base a.u (box_in a.n a.boxes.now a.place) in
    (c.requires.edges.2, c.requires.edges.3, refl, hold-none test c.args.n, λ i h. absurd (omega arith))

pub returns-then-not-inside-clause-stays : goal.returns-then-not-inside-clause-stays
returns-then-not-inside-clause-stays c =
    let test : ℕ → Bool = let a = c.args in covered_at a.n a.coef.now a.limits.now a.base a.u (box_in a.n a.boxes.now a.place) in
    let index : ℕ = c.loop-i.i in
    let least : Ex = let w = c.sums-s in var w.result.lo add_limit w.ensures.sizes.0 in
    let greatest : Ex = let w = c.sums-s in var w.result.hi add_limit w.ensures.sizes.1 in
    let tested : c.inside.result ≡ test index = (rw (exact least tt, exact greatest tt) at c.inside.ensures) ∙ ap (λ (z : Side). covers (side_in c.args.limits.now c.args.base index) z) c.sums-s.ensures.sides in
    let l = c.loop-i in
    fails-here l.invariant.3 c.loop-i-test.true (sym tested ∙ c.if-not-inside.true)

pub loop-i-preserved : goal.loop-i-preserved
loop-i-preserved c =
    let test : ℕ → Bool = let a = c.args in covered_at a.n a.coef.now a.limits.now a.base a.u (box_in a.n a.boxes.now a.place) in
    let sides : ℕ → Side = let a = c.args in sums_at a.n a.coef.now a.u (box_in a.n a.boxes.now a.place) in
    let index : ℕ = c.loop-i.i in
    let row : RowSound c.args.n c.args.coef.now (row_start c.args.n c.args.u index) = c.requires.rows.0 index c.loop-i-test.true in
    let least : Ex = let w = c.sums-s in var w.result.lo add_limit w.ensures.sizes.0 in
    let greatest : Ex = let w = c.sums-s in var w.result.hi add_limit w.ensures.sizes.1 in
    let tested : c.inside.result ≡ test index = (rw (exact least tt, exact greatest tt) at c.inside.ensures) ∙ ap (λ (z : Side). covers (side_in c.args.limits.now c.args.base index) z) c.sums-s.ensures.sides in
    let l = c.loop-i in
    let h = c.loop-i-test.true in
    let r = row in
    let w = c.sums-s in
    let a : l.i < length l.kept.lo = omega (arith, l.invariant.0, r.rooms) in
    let b : l.i < length l.kept.hi = omega (arith, l.invariant.1, r.rooms) in (
      simp length-set l.invariant.0,
      simp length-set l.invariant.1,
      image-more sides l.kept.lo l.kept.hi l.i _ _ a b (rw (exact least tt, exact greatest tt) w.ensures.sides) l.invariant.2,
      hold-more l.invariant.3 h (sym tested ∙ c.if-not-inside.false),
      within_more l.kept.lo l.kept.hi (mach least) (mach greatest) a b l.invariant.4 (under least add_limit tt) (under greatest add_limit tt),
    )

pub returns : goal.returns
returns c =
    let sides : ℕ → Side = let a = c.args in sums_at a.n a.coef.now a.u (box_in a.n a.boxes.now a.place) in
    let l = c.loop-i in
    let few = c.loop-i.invariant.3.few in
    let q : l.i ≡ c.args.n = omega arith in record { stays = all_hold l.invariant.3 c.loop-i-test.false; sums = λ e. image-done sides l.kept.lo l.kept.hi c.args.n l.i q l.invariant.2; sizes = λ e j h. l.invariant.4 j (omega arith) }
