-- `limits::lay_box`: the sides that are done are the limits of their dimensions. Assumes nothing.
use Prim.Native.Nat.{ℕ, ◌<◌}
use mathlib.Core.Path.{◌≡◌, ap, ◌∙◌}
use native.Mathlib.Omega.{arith}
use Rattle.meaning.specs.Boxes.{Side, side, side_at}
use Rattle.meaning.specs.Plants.{edge_limit, band_limit, band_start, band_side}
use Rattle.promises.specs.Files.Sound.{Bounded}
use Rattle.tables.specs.Limits.{limit_side}
use Rattle.tables.proofs.boxes.Laws.{small-side}
use Rattle.tables.proofs.images.Laws.{band_here, band-here, band-small}
use Rattle.tables.proofs.levels.Laws.{filled_more}
use Rattle.tables.proofs.limits.Laws.{band-held, edge-held, limit-held}
use Rattle.tables.proofs.limits.lay_box.Goals as goal

pub around-s-requires : goal.around-s-requires
around-s-requires c =
    let index : ℕ = c.loop-i.i in
    let placed : c.band-place.result ≡ band_start c.args.n c.args.u index = c.band-place.ensures in
    let band : Side = let a = c.args in band_here a.n a.bands.now a.u index c.band-place.result placed in
    let small-band : Bounded band_limit band = let a = c.args in band-small a.n a.bands.now a.u index c.band-place.result placed (c.requires.step.2 index c.loop-i-test.true) in
    let edge : Side = side_at c.args.b.lo c.args.b.hi index in
    let small-edge : Bounded edge_limit edge = small-side c.args.b.lo c.args.b.hi c.args.n index c.requires.step.3 c.loop-i-test.true in
    (c.requires.step.1, rw (band-held band small-band) small-band, rw (edge-held edge small-edge) small-edge)

pub loop-i-preserved : goal.loop-i-preserved
loop-i-preserved c =
    let index : ℕ = c.loop-i.i in
    let few : index < 4 = let h = c.loop-i-test.true in let n = c.requires.step.0 in omega arith in
    let placed : c.band-place.result ≡ band_start c.args.n c.args.u index = c.band-place.ensures in
    let band : Side = let a = c.args in band_here a.n a.bands.now a.u index c.band-place.result placed in
    let band-is : band ≡ band_side c.args.n c.args.bands.now c.args.u index = let a = c.args in band-here a.n a.bands.now a.u index c.band-place.result placed in
    let small-band : Bounded band_limit band = let a = c.args in band-small a.n a.bands.now a.u index c.band-place.result placed (c.requires.step.2 index c.loop-i-test.true) in
    let edge : Side = side_at c.args.b.lo c.args.b.hi index in
    let small-edge : Bounded edge_limit edge = small-side c.args.b.lo c.args.b.hi c.args.n index c.requires.step.3 c.loop-i-test.true in
    let l = c.loop-i in
    let h = c.loop-i-test.true in
    let r = c.around-s in
    let e = limit-held c.args.q band edge c.requires.step.1 small-band small-edge (side r.result.lo r.result.hi) r.ensures in
    (omega arith, filled_more l.invariant.1 _ few c.requires.place (e ∙ ap (λ (w : Side). limit_side c.args.q w edge) band-is) c.put_side.ensures)
