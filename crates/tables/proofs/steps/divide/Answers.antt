-- `steps::divide`: the sides that are done are filled with the sums divided. Assumes nothing.
use Prim.Native.Nat.{ℕ, ◌+◌, ◌<◌}
use mathlib.Core.Path.{◌≡◌, ap, ◌∙◌}
use native.Mathlib.Omega.{arith}
use lib.ListN.{length}
use mir.Facts.{to_z-of_z}
use Rattle.laws.specs.Integers.{ok64}
use Rattle.laws.specs.Lists.{at}
use Rattle.laws.specs.Expressions.{Ex, var, ◌⊕◌, need, exact, under}
use Rattle.meaning.specs.Boxes.{Side, side_at}
use Rattle.meaning.specs.Plants.{band_limit, band_start}
use Rattle.promises.specs.Files.Sound.{Bounded}
use Rattle.tables.specs.Images.{sum_limit, BandSound}
use Rattle.tables.specs.Limits.{add_limit, divided}
use Rattle.tables.proofs.images.Laws.{band_here, band-here, band-small, band-inside}
use Rattle.tables.proofs.levels.Laws.{filled_more, filled-box}
use Rattle.tables.proofs.steps.divide.Goals as goal

pub offset_bounds-bands-band : goal.offset_bounds-bands-band
offset_bounds-bands-band c =
    let index : ℕ = c.loop-i.i in
    let band : BandSound c.args.n c.args.bands.now c.args.u index = c.requires.step.3 index c.loop-i-test.true in
    let placed : c.band-band.result ≡ band_start c.args.n c.args.u index = c.band-band.ensures in
    let within : c.band-band.result + 1 < length c.args.bands.now = let a = c.args in band-inside a.n a.bands.now a.u index c.band-band.result placed band in
    omega (arith, within)

pub bounds-bands-band : goal.bounds-bands-band
bounds-bands-band c =
    let index : ℕ = c.loop-i.i in
    let band : BandSound c.args.n c.args.bands.now c.args.u index = c.requires.step.3 index c.loop-i-test.true in
    let placed : c.band-band.result ≡ band_start c.args.n c.args.u index = c.band-band.ensures in
    let within : c.band-band.result + 1 < length c.args.bands.now = let a = c.args in band-inside a.n a.bands.now a.u index c.band-band.result placed band in
    omega (arith, within)

pub ceiling-low-requires : goal.ceiling-low-requires
ceiling-low-requires c =
    let index : ℕ = c.loop-i.i in
    let band : BandSound c.args.n c.args.bands.now c.args.u index = c.requires.step.3 index c.loop-i-test.true in
    let placed : c.band-band.result ≡ band_start c.args.n c.args.u index = c.band-band.ensures in
    let small : Bounded band_limit (band_here c.args.n c.args.bands.now c.args.u index c.band-band.result placed) = let a = c.args in band-small a.n a.bands.now a.u index c.band-band.result placed band in
    let low : Ex = let s = c.args in var (at s.slo.now index) add_limit (c.requires.sums.0 index c.loop-i-test.true).0 ⊕ var (at s.bands.now c.band-band.result) band_limit small.low in
    (under low sum_limit tt, c.requires.step.1, c.requires.step.2)

pub overflow_add-shi : goal.overflow_add-shi
overflow_add-shi c =
    let index : ℕ = c.loop-i.i in
    let band : BandSound c.args.n c.args.bands.now c.args.u index = c.requires.step.3 index c.loop-i-test.true in
    let placed : c.band-band.result ≡ band_start c.args.n c.args.u index = c.band-band.ensures in
    let small : Bounded band_limit (band_here c.args.n c.args.bands.now c.args.u index c.band-band.result placed) = let a = c.args in band-small a.n a.bands.now a.u index c.band-band.result placed band in
    let high : Ex = let s = c.args in var (at s.shi.now index) add_limit (c.requires.sums.0 index c.loop-i-test.true).1 ⊕ var (at s.bands.now (c.band-band.result + 1)) band_limit small.high in
    need high tt

pub floor-high-requires : goal.floor-high-requires
floor-high-requires c =
    let index : ℕ = c.loop-i.i in
    let band : BandSound c.args.n c.args.bands.now c.args.u index = c.requires.step.3 index c.loop-i-test.true in
    let placed : c.band-band.result ≡ band_start c.args.n c.args.u index = c.band-band.ensures in
    let small : Bounded band_limit (band_here c.args.n c.args.bands.now c.args.u index c.band-band.result placed) = let a = c.args in band-small a.n a.bands.now a.u index c.band-band.result placed band in
    let high : Ex = let s = c.args in var (at s.shi.now index) add_limit (c.requires.sums.0 index c.loop-i-test.true).1 ⊕ var (at s.bands.now (c.band-band.result + 1)) band_limit small.high in
    (under high sum_limit tt, c.requires.step.1, c.requires.step.2)

pub loop-i-preserved : goal.loop-i-preserved
loop-i-preserved c =
    let index : ℕ = c.loop-i.i in
    let few : index < 4 = let h = c.loop-i-test.true in let r = c.requires.step.0 in omega arith in
    let band : BandSound c.args.n c.args.bands.now c.args.u index = c.requires.step.3 index c.loop-i-test.true in
    let placed : c.band-band.result ≡ band_start c.args.n c.args.u index = c.band-band.ensures in
    let small : Bounded band_limit (band_here c.args.n c.args.bands.now c.args.u index c.band-band.result placed) = let a = c.args in band-small a.n a.bands.now a.u index c.band-band.result placed band in
    let low : Ex = let s = c.args in var (at s.slo.now index) add_limit (c.requires.sums.0 index c.loop-i-test.true).0 ⊕ var (at s.bands.now c.band-band.result) band_limit small.low in
    let high : Ex = let s = c.args in var (at s.shi.now index) add_limit (c.requires.sums.0 index c.loop-i-test.true).1 ⊕ var (at s.bands.now (c.band-band.result + 1)) band_limit small.high in
    let a = c.args in
    let l = c.loop-i in
    let h = c.loop-i-test.true in
    let x = c.ceiling-low in
    let y = c.floor-high in
    let lo = to_z-of_z (ok64 x.result x.type_inv) ∙ (rw (exact low tt) at x.ensures) in
    let hi = to_z-of_z (ok64 y.result y.type_inv) ∙ (rw (exact high tt) at y.ensures) in
    (omega arith, filled_more l.invariant.1 _ few (omega (arith, c.requires.sums.1, c.requires.sums.2)) (rw (lo, hi) (ap (λ (w : Side). divided a.q w (side_at a.slo.now a.shi.now l.i)) (band-here a.n a.bands.now a.u l.i c.band-band.result placed))) c.put_side.ensures)

pub returns : goal.returns
returns c =
    let l = c.loop-i in
    let e : l.i ≡ c.args.n = omega arith in
    record { sides = rw e at (filled-box l.invariant.1); beside = l.invariant.1.beside }
