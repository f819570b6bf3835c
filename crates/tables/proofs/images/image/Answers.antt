-- `images::image`: the sides that are done are those of the image. Assumes nothing.
use mathlib.Core.Path.{◌≡◌, refl, sym, ◌∙◌}
use Prim.Native.Nat.{ℕ, ◌+◌, ◌<◌}
use native.Mathlib.Omega.{arith}
use lib.ListN.{length, length-set}
use mir.Facts.{to_z-of_z}
use Rattle.laws.specs.Integers.{ok64}
use Rattle.laws.specs.Lists.{at, tab}
use Rattle.laws.specs.Expressions.{Ex, var, exact}
use Rattle.meaning.specs.Boxes.{Side, sides_of}
use Rattle.meaning.specs.Plants.{band_limit, band_start}
use Rattle.tables.specs.Images.{BandSound}
use Rattle.tables.proofs.images.Laws.{band-small, band-inside, image_side_at, image-tab, image-more, image-done}
use Rattle.tables.proofs.images.image.Goals as goal

pub loop-i-init : goal.loop-i-init
unfolding tab
loop-i-init c = (omega arith, refl, refl, refl)

pub bounds-bands-place : goal.bounds-bands-place
bounds-bands-place c =
    let band : (i : ℕ) → (h : i < c.args.n) → BandSound c.args.n c.args.bands.now c.args.u i = λ i. λ h. c.requires.0.band i h in
    let placed : c.band-place.result ≡ band_start c.args.n c.args.u c.loop-i.i = c.band-place.ensures in
    let within : c.band-place.result + 1 < length c.args.bands.now = let i = c.loop-i.i in band-inside c.args.n c.args.bands.now c.args.u i c.band-place.result placed (band i c.loop-i-test.true) in
    omega (arith, within)

pub loop-i-preserved : goal.loop-i-preserved
loop-i-preserved c =
    let sides : ℕ → Side = let a = c.args in image_side_at a.n a.q a.bands.now a.coef.now a.u (sides_of a.n a.lo.now a.hi.now) in
    let band : (i : ℕ) → (h : i < c.args.n) → BandSound c.args.n c.args.bands.now c.args.u i = λ i. λ h. c.requires.0.band i h in
    let low : (i : ℕ) → (h : i < c.args.n) → (place : ℕ) → (e : place ≡ band_start c.args.n c.args.u i) → Ex = λ i. λ h. λ place. λ e. var (at c.args.bands.now place) band_limit (band-small c.args.n c.args.bands.now c.args.u i place e (band i h)).low in
    let high : (i : ℕ) → (h : i < c.args.n) → (place : ℕ) → (e : place ≡ band_start c.args.n c.args.u i) → Ex = λ i. λ h. λ place. λ e. var (at c.args.bands.now (place + 1)) band_limit (band-small c.args.n c.args.bands.now c.args.u i place e (band i h)).high in
    let placed : c.band-place.result ≡ band_start c.args.n c.args.u c.loop-i.i = c.band-place.ensures in
    let e = c.image_side-s in
    let l = c.loop-i in
    let h : l.i < c.args.n = omega arith in
    let g = rw (exact (low l.i h c.band-place.result placed) tt, exact (high l.i h c.band-place.result placed) tt, placed) at e.ensures in (
      omega arith,
      simp length-set l.invariant.1,
      simp length-set l.invariant.2,
      image-more sides l.least l.greatest l.i _ _ (omega (arith, c.requires.0.rooms)) (omega (arith, c.requires.0.rooms))
          (rw (to_z-of_z (ok64 e.result.lo (omega arith)), to_z-of_z (ok64 e.result.hi (omega arith))) g) l.invariant.3,
    )

pub returns : goal.returns
returns c =
    let sides : ℕ → Side = let a = c.args in image_side_at a.n a.q a.bands.now a.coef.now a.u (sides_of a.n a.lo.now a.hi.now) in
    let l = c.loop-i in
    let a = c.args in
    image-done sides l.least l.greatest a.n l.i (omega arith) l.invariant.3 ∙ sym (image-tab a.n a.q a.bands.now a.coef.now a.u (sides_of a.n a.lo.now a.hi.now))
