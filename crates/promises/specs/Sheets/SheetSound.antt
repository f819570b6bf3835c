-- What document 01 says of the whole numbers of a sheet ("The sheet"), as facts of one that was judged good: its ranges, every lo ≤ its hi, R within S, each
-- band wide enough, and that the plant can hold every number made of it. Relies on pages Framed and Related. What is asked of its floats is page SheetFloats.
use Rattle.std.specs.Prelude.{ℕ, ◌+◌, ◌*◌, ◌<◌, ◌≡◌, true, List, map, ℤ, nat_abs}
use Rattle.std.proofs.Common.{subst}
use Rattle.laws.specs.Lists.{at, all}
use Rattle.meaning.specs.declared.Sheet.{Sheet}
use Rattle.meaning.specs.Boxes.{side_at, within}
use Rattle.meaning.specs.Files.{values_of, good}
use Rattle.meaning.specs.Plants.{band_limit, bands}
use Rattle.meaning.specs.Sheets as S
use Rattle.meaning.specs.Sheets.{sheet_form, sheet_of, made_numbers, is_near, root_sheet, safe_sheet, sheet_judged}
use Rattle.promises.specs.Files.Files.{file-writes}
use Rattle.promises.specs.Files.Forms.{Right, values-right}
use Rattle.promises.specs.Files.Framed.{wide-bands, bands-right, band-edges, framed}
use Rattle.promises.specs.Files.Related.{good-sheet}
use Rattle.promises.specs.Sheets.SheetShapes.{floats_form}
use Rattle.promises.specs.Files.Sound.{Edges, Wide, Ranges}

-- the whole numbers, from the form that the sheet was read by
abbrev SheetRanges : Sheet → Type 0
SheetRanges h = Ranges 1_000 h.n h.r h.q h.k h.d h.rlo h.rhi h.slo h.shi

abbrev SheetBand : Sheet → Type 0
SheetBand h = Edges band_limit h.n h.wlo h.whi

right-ranges : (vs : List ℤ) → Right sheet_form vs 0 → SheetRanges (sheet_of vs) × SheetBand (sheet_of vs)
unfolding S.sheet_form S.sheet_of
right-ranges vs h =
    let n = nat_abs (at vs 1) in
    let f = framed 1 1_000 (λ form n r. bands n (floats_form n)) vs h in
    (f.ranges, band-edges vs n f.ranges.n-high (bands-right vs n (floats_form n) (6 + 4 * n) f.behind).0)

pub record SoundSheet (h : Sheet) : Type 0 where
  pub ranges : SheetRanges h
  pub band : SheetBand h
  pub root-safe : within (root_sheet h) (safe_sheet h) ≡ true
  pub wide : (i : ℕ) → i < h.n → Wide h.q (side_at h.wlo h.whi i)
  pub fit : all (map is_near (made_numbers h)) ≡ true

pub judged-sound : (s : List ℕ) (h : Sheet) → sheet_judged s ≡ good h → SoundSheet h
unfolding S.sheet_judged
judged-sound s h e =
    let g = good-sheet (values_of sheet_form s) h e in
    let w = file-writes sheet_form s g.was in
    let r = right-ranges g.values (values-right sheet_form s 0 g.values g.next w.0) in
    record {
      ranges = subst SheetRanges g.sheet r.0;
      band = subst SheetBand g.sheet r.1;
      root-safe = g.root-safe;
      wide = wide-bands h.q (side_at h.wlo h.whi) h.n g.bands-wide;
      fit = g.fit;
    }
