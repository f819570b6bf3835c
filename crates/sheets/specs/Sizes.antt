-- The ranges of a sheet's numbers, as far as the numbers of its plant need them: `Sized`, which is less than a sheet that was judged good has (promises,
-- page SheetSound), since the code makes the plant before it knows that. Definitions alone.
use Rattle.std.specs.Prelude.{◌≤◌}
use Rattle.meaning.specs.declared.Sheet.{Sheet}
use Rattle.meaning.specs.Plants.{edge_limit, band_limit}
use Rattle.files.specs.Bounds.{EndsWithin}

pub record Sized (h : Sheet) : Type 0 where
  pub some : 1 ≤ h.n
  pub few : h.n ≤ 4
  pub degrees : (1 ≤ h.r) × (h.r ≤ 1000)
  pub counts : (1 ≤ h.q) × (h.q ≤ 10000)
  -- S and w
  pub edges : EndsWithin edge_limit h.n h.slo h.shi
  pub bands : EndsWithin band_limit h.n h.wlo h.whi
