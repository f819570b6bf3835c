-- R, S and w as the code reads them: the parts of the form that they are, with their values; zeros beyond n. Assumes nothing.
use Rattle.std.specs.Prelude.{ℕ, ◌≤◌, ◌<◌, List, ℤ, nat_abs, Ok, Err, Result}
use Rattle.laws.specs.Lists.{at, tabs}
use Rattle.laws.specs.Tabs.{Filled}
use Rattle.meaning.specs.declared.Refusal.{Refusal}
use Rattle.meaning.specs.Files.{Form}
use Rattle.meaning.specs.Plants.{edge_limit, band_limit, span, times, edges_of, band_of}
use Rattle.files.specs.declared.bounds.Sides.{Sides}
use Rattle.files.specs.Parts.{Holds, Fails}

-- both ends of each of n sides lie within a limit
abbrev pub EndsWithin : ℕ → ℕ → List ℤ → List ℤ → Type 0
EndsWithin limit n lo hi = (i : ℕ) → i < n → (nat_abs (at lo i) ≤ limit) × (nat_abs (at hi i) ≤ limit)

-- one dimension's R and S
abbrev pub edges_part : Form → Form
edges_part rest = span edge_limit (span edge_limit rest)

pub record EdgesRead (s : List ℕ) (from n : ℕ) (root safe : Sides) (next : ℕ) : Type 0 where
  pub part : Holds (times n edges_part) s from (tabs (edges_of root.lo root.hi safe.lo safe.hi) n 0) next
  pub rlo-filled : Filled 4 n root.lo
  pub rhi-filled : Filled 4 n root.hi
  pub slo-filled : Filled 4 n safe.lo
  pub shi-filled : Filled 4 n safe.hi
  pub sizes : EndsWithin edge_limit n safe.lo safe.hi

abbrev pub EdgesTold : List ℕ → ℕ → ℕ → Result (Sides × Sides × ℕ) Refusal → Type 0
EdgesTold s from n (Ok (root, safe, next)) = EdgesRead s from n root safe next
EdgesTold s from n (Err e) = Fails (times n edges_part) s from e

abbrev pub BandSizes : ℕ → List ℤ → List ℤ → Type 0
BandSizes = EndsWithin band_limit

-- the bands, and their sizes
pub record BandsRead (s : List ℕ) (from n : ℕ) (w : Sides) (next : ℕ) : Type 0 where
  pub part : Holds (times n (span band_limit)) s from (tabs (band_of w.lo w.hi) n 0) next
  pub wlo-filled : Filled 4 n w.lo
  pub whi-filled : Filled 4 n w.hi
  pub sizes : BandSizes n w.lo w.hi

abbrev pub BandsTold : List ℕ → ℕ → ℕ → Result (Sides × ℕ) Refusal → Type 0
BandsTold s from n (Ok (w, next)) = BandsRead s from n w next
BandsTold s from n (Err e) = Fails (times n (span band_limit)) s from e
