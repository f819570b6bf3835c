-- What document 01 says of the numbers of a plant ("The plant and its readings"), as facts: its ranges, every lo ≤ its hi, R within S, each
-- band wide enough; the ranges are said once, of a sheet's numbers too. Definitions alone; a plant that was judged good is sound (page Judged).
use Rattle.std.specs.Prelude.{ℕ, ◌+◌, ◌*◌, ◌≤◌, ◌<◌, ◌≡◌, true, List, length, ℤ, pos, nat_abs, ◌-ℤ◌, ◌≤ℤ◌}
use Rattle.laws.specs.Lists.{at}
use Rattle.meaning.specs.Boxes.{Side, side_at, within}
use Rattle.meaning.specs.Plants.{edge_limit, band_limit, entry_limit, offset_limit, plant_forms, most_modes, Plant, coef_count, band_count, root_of, safe_of, band_side, row_start}

-- a side within ± a limit, and not empty
pub record Bounded (limit : ℕ) (s : Side) : Type 0 where
  pub low : nat_abs s.lo ≤ limit
  pub high : nat_abs s.hi ≤ limit
  pub order : s.lo ≤ℤ s.hi

-- the first n sides of two arrays of 4 edges
pub record Edges (limit n : ℕ) (lo hi : List ℤ) : Type 0 where
  pub lo-size : length lo ≡ 4
  pub hi-size : length hi ≡ 4
  pub sides : (i : ℕ) → i < n → Bounded limit (side_at lo hi i)

-- header, R and S, of a plant and of a sheet; the third number of the header, N or r, is in 1..most
pub record Ranges (most n m q k d : ℕ) (rlo rhi slo shi : List ℤ) : Type 0 where
  pub n-low : 1 ≤ n
  pub n-high : n ≤ 4
  pub m-low : 1 ≤ m
  pub m-high : m ≤ most
  pub q-low : 1 ≤ q
  pub q-high : q ≤ 10_000
  pub k-low : 1 ≤ k
  pub k-high : k ≤ 6
  pub d-high : d ≤ 6
  pub nd-high : n * d ≤ 12
  pub root : Edges edge_limit n rlo rhi
  pub safe : Edges edge_limit n slo shi

-- a band of at least q − 1
abbrev pub Wide : ℕ → Side → Type 0
Wide q w = (pos q -ℤ pos 1) ≤ℤ (w.hi -ℤ w.lo)

pub record Sound (p : Plant) : Type 0 where
  pub first : 1 ≤ p.form
  pub known : p.form ≤ plant_forms
  pub ranges : Ranges most_modes p.n p.modes p.q p.k p.d p.rlo p.rhi p.slo p.shi
  pub root-safe : within (root_of p) (safe_of p) ≡ true
  -- the band of mode u in dimension i
  pub band-size : length p.bands ≡ band_count p.modes p.n
  pub bands : (u i : ℕ) → u < p.modes → i < p.n → Bounded band_limit (band_side p.n p.bands u i)
  pub wide : (u i : ℕ) → u < p.modes → i < p.n → Wide p.q (band_side p.n p.bands u i)
  -- row i of mode u, its n entries of A and b_i behind them
  pub coef-size : length p.coef ≡ coef_count p.modes p.n
  pub entries : (u i j : ℕ) → u < p.modes → i < p.n → j < p.n → nat_abs (at p.coef (row_start p.n u i + j)) ≤ entry_limit
  pub offsets : (u i : ℕ) → u < p.modes → i < p.n → nat_abs (at p.coef (row_start p.n u i + p.n)) ≤ offset_limit
