-- A frame: what a table is made, checked and run by, its small numbers by value; with the bands and the coefficients of its modes, which are lent, its rules. And
-- what is asked of it, and of what its modes are lent: the first by every function, the second only where images are made. A judged plant's own frame has both,
-- of whatever known form.
-- Definitions alone.
use Rattle.std.specs.Prelude.{ℕ, ◌*◌, ◌≤◌, ◌<◌, ◌≡◌, true, List, [], ◌∷◌, ℤ, pos, ◌-ℤ◌, get_or, ◌≤ℤ◌}
use Rattle.meaning.specs.declared.Outline.{Outline}
use Rattle.meaning.specs.Boxes.{within}
use Rattle.meaning.specs.Images.{Step}
use Rattle.meaning.specs.Plants.{Plant, outline_of, edge_limit, most_modes, row_start, band_side}
use Rattle.meaning.specs.Rules.{Rules}
use Rattle.meaning.specs.Tables.{known_form, rules_from}
use Rattle.files.specs.declared.bounds.Sides.{Sides}
use Rattle.tables.specs.declared.frames.Frame.{Frame}
use Rattle.tables.specs.declared.frames.Counts.{Counts}
use Rattle.tables.specs.Boxes.{box_of, Small}
use Rattle.tables.specs.Images.{step_from, RowSound, BandSound}

abbrev pub box_from : List ℤ → List ℤ → Sides
box_from lo hi = record { lo = lo; hi = hi }

-- a plant's own, of form 1: R is tiled, and patterns end in R
abbrev pub frame_of : Outline → Frame
frame_of p = record {
  form = 1;
  n = p.n;
  modes = p.modes;
  q = p.q;
  k = p.k;
  d = p.d;
  root = box_from p.rlo p.rhi;
  goal = box_from p.rlo p.rhi;
  safe = box_from p.slo p.shi;
}

-- that of a plant
abbrev pub own_frame : Plant → Frame
own_frame p = frame_of (outline_of p)

-- a frame of another form
abbrev pub formed : Frame → ℕ → Frame
formed f form = record {
  form = form;
  n = f.n;
  modes = f.modes;
  q = f.q;
  k = f.k;
  d = f.d;
  root = f.root;
  goal = f.goal;
  safe = f.safe;
}

-- a frame taken apart: its numbers, and the edges of its boxes, lows and highs of each
abbrev pub counts_of : Frame → Counts
counts_of f = record { form = f.form; n = f.n; modes = f.modes; q = f.q; k = f.k; d = f.d }

abbrev pub edges_of : Frame → List (List ℤ)
edges_of f = f.root.lo ∷ f.root.hi ∷ f.goal.lo ∷ f.goal.hi ∷ f.safe.lo ∷ f.safe.hi ∷ []

-- and put together again
abbrev pub frame_from : Counts → List (List ℤ) → Frame
frame_from c edges = record {
  form = c.form;
  n = c.n;
  modes = c.modes;
  q = c.q;
  k = c.k;
  d = c.d;
  root = box_from (get_or edges 0 []) (get_or edges 1 []);
  goal = box_from (get_or edges 2 []) (get_or edges 3 []);
  safe = box_from (get_or edges 4 []) (get_or edges 5 []);
}

-- what mode u does
abbrev pub step_in : Frame → List ℤ → List ℤ → ℕ → Step
step_in f bands coef u = step_from f.n f.q bands coef u

abbrev pub rules_in : Frame → List ℤ → List ℤ → Rules
rules_in f bands coef = rules_from f.form f.n f.modes f.k f.d (box_of f.n f.root) (box_of f.n f.goal) (box_of f.n f.safe) (step_in f bands coef)

-- and those of it with another form
abbrev pub rules_by : Frame → List ℤ → List ℤ → ℕ → Rules
rules_by f bands coef form = rules_in (formed f form) bands coef

-- its form known, its numbers and its boxes in the ranges
pub record FrameSound (f : Frame) : Type 0 where
  pub known : known_form f.form ≡ true
  pub some : 1 ≤ f.n
  pub rooms : f.n ≤ 4
  pub longest : f.k ≤ 6
  pub least : 1 ≤ f.q
  pub most : f.q ≤ 10_000
  pub modes : f.modes ≤ most_modes
  pub depth : f.d ≤ 6
  pub tiles : f.n * f.d ≤ 12
  pub root : Small edge_limit (box_of f.n f.root)
  pub goal : Small edge_limit (box_of f.n f.goal)
  pub safe : Small edge_limit (box_of f.n f.safe)
  pub in-safe : within (box_of f.n f.goal) (box_of f.n f.safe) ≡ true

-- the bands and the rows of so many modes, whatever boxes they are used on
pub record ModesSound (n modes q : ℕ) (bands coef : List ℤ) : Type 0 where
  pub band : (u i : ℕ) → u < modes → i < n → BandSound n bands u i
  pub wide : (u i : ℕ) → u < modes → i < n → (pos q -ℤ pos 1) ≤ℤ ((band_side n bands u i).hi -ℤ (band_side n bands u i).lo)
  pub rows : (u i : ℕ) → u < modes → i < n → RowSound n coef (row_start n u i)

-- a frame with what its modes are lent is a plant
abbrev pub PlantSound : Frame → List ℤ → List ℤ → Type 0
PlantSound f bands coef = FrameSound f × ModesSound f.n f.modes f.q bands coef
