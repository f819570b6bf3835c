-- What a sound plant gives, each mode's step in its ranges; that a frame taken apart is the frame; and that a plant that was judged is sound as its frame with
-- its bands and coefficients. The only page that looks into promises' `Sound`. Assumes nothing.
use Prim.Native.Nat.{ℕ, ◌+◌, ◌*◌, ◌≤◌, ◌<◌}
use mathlib.Core.Path.{◌≡◌, refl, sym, ap, ◌∙◌, subst}
use mathlib.Core.Bool.{true}
use mathlib.Core.List.{List}
use native.Mathlib.Omega.{arith}
use native.Mathlib.Nat.{mul-le-mul_right}
use lib.IntN.{ℤ, pos, nat_abs, ◌-ℤ◌}
use lib.ListN.{length}
use lib.Signed.{◌≤ℤ◌}
use Rattle.laws.specs.Lists.{at, tab}
use Rattle.meaning.specs.Boxes.{side, side_at, sides_of}
use Rattle.meaning.specs.Images.{Row, Step}
use Rattle.meaning.specs.Plants.{Plant, edge_limit, band_limit, entry_limit, offset_limit, most_modes, coef_count, band_count, row_start, band_start}
use Rattle.meaning.specs.Tables.{known_form, rules_from}
use Rattle.tables.specs.declared.frames.Frame.{Frame}
use Rattle.tables.specs.declared.frames.Counts.{Counts}
use Rattle.tables.specs.Boxes.{box_of, Small}
use Rattle.tables.specs.Images.{StepSound}
use Rattle.tables.specs.Frames.{own_frame, formed, counts_of, edges_of, frame_from, step_in, rules_in, FrameSound, ModesSound, PlantSound}
use Rattle.promises.specs.Files.Sound.{Bounded, Edges, Ranges, Sound}
use Rattle.tables.proofs.boxes.Laws.{small-tab}

-- ---- what a sound plant gives

pub step-in : (f : Frame) (bands coef : List ℤ) → PlantSound f bands coef → (u : ℕ) → u < f.modes → StepSound f.n f.q bands coef u
step-in f bands coef g u h = record { rooms = g.0.rooms; least = g.0.least; most = g.0.most; band = λ i k. g.1.band u i h k; rows = λ i k. g.1.rows u i h k }

-- ---- a frame of another form that is known

pub formed-sound : (f : Frame) (form : ℕ) → known_form form ≡ true → FrameSound f → FrameSound (formed f form)
formed-sound f form known g = record {
  known = known;
  some = g.some;
  rooms = g.rooms;
  longest = g.longest;
  least = g.least;
  most = g.most;
  modes = g.modes;
  depth = g.depth;
  tiles = g.tiles;
  root = g.root;
  goal = g.goal;
  safe = g.safe;
  in-safe = g.in-safe;
}

-- ---- a frame taken apart: what is asked of it over the box that it tiles, and what is answered for it, are those of the frame

module _ (f : Frame) (c : Counts) (edges : List (List ℤ)) (p : c ≡ counts_of f) (q : edges ≡ edges_of f) where
  pub lent-sound : FrameSound f → FrameSound (frame_from c edges) × Small edge_limit (box_of c.n f.root)
  lent-sound g = rw (p, q) (g, g.root)

  pub lent-modes : (bands coef : List ℤ) → ModesSound f.n f.modes f.q bands coef → ModesSound c.n c.modes c.q bands coef
  lent-modes bands coef g = rw p g

  pub lent_is : frame_from c edges ≡ f
  lent_is = rw (p, q) refl

  pub lent_same : {A : Type 0} (answer : Counts → List (List ℤ) → A) → answer c edges ≡ answer (counts_of f) (edges_of f)
  lent_same answer = rw (p, q) refl

-- ---- a plant's own frame

edges-small : {k n : ℕ} {lo hi : List ℤ} → Edges k n lo hi → Small k (sides_of n lo hi)
edges-small {k} {n} {lo} {hi} e =
    small-tab (side_at lo hi) n 0 (λ j a b. e.sides j (omega arith))

-- in lists that hold all modes, row i of mode u and its band
module _ (n modes u i : ℕ) (h : u < modes) (k : i < n) where
  earlier : u * n + i + 1 ≤ modes * n
  earlier = let a : u + 1 ≤ modes = omega arith in omega (arith, mul-le-mul_right n a)

  row_inside : (coef : List ℤ) → coef_count modes n ≤ length coef → row_start n u i + n < length coef
  row_inside coef l = omega (arith, mul-le-mul_right (n + 1) earlier, l)

  band-inside : (bands : List ℤ) → band_count modes n ≤ length bands → band_start n u i + 1 < length bands
  band-inside bands l = let e = earlier in omega (arith, l)

module _ (p : Plant) (g : Sound p) where
  r : Ranges most_modes p.n p.modes p.q p.k p.d p.rlo p.rhi p.slo p.shi
  r = g.ranges

  own-frame : FrameSound (own_frame p)
  own-frame = record {
    known = refl;
    some = r.n-low;
    rooms = r.n-high;
    longest = r.k-high;
    least = r.q-low;
    most = r.q-high;
    modes = r.m-high;
    depth = r.d-high;
    tiles = r.nd-high;
    root = edges-small r.root;
    goal = edges-small r.root;
    safe = edges-small r.safe;
    in-safe = g.root-safe;
  }

  pub framed-sound : (f : Frame) → f ≡ own_frame p → FrameSound f
  framed-sound f e = rw e own-frame

  -- its modes, in any arrays that hold them all and say what the plant's lists say
  module _ (bands coef : List ℤ) (b : ◌≡◌ {A = ℕ → ℤ} (λ i. at bands i) (λ i. at p.bands i)) (c : ◌≡◌ {A = ℕ → ℤ} (λ i. at coef i) (λ i. at p.coef i))
      (ends : band_count p.modes p.n ≤ length bands) (numbers : coef_count p.modes p.n ≤ length coef) where
    pub modes-in : ModesSound p.n p.modes p.q bands coef
    modes-in = record {
      band = λ u i h k. record {
        inside = band-inside p.n p.modes u i h k bands ends;
        ends = let at-band = band_start p.n u i in subst (λ (x : ℕ → ℤ). Bounded band_limit (side (x at-band) (x (at-band + 1)))) (sym b) (g.bands u i h k);
      };
      wide = λ u i h k. let at-band = band_start p.n u i in subst (λ (x : ℕ → ℤ). (pos p.q -ℤ pos 1) ≤ℤ (x (at-band + 1) -ℤ x at-band)) (sym b) (g.wide u i h k);
      rows = λ u i h k. record {
        some = r.n-low;
        rooms = r.n-high;
        inside = row_inside p.n p.modes u i h k coef numbers;
        entries = λ j l. subst (λ (x : ℕ → ℤ). nat_abs (x (row_start p.n u i + j)) ≤ entry_limit) (sym c) (g.entries u i j h k l);
        offset = subst (λ (x : ℕ → ℤ). nat_abs (x (row_start p.n u i + p.n)) ≤ offset_limit) (sym c) (g.offsets u i h k);
      };
    }

    -- so every frame's modes do what they do with the plant's lists
    pub steps-in : (f : Frame) → step_in f bands coef ≡ step_in f p.bands p.coef
    steps-in f =
        ap (λ (x : ℕ → ℤ). steps_by x (λ i. at coef i)) b ∙ ap (λ (y : ℕ → ℤ). steps_by (λ i. at p.bands i) y) c
      where
        row_by : (ℕ → ℤ) → (ℕ → ℤ) → ℕ → ℕ → Row
        row_by x y u i =
            let start = row_start f.n u i in
            record { entries = tab (λ j. y (start + j)) f.n 0; offset = y (start + f.n); low = x (band_start f.n u i); high = x (band_start f.n u i + 1) }

        steps_by : (ℕ → ℤ) → (ℕ → ℤ) → ℕ → Step
        steps_by x y u = record { rows = tab (row_by x y u) f.n 0; q = f.q }

    -- and it has the rules that it has with them
    pub rules-in : (f : Frame) → rules_in f bands coef ≡ rules_in f p.bands p.coef
    rules-in f =
        ap (λ (step : ℕ → Step). rules_from f.form f.n f.modes f.k f.d (box_of f.n f.root) (box_of f.n f.goal) (box_of f.n f.safe) step) (steps-in f)
