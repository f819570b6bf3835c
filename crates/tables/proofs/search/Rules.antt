-- What the search is lent of a frame, and what it seeks, are the frame's own: tests of sums are the image in S and in the goal, what is made of them is
-- the image, and the first pattern by them is the defined one. The only page of the search that speaks of a frame and its rules. Assumes nothing.
use Prim.Native.Nat.{ℕ, zero, suc, ◌<◌}
use mathlib.Core.Path.{◌≡◌, refl, sym, ap, ◌∙◌}
use mathlib.Core.Bool.{Bool, true, false}
use mathlib.Core.List.{List, []}
use mathlib.Core.Option.{Option, none, some}
use native.Mathlib.Omega.{arith}
use lib.IntN.{ℤ}
use Rattle.laws.specs.Guards.{guard}
use Rattle.laws.specs.Lists.{tab, all}
use Rattle.laws.specs.Tabs.{tab-same}
use Rattle.laws.specs.Tests.{never}
use Rattle.meaning.specs.Boxes.{Side, side_at, covers, within}
use Rattle.meaning.specs.Images.{image}
use Rattle.meaning.specs.Defined.{exactly, shortest}
use Rattle.promises.specs.Tables.Boxes.{within-trans}
use Rattle.meaning.specs.Plants.{band_side}
use Rattle.tables.specs.declared.frames.Frame.{Frame}
use Rattle.tables.specs.Boxes.{box_of}
use Rattle.tables.specs.Frames.{step_in, rules_in}
use Rattle.tables.specs.Levels.{side_in}
use Rattle.tables.specs.Limits.{limit_side, safe_at, goal_at, sums_at, covered, covered_at, image_lent, lands_lent, Lent, LimitsLaid}
use Rattle.tables.specs.Search.{behind, sought, sought_from, moves_lent}
use Rattle.tables.proofs.boxes.Laws.{lies-tab}
use Rattle.tables.proofs.images.Laws.{image_side_at, image-tab, small-image}
use Rattle.tables.proofs.steps.Laws.{limit-covers}
use Rattle.tables.proofs.search.Laws.{first-same}

-- ---- a frame and its limits

-- what sums are divided to is the image
divided-image : (f : Frame) (bands coef : List ℤ) (u : ℕ) (b : List Side) → image_lent f.n f.q bands coef u b ≡ image (step_in f bands coef u) b
divided-image f bands coef u b = sym (image-tab f.n f.q bands coef u b)

module _ (f : Frame) (bands coef limits marks : List ℤ) (g : LimitsLaid f bands coef limits marks) (u : ℕ) (m : u < f.modes) (b : List Side) where
  abbrev sides : ℕ → Side
  sides = image_side_at f.n f.q bands coef u b

  -- the limits at `base` are those of the box with sides t
  covered-is : (base : ℕ) (t : ℕ → Side) → ((i : ℕ) → i < f.n → side_in limits base i ≡ limit_side f.q (band_side f.n bands u i) (t i))
      → covered f.n coef limits base u b ≡ within (image (step_in f bands coef u) b) (tab t f.n 0)
  covered-is base t e =
      ap all (tab-same (covered_at f.n coef limits base u b) (λ i. covers (t i) (sides i)) f.n 0 (λ i l h. at_side i (omega arith)))
      ∙ sym (ap all (lies-tab sides t f.n 0))
      ∙ sym (ap (λ (c : List Side). within c (tab t f.n 0)) (image-tab f.n f.q bands coef u b))
    where
      at_side : (i : ℕ) → i < f.n → covered_at f.n coef limits base u b i ≡ covers (t i) (sides i)
      at_side i h =
          ap (λ (s : Side). covers s (sums_at f.n coef u b i)) (e i h)
          ∙ limit-covers f.q g.sound.least (band_side f.n bands u i) (t i) (sums_at f.n coef u b i)

  covered-safe : covered f.n coef limits (safe_at u) u b ≡ within (image (step_in f bands coef u) b) (box_of f.n f.safe)
  covered-safe = covered-is (safe_at u) (side_at f.safe.lo f.safe.hi) (g.laid u m).in-safe

  covered-goal : covered f.n coef limits (goal_at u) u b ≡ within (image (step_in f bands coef u) b) (box_of f.n f.goal)
  covered-goal = covered-is (goal_at u) (side_at f.goal.lo f.goal.hi) (g.laid u m).in-goal

-- nothing is left behind a last mode
abbrev ending : Bool → Option (List ℕ)
ending t = guard t none λ _. some []

module _ (f : Frame) (bands coef limits marks : List ℤ) (g : LimitsLaid f bands coef limits marks) where
  pub lent : Lent f.n f.modes f.q bands coef limits
  lent = record {
    some = g.sound.some;
    rooms = g.sound.rooms;
    room = g.room;
    least = g.sound.least;
    most = g.sound.most;
    rows = λ u h. λ i k. g.modes.rows u i h k;
    band = λ u h. λ i k. g.modes.band u i h k;
    small = λ u b h s e. rw (divided-image f bands coef u b) (small-image f bands coef (g.sound, g.modes) u h b s (sym (covered-safe f bands coef limits marks g u h b) ∙ e));
  }

  -- mode u, and behind it the first j that work from the image: none where the image leaves S
  abbrev defined : ℕ → List Side → ℕ → Option (List ℕ)
  defined j b u = let c = image (step_in f bands coef u) b in guard (within c (box_of f.n f.safe)) none λ _. exactly (rules_in f bands coef) j c

  abbrev lent_behind : ℕ → List Side → ℕ → Option (List ℕ)
  lent_behind = behind (moves_lent f.n f.modes f.q bands coef limits)

  -- an image in the goal lies in S, so that the last step asks for the goal alone
  last-is : (b : List Side) (u : ℕ) → u < f.modes → ending (lands_lent f.n coef limits u b) ≡ defined 0 b u
  unfolding exactly
  last-is b u h = ap ending (covered-goal f bands coef limits marks g u h b) ∙ go (within c (box_of f.n f.safe)) (within c (box_of f.n f.goal)) refl refl
    where
      c : List Side
      c = image (step_in f bands coef u) b

      go : (s r : Bool) → within c (box_of f.n f.safe) ≡ s → within c (box_of f.n f.goal) ≡ r → ending r ≡ guard s none (λ _. ending r)
      go true r e k = refl
      go false false e k = refl
      go false true e k = never (sym e ∙ within-trans c (box_of f.n f.goal) (box_of f.n f.safe) k g.sound.in-safe)

  behind-is : (j : ℕ) (b : List Side) (u : ℕ) → u < f.modes → lent_behind j b u ≡ defined j b u
  unfolding behind exactly
  behind-is zero b u h = last-is b u h
  behind-is (suc j) b u h =
      let c = image (step_in f bands coef u) b in
      rw (covered-safe f bands coef limits marks g u h b, divided-image f bands coef u b, first-same (lent_behind j c) (defined j c) f.modes 0 (λ v k. behind-is j c v (omega arith))) refl

  sought-is : (j : ℕ) (b : List Side) → sought (moves_lent f.n f.modes f.q bands coef limits) j b ≡ exactly (rules_in f bands coef) (suc j) b
  unfolding exactly
  sought-is j b = first-same (lent_behind j b) (defined j b) f.modes 0 (λ v k. behind-is j b v (omega arith))

  -- the first pattern, by what is lent and by the definition
  pub shortest-is : (more j : ℕ) (b : List Side) → sought_from (moves_lent f.n f.modes f.q bands coef limits) more j b ≡ shortest (rules_in f bands coef) more (suc j) b
  unfolding sought_from shortest
  shortest-is zero j b = refl
  shortest-is (suc more) j b = rw (sought-is j b, shortest-is more (suc j) b) refl
