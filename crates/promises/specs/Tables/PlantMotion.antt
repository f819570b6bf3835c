-- Document 01's rules of a sound plant meet the laws of page Laws; so a pattern that works for a box keeps every run in S and brings it back
-- to R (S5), and some reading always follows (S12). Relies on pages Images, Splits, Halving, Patterns and Reached.
-- Readings are lists of any length: those beyond n are ignored, and 0 stands where one is missing.
use Rattle.std.specs.Prelude.{ℕ, ◌≤◌, ◌<◌, ◌≡◌, refl, Bool, true, false, cond, List, [], length, ℤ, pos}
use Rattle.std.proofs.Common.{sym, ◌∙◌, arith, zero-add, ext_get_or}
use Rattle.laws.specs.Counting.{bit, count}
use Rattle.laws.specs.Every.{Every, every-tab}
use Rattle.laws.specs.Lists.{at, all}
use Rattle.laws.specs.Tabs.{length-tab, get_d-tab}
use Rattle.meaning.specs.declared.Tried.TheVariants.{Works}
use Rattle.meaning.specs.Boxes.{Side, fits, within, children, longest_halved}
use Rattle.meaning.specs.Images.{Step}
use Rattle.meaning.specs.Plants.{Plant, root_of, safe_of, row_of, step_of}
use Rattle.meaning.specs.Rules.{Rules, rule, holds}
use Rattle.meaning.specs.Tables.{reading_of, one_side, rules_from, rules_of}
use Rattle.promises.specs.Tables.Boxes.{within-fits}
use Rattle.promises.specs.Tables.Halving.{one-half}
use Rattle.promises.specs.Tables.Images.{image_holds}
use Rattle.promises.specs.Tables.Laws.{Splits, Motion, Returns}
use Rattle.promises.specs.Tables.Patterns.{Through, Arrives, works-arrives}
use Rattle.promises.specs.Tables.Reached.{Wide, reached-size, some-follows}
use Rattle.promises.specs.Files.Sound.{Sound}
use Rattle.promises.specs.Tables.Splits.{one-child}

-- a reading of just n counts is taken as it is
pub whole : (n : ℕ) (y : List ℤ) → length y ≡ n → reading_of n y ≡ y
whole n y e =
    ext_get_or (pos 0) (reading_of n y) y (length-tab (at y) n 0 ∙ sym e)
    (λ i l. get_d-tab (at y) (pos 0) n 0 i (omega (arith, length-tab (at y) n 0)) ∙ rw zero-add refl)

-- document 01's rules of any form, whatever is tiled and wherever patterns end
module _ (form n N K D : ℕ) (root goal safe : List Side) (step : ℕ → Step) where
  abbrev rules : Rules
  rules = rules_from form n N K D root goal safe step

  pub splits-from : Splits rules
  splits-from b x some = go (one_side form) some
    where
      go : (t : Bool) → (cond t (longest_halved b) (children b) ≡ [] → ⊥)
          → count (λ c. all (fits c (reading_of n x))) (cond t (longest_halved b) (children b)) ≡ bit (all (fits b (reading_of n x)))
      go true some = one-half b (reading_of n x) some
      go false some = one-child b (reading_of n x) some

  -- all that is known of a reading is that the image holds it
  pub motion-from : ((u : ℕ) → 1 ≤ (step u).q) → within root safe ≡ true → Motion rules
  motion-from low in-safe = record {
    Inv = λ b x. holds rules b x ≡ true;
    at-begin = λ b x h. h;
    at-image = λ b u x y h f. image_holds (step u) b (reading_of n x) (reading_of n y) (low u) h f;
    in_kept = λ b x h. h;
    inside = λ a b x w h. within-fits a b (reading_of n x) w h;
    root-safe = λ x h. within-fits root safe (reading_of n x) in-safe h;
  }

module _ (form : ℕ) (p : Plant) where
  pub splits : Splits (rules_of form p)
  splits = splits-from form p.n p.modes p.k p.d (root_of p) (root_of p) (safe_of p) (step_of p)

  -- patterns end in R itself
  pub returns : Returns (rules_of form p)
  returns x h = h

  module _ (s : Sound p) where
    pub motion : Motion (rules_of form p)
    motion = motion-from form p.n p.modes p.k p.d (root_of p) (root_of p) (safe_of p) (step_of p) (λ u. s.ranges.q-low) s.root-safe

    -- S5: where a pattern works for a box, every run through it from a reading of the box stays in S and ends in R
    pub plant-works : (b : List Side) (us : List ℕ) → rule (rules_of form p) b us ≡ Works
        → (x : List ℤ) → holds (rules_of form p) b x ≡ true → (ys : List (List ℤ)) → Through (rules_of form p) us x ys → Arrives (rules_of form p) x ys
    plant-works = works-arrives (rules_of form p) motion

-- S12: in every mode some reading follows every reading, whatever the table's form
module _ (p : Plant) (s : Sound p) where
  pub plant-follows : (u : ℕ) → u < p.modes → (x : List ℤ) → (y : List ℤ) × ((rules_of 1 p).follows u x y ≡ true)
  plant-follows u m x =
      let z = reading_of p.n x in
      let wide : Every (Wide p.q) (step_of p u).rows = every-tab (Wide p.q) (row_of p u) p.n 0 (λ i l h. s.wide u i m (omega arith)) in
      let f = some-follows (step_of p u) z s.ranges.q-low wide in
      let e = reached-size p.q z (step_of p u).rows f.0 f.1 ∙ length-tab (row_of p u) p.n 0 in
      (f.0, rw (whole p.n f.0 e) f.1)
