-- The rules that a table is made, checked and run by, as one record: document 01's are one value of it (page Tables), and another split,
-- another image or another goal is another value. The tile rule is defined here, over them.
use Rattle.std.specs.Prelude.{ℕ, suc, Bool, true, false, List, [], ◌∷◌}
use Rattle.laws.specs.Lists.{all, first_false}
use Rattle.meaning.specs.declared.Tried.{Tried}
use Rattle.meaning.specs.declared.Tried.TheVariants.{Works, Leaves, Misses}

pub record Rules : Type 1 where
  pub Box : Type 0
  pub Reading : Type 0
  -- what is kept of a box along a pattern; the image itself where nothing more is needed
  pub Kept : Type 0
  -- a reading in a box, dimension by dimension
  pub fits : Box → Reading → List Bool
  -- the children of a box, in order; none where it cannot be split
  pub children : Box → List Box
  pub within : Box → Box → Bool
  pub begin : Box → Kept
  pub image : ℕ → Kept → Kept
  pub kept : Kept → Box
  -- the box that is tiled, the box that patterns end in, and the box that nothing may leave: R, R and S
  pub root : Box
  pub goal : Box
  pub safe : Box
  -- the form of its tables, which their header says
  pub form : ℕ
  -- dimensions, depth, longest pattern, modes
  pub n : ℕ
  pub D : ℕ
  pub K : ℕ
  pub N : ℕ
  -- whether a reading may follow another in a mode
  pub follows : ℕ → Reading → Reading → Bool

abbrev pub on_goal : Bool → ℕ → Tried
on_goal true i = Works
on_goal false i = Misses i

abbrev pub on_safe : Bool → ℕ → (ℕ → Tried) → Tried
on_safe true i rest = rest (suc i)
on_safe false i rest = Leaves (suc i)

module _ (r : Rules) where
  open r use {Box, Reading, Kept, fits, within, begin, image, kept, goal, safe}

  -- Tile rule: a pattern works for a box when each successive image lies in S and the last lies in R. i steps are done;
  -- a step is told from 1 on, and leaving S comes before missing R.
  unfoldable pub rule_from : ℕ → Kept → List ℕ → Tried
  rule_from i b [] = on_goal (within (kept b) goal) i
  rule_from i b (u ∷ us) = let c = image u b in on_safe (within (kept c) safe) i λ m. rule_from m c us

  abbrev pub rule : Box → List ℕ → Tried
  rule b us = rule_from 0 (begin b) us

  -- whether a box holds a reading, and the first dimension, from 0, in which it does not
  abbrev pub holds : Box → Reading → Bool
  holds b x = all (fits b x)

  abbrev pub missed : Box → Reading → ℕ
  missed b x = first_false (fits b x)
