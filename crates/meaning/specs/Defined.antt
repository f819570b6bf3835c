-- The defined table (document 01, "The defined table"): for a box the shortest pattern that works, and among equal lengths the first in mode
-- order; if none works and depth is left, split and go on; if it cannot split, there is no table.
use Rattle.std.specs.Prelude.{ℕ, zero, suc, List, [], ◌∷◌}
use Rattle.std.proofs.Math.Option.{Option, none, some}
use Rattle.laws.specs.Guards.{guard}
use Rattle.meaning.specs.Rules.{Rules}
use Rattle.meaning.specs.Trees.{Tree, Forest, split, tile, leaf, more}

abbrev pub or_else : {A : Type 0} → Option A → (Unit {0} → Option A) → Option A
or_else (some a) rest = some a
or_else none rest = rest tt

abbrev pub map_some : {A B : Type 0} → (A → B) → Option A → Option B
map_some f (some a) = some (f a)
map_some f none = none

abbrev pub and_also : Option Tree → (Unit {0} → Option Forest) → Option Forest
and_also (some t) rest = map_some (more t) (rest tt)
and_also none rest = none

-- modes u, u + 1, .. in order, m of them: the first for which `try` finds the rest of a pattern
unfoldable pub first_mode : (ℕ → Option (List ℕ)) → ℕ → ℕ → Option (List ℕ)
first_mode try zero u = none
first_mode try (suc m) u = or_else (map_some (λ us. u ∷ us) (try u)) λ _. first_mode try m (suc u)

-- a table of each child
unfoldable pub all_of : {B : Type 0} → (B → Option Tree) → List B → Option Forest
all_of one [] = some leaf
all_of one (b ∷ bs) = and_also (one b) λ _. all_of one bs

abbrev pub split_of : {B : Type 0} → (B → Option Tree) → List B → Option Tree
split_of one [] = none
split_of one (b ∷ bs) = map_some split (all_of one (b ∷ bs))

module _ (r : Rules) where
  open r use {Box, Kept, children, within, begin, image, kept, root, goal, safe, D, K, N}

  -- of the patterns of just m modes that work from what is kept, the first in mode order, compared from the first mode
  unfoldable pub exactly : ℕ → Kept → Option (List ℕ)
  exactly zero b = guard (within (kept b) goal) none λ _. some []
  exactly (suc m) b = first_mode (λ u. let c = image u b in guard (within (kept c) safe) none λ _. exactly m c) N 0

  -- lengths m, m + 1, .. in order, j of them
  unfoldable pub shortest : ℕ → ℕ → Box → Option (List ℕ)
  shortest zero m b = none
  shortest (suc j) m b = or_else (exactly m (begin b)) λ _. shortest j (suc m) b

  abbrev pub first_pattern : Box → Option (List ℕ)
  first_pattern b = shortest K 1 b

  -- the defined tree of a box with depth d left
  unfoldable pub tree_of : ℕ → Box → Option Tree
  tree_of zero b = map_some tile (first_pattern b)
  tree_of (suc d) b = or_else (map_some tile (first_pattern b)) λ _. split_of (λ c. tree_of d c) (children b)

  abbrev pub defined_tree : Option Tree
  defined_tree = tree_of D root
