-- The search of a box's first pattern as loops do it, over what the modes do to boxes, whatever that is. What is left to find is said of the levels
-- of a path, each a box and the mode that is tried on it; and how many turns are left at most. Then the path in two arrays, and the same at limits
-- and rows. Definitions alone.
use Rattle.std.specs.Prelude.{ℕ, zero, suc, ◌+◌, ◌-◌, ◌*◌, ◌≤◌, ◌<◌, ◌≡◌, Bool, true, false, List, [], ◌∷◌, ltb, length, ℤ}
use Rattle.std.proofs.Math.Option.{Option, none, some}
use Rattle.laws.specs.Guards.{guard}
use Rattle.meaning.specs.Boxes.{Side}
use Rattle.meaning.specs.Defined.{or_else, map_some, first_mode}
use Rattle.meaning.specs.Plants.{edge_limit}
use Rattle.tables.specs.Boxes.{Small}
use Rattle.tables.specs.Levels.{room, level_in}
use Rattle.tables.specs.Tiles.{longest_pattern, mode_at, pattern_of}
use Rattle.tables.specs.Limits.{stays_lent, lands_lent, image_lent}

pub record Level : Type 0 where
  pub box : List Side
  pub mode : ℕ

abbrev pub level : List Side → ℕ → Level
level b u = record { box = b; mode = u }

-- a pattern that begins with the modes of these levels, the deepest in front
unfoldable pub begun : List Level → List ℕ → List ℕ
begun [] us = us
begun (v ∷ below) us = begun below (v.mode ∷ us)

-- what the modes do to boxes: whether the image of a box stays in S, whether it lands in the goal, and the image; and how many modes there are
pub record Moves : Type 0 where
  pub stays : ℕ → List Side → Bool
  pub lands : ℕ → List Side → Bool
  pub image : ℕ → List Side → List Side
  pub modes : ℕ

module _ (w : Moves) where
  -- behind mode u on box b, the first j modes that work
  unfoldable pub behind : ℕ → List Side → ℕ → Option (List ℕ)
  behind zero b u = guard (w.lands u b) none λ _. some []
  behind (suc j) b u = guard (w.stays u b) none λ _. first_mode (behind j (w.image u b)) w.modes 0

  -- a mode and j behind it
  abbrev pub sought : ℕ → List Side → Option (List ℕ)
  sought j b = first_mode (behind j b) w.modes 0

  -- so many lengths, from one mode and j behind it on
  unfoldable pub sought_from : ℕ → ℕ → List Side → Option (List ℕ)
  sought_from zero j b = none
  sought_from (suc more) j b = or_else (sought j b) λ _. sought_from more (suc j) b

  -- what is left below a level that has j modes behind its own: the levels below it, each moved one mode on
  unfoldable pub left_below : ℕ → List Level → Option (List ℕ)
  left_below j [] = none
  left_below j (v ∷ below) =
      or_else (map_some (begun below) (first_mode (behind (suc j) v.box) (w.modes - suc v.mode) (suc v.mode))) λ _. left_below (suc j) below

  -- and with the level itself, box b, from mode u on
  abbrev pub rest : ℕ → List Side → ℕ → List Level → Option (List ℕ)
  rest j b u below = or_else (map_some (begun below) (first_mode (behind j b) (w.modes - u) u)) λ _. left_below j below

-- ---- how many turns of the loop are left at most: of one mode with j behind it, below a level, and with it

module _ (N : ℕ) where
  unfoldable pub turns : ℕ → ℕ
  turns zero = 1
  turns (suc j) = N * turns j + 2

  unfoldable pub turns_below : ℕ → List Level → ℕ
  turns_below j [] = 0
  turns_below j (v ∷ below) = (N - suc v.mode) * turns (suc j) + 1 + turns_below (suc j) below

  abbrev pub turns_left : ℕ → ℕ → List Level → ℕ
  turns_left j u below = (N - u) * turns j + 1 + turns_below j below

-- ---- the levels below level l, as two arrays hold them

unfoldable pub levels_below : ℕ → List ℤ → List ℕ → ℕ → List Level
levels_below n boxes us zero = []
levels_below n boxes us (suc l) = level (level_in n boxes l) (mode_at us l) ∷ levels_below n boxes us l

-- their boxes small, their modes below N
unfoldable pub Open : ℕ → List Level → Type 0
Open modes [] = Unit {0}
Open modes (v ∷ below) = Small edge_limit v.box × (v.mode < modes) × Open modes below

-- level l and what is below it as they were
pub record SameTo (n l : ℕ) (boxes₀ : List ℤ) (us₀ : List ℕ) (boxes : List ℤ) (us : List ℕ) : Type 0 where
  pub boxes-same : (j : ℕ) → j ≤ l → level_in n boxes j ≡ level_in n boxes₀ j
  pub modes-same : (j : ℕ) → j < l → mode_at us j ≡ mode_at us₀ j

-- a pattern by its length, 0 where there is none
abbrev pub pattern_by : ℕ → List ℕ → Option (List ℕ)
pattern_by zero us = none
pattern_by (suc m) us = some (pattern_of (suc m) us)

-- a mode below N, as a pattern of one
abbrev pub picked : Bool → ℕ → Option (List ℕ)
picked true u = some (u ∷ [])
picked false u = none

abbrev pub one_of : ℕ → ℕ → Option (List ℕ)
one_of modes u = picked (ltb u modes) u

-- ---- at limits and rows

module _ (n modes q : ℕ) (bands coef limits : List ℤ) where
  abbrev pub moves_lent : Moves
  moves_lent = record { stays = stays_lent n coef limits; lands = lands_lent n coef limits; image = image_lent n q bands coef; modes = modes }

  -- the shortest pattern of at most k modes
  abbrev pub shortest_lent : ℕ → List Side → Option (List ℕ)
  shortest_lent k b = sought_from moves_lent k 0 b

  -- a level behind a mode below N is the image of the one before it, and lies in S
  pub record Standing (boxes : List ℤ) (us : List ℕ) : Type 0 where
    pub roomy : length boxes ≡ room
    pub long : length us ≡ longest_pattern
    pub stands : (j : ℕ) → suc j < longest_pattern → mode_at us j < modes
        → (stays_lent n coef limits (mode_at us j) (level_in n boxes j) ≡ true) × (level_in n boxes (suc j) ≡ image_lent n q bands coef (mode_at us j) (level_in n boxes j))
