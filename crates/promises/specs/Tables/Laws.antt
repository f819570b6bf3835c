-- What the theorems over tables ask of the rules, each theorem naming only what it needs. Definitions alone: that document 01's rules of a sound
-- plant are so is pages PlantRules (Sizes) and PlantMotion (Splits, Motion, Returns).
use Rattle.std.specs.Prelude.{ℕ, ◌^◌, ◌≤◌, ◌<◌, ◌≡◌, Bool, true, false, List, [], length}
use Rattle.laws.specs.Counting.{bit, count}
use Rattle.meaning.specs.Rules.{Rules, holds}
use Rattle.meaning.specs.Trees.{Tree, Forest, split, tile, leaf, more, tells, layout, Pattern, Over}

-- each length that a split tells of its children, where lengths are told, is a number of at most five bytes
unfoldable pub Small : Bool → Forest → Type 0
Small false f = Unit {0}
Small true leaf = Unit {0}
Small true (more t leaf) = Unit {0}
Small true (more t (more u f)) = (length (layout true t) < 2 ^ 35) × Small true (more u f)

-- and so of every split of a tree
unfoldable mutual
  pub Fits : Bool → Tree → Type 0
  Fits told (tile us) = Unit {0}
  Fits told (split f) = Small told f × FitsEach told f

  pub FitsEach : Bool → Forest → Type 0
  FitsEach told leaf = Unit {0}
  FitsEach told (more t f) = Fits told t × FitsEach told f

module _ (r : Rules) where
  open r use {Box, Reading, Kept, children, within, begin, image, kept, root, goal, safe, form, n, D, K, N, follows}

  -- the form, n, each node and each mode are numbers of at most five bytes
  pub record Sizes : Type 0 where
    pub forms : form < 2 ^ 35
    pub dimensions : n < 2 ^ 35
    pub nodes : K < 2 ^ 35
    pub modes : N ≤ 2 ^ 35
    -- and so is each length that a tree of sound shape tells
    pub lengths : (t : Tree) → Over r (λ b us. Pattern K N us) t D root → Fits (tells form) t

  -- how many of the boxes hold a reading
  abbrev pub holding : List Box → Reading → ℕ
  holding bs x = count (λ b. holds r b x) bs

  -- where a box is split, a reading of it is in exactly one child, and any other in none
  abbrev pub Splits : Type 0
  Splits = (b : Box) (x : Reading) → (children b ≡ [] → ⊥) → holding (children b) x ≡ bit (holds r b x)

  -- A pattern that works keeps its word.
  pub record Motion : Type 1 where
    -- a reading is where what was kept says: in a box when a pattern begins, in the image after each mode
    pub Inv : Kept → Reading → Type 0
    pub at-begin : (b : Box) (x : Reading) → holds r b x ≡ true → Inv (begin b) x
    pub at-image : (k : Kept) (u : ℕ) (x y : Reading) → Inv k x → follows u x y ≡ true → Inv (image u k) y
    pub in_kept : (k : Kept) (x : Reading) → Inv k x → holds r (kept k) x ≡ true
    -- a box that lies in another holds no reading that the other does not
    pub inside : (a b : Box) (x : Reading) → within a b ≡ true → holds r a x ≡ true → holds r b x ≡ true
    -- the box that is tiled lies in S
    pub root-safe : (x : Reading) → holds r root x ≡ true → holds r safe x ≡ true

  -- The box that patterns end in lies in the box that is tiled, so that where one ends another begins. Only trips repeated ask for it.
  abbrev pub Returns : Type 0
  Returns = (x : Reading) → holds r goal x ≡ true → holds r root x ≡ true
