-- Trees of tiles (document 01, "Table file"): their bytes, their tiles, and what it is to keep the file's rules.
use Rattle.std.specs.Prelude.{ℕ, zero, suc, ◌+◌, ◌≤◌, ◌<◌, max, ◌≡◌, Bool, cond, List, [], ◌∷◌, ◌++◌, eqb, length}
use Rattle.meaning.specs.Numbers.{bytes_of}
use Rattle.meaning.specs.Rules.{Rules, holds}

mutual
  pub data Tree : Type 0 where
    split : Forest → Tree
    tile : List ℕ → Tree

  pub data Forest : Type 0 where
    leaf : Forest
    more : Tree → Forest → Forest

unfoldable pub modes_bytes : List ℕ → List ℕ
modes_bytes [] = []
modes_bytes (u ∷ us) = bytes_of u ++ modes_bytes us

-- whether a form tells, behind a split's 0, how many bytes each child has but the last (request 2026-01)
abbrev pub tells : ℕ → Bool
tells form = eqb form 2

-- a length, unless its child is the last
abbrev pub unless_last : Forest → List ℕ → List ℕ
unless_last leaf bytes = []
unless_last (more t f) bytes = bytes

-- preorder: number 0 is a split, its children behind it; number k is a tile, followed by its k modes
unfoldable mutual
  pub layout : Bool → Tree → List ℕ
  layout told (split f) = bytes_of 0 ++ (cond told (lengths_of told f) [] ++ layouts told f)
  layout told (tile us) = bytes_of (length us) ++ modes_bytes us

  pub layouts : Bool → Forest → List ℕ
  layouts told leaf = []
  layouts told (more t f) = layout told t ++ layouts told f

  -- the byte length of each child but the last, its own lengths counted
  pub lengths_of : Bool → Forest → List ℕ
  lengths_of told leaf = []
  lengths_of told (more t f) = unless_last f (bytes_of (length (layout told t))) ++ lengths_of told f

-- the table's longest pattern
unfoldable mutual
  pub longest : Tree → ℕ
  longest (split f) = longest_of f
  longest (tile us) = length us

  pub longest_of : Forest → ℕ
  longest_of leaf = 0
  longest_of (more t f) = max (longest t) (longest_of f)

unfoldable pub AllBelow : ℕ → List ℕ → Type 0
AllBelow N [] = Unit {0}
AllBelow N (u ∷ us) = (u < N) × AllBelow N us

-- a pattern has 1..K modes, each below N
pub record Pattern (K N : ℕ) (us : List ℕ) : Type 0 where
  pub some : 1 ≤ length us
  pub few : length us ≤ K
  pub modes : AllBelow N us

module _ (r : Rules) where
  open r use {Box, Reading, children, form, n}

  -- form, n, then the tree
  abbrev pub table_of : Tree → List ℕ
  table_of t = bytes_of form ++ (bytes_of n ++ layout (tells form) t)

  -- A tree over a box with that much depth left, whose splits are possible and not too deep and whose tiles are all as P says.
  module _ (P : Box → List ℕ → Type 0) where
    unfoldable mutual
      pub Over : Tree → ℕ → Box → Type 0
      Over (tile us) d b = P b us
      Over (split f) zero b = ⊥
      Over (split f) (suc d) b = (children b ≡ [] → ⊥) × Overs f d (children b)

      pub Overs : Forest → ℕ → List Box → Type 0
      Overs leaf d [] = Unit {0}
      Overs leaf d (b ∷ bs) = ⊥
      Overs (more t f) d [] = ⊥
      Overs (more t f) d (b ∷ bs) = Over t d b × Overs f d bs

  -- a tile: its box, its modes, its first byte's place
  pub record Tile : Type 0 where
    pub box : Box
    pub modes : List ℕ
    pub place : ℕ

  -- the tiles of a tree over a box, in file order
  unfoldable mutual
    pub tiles_of : Tree → Box → ℕ → List Tile
    tiles_of (tile us) b at = record { box = b; modes = us; place = at } ∷ []
    tiles_of (split f) b at = tiles_in f (children b) (at + length (bytes_of 0) + length (cond (tells form) (lengths_of (tells form) f) []))

    pub tiles_in : Forest → List Box → ℕ → List Tile
    tiles_in leaf bs at = []
    tiles_in (more t f) [] at = []
    tiles_in (more t f) (b ∷ bs) at = tiles_of t b at ++ tiles_in f bs (at + length (layout (tells form) t))

  -- those of them whose box holds a reading
  unfoldable pub having : Reading → List Tile → List Tile
  having x [] = []
  having x (t ∷ ts) = cond (holds r t.box x) (t ∷ having x ts) (having x ts)
