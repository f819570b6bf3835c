-- What is drafted in an array: the bytes of a tree, where there is one, its splits telling no lengths whatever the form; and how many they are at the most. Definitions
-- alone.
use Rattle.std.specs.Prelude.{ℕ, ◌+◌, ◌≡◌, false, List, length, Some, None}
use Rattle.std.specs.Prelude.{Option as Maybe}
use Rattle.std.proofs.Math.Option.{Option, none, some}
use Rattle.laws.specs.Writing.{Put}
use Rattle.meaning.specs.Trees.{Tree, layout, layouts}
use Rattle.meaning.specs.Rules.{Rules}
use Rattle.meaning.specs.Defined.{map_some, all_of, tree_of, defined_tree}
use Rattle.meaning.specs.Tables.{depth_by}
use Rattle.promises.specs.Tables.TreeLengths.{most, children_most, tile_bytes}
use Rattle.tables.specs.declared.frames.Frame.{Frame}
use Rattle.tables.specs.Turns.{table_by}

-- a tree that was written: the place behind it, one past the buffer's end where there was not room for all; or none, where there is no such tree
abbrev pub Grown : Type 0
Grown = Maybe ℕ

-- The bytes that are asked for, or none: what was answered, and the buffer as it is left. Where there are none the bytes in it are left open,
-- for the maker zeros them.
abbrev pub Wrote : Option (List ℕ) → List ℕ → ℕ → Grown → List ℕ → Type 0
Wrote (some bytes) buf at (Some next) out = Put buf at bytes next out
Wrote (some bytes) buf at None out = ⊥
Wrote none buf at (Some next) out = ⊥
Wrote none buf at None out = length out ≡ length buf

-- as many bytes as the largest draft has
abbrev pub most_draft : ℕ
most_draft = 57_345

-- no draft of a frame's table has more
abbrev pub bytes_most : Frame → ℕ
bytes_most f = 2 + most false (children_most f.form f.n) (tile_bytes f.modes) (depth_by f.form f.n f.d)

module _ (r : Rules) where
  open r use {Box, form, n}

  -- the bytes of the defined tree of a box with depth d left, of those of some boxes in order, and of the whole table
  abbrev pub tree_bytes : ℕ → Box → Option (List ℕ)
  tree_bytes d b = map_some (layout false) (tree_of r d b)

  abbrev pub trees_bytes : ℕ → List Box → Option (List ℕ)
  trees_bytes d bs = map_some (layouts false) (all_of (λ c. tree_of r d c) bs)

  abbrev pub draft_of : Tree → List ℕ
  draft_of t = table_by form n false t

  abbrev pub draft_bytes : Option (List ℕ)
  draft_bytes = map_some draft_of (defined_tree r)
