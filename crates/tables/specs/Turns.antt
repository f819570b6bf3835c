-- A tree that lies in some bytes, its splits telling lengths or not; and what it is to find its size, and to turn it into the other layout. Of a box only its
-- children are asked, so the rules are those of a frame's counts alone. Definitions alone.
use Rattle.std.specs.Prelude.{ℕ, ◌≤◌, ◌≡◌, Bool, true, false, not, List, [], ◌++◌, length, Ok}
use Rattle.laws.specs.Standing.{Stands}
use Rattle.laws.specs.Writing.{Put}
use Rattle.meaning.specs.Answers.{Written}
use Rattle.meaning.specs.Boxes.{Side}
use Rattle.meaning.specs.Buffers.{left}
use Rattle.meaning.specs.Files.{good}
use Rattle.meaning.specs.Numbers.{bytes_of}
use Rattle.meaning.specs.Plants.{most_modes}
use Rattle.meaning.specs.Rules.{Rules}
use Rattle.meaning.specs.Tables.{depth_by, rules_from}
use Rattle.meaning.specs.Trees.{Tree, Forest, layout, layouts, lengths_of, Pattern, Over, Overs}
use Rattle.promises.specs.Tables.SplitLengths.{told_bytes}
use Rattle.tables.specs.declared.frames.Counts.{Counts}
use Rattle.tables.specs.declared.frames.Frame.{Frame}
use Rattle.tables.specs.declared.turns.Size.{Size}
use Rattle.tables.specs.declared.turns.Turned.{Turned}
use Rattle.tables.specs.Boxes.{box_of}
use Rattle.tables.specs.Frames.{counts_of}
use Rattle.tables.specs.Images.{step_from}
use Rattle.tables.specs.Lengths.{behind_at}

abbrev pub shapes : Counts → Rules
shapes f = rules_from f.form f.n f.modes f.k 0 [] [] [] (step_from f.n f.q [] [])

-- what the counts of a sound frame keep
abbrev pub CountsSound : Counts → Type 0
CountsSound f = (f.n ≤ 4) × (f.k ≤ 6) × (f.modes ≤ most_modes)

-- no tree of a table has more bytes
abbrev pub most_tree : ℕ
most_tree = 58_963

-- a tree over a box with depth d left lies in s from `at` up to m; and those of some boxes, one behind another
pub record TreeLies (f : Counts) (told : Bool) (s : List ℕ) (d : ℕ) (b : List Side) (at : ℕ) (t : Tree) (m : ℕ) : Type 0 where
  pub over : Over (shapes f) (λ _ us. Pattern f.k f.modes us) t d b
  pub stand : Stands s at (layout told t) m
  pub short : length (layout true t) ≤ most_tree

pub record TreesLie (f : Counts) (told : Bool) (s : List ℕ) (d : ℕ) (bs : List (List Side)) (at : ℕ) (g : Forest) (m : ℕ) : Type 0 where
  pub over : Overs (shapes f) (λ _ us. Pattern f.k f.modes us) g d bs
  pub stand : Stands s at (layouts told g) m
  pub short : length (layouts true g) ≤ most_tree

-- between a split's 0, which ends at `at`, and the place from which its children lie: their lengths, where they are told
pub record SplitLies (f : Counts) (told : Bool) (s : List ℕ) (d : ℕ) (bs : List (List Side)) (at first : ℕ) (g : Forest) (m : ℕ) : Type 0 where
  pub told-there : Stands s at (told_bytes told g) first
  pub trees : TreesLie f told s d bs first g m

-- some tree lies there, or some trees
abbrev pub SomeTree : Counts → Bool → List ℕ → ℕ → List Side → ℕ → Type 0
SomeTree f told s d b at = (t : Tree) × (m : ℕ) × TreeLies f told s d b at t m

abbrev pub SomeTrees : Counts → Bool → List ℕ → ℕ → List (List Side) → ℕ → Type 0
SomeTrees f told s d bs at = (g : Forest) × (m : ℕ) × TreesLie f told s d bs at g m

abbrev pub SomeSplit : Counts → Bool → List ℕ → ℕ → List (List Side) → ℕ → Type 0
SomeSplit f told s d bs at = (first : ℕ) × (g : Forest) × (m : ℕ) × SplitLies f told s d bs at first g m

-- the place behind k numbers, where none of them is broken
abbrev pub Passed : ℕ → List ℕ → ℕ → ℕ → Type 0
Passed k s at next = (m : ℕ) → behind_at k s at ≡ Ok m → next ≡ m

-- how many bytes a length takes, where it is told
abbrev pub length_if : Bool → ℕ → ℕ
length_if false v = 0
length_if true v = length (bytes_of v)

-- the place behind the tree that lies there, and how many bytes it has where lengths are told
abbrev pub Measured : Counts → List ℕ → ℕ → List Side → ℕ → Size → Type 0
Measured f s d b at z = (t : Tree) (m : ℕ) → TreeLies f false s d b at t m → (z.behind ≡ m) × (z.size ≡ length (layout true t))

-- the lengths of the trees that lie there, written; and either they or, where they were told, nothing, the place behind what was told being found
abbrev pub Told : Counts → List ℕ → ℕ → List (List Side) → ℕ → List ℕ → ℕ → ℕ → List ℕ → Type 0
Told f s d bs at buf to next out = (g : Forest) (m : ℕ) → TreesLie f false s d bs at g m → Put buf to (lengths_of true g) next out

abbrev pub Between : Counts → Bool → List ℕ → ℕ → List (List Side) → ℕ → List ℕ → ℕ → Turned → List ℕ → Type 0
Between f told s d bs at buf to z out =
    (first : ℕ) (g : Forest) (m : ℕ) → SplitLies f told s d bs at first g m → (z.behind ≡ first) × Put buf to (told_bytes (not told) g) z.to out

-- the tree that lies there, written in the other layout
abbrev pub Turns : Counts → Bool → List ℕ → ℕ → List Side → ℕ → List ℕ → ℕ → Turned → List ℕ → Type 0
Turns f told s d b at buf to z out = (t : Tree) (m : ℕ) → TreeLies f told s d b at t m → (z.behind ≡ m) × Put buf to (layout (not told) t) z.to out

-- ---- a frame's table: form and n are a byte each, then its tree

abbrev pub SomeTable : Frame → Bool → List ℕ → Type 0
SomeTable f told s = SomeTree (counts_of f) told s (depth_by f.form f.n f.d) (box_of f.n f.root) 2

abbrev pub TableLies : Frame → Bool → List ℕ → Tree → ℕ → Type 0
TableLies f told s t m = TreeLies (counts_of f) told s (depth_by f.form f.n f.d) (box_of f.n f.root) 2 t m

-- the same tree's table of a form that lays it out so
abbrev pub table_by : ℕ → ℕ → Bool → Tree → List ℕ
table_by form n told t = bytes_of form ++ (bytes_of n ++ layout told t)

abbrev pub TableTurned : Frame → Bool → ℕ → List ℕ → List ℕ → ℕ → ℕ → List ℕ → Type 0
TableTurned f told form s buf at next out = (t : Tree) (m : ℕ) → TableLies f told s t m → Put buf at (table_by form f.n (not told) t) next out

-- how many bytes it has where lengths are told
abbrev pub TableSized : Frame → List ℕ → ℕ → Type 0
TableSized f s size = (t : Tree) (m : ℕ) → TableLies f false s t m → size ≡ length (table_by f.form f.n true t)

abbrev pub TableLeft : Frame → Bool → ℕ → List ℕ → List ℕ → Written → List ℕ → Type 0
TableLeft f told form s buf a out =
    (t : Tree) (m : ℕ) → TableLies f told s t m → (a ≡ (left (good (table_by form f.n (not told) t)) buf).answer) × (out ≡ (left (good (table_by form f.n (not told) t)) buf).buffer)
