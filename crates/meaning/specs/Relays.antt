-- An accepted table as one of another form (request 2026-01): the same tree, laid out as that form lays it out. Forms that split boxes alike are turned
-- into each other, so 1 and 2, and any table into its own form. Plant, then all that the checker says of the table, then 2, then 10.
use Rattle.std.specs.Prelude.{ℕ, zero, suc, Bool, ◌&&◌, not, cond, List, [], ◌∷◌, Ok, Err}
use Rattle.laws.specs.Guards.{guard}
use Rattle.meaning.specs.Answers.{Verdict}
use Rattle.meaning.specs.declared.Refusal.{Refusal}
use Rattle.meaning.specs.Refusals.{wrong_form, bad_table}
use Rattle.meaning.specs.Files.{Read, read, refused, Judged, good, bad}
use Rattle.meaning.specs.Plants.{plant_judged}
use Rattle.meaning.specs.Rules.{Rules}
use Rattle.meaning.specs.Trees.{Tree, Forest, split, tile, leaf, more, tells, table_of}
use Rattle.meaning.specs.Verdicts.{on_walk, on_read, lengths_by, split_at, modes_at, node_at, header, verdict}
use Rattle.meaning.specs.Tables.{one_side, known_form, form_of, rules_of, on_plant}
use Rattle.meaning.specs.Buffers.{Left, left}

abbrev pub read_as : {A B : Type 0} → (A → B) → Read A → Read B
read_as f (refused e) = refused e
read_as f (read a next) = read (f a) next

-- the trees of some boxes, one behind another
unfoldable pub trees_at : {B : Type 0} → (ℕ → B → Read Tree) → List B → ℕ → Read Forest
trees_at one [] at = read leaf at
trees_at one (b ∷ bs) at = on_read (one at b) refused λ t next. read_as (more t) (trees_at one bs next)

module _ (r : Rules) where
  open r use {Box, children, root, form, n, D, K, N}

  -- The tree that stands at `at` over a box with depth d left, and the place behind it: read as the checker walks over it, with lengths read over and no
  -- image tested.
  unfoldable pub tree_at : ℕ → List ℕ → ℕ → Box → Read Tree
  tree_at zero s at b = node_at K s at refused
      (λ next. refused (bad_table at))
      (λ k next. read_as tile (modes_at N k s next))
  tree_at (suc d) s at b = node_at K s at refused
      (λ next. split_at (children b) (refused (bad_table at)) λ cs.
      on_read (lengths_by (tells form) cs s next) refused λ _ first. read_as split (trees_at (λ p c. tree_at d s p c) cs first))
      (λ k next. read_as tile (modes_at N k s next))

  -- the tree of a table; behind an accepted verdict nothing of it is refused
  abbrev pub tree_in : List ℕ → Judged Tree
  tree_in s = on_walk (header form n s) bad λ at. on_read (tree_at D s at root) bad λ t _. good t

-- whether two forms split boxes alike: both halve one side, or neither does
abbrev pub splits_alike : ℕ → ℕ → Bool
splits_alike form other = cond (one_side form) (one_side other) (not (one_side other))

abbrev pub on_verdict : {A : Type 0} → Verdict → (Refusal → A) → (Unit {0} → A) → A
on_verdict (Err e) refuse rest = refuse e
on_verdict (Ok _) refuse rest = rest tt

abbrev pub on_tree : Judged Tree → (Tree → Judged (List ℕ)) → Judged (List ℕ)
on_tree (bad e) rest = bad e
on_tree (good t) rest = rest t

unfoldable pub relayed : List ℕ → List ℕ → ℕ → Judged (List ℕ)
relayed plant table form =
    on_plant (plant_judged plant) bad λ p.
    on_verdict (verdict (rules_of (form_of table) p) table) bad λ _.
    guard (known_form form && splits_alike (form_of table) form) (bad wrong_form) λ _.
    on_tree (tree_in (rules_of (form_of table) p) table) λ t. good (table_of (rules_of form p) t)

unfoldable pub relay_left : List ℕ → List ℕ → ℕ → List ℕ → Left
relay_left plant table form buf = left (relayed plant table form) buf
