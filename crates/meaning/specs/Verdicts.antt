-- The checker's verdict on a table (document 01, "Table file", rows 1, 2, 6, 7, 8 and the order of judgement): the header, then the tree in
-- file order; a tile's modes are all read before its images; leftover bytes last. One walk serves the checker, whose judge of a tile is
-- the tile rule, and the passing of a subtree, whose judge lets every tile be.
use Rattle.std.specs.Prelude.{ℕ, zero, suc, ◌+◌, ◌-◌, Bool, true, false, List, [], ◌∷◌, length, ltb, leb, eqb, Some, None, Ok, Err}
use Rattle.laws.specs.Guards.{guard}
use Rattle.meaning.specs.Answers.{Number, Walk, Verdict}
use Rattle.meaning.specs.declared.Refusal.{Refusal}
use Rattle.meaning.specs.declared.Tried.{Tried}
use Rattle.meaning.specs.declared.Tried.TheVariants.{Works, Leaves, Misses}
use Rattle.meaning.specs.Refusals.{broken, wrong_form, bad_table, leaves, misses}
use Rattle.meaning.specs.Numbers.{number_at}
use Rattle.meaning.specs.Files.{Read, read, refused, before}
use Rattle.meaning.specs.Rules.{Rules, rule}
use Rattle.meaning.specs.Trees.{tells}

abbrev pub on_number {ℓ} : {A : Type ℓ} → Number → A → (ℕ → ℕ → A) → A
on_number None otherwise rest = otherwise
on_number (Some (v, next)) otherwise rest = rest v next

abbrev pub on_walk {ℓ} : {A : Type ℓ} → Walk → (Refusal → A) → (ℕ → A) → A
on_walk (Err e) refuse rest = refuse e
on_walk (Ok at) refuse rest = rest at

-- a tile's judge has spoken
abbrev pub on_tried : Tried → ℕ → ℕ → Walk
on_tried Works at next = Ok next
on_tried (Leaves i) at next = Err (leaves at i)
on_tried (Misses i) at next = Err (misses at i)

-- a tile's modes were read
abbrev pub on_modes : Read (List ℕ) → ℕ → (List ℕ → Tried) → Walk
on_modes (refused e) at judge = Err e
on_modes (read us next) at judge = on_tried (judge us) at next

-- a length that a split tells of a child, and where it stands (request 2026-01)
pub record Length : Type 0 where
  pub place : ℕ
  pub size : ℕ

abbrev pub length_at : ℕ → ℕ → Length
length_at place size = record { place = place; size = size }

abbrev pub on_read {ℓ} : {A : Type 0} {B : Type ℓ} → Read A → (Refusal → B) → (A → ℕ → B) → B
on_read (refused e) refuse rest = refuse e
on_read (read a next) refuse rest = rest a next

-- k lengths
unfoldable pub lengths_at : ℕ → List ℕ → ℕ → Read (List Length)
lengths_at zero s at = read [] at
lengths_at (suc k) s at = on_number (number_at s at) (refused (broken at)) λ size next. before (length_at at size) (lengths_at k s next)

-- those of a split's children, of all but the last; none where they are not told
abbrev pub lengths_by : {B : Type 0} → Bool → List B → List ℕ → ℕ → Read (List Length)
lengths_by false bs s at = read [] at
lengths_by true bs s at = lengths_at (length bs - 1) s at

-- children one after another, each held to the length that is told of it as soon as it is read
unfoldable pub each : {B : Type 0} → (ℕ → B → Walk) → List B → List Length → ℕ → Walk
each one [] ls at = Ok at
each one (b ∷ bs) [] at = on_walk (one at b) Err λ next. each one bs [] next
each one (b ∷ bs) (l ∷ ls) at =
    on_walk (one at b) Err λ next.
    guard (eqb next (at + l.size)) (Err (bad_table l.place)) λ _.
    each one bs ls next

-- a split's children; where there are none it is not possible
abbrev pub split_at : {A B : Type 0} → List B → A → (List B → A) → A
split_at [] otherwise rest = otherwise
split_at (b ∷ bs) otherwise rest = rest (b ∷ bs)

-- a node's number: 0 is a split, k in 1..K a tile, anything else out of place
abbrev pub on_size : {A : Type 0} → ℕ → ℕ → A → A → (ℕ → A) → A
on_size K zero otherwise split tile = split
on_size K (suc k) otherwise split tile = guard (leb (suc k) K) otherwise λ _. tile (suc k)

-- k modes, each below N
unfoldable pub modes_at : ℕ → ℕ → List ℕ → ℕ → Read (List ℕ)
modes_at N zero s at = read [] at
modes_at N (suc k) s at =
    on_number (number_at s at) (refused (broken at)) λ u next.
    guard (ltb u N) (refused (bad_table at)) λ _.
    before u (modes_at N k s next)

-- a node at `at`: how a refusal is told, what a split does, what a tile of k modes, at most K, does, each with the place behind the number
abbrev pub node_at : {A : Type 0} → ℕ → List ℕ → ℕ → (Refusal → A) → (ℕ → A) → (ℕ → ℕ → A) → A
node_at K s at refuse split tile =
    on_number (number_at s at) (refuse (broken at)) λ k next.
    on_size K k (refuse (bad_table at)) (split next) (λ k. tile k next)

-- form, then n: the place behind them
unfoldable pub header : ℕ → ℕ → List ℕ → Walk
header form n s =
    on_number (number_at s 0) (Err (broken 0)) λ told at.
    guard (eqb told form) (Err wrong_form) λ _.
    on_number (number_at s at) (Err (broken at)) λ m next.
    guard (eqb m n) (Err (bad_table at)) λ _.
    Ok next

module _ (r : Rules) where
  open r use {Box, children, root, form, n, D, K, N}

  -- the tree at `at`, over a box with depth d left
  unfoldable pub walk : (Box → List ℕ → Tried) → ℕ → List ℕ → ℕ → Box → Walk
  walk judge zero s at b = node_at K s at Err
      (λ next. Err (bad_table at))
      (λ k next. on_modes (modes_at N k s next) at (judge b))
  walk judge (suc d) s at b = node_at K s at Err
      (λ next. split_at (children b) (Err (bad_table at)) λ cs.
      on_read (lengths_by (tells form) cs s next) Err λ ls first. each (λ p c. walk judge d s p c) cs ls first)
      (λ k next. on_modes (modes_at N k s next) at (judge b))

  -- the place behind a table: the header and the tree
  abbrev pub table_end : List ℕ → Walk
  table_end s = on_walk (header form n s) Err λ at. walk (rule r) D s at root

  unfoldable pub verdict : List ℕ → Verdict
  verdict s =
      on_walk (table_end s) Err λ next.
      guard (eqb next (length s)) (Err (bad_table next)) λ _.
      Ok tt
