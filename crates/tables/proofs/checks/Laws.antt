-- The check of a table in the terms that the code has: header and tree, then leftover bytes. At any rules. Assumes nothing.
use Rattle.std.specs.Prelude.{Ok, Err}
use Prim.Native.Nat.{ℕ}
use mathlib.Core.Path.{◌≡◌, refl}
use mathlib.Core.Bool.{true}
use mathlib.Core.List.{List}
use borrow.Author.Tests.{eq-eqb, ne_eqb}
use lib.IntN.{ℤ}
use lib.ListN.{length}
use Rattle.meaning.specs.Answers.{Walk}
use Rattle.meaning.specs.declared.Refusal.{Refusal}
use Rattle.meaning.specs.Refusals.{bad_table}
use Rattle.meaning.specs.Rules.{Rules, rule}
use Rattle.meaning.specs.Tables.{depth_by}
use Rattle.meaning.specs.Verdicts.{walk, header, table_end, verdict}
use Rattle.tables.specs.declared.frames.Counts.{Counts}
use Rattle.tables.specs.declared.frames.Frame.{Frame}
use Rattle.tables.specs.Boxes.{box_of}
use Rattle.tables.specs.Frames.{frame_from, counts_of, edges_of, rules_in}
use Rattle.tables.specs.Walks.{walk_by}

-- w is the answer for the header
module _ (r : Rules) (s : List ℕ) (w : Walk) (q : w ≡ header (Rules.form r) (Rules.n r) s) where
  pub header-stopped : (e : Refusal) → w ≡ Err e → Err e ≡ table_end r s
  header-stopped e h = rw (← q, h) refl

  pub tree-walked : (at : ℕ) → w ≡ Ok at → walk r (rule r) (Rules.D r) s at (Rules.root r) ≡ table_end r s
  tree-walked at h = rw (← q, h) refl

-- the walk by what a frame is lent as
pub by-walk : (f : Frame) (bands coef : List ℤ) (s : List ℕ) {w : Walk} → w ≡ header f.form f.n s → {at : ℕ} → w ≡ Ok at
    → {c : Counts} {edges : List (List ℤ)} {d : ℕ} → c ≡ counts_of f → edges ≡ edges_of f → d ≡ depth_by f.form f.n f.d
    → walk_by true (rules_in (frame_from c edges) bands coef) d s at (box_of c.n f.root) ≡ table_end (rules_in f bands coef) s
by-walk f bands coef s {w} q {at} h p e d = rw (p, e, d) (tree-walked (rules_in f bands coef) s w q at h)

-- w is the answer for header and tree
module _ (r : Rules) (s : List ℕ) (w : Walk) (q : w ≡ table_end r s) where
  pub table-stopped : (e : Refusal) → w ≡ Err e → Err e ≡ verdict r s
  unfolding verdict
  table-stopped e h = rw (← q, h) refl

  module _ (next : ℕ) (h : w ≡ Ok next) where
    pub left_over : (next ≡ length s → ⊥) → Err (bad_table next) ≡ verdict r s
    unfolding verdict
    left_over z = rw (← q, h, ne_eqb _ _ z) refl

    pub accepted : next ≡ length s → Ok tt ≡ verdict r s
    unfolding verdict
    accepted z = rw (← q, h, eq-eqb next (length s) z) refl
