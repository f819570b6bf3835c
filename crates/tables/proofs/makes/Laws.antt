-- What the maker leaves: 9 where there is no table, else the draft's front; plant first, then the form, then its own frame's table. Assumes nothing.
use Prim.Native.Nat.{ℕ}
use mathlib.Core.Path.{◌≡◌, refl, sym, ap, ◌∙◌}
use mathlib.Core.Bool.{true, false}
use mathlib.Core.List.{List}
use mathlib.Core.Option.{none, some}
use Rattle.meaning.specs.declared.Refusal.{Refusal}
use Rattle.meaning.specs.Refusals.{wrong_form, no_table}
use Rattle.meaning.specs.Files.{Judged, good, bad}
use Rattle.meaning.specs.Buffers.{refused_with, left}
use Rattle.meaning.specs.Defined.{defined_tree}
use Rattle.meaning.specs.Plants.{Plant, plant_judged}
use Rattle.meaning.specs.Rules.{Rules}
use Rattle.meaning.specs.Tables.{known_form, made, maker_left}
use Rattle.meaning.specs.Trees.{Tree, table_of}
use Rattle.tables.specs.declared.frames.Frame.{Frame}
use Rattle.tables.specs.Frames.{own_frame, rules_by}
use Rattle.tables.specs.Makes.{defined_left}
use Rattle.tables.proofs.drafts.Laws.{table_none, table-some}

module _ (r : Rules) (buf : List ℕ) where
  pub left-none : defined_tree r ≡ none → refused_with (no_table 0) buf ≡ defined_left r buf
  left-none e = sym (ap (λ (j : Judged (List ℕ)). left j buf) (table_none r 0 e))

  pub left-drafted : (t : Tree) → defined_tree r ≡ some t → (bytes : List ℕ) → table_of r t ≡ bytes → left (good bytes) buf ≡ defined_left r buf
  left-drafted t e bytes q = ap (λ (x : List ℕ). left (good x) buf) (sym q) ∙ sym (ap (λ (j : Judged (List ℕ)). left j buf) (table-some r 0 t e))

-- ---- the maker: plant, the form that it is told, then its own frame's table

module _ (plant : List ℕ) (form : ℕ) (buf : List ℕ) where
  pub left-bad : (e : Refusal) → plant_judged plant ≡ bad e → refused_with e buf ≡ maker_left plant form buf
  unfolding maker_left made
  left-bad e h = rw h refl

  pub left-unknown : (p : Plant) → plant_judged plant ≡ good p → known_form form ≡ false → refused_with wrong_form buf ≡ maker_left plant form buf
  unfolding maker_left made
  left-unknown p h k = rw (h, k) refl

  pub left-own : (p : Plant) → plant_judged plant ≡ good p → (f : Frame) → f ≡ own_frame p → known_form form ≡ true
      → defined_left (rules_by f p.bands p.coef form) buf ≡ maker_left plant form buf
  unfolding maker_left made
  left-own p h f e k = rw (h, e, k) refl
