-- S6 over bytes: the checker's verdict on a plant's and a table's bytes is "accepted" exactly where the plant is judged good and the table is the
-- layout of a tree of sound shape whose tiles all work; and a table is the layout of at most one tree of sound shape. Relies on pages Accept and
-- Unique, at document 01's rules. What a refusal tells is left out: that is the definition `checked` itself.
use Rattle.std.specs.Prelude.{ℕ, ◌≡◌, refl, true, ◌↔◌, List, Ok, Err}
use Rattle.std.proofs.Common.{sym, ap, ◌∙◌}
use Rattle.meaning.specs.Files.{Judged, good, bad}
use Rattle.meaning.specs.Plants.{Plant, plant_judged}
use Rattle.meaning.specs.Tables as T
use Rattle.meaning.specs.Tables.{known_form, form_of, rules_of, on_plant, checked}
use Rattle.meaning.specs.Trees.{Tree, table_of}
use Rattle.meaning.specs.Verdicts.{verdict}
use Rattle.promises.specs.Tables.Accept.{refused-accepted, accepted-exactly}
use Rattle.promises.specs.Tables.PlantRules.{judged-sizes, checked-as}
use Rattle.promises.specs.Tables.Shapes.{Shaped, Working}
use Rattle.promises.specs.Tables.TableForms.{form-known, table-form}
use Rattle.promises.specs.Tables.Unique.{one-tree}

-- The table is that of a tree over the plant's R, of sound shape by the form that the table says, whose tiles all keep the tile rule.
pub record Tiled (plant table : List ℕ) : Type 0 where
  pub p : Plant
  pub judged : plant_judged plant ≡ good p
  pub tree : Tree
  pub works : Working (rules_of (form_of table) p) tree
  pub is : table ≡ table_of (rules_of (form_of table) p) tree

-- a plant on which some table is accepted was judged good
pub accepted-judged : (plant table : List ℕ) → checked plant table ≡ Ok tt → (p : Plant) × (plant_judged plant ≡ good p)
unfolding T.checked
accepted-judged plant table = go (plant_judged plant) refl
  where
    go : (j : Judged Plant) → plant_judged plant ≡ j → on_plant j Err (λ p. verdict (rules_of (form_of table) p) table) ≡ Ok tt
        → (p : Plant) × (plant_judged plant ≡ good p)
    go (good p) e a = (p, e)
    go (bad r) e a = absurd (refused-accepted a)

-- S6
pub checked-exactly : (plant table : List ℕ) → (checked plant table ≡ Ok tt) ↔ Tiled plant table
checked-exactly plant table = (
  λ a.
      let w = accepted-judged plant table a in
      let t = (accepted-exactly (rules_of (form_of table) w.0) (judged-sizes plant w.0 w.1 (form_of table) (form-known table)) table).0 (sym (checked-as plant w.0 w.1 table) ∙ a) in
      record { p = w.0; judged = w.1; tree = t.0; works = t.1; is = t.2 },
  λ t.
      checked-as plant t.p t.judged table
      ∙ (accepted-exactly (rules_of (form_of table) t.p) (judged-sizes plant t.p t.judged (form_of table) (form-known table)) table).1 (t.tree, t.works, t.is),
)

-- a table is the layout of at most one tree of sound shape, its tiles working or not, whatever its form
pub one-tree-a-table : (plant table : List ℕ) (p : Plant) → plant_judged plant ≡ good p → (form : ℕ) → known_form form ≡ true
    → (t u : Tree) → Shaped (rules_of form p) t → Shaped (rules_of form p) u
    → table ≡ table_of (rules_of form p) t → table ≡ table_of (rules_of form p) u → t ≡ u
one-tree-a-table plant table p e form known t u o v = one-tree (rules_of form p) (judged-sizes plant p e form known) table t u o v

-- what is accepted by the rules of a form says that form, so it is judged by them
module _ (plant table : List ℕ) (p : Plant) (e : plant_judged plant ≡ good p) (form : ℕ) (known : known_form form ≡ true) where
  pub of-form : verdict (rules_of form p) table ≡ Ok tt → form_of table ≡ form
  of-form a =
      let z = judged-sizes plant p e form known in
      let t = (accepted-exactly (rules_of form p) z table).0 a in
      table-form (rules_of form p) z known table t.0 t.2

  pub checked-form : (form_of table ≡ form) → checked plant table ≡ verdict (rules_of form p) table
  checked-form q = checked-as plant p e table ∙ ap (λ (f : ℕ). verdict (rules_of f p) table) q

  pub accepted-form : (verdict (rules_of form p) table ≡ Ok tt) ↔ ((form_of table ≡ form) × (checked plant table ≡ Ok tt))
  accepted-form = (λ a. let q = of-form a in (q, checked-form q ∙ a), λ w. sym (checked-form w.0) ∙ w.1)
