-- Request 2026-01 over bytes: what an accepted table is relaid to is its own tree's table of the form asked for, where that form is known and splits boxes
-- alike, and else 2; what the checker refuses is refused as it is. What is relaid is accepted, says the form asked for, and relaid back it is the same
-- bytes. By reading a tree as it is walked over: a tree of sound shape that stands somewhere is the tree that is read there. Relies on pages Layouts,
-- SplitLengths and Relaid.
use Prim.Native.Nat.{ℕ, zero, suc, ◌+◌, ◌≤◌}
use Rattle.std.specs.Prelude.{◌≡◌, refl, Bool, true, false, ◌&&◌, not, cond, ◌↔◌, List, [], ◌∷◌, length, Some, Ok, Err}
use Rattle.std.proofs.Math.Path.{sym}
use Rattle.std.proofs.Common.{ap, ◌∙◌, append-nil, arith}
use borrow.Author.Tests.{le-leb}
use Rattle.laws.specs.Guards.{guard}
use Rattle.laws.specs.Standing.{Stands, stand-front, stand-back}
use Rattle.laws.specs.Tests.{never, first, second}
use Rattle.meaning.specs.Answers.{Verdict}
use Rattle.meaning.specs.declared.Refusal.{Refusal}
use Rattle.meaning.specs.Files.{Read, read, refused, Judged, good, bad}
use Rattle.meaning.specs.Numbers.{number_at, bytes_of}
use Rattle.meaning.specs.Plants.{Plant, plant_judged}
use Rattle.meaning.specs.Refusals.{wrong_form, bad_table}
use Rattle.meaning.specs.Relays as L
use Rattle.meaning.specs.Relays.{read_as, trees_at, tree_at, tree_in, splits_alike, on_verdict, on_tree, relayed}
use Rattle.meaning.specs.Rules.{Rules}
use Rattle.meaning.specs.Tables as T
use Rattle.meaning.specs.Tables.{one_side, known_form, form_of, rules_of, on_plant, checked}
use Rattle.meaning.specs.Trees.{Tree, Forest, split, tile, leaf, more, tells, layout, layouts, Pattern, table_of, Over, Overs}
use Rattle.meaning.specs.Verdicts.{on_read, lengths_by, modes_at, verdict}
use Rattle.promises.specs.Tables.Checked.{Tiled, checked-exactly}
use Rattle.promises.specs.Tables.Laws.{Sizes, Fits, FitsEach}
use Rattle.promises.specs.Tables.Layouts.{overs-count, headed, table-stands, table-header, tile-read}
use Rattle.promises.specs.Tables.PlantRules.{judged-sizes, checked-as}
use Rattle.promises.specs.Tables.Relaid.{relaid, relaid-accepted, relaid-back}
use Rattle.promises.specs.Tables.Shapes.{Shaped, working-shaped}
use Rattle.promises.specs.Tables.SplitLengths.{first_child, split-stands}
use Rattle.promises.specs.Tables.TableForms.{form-known}
use Rattle.promises.specs.Tables.Walking.{split-some}

-- ---- a tree that stands is the one that is read

module _ (r : Rules) where
  open r use {Box, children, root, form, n, D, K, N}

  abbrev split_by : ℕ → List ℕ → List Box → ℕ → Read Tree
  split_by d s bs at = on_read (lengths_by (tells form) bs s at) refused λ _ first. read_as split (trees_at (λ p c. tree_at r d s p c) bs first)

  module _ (d : ℕ) (s : List ℕ) (at : ℕ) (b : Box) where
    tree-split : (m c : ℕ) → number_at s at ≡ Some (0, m) → d ≡ suc c → (children b ≡ [] → ⊥) → tree_at r d s at b ≡ split_by c s (children b) m
    unfolding L.tree_at
    tree-split m c e z y = rw z (rw e (split-some (refused (bad_table at)) (λ cs. split_by c s cs m) (children b) y))

    tree-tile : (k m : ℕ) → number_at s at ≡ Some (k, m) → 1 ≤ k → k ≤ K → tree_at r d s at b ≡ read_as tile (modes_at N k s m)
    unfolding L.tree_at
    tree-tile zero m e z l = absurd (omega arith)
    tree-tile (suc k) m e z l = elim d as (λ n. tree_at r n s at b ≡ read_as tile (modes_at N (suc k) s m)) [ zero ↦ simp (e, le-leb (suc k) K l) | suc c ↦ simp (e, le-leb (suc k) K l) ]

  module _ (sizes : Sizes r) where
    abbrev Shape : Box → List ℕ → Type 0
    Shape b us = Pattern K N us

    mutual
      unfolding layout Over L.trees_at Fits

      pub tree-read : (t : Tree) (d : ℕ) (s : List ℕ) (at : ℕ) (b : Box) (m : ℕ) → Over r Shape t d b → Fits (tells form) t → Stands s at (layout (tells form) t) m
          → tree_at r d s at b ≡ read t m
      tree-read (tile us) d s at b m o fit p =
          let q = tile-read r sizes us s at m o p in
          tree-tile d s at b (length us) (at + length (bytes_of (length us))) q.0 o.some o.few ∙ rw q.1 refl
      tree-read (split f) zero s at b m o fit p = absurd o
      tree-read (split f) (suc d) s at b m o fit p =
          let w = split-stands (tells form) f (children b) s at m (overs-count r Shape f d (children b) o.1) fit.0 p in
          tree-split (suc d) s at b (at + length (bytes_of 0)) d w.number refl o.0
          ∙ rw w.are (rw (trees-read f d s (first_child (tells form) f at) (children b) m o.1 fit.1 w.stand) refl)

      trees-read : (f : Forest) (d : ℕ) (s : List ℕ) (at : ℕ) (bs : List Box) (m : ℕ) → Overs r Shape f d bs → FitsEach (tells form) f → Stands s at (layouts (tells form) f) m
          → trees_at (λ p c. tree_at r d s p c) bs at ≡ read f m
      trees-read leaf d s at [] m o fit p = let q : m ≡ at = omega (arith, p.end) in rw q refl
      trees-read leaf d s at (b ∷ bs) m o fit p = absurd o
      trees-read (more t f) d s at [] m o fit p = absurd o
      trees-read (more t f) d s at (b ∷ bs) m o fit p =
          let tree = layout (tells form) t in
          let rest = layouts (tells form) f in
          rw (tree-read t d s at b (at + length tree) o.0 fit.0 (stand-front tree rest p))
          (rw (trees-read f d s (at + length tree) bs m o.1 fit.1 (stand-back tree rest p)) refl)

    -- that of a table is its tree
    pub tree-in : (s : List ℕ) (t : Tree) → s ≡ table_of r t → Shaped r t → tree_in r s ≡ good t
    tree-in s t is o =
        let whole = is ∙ sym (append-nil (table_of r t)) in
        let w = tree-read t D s (headed form n) root (length (table_of r t)) o (sizes.lengths t o) (table-stands r s [] t whole).1 in
        rw (table-header r sizes s [] t whole) (rw w refl)

-- ---- forms that split alike

pub alike-exactly : (form other : ℕ) → (splits_alike form other ≡ true) ↔ (one_side form ≡ one_side other)
alike-exactly form other = go (one_side form) (one_side other)
  where
    go : (a b : Bool) → (cond a b (not b) ≡ true) ↔ (a ≡ b)
    go true b = (λ e. sym e, λ e. sym e)
    go false true = (λ e. e, λ e. e)
    go false false = (λ e. refl, λ e. refl)

-- ---- what the checker refuses

pub relayed-refused : (plant table : List ℕ) (form : ℕ) (e : Refusal) → checked plant table ≡ Err e → relayed plant table form ≡ bad e
unfolding T.checked L.relayed
relayed-refused plant table form e = go (plant_judged plant)
  where
    go : (j : Judged Plant) → on_plant j Err (λ p. verdict (rules_of (form_of table) p) table) ≡ Err e
        → on_plant j bad (λ p.
        on_verdict (verdict (rules_of (form_of table) p) table) bad λ _.
        guard (known_form form && splits_alike (form_of table) form) (bad wrong_form) λ _.
        on_tree (tree_in (rules_of (form_of table) p) table) λ t. good (table_of (rules_of form p) t))
        ≡ bad e
    go (bad x) q = let same : x ≡ e = cc in rw same refl
    go (good p) q = rw q refl

-- ---- what it accepts

module _ {plant table : List ℕ} (t : Tiled plant table) (form : ℕ) where
  relayed-by : relayed plant table form ≡ guard (known_form form && splits_alike (form_of table) form) (bad wrong_form) λ _. good (relaid t form)
  unfolding L.relayed
  relayed-by =
      let p = t.p in
      let own = rules_of (form_of table) p in
      let accepted : verdict own table ≡ Ok tt = sym (checked-as plant p t.judged table) ∙ (checked-exactly plant table).1 t in
      let tree : tree_in own table ≡ good t.tree = tree-in own (judged-sizes plant p t.judged (form_of table) (form-known table)) table t.tree t.is (working-shaped own t.tree t.works) in
      rw (t.judged, accepted) (ap (λ (j : Judged Tree). guard (known_form form && splits_alike (form_of table) form) (bad wrong_form) λ _. on_tree j λ u. good (table_of (rules_of form p) u)) tree)

  pub relayed-good : known_form form ≡ true → one_side (form_of table) ≡ one_side form → relayed plant table form ≡ good (relaid t form)
  relayed-good known alike = relayed-by ∙ rw (known, (alike-exactly (form_of table) form).1 alike) refl

  pub relayed-two : ((known_form form ≡ true) × (one_side (form_of table) ≡ one_side form) → ⊥) → relayed plant table form ≡ bad wrong_form
  relayed-two other = relayed-by ∙ go (known_form form && splits_alike (form_of table) form) refl
    where
      go : (c : Bool) → (known_form form && splits_alike (form_of table) form) ≡ c → guard c (bad wrong_form) (λ _. good (relaid t form)) ≡ bad wrong_form
      go false e = refl
      go true e = absurd (other (first (known_form form) (splits_alike (form_of table) form) e, (alike-exactly (form_of table) form).0 (second (known_form form) (splits_alike (form_of table) form) e)))

-- ---- and back

pub record Relays (plant table : List ℕ) (form : ℕ) (z : List ℕ) : Type 0 where
  pub accepted : checked plant z ≡ Ok tt
  pub says : form_of z ≡ form
  pub back : relayed plant z (form_of table) ≡ good table

pub relayed-back : (plant table : List ℕ) (form : ℕ) (z : List ℕ) → relayed plant table form ≡ good z → Relays plant table form z
relayed-back plant table form z = go (checked plant table) refl
  where
    of : (t : Tiled plant table) (c : Bool) → (known_form form && splits_alike (form_of table) form) ≡ c → guard c (bad wrong_form) (λ _. good (relaid t form)) ≡ good z → Relays plant table form z
    of t false q e = never cc
    of t true q e =
        let known = first (known_form form) (splits_alike (form_of table) form) q in
        let alike = (alike-exactly (form_of table) form).0 (second (known_form form) (splits_alike (form_of table) form) q) in
        let w = relaid-accepted t form known alike in
        let u = (checked-exactly plant (relaid t form)).0 w.1 in
        let is : relaid t form ≡ z = cc in
        rw (← is) (record {
          accepted = w.1;
          says = w.0;
          back = relayed-good u (form_of table) (form-known table) (ap one_side w.0 ∙ sym alike) ∙ ap good (relaid-back t form known alike u);
        })

    go : (v : Verdict) → checked plant table ≡ v → relayed plant table form ≡ good z → Relays plant table form z
    go (Err x) a e = let q = relayed-refused plant table form x a in never cc
    go (Ok _) a e =
        let t = (checked-exactly plant table).0 a in
        of t (known_form form && splits_alike (form_of table) form) refl (sym (relayed-by t form) ∙ e)
