-- What relay leaves: what the checker refuses, 2, the table itself, or its tree in the other layout. Forms that are known, split alike and differ lay a
-- tree out differently. Assumes nothing.
use Rattle.std.specs.Prelude.{Ok, Err}
use Prim.Native.Nat.{ℕ, suc}
use mathlib.Core.Path.{◌≡◌, refl, sym, ap, subst, ◌∙◌}
use mathlib.Core.Bool.{Bool, true, false, ◌&&◌, not}
use mathlib.Core.Logic.{◌⊎◌, inl, inr}
use mathlib.Core.List.{List}
use borrow.Author.Tests.{eqb-true}
use lib.ListN.{length}
use Rattle.meaning.specs.Answers.{PlantRead}
use Rattle.laws.specs.Tests.{never, first, second}
use Rattle.meaning.specs.declared.Outline.{Outline}
use Rattle.meaning.specs.declared.Refusal.{Refusal}
use Rattle.meaning.specs.Buffers.{refused_with, left}
use Rattle.meaning.specs.Files.{Judged, good, bad}
use Rattle.meaning.specs.Plants.{Plant, plant_judged, plant_read, outline_of, read_of}
use Rattle.meaning.specs.Refusals.{wrong_form}
use Rattle.meaning.specs.Relays as L
use Rattle.meaning.specs.Relays.{splits_alike, relayed, relay_left}
use Rattle.meaning.specs.Tables.{one_side, known_form, form_of, rules_of, checked}
use Rattle.meaning.specs.Trees.{tells, layout, table_of}
use Rattle.promises.specs.Files.Judged.{judged-sound}
use Rattle.promises.specs.Tables.Checked.{Tiled}
use Rattle.promises.specs.Tables.Relaid.{relaid}
use Rattle.promises.specs.Tables.RelaidBytes.{alike-exactly, relayed-refused, relayed-good, relayed-two}
use Rattle.promises.specs.Tables.Shapes.{Shaped, working-shaped}
use Rattle.promises.specs.Tables.TableForms.{one_of_three, form-known}
use Rattle.tables.specs.declared.frames.Frame.{Frame}
use Rattle.tables.specs.Frames.{frame_of, own_frame, formed, FrameSound}
use Rattle.tables.specs.Turns.{TableLies, table_by}
use Rattle.tables.proofs.frames.Laws.{framed-sound, formed-sound}
use Rattle.tables.proofs.turns.Lying.{table-lies}

-- ---- two forms that split alike and are not one: 1 and 2

module _ (own form : ℕ) (k : known_form own ≡ true) (c : (known_form form && splits_alike own form) ≡ true) (other : form ≡ own → ⊥) where
  known : known_form form ≡ true
  known = first (known_form form) (splits_alike own form) c

  alike : one_side own ≡ one_side form
  alike = (alike-exactly own form).0 (second (known_form form) (splits_alike own form) c)

  pub neither : one_side own ≡ false
  neither = go (one_side own) refl
    where
      go : (b : Bool) → one_side own ≡ b → b ≡ false
      go false e = refl
      go true e = absurd (other (eqb-true form 3 (sym alike ∙ e) ∙ sym (eqb-true own 3 e)))

  pub turned : tells form ≡ not (tells own)
  turned = go (one_of_three own k) (one_of_three form known)
    where
      go : (own ≡ 1) ⊎ ((own ≡ 2) ⊎ (own ≡ 3)) → (form ≡ 1) ⊎ ((form ≡ 2) ⊎ (form ≡ 3)) → tells form ≡ not (tells own)
      go (inl p) (inl q) = absurd (other (q ∙ sym p))
      go (inl p) (inr (inl q)) = rw (p, q) refl
      go (inl p) (inr (inr q)) = let e = alike in never (rw (p, q) at e)
      go (inr (inl p)) (inl q) = rw (p, q) refl
      go (inr (inl p)) (inr (inl q)) = absurd (other (q ∙ sym p))
      go (inr (inl p)) (inr (inr q)) = let e = alike in never (rw (p, q) at e)
      go (inr (inr p)) q = let e = neither in never (sym (rw p at e))

-- ---- what is left

module _ (plant table : List ℕ) (form : ℕ) (buf : List ℕ) where
  by : (j : Judged (List ℕ)) → relayed plant table form ≡ j → left j buf ≡ relay_left plant table form buf
  unfolding L.relay_left
  by j e = ap (λ (i : Judged (List ℕ)). left i buf) (sym e)

  pub left-refused : (e : Refusal) → checked plant table ≡ Err e → refused_with e buf ≡ relay_left plant table form buf
  left-refused e h = by (bad e) (relayed-refused plant table form e h)

  -- of an accepted table, which says the form own
  module _ (t : Tiled plant table) (own : ℕ) (q : own ≡ form_of table) where
    pub left-itself : form ≡ own → left (good table) buf ≡ relay_left plant table form buf
    left-itself e =
        let same = e ∙ q in
        by (good table) (relayed-good t form (ap known_form same ∙ form-known table) (ap one_side (sym same)) ∙ ap (λ (f : ℕ). good (relaid t f)) same ∙ ap good (sym t.is))

    module _ (b : Bool) (d : b ≡ (known_form form && splits_alike own form)) where
      pub left-two : b ≡ false → refused_with wrong_form buf ≡ relay_left plant table form buf
      left-two y = by (bad wrong_form) (relayed-two t form otherwise)
        where
          otherwise : (known_form form ≡ true) × (one_side (form_of table) ≡ one_side form) → ⊥
          otherwise w =
              let same = (alike-exactly own form).1 (ap one_side q ∙ w.1) in
              let both : (known_form form && splits_alike own form) ≡ true = rw (w.0, same) refl in
              never (sym y ∙ d ∙ both)

      -- the same tree in the other layout, by the plant's frame of its form
      module _ (y : b ≡ true) (other : form ≡ own → ⊥) (f : Frame) (e : f ≡ formed (own_frame t.p) own) where
        known-own : known_form own ≡ true
        known-own = ap known_form q ∙ form-known table

        c : (known_form form && splits_alike own form) ≡ true
        c = sym d ∙ y

        abbrev frame : Frame
        frame = formed (own_frame t.p) own

        sound : FrameSound frame
        sound = formed-sound (own_frame t.p) own known-own (framed-sound t.p (judged-sound plant t.p t.judged) (own_frame t.p) refl)

        shaped : Shaped (rules_of own t.p) t.tree
        shaped = subst (λ (i : ℕ). Shaped (rules_of i t.p) t.tree) (sym q) (working-shaped (rules_of (form_of table) t.p) t.tree t.works)

        is : table ≡ table_of (rules_of own t.p) t.tree
        is = t.is ∙ ap (λ (i : ℕ). table_of (rules_of i t.p) t.tree) (sym q)

        abbrev pub end : ℕ
        end = suc (suc (length (layout (tells own) t.tree)))

        pub frame-sound : FrameSound f
        frame-sound = rw e sound

        pub lies : TableLies f (tells own) table t.tree end
        lies = rw e (table-lies frame t.p.bands t.p.coef sound (neither own form known-own c other) t.tree shaped (tells own) table is)

        pub left-turned : left (good (table_by form f.n (not (tells own)) t.tree)) buf ≡ relay_left plant table form buf
        left-turned =
            rw e (by (good (table_by form t.p.n (not (tells own)) t.tree))
            (relayed-good t form (known own form known-own c other) (ap one_side (sym q) ∙ alike own form known-own c other)
            ∙ ap (λ (u : Bool). good (table_by form t.p.n u t.tree)) (turned own form known-own c other)))

-- the frame that the code has is the plant's, of the table's form
pub frame_is : (plant : List ℕ) (p : Plant) → plant_judged plant ≡ good p → (own : ℕ) (o : Outline) → Ok o ≡ plant_read plant → (g : Frame) → g ≡ frame_of o → (f : Frame) → f ≡ formed g own
    → f ≡ formed (own_frame p) own
frame_is plant p h own o r g u f v =
    let q : ◌≡◌ {A = PlantRead} (Ok o) (Ok (outline_of p)) = r ∙ ap read_of h in
    let same : o ≡ outline_of p = cc in
    v ∙ ap (λ (k : Frame). formed k own) (u ∙ ap frame_of same)
