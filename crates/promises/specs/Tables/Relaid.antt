-- Request 2026-01: an accepted table laid out in another form that splits boxes alike, so of form 1 in form 2 or the other way round. It is accepted too, and laid out back
-- it is the same bytes, since a table is that of one tree. On the two, calls in states of the same tile with the same modes done answer the same mode and number left on every
-- reading, each state's place being that in its own file; and what a run of the one comes to, a run of the other comes to, and back. And what the maker makes of a plant in two such
-- forms is one tree. Relies on pages SameTree, Accept, Unique and Made.
use Rattle.std.specs.Prelude.{ℕ, ◌≡◌, refl, true, List, ℤ, Ok, Err}
use Rattle.std.proofs.Common.{sym, ap, subst, ◌∙◌}
use Rattle.std.proofs.Math.Option.{Option, none, some}
use Rattle.laws.specs.Pairs.{ok-first, ok-second}
use Rattle.laws.specs.Tests.{never}
use Rattle.meaning.specs.Answers.{Answer}
use Rattle.meaning.specs.declared.State.{State}
use Rattle.meaning.specs.Control.{idle, call}
use Rattle.meaning.specs.Defined.{defined_tree}
use Rattle.meaning.specs.Files.{good, bad}
use Rattle.meaning.specs.Plants.{Plant, plant_judged, root_of, safe_of, step_of}
use Rattle.meaning.specs.Refusals.{no_table}
use Rattle.meaning.specs.Runs.{start, sample}
use Rattle.meaning.specs.Tables.{one_side, known_form, form_of, rules_of, checked, table_bytes, made, controlled, TableRun}
use Rattle.meaning.specs.Trees.{Tree, table_of}
use Rattle.promises.specs.Tables.Accept.{accepted-exactly}
use Rattle.promises.specs.Tables.Checked.{Tiled, accepted-form, one-tree-a-table}
use Rattle.promises.specs.Tables.Made.{made-exactly}
use Rattle.promises.specs.Tables.PlantMotion.{splits}
use Rattle.promises.specs.Tables.PlantRules.{judged-sizes, made_as, controlled-as}
use Rattle.promises.specs.Tables.SameTree.{SameState, both-idle, same_left, SameAnswer, working-alike, defined-alike, calls-alike}
use Rattle.promises.specs.Tables.Shapes.{Working, working-shaped}
use Rattle.promises.specs.Tables.TableForms.{form-known}

-- the same tree in a form
abbrev pub relaid : {plant table : List ℕ} → Tiled plant table → ℕ → List ℕ
relaid t other = table_of (rules_of other t.p) t.tree

module _ {plant table : List ℕ} (t : Tiled plant table) (other : ℕ) (known : known_form other ≡ true) (alike : one_side (form_of table) ≡ one_side other) where
  works : Working (rules_of other t.p) t.tree
  works =
      let p = t.p in
      working-alike (form_of table) other p.n p.modes p.k p.d (root_of p) (root_of p) (safe_of p) (step_of p) alike t.tree t.works

  -- it is accepted, and says that form
  pub relaid-accepted : (form_of (relaid t other) ≡ other) × (checked plant (relaid t other) ≡ Ok tt)
  relaid-accepted =
      let a = (accepted-exactly (rules_of other t.p) (judged-sizes plant t.p t.judged other known) (relaid t other)).1 (t.tree, works, refl) in
      (accepted-form plant (relaid t other) t.p t.judged other known).0 a

  -- by the same tree, whichever tree it is read as
  pub relaid-tree : (u : Tiled plant (relaid t other)) → (u.p ≡ t.p) × (u.tree ≡ t.tree)
  relaid-tree u =
      let p = t.p in
      let same : u.p ≡ p = cc (u.judged, t.judged) in
      let form : form_of (relaid t other) ≡ other = relaid-accepted.0 in
      let works-too : Working (rules_of other p) u.tree = subst (λ (q : Plant). Working (rules_of other q) u.tree) same (subst (λ (f : ℕ). Working (rules_of f u.p) u.tree) form u.works) in
      let is-too : relaid t other ≡ table_of (rules_of other p) u.tree =
      u.is ∙ ap (λ (f : ℕ). table_of (rules_of f u.p) u.tree) form ∙ ap (λ (q : Plant). table_of (rules_of other q) u.tree) same in (
        same,
        one-tree-a-table plant (relaid t other) p t.judged other known u.tree t.tree (working-shaped (rules_of other p) u.tree works-too)
            (working-shaped (rules_of other p) t.tree works) is-too refl,
      )

  -- so that laid out back it is the same bytes
  pub relaid-back : (u : Tiled plant (relaid t other)) → relaid u (form_of table) ≡ table
  relaid-back u =
      let w = relaid-tree u in
      ap (λ (q : Plant). table_of (rules_of (form_of table) q) u.tree) w.0 ∙ ap (λ (v : Tree). table_of (rules_of (form_of table) t.p) v) w.1 ∙ sym t.is

  -- ---- calls and runs

  -- both idle, or in the same tile with the same modes done, each at its place in its own file
  abbrev pub Alike : State → State → Type 0
  Alike = SameState (form_of table) other t.p.n t.p.modes t.p.k t.p.d (root_of t.p) (root_of t.p) (safe_of t.p) (step_of t.p) t.tree

  -- the same mode and such states again, or the same refusal
  abbrev pub AnswersAlike : Answer → Answer → Type 0
  AnswersAlike = SameAnswer (form_of table) other t.p.n t.p.modes t.p.k t.p.d (root_of t.p) (root_of t.p) (safe_of t.p) (step_of t.p) t.tree

  pub relaid-answers : (st st' : State) → Alike st st' → (x : List ℤ) → AnswersAlike (controlled plant table st x) (controlled plant (relaid t other) st' x)
  relaid-answers st st' w x =
      let p = t.p in
      let e = t.judged in
      let form = form_of table in
      let z = relaid t other in
      let a = controlled-as plant p e table st x in
      let b : controlled plant z st' x ≡ call (rules_of other p) z st' x = controlled-as plant p e z st' x ∙ ap (λ (f : ℕ). call (rules_of f p) z st' x) relaid-accepted.0 in
      let h = calls-alike form other p.n p.modes p.k p.d (root_of p) (root_of p) (safe_of p) (step_of p) alike
      (judged-sizes plant p e form (form-known table)) (judged-sizes plant p e other known) (splits form p) (splits other p) t.tree
      (working-shaped (rules_of form p) t.tree t.works) table z t.is refl st st' w x in
      rw (a, b) h

  -- a mode that the one gives the other gives
  given : (a b : Answer) → AnswersAlike a b → (u : ℕ) (st : State) → a ≡ Ok (u, st)
      → (st' : State) × (b ≡ Ok (u, st')) × Alike st st'
  given (Ok (u, st)) (Ok (v, st')) h w s e =
      let q : u ≡ w = ok-first e in
      let z : st ≡ s = ok-second e in
      let k : u ≡ v = h.0 in
      (st', ap (λ (i : ℕ). Ok (i, st')) (sym k ∙ q), rw z at h.1)
  given (Ok (u, st)) (Err f) h w s e = absurd h
  given (Err f) (Ok (v, st')) h w s e = absurd h
  given (Err f) (Err g) h w s e = never cc

  left-alike : (st st' : State) → Alike st st' → st.left ≡ st'.left
  left-alike st st' w =
      same_left (form_of table) other t.p.n t.p.modes t.p.k t.p.d (root_of t.p) (root_of t.p) (safe_of t.p) (step_of t.p) t.tree st st' w

  -- with the same number left
  pub relaid-mode : (st st' : State) → Alike st st' → (x : List ℤ) (u : ℕ) (then : State) → controlled plant table st x ≡ Ok (u, then)
      → (then' : State) × (controlled plant (relaid t other) st' x ≡ Ok (u, then')) × (then.left ≡ then'.left) × Alike then then'
  relaid-mode st st' w x u then e =
      let v = given (controlled plant table st x) (controlled plant (relaid t other) st' x) (relaid-answers st st' w x) u then e in
      (v.0, v.1, left-alike then v.0 v.2, v.2)

  -- of idle calls too, whatever the reading
  pub relaid-idle : (x : List ℤ) → AnswersAlike (controlled plant table idle x) (controlled plant (relaid t other) idle x)
  relaid-idle x = relaid-answers idle idle both-idle x

  -- what a run of the one comes to a run of the other comes to, in the same tile with the same modes done
  pub relaid-runs : {st : State} {x : List ℤ} → TableRun plant table st x → (st' : State) × TableRun plant (relaid t other) st' x × Alike st st'
  relaid-runs (start h) = (idle, start h, both-idle)
  relaid-runs (sample {s = s} {t = then} {x = x} {u = u} run g f) =
      let w = relaid-runs run in
      let v = given (controlled plant table s x) (controlled plant (relaid t other) w.0 x) (relaid-answers s w.0 w.2 x) u then g in
      (v.0, sample w.1 v.1 f, v.2)

  -- and the other way round
  given_back : (a b : Answer) → AnswersAlike a b → (u : ℕ) (st' : State) → b ≡ Ok (u, st')
      → (st : State) × (a ≡ Ok (u, st)) × Alike st st'
  given_back (Ok (u, st)) (Ok (v, st')) h w s e =
      let q : v ≡ w = ok-first e in
      let z : st' ≡ s = ok-second e in
      let k : u ≡ v = h.0 in
      (st, ap (λ (i : ℕ). Ok (i, st)) (k ∙ q), rw z at h.1)
  given_back (Ok (u, st)) (Err f) h w s e = absurd h
  given_back (Err f) (Ok (v, st')) h w s e = absurd h
  given_back (Err f) (Err g) h w s e = never cc

  pub relaid-runs-back : {st' : State} {x : List ℤ} → TableRun plant (relaid t other) st' x → (st : State) × TableRun plant table st x × Alike st st'
  relaid-runs-back (start h) = (idle, start h, both-idle)
  relaid-runs-back (sample {s = s} {t = then} {x = x} {u = u} run g f) =
      let w = relaid-runs-back run in
      let v = given_back (controlled plant table w.0 x) (controlled plant (relaid t other) s x) (relaid-answers w.0 s w.2 x) u then g in
      (v.0, sample w.1 v.1 f, v.2)

-- ---- what is made

-- of one tree: made in the one form, it is made in the other
pub made-relaid : (plant : List ℕ) (p : Plant) → plant_judged plant ≡ good p → (form other : ℕ) → known_form form ≡ true → known_form other ≡ true → one_side form ≡ one_side other
    → (bytes : List ℕ) → made plant form ≡ good bytes
    → (t : Tree) × (bytes ≡ table_of (rules_of form p) t) × (made plant other ≡ good (table_of (rules_of other p) t))
made-relaid plant p e form other known known' alike bytes a =
    let w = (made-exactly plant p e form known bytes).0 a in
    let same = defined-alike form other p.n p.modes p.k p.d (root_of p) (root_of p) (safe_of p) (step_of p) alike in
    (w.0, w.2, (made-exactly plant p e other known' (table_of (rules_of other p) w.0)).1 (w.0, sym same ∙ w.1, refl))

-- or in neither: 9 in the one is 9 in the other
pub nine-relaid : (plant : List ℕ) (p : Plant) → plant_judged plant ≡ good p → (form other : ℕ) → known_form form ≡ true → known_form other ≡ true → one_side form ≡ one_side other
    → made plant form ≡ bad (no_table 0) → made plant other ≡ bad (no_table 0)
nine-relaid plant p e form other known known' alike a =
    let same = defined-alike form other p.n p.modes p.k p.d (root_of p) (root_of p) (safe_of p) (step_of p) alike in
    let none-there = no-tree (defined_tree (rules_of form p)) (sym (made_as plant p e form known) ∙ a) in
    made_as plant p e other known' ∙ ap (table_bytes 0 (rules_of other p)) (sym same ∙ none-there)
  where
    no-tree : (o : Option Tree) → table_bytes 0 (rules_of form p) o ≡ bad (no_table 0) → o ≡ none
    no-tree none q = refl
    no-tree (some t) q = never cc
