-- Demands 2 and 3 as predicates on any checker, maker or controller over bytes, in document 01's words, and that the definitions to which the contracts hold
-- the code meet each: `checked`, `maker_left`, `controlled`. How tight they are: what is asked of a maker settles every answer and every byte, of a controller
-- every call on an accepted table, of a checker every verdict on a table that keeps the file's rules. Relies on pages Checked, Promise, FirstFault, Made and
-- Chosen. What is told of tables that break the file's rules is left out: the definitions say it. Which programs each demand shuts out is page ShutOut.
use Rattle.std.specs.Prelude.{ℕ, zero, suc, ◌^◌, ◌≤◌, ◌<◌, ◌≡◌, Bool, true, false, ◌&&◌, ◌↔◌, List, [], ◌∷◌, leb, length, replicate, ℤ, Some, Ok, Err}
use Rattle.std.proofs.Math.Path.{refl}
use Rattle.std.proofs.Common.{sym, ap, ◌∙◌, append-nil, arith, le-leb, leb-true}
use Rattle.std.proofs.Math.Option.{Option, none, some}
use Rattle.std.proofs.Math.Decide.{dec_lt}
use Rattle.std.proofs.Math.Dec.{eqb-suc-zero}
use Rattle.std.proofs.lemmas.List.Edits.{sets}
use Rattle.laws.specs.Guards.{guard}
use Rattle.laws.specs.Standing.{Stands}
use Rattle.laws.specs.Tests.{never, first, second, both}
use Rattle.meaning.specs.Answers.{Verdict, Written, Answer}
use Rattle.meaning.specs.declared.Refusal.{Refusal}
use Rattle.meaning.specs.declared.State.{State}
use Rattle.meaning.specs.Buffers.{Left, refused_with, left}
use Rattle.meaning.specs.Control as C
use Rattle.meaning.specs.Control.{idle, state_at, state_with, are_read, can_run, idle_call, running_call}
use Rattle.meaning.specs.Defined.{defined_tree}
use Rattle.meaning.specs.Files.{Read, read, refused, Judged, good, bad}
use Rattle.meaning.specs.Numbers.{number_at}
use Rattle.meaning.specs.Plants.{Plant, plant_judged, root_of, safe_of}
use Rattle.meaning.specs.Refusals.{wrong_form, leaves, misses, no_table, short, outside, bad_state}
use Rattle.meaning.specs.Rules.{Rules, rule, holds, missed}
use Rattle.meaning.specs.Tables as T
use Rattle.meaning.specs.Tables.{known_form, form_of, rules_of, checked, made, maker_left, controlled, starts_in, safe_in}
use Rattle.meaning.specs.Trees.{Tree, Pattern, modes_bytes, AllBelow, longest, table_of, Tile, tiles_of, having}
use Rattle.meaning.specs.Verdicts.{modes_at, header, verdict}
use Rattle.promises.specs.Files.Buffers.{wrote}
use Rattle.promises.specs.Tables.Checked.{Tiled, accepted-judged, checked-exactly}
use Rattle.promises.specs.Tables.Chosen.{chosen}
use Rattle.promises.specs.Tables.Finds.{first_place, next_place}
use Rattle.promises.specs.Tables.FirstFault.{LeavesAt, MissesAt, FirstBad, Comes, working, leaving, missing, comes, leaving-told, missing-told}
use Rattle.promises.specs.Tables.Layouts.{ModesStand, modes-stand, first_read, modes-read, headed, table-header}
use Rattle.promises.specs.Tables.Made.{made-accepted, made-exactly, nine-exactly, maker-nine, maker-two, maker-ten, maker-writes}
use Rattle.promises.specs.Tables.PlantRules.{judged-sizes, checked-as, made_as, controlled-as}
use Rattle.promises.specs.Tables.Promise.{Promised, promise}
use Rattle.promises.specs.Tables.Shapes.{Shaped, Good, over-map}
use Rattle.promises.specs.Tables.TableForms.{form-known}

-- of a plant's and a table's bytes; of a plant's bytes, a table's form and a lent buffer; of a plant's and a table's bytes, a state and a reading
abbrev pub Checker : Type 0
Checker = List ℕ → List ℕ → Verdict

abbrev pub Maker : Type 0
Maker = List ℕ → ℕ → List ℕ → Left

abbrev pub Controller : Type 0
Controller = List ℕ → List ℕ → State → List ℤ → Answer

-- ---- demand 3

-- The table keeps the file's rules: it is that of a tree over the plant's R, of sound shape by the form that it says, its tiles working or not.
pub record Laid (plant table : List ℕ) : Type 0 where
  pub p : Plant
  pub judged : plant_judged plant ≡ good p
  pub tree : Tree
  pub shape : Shaped (rules_of (form_of table) p) tree
  pub is : table ≡ table_of (rules_of (form_of table) p) tree

tiled-laid : (plant table : List ℕ) → Tiled plant table → Laid plant table
tiled-laid plant table t =
    let r = rules_of (form_of table) t.p in
    record {
      p = t.p;
      judged = t.judged;
      tree = t.tree;
      shape = over-map r (Good r (rule r)) (λ b us. Pattern t.p.k t.p.modes us) (λ b us g. g.shape) t.tree r.D (root_of t.p) t.works;
      is = t.is;
    }

-- its last sentence: every table that keeps the file's rules and whose tiles keep the tile rule is accepted
abbrev pub AcceptsWorking : Checker → Type 0
AcceptsWorking check = (plant table : List ℕ) → Tiled plant table → check plant table ≡ Ok tt

-- the run: every accepted table keeps the file's rules and drives as page Promise says, by the controller and within its longest pattern
abbrev pub KeepsPromise : Checker → Type 0
KeepsPromise check = (plant table : List ℕ) → check plant table ≡ Ok tt → (t : Laid plant table) × Promised plant table (longest t.tree)

pub checked-accepts : AcceptsWorking checked
checked-accepts plant table t = (checked-exactly plant table).1 t

pub checked-keeps : KeepsPromise checked
unfolding tiled-laid
checked-keeps plant table a = let w = promise plant table a in (tiled-laid plant table w.0, w.1)

-- ---- demand 2, the table of refusals: 7 and 8 of a table that keeps the file's rules, at the first tile that does not work

pub record Tells (check : Checker) : Type 0 where
  pub leaving : (plant table : List ℕ) (t : Laid plant table) (one : Tile (rules_of (form_of table) t.p)) → FirstBad (rules_of (form_of table) t.p) t.tree one
      → (i : ℕ) → LeavesAt (rules_of (form_of table) t.p) one.box one.modes i → check plant table ≡ Err (leaves one.place i)
  pub missing : (plant table : List ℕ) (t : Laid plant table) (one : Tile (rules_of (form_of table) t.p)) → FirstBad (rules_of (form_of table) t.p) t.tree one
      → (i : ℕ) → MissesAt (rules_of (form_of table) t.p) one.box one.modes i → check plant table ≡ Err (misses one.place i)

pub checked-tells : Tells checked
checked-tells = record {
  leaving = λ plant table t one b i h.
      of_tree plant table t ∙ leaving-told (rules_of (form_of table) t.p) (judged-sizes plant t.p t.judged (form_of table) (form-known table)) t.tree t.shape one b i h;
  missing = λ plant table t one b i h.
      of_tree plant table t ∙ missing-told (rules_of (form_of table) t.p) (judged-sizes plant t.p t.judged (form_of table) (form-known table)) t.tree t.shape one b i h;
}
  where
    of_tree : (plant table : List ℕ) (t : Laid plant table) → checked plant table ≡ verdict (rules_of (form_of table) t.p) (table_of (rules_of (form_of table) t.p) t.tree)
    of_tree plant table t = checked-as plant t.p t.judged table ∙ ap (verdict (rules_of (form_of table) t.p)) t.is

-- two checkers of which both are true answer alike on every table that keeps the file's rules
pub one-verdict : (f g : Checker) → AcceptsWorking f → Tells f → AcceptsWorking g → Tells g → (plant table : List ℕ) → Laid plant table → f plant table ≡ g plant table
one-verdict f g A F B G plant table t = go (comes (rules_of (form_of table) t.p) t.tree t.shape)
  where
    go : Comes (rules_of (form_of table) t.p) t.tree → f plant table ≡ g plant table
    go (working w) =
        let works : Tiled plant table = record { p = t.p; judged = t.judged; tree = t.tree; works = w; is = t.is } in
        A plant table works ∙ sym (B plant table works)
    go (leaving one b i h) = F.leaving plant table t one b i h ∙ sym (G.leaving plant table t one b i h)
    go (missing one b i h) = F.missing plant table t one b i h ∙ sym (G.missing plant table t one b i h)

-- ---- demand 2, the maker

-- the bytes of the defined table, of a known form, of a plant that was judged good
pub record DefinedTable (plant : List ℕ) (form : ℕ) (bytes : List ℕ) : Type 0 where
  pub p : Plant
  pub judged : plant_judged plant ≡ good p
  pub known : known_form form ≡ true
  pub tree : Tree
  pub defined : defined_tree (rules_of form p) ≡ some tree
  pub is : bytes ≡ table_of (rules_of form p) tree

pub record Makes (make : Maker) : Type 0 where
  -- where the defined table fits, its bytes stand in front, their number is answered, and the rest of the buffer is as it was
  pub writes : (plant : List ℕ) (form : ℕ) (buf bytes : List ℕ) → DefinedTable plant form bytes → length bytes ≤ length buf → make plant form buf ≡ wrote bytes buf
  -- 9 exactly where the plant is good, the form is known and no table at all of that form is accepted; 10 exactly where the defined table does not fit; and
  -- before them the plant's own refusal, then 2 where the form is not known
  pub nine : (plant : List ℕ) (form : ℕ) (buf : List ℕ) → ((make plant form buf).answer ≡ Err (no_table 0))
      ↔ ((p : Plant) × (plant_judged plant ≡ good p) × (known_form form ≡ true) × ((table : List ℕ) → form_of table ≡ form → checked plant table ≡ Ok tt → ⊥))
  pub ten : (plant : List ℕ) (form : ℕ) (buf : List ℕ) → ((make plant form buf).answer ≡ Err short)
      ↔ ((bytes : List ℕ) × DefinedTable plant form bytes × (length buf < length bytes))
  pub plant-first : (plant : List ℕ) (form : ℕ) (buf : List ℕ) (e : Refusal) → plant_judged plant ≡ bad e → (make plant form buf).answer ≡ Err e
  pub then-form : (plant : List ℕ) (form : ℕ) (buf : List ℕ) (p : Plant) → plant_judged plant ≡ good p → known_form form ≡ false
      → (make plant form buf).answer ≡ Err wrong_form
  -- a refused write zeros the whole buffer
  pub zeros : (plant : List ℕ) (form : ℕ) (buf : List ℕ) (e : Refusal) → (make plant form buf).answer ≡ Err e
      → (make plant form buf).buffer ≡ replicate (length buf) 0

-- what is made is the defined table
made-defined : (plant : List ℕ) (form : ℕ) (bytes : List ℕ) → (made plant form ≡ good bytes) ↔ DefinedTable plant form bytes
made-defined plant form bytes = (
  λ q.
      let a = made-accepted plant form bytes q in
      let w = accepted-judged plant bytes a.0 in
      let t = (made-exactly plant w.0 w.1 form a.2 bytes).0 q in
      record { p = w.0; judged = w.1; known = a.2; tree = t.0; defined = t.1; is = t.2 },
  λ t. (made-exactly plant t.p t.judged form t.known bytes).1 (t.tree, t.defined, t.is),
)

refused-zeros : (j : Judged (List ℕ)) (buf : List ℕ) (e : Refusal) → (left j buf).answer ≡ Err e → (left j buf).buffer ≡ replicate (length buf) 0
refused-zeros (bad f) buf e q = refl
refused-zeros (good bytes) buf e q = go (leb (length bytes) (length buf)) q
  where
    given : Bool → Left
    given c = guard c (refused_with short buf) λ _. record { answer = Ok (length bytes); buffer = sets buf 0 bytes }

    go : (c : Bool) → (given c).answer ≡ Err e → (given c).buffer ≡ replicate (length buf) 0
    go true q = never cc
    go false q = refl

pub maker-makes : Makes maker_left
unfolding T.maker_left T.made
maker-makes = record {
  writes = λ plant form buf bytes t l. maker-writes plant form buf bytes ((made-defined plant form bytes).1 t) l;
  nine = maker-nine;
  ten = λ plant form buf.
      let w = maker-ten plant form buf in (
        λ a. let t = w.0 a in (t.0, (made-defined plant form t.0).0 t.1, t.2),
        λ t. w.1 (t.0, (made-defined plant form t.0).1 t.1, t.2),
      );
  plant-first = λ plant form buf e q. rw q refl;
  then-form = maker-two;
  zeros = λ plant form buf e q. refused-zeros (made plant form) buf e q;
}

-- two makers of which this is true answer alike and leave the same bytes
module _ (f g : Maker) (F : Makes f) (G : Makes g) (plant : List ℕ) (form : ℕ) (buf : List ℕ) where
  refused-left : (make : Maker) → Makes make → (e : Refusal) → (make plant form buf).answer ≡ Err e → make plant form buf ≡ refused_with e buf
  refused-left make m e q = same q (m.zeros plant form buf e q)
    where
      same : {a b : Written} {x y : List ℕ} → a ≡ b → x ≡ y → ◌≡◌ {A = Left} (record { answer = a; buffer = x }) (record { answer = b; buffer = y })
      same p q = rw (p, q) refl

  refused-alike : (e : Refusal) → (f plant form buf).answer ≡ Err e → (g plant form buf).answer ≡ Err e → f plant form buf ≡ g plant form buf
  refused-alike e p q = refused-left f F e p ∙ sym (refused-left g G e q)

  pub one_answer : f plant form buf ≡ g plant form buf
  one_answer = of-plant (plant_judged plant) refl
    where
      of-table : (bytes : List ℕ) → DefinedTable plant form bytes → Dec (length buf < length bytes) → f plant form buf ≡ g plant form buf
      of-table bytes t (yes l) = refused-alike short ((F.ten plant form buf).1 (bytes, t, l)) ((G.ten plant form buf).1 (bytes, t, l))
      of-table bytes t (no l) = F.writes plant form buf bytes t (omega arith) ∙ sym (G.writes plant form buf bytes t (omega arith))

      of_tree : (p : Plant) → plant_judged plant ≡ good p → known_form form ≡ true → (o : Option Tree) → defined_tree (rules_of form p) ≡ o → f plant form buf ≡ g plant form buf
      of_tree p e known (some t) q =
          let bytes = table_of (rules_of form p) t in
          of-table bytes (record { p = p; judged = e; known = known; tree = t; defined = q; is = refl }) (dec_lt (length buf) (length bytes))
      of_tree p e known none q =
          let no = (nine-exactly plant p e form known).0 (made_as plant p e form known ∙ rw q refl) in
          refused-alike (no_table 0) ((F.nine plant form buf).1 (p, e, known, no)) ((G.nine plant form buf).1 (p, e, known, no))

      of-form : (p : Plant) → plant_judged plant ≡ good p → (c : Bool) → known_form form ≡ c → f plant form buf ≡ g plant form buf
      of-form p e true known = of_tree p e known (defined_tree (rules_of form p)) refl
      of-form p e false other = refused-alike wrong_form (F.then-form plant form buf p e other) (G.then-form plant form buf p e other)

      of-plant : (j : Judged Plant) → plant_judged plant ≡ j → f plant form buf ≡ g plant form buf
      of-plant (bad e) q = refused-alike e (F.plant-first plant form buf e q) (G.plant-first plant form buf e q)
      of-plant (good p) q = of-form p q (known_form form) refl

-- ---- demand 2, a call of the controller on an accepted table

-- row 12 turned round (request 2026-08): so many modes left, the one at the place counted, can be
pub record CanRun (p : Plant) (table : List ℕ) (place left : ℕ) : Type 0 where
  pub few : left ≤ p.k
  pub behind-header : 2 ≤ place
  -- as many modes of the plant stand there
  pub mode : ℕ
  pub later : List ℕ
  pub all_left : suc (length later) ≡ left
  pub end : ℕ
  pub stand : Stands table place (modes_bytes (mode ∷ later)) end
  pub are-modes : AllBelow p.modes (mode ∷ later)

abbrev pub state_of : ℕ → ℕ → State
state_of place left = record { place = place; left = left }

pub record Answers (control : Controller) : Type 0 where
  -- idle, the reading in R: its tile is the one of the table's that holds it; its first mode is answered, and the others are left
  pub first-mode : (plant table : List ℕ) (t : Tiled plant table) (x : List ℤ) → starts_in plant x ≡ true
      → (one : Tile (rules_of (form_of table) t.p)) → having (rules_of (form_of table) t.p) x (tiles_of (rules_of (form_of table) t.p) t.tree (root_of t.p) 2) ≡ one ∷ []
      → (u : ℕ) (us : List ℕ) → one.modes ≡ u ∷ us → control plant table idle x ≡ Ok (u, state_with us (next_place (first_place (rules_of (form_of table) t.p) one) u))
  -- running, the reading in S: the mode at the place is answered; with modes left the state moves behind it, else it is idle
  pub next-mode : (plant table : List ℕ) (t : Tiled plant table) (x : List ℤ) → safe_in plant x ≡ true
      → (place m : ℕ) (k : CanRun t.p table place (suc m)) → control plant table (state_of place (suc m)) x ≡ Ok (k.mode, state_at (next_place place k.mode) m)
  -- 11: the reading is outside R, idle, or outside S, running; the first dimension in which it is
  pub outside-root : (plant table : List ℕ) (t : Tiled plant table) (x : List ℤ) → starts_in plant x ≡ false
      → control plant table idle x ≡ Err (outside (missed (rules_of (form_of table) t.p) (root_of t.p) x))
  pub outside-safe : (plant table : List ℕ) (t : Tiled plant table) (x : List ℤ) → safe_in plant x ≡ false
      → (place m : ℕ) → CanRun t.p table place (suc m)
      → control plant table (state_of place (suc m)) x ≡ Err (outside (missed (rules_of (form_of table) t.p) (safe_of t.p) x))
  -- 12, before 11: a state that cannot be
  pub no_place : (plant table : List ℕ) (t : Tiled plant table) (x : List ℤ) (place : ℕ) → control plant table (state_of (suc place) 0) x ≡ Err bad_state
  pub cannot-run : (plant table : List ℕ) (t : Tiled plant table) (x : List ℤ) (place m : ℕ) → (CanRun t.p table place (suc m) → ⊥)
      → control plant table (state_of place (suc m)) x ≡ Err bad_state

-- the test of a state
module _ (plant : List ℕ) (p : Plant) (good-plant : plant_judged plant ≡ good p) (table : List ℕ) (place m : ℕ) where
  small : p.modes ≤ 2 ^ 35
  small = (judged-sizes plant p good-plant 1 refl).modes

  mode-there : (k : CanRun p table place (suc m)) → number_at table place ≡ Some (k.mode, next_place place k.mode)
  mode-there k = first_read p.modes small k.mode k.later table place k.end k.are-modes k.stand

  modes-there : (k : CanRun p table place (suc m)) → modes_at p.modes (suc m) table place ≡ read (k.mode ∷ k.later) k.end
  modes-there k = rw (← k.all_left) (modes-read p.modes small (k.mode ∷ k.later) table place k.end k.are-modes k.stand)

  can-run : (can_run p.k p.modes table place (suc m) ≡ true) ↔ CanRun p table place (suc m)
  can-run =
      let a = leb (suc m) p.k in
      let b = leb 2 place in
      let c = are_read (modes_at p.modes (suc m) table place) in (
        λ e. go (modes_at p.modes (suc m) table place) refl (leb-true (suc m) p.k (first a b (first (a && b) c e))) (leb-true 2 place (second a b (first (a && b) c e)))
            (second (a && b) c e),
        λ h. both (both (le-leb (suc m) p.k h.few) (le-leb 2 place h.behind-header)) (rw (modes-there h) refl),
      )
    where
      stood : suc m ≤ p.k → 2 ≤ place → (us : List ℕ) (end : ℕ) → ModesStand p.modes (suc m) table place us end → CanRun p table place (suc m)
      stood a b [] end w = absurd (omega (arith, w.count))
      stood a b (u ∷ us) end w = record { few = a; behind-header = b; mode = u; later = us; all_left = w.count; end = end; stand = w.stand; are-modes = w.modes }

      go : (o : Read (List ℕ)) → modes_at p.modes (suc m) table place ≡ o → suc m ≤ p.k → 2 ≤ place → are_read o ≡ true → CanRun p table place (suc m)
      go (refused e) q a b h = never h
      go (read us end) q a b h = stood a b us end (modes-stand p.modes (suc m) table place us end q)

cannot : (b : Bool) → (b ≡ true → ⊥) → b ≡ false
cannot true h = absurd (h refl)
cannot false h = refl

-- the header is read, and the state says which call it is
module _ (plant table : List ℕ) (t : Tiled plant table) (x : List ℤ) where
  abbrev rules : Rules
  rules = rules_of (form_of table) t.p

  header_is : header (form_of table) t.p.n table ≡ Ok (headed (form_of table) t.p.n)
  header_is = table-header rules (judged-sizes plant t.p t.judged (form_of table) (form-known table)) table [] t.tree (t.is ∙ sym (append-nil (table_of rules t.tree)))

  idle-as : (place : ℕ) → controlled plant table (state_of place 0) x ≡ idle_call rules table (headed (form_of table) t.p.n) place x
  unfolding C.call
  idle-as place = controlled-as plant t.p t.judged table (state_of place 0) x ∙ rw header_is refl

  running-as : (place m : ℕ) → controlled plant table (state_of place (suc m)) x ≡ running_call rules table place (suc m) x
  unfolding C.call
  running-as place m = controlled-as plant t.p t.judged table (state_of place (suc m)) x ∙ rw header_is refl

  in-safe : (b : Bool) → safe_in plant x ≡ b → holds rules (safe_of t.p) x ≡ b
  in-safe b h = rw t.judged at h

  in-root : (b : Bool) → starts_in plant x ≡ b → holds rules (root_of t.p) x ≡ b
  in-root b h = rw t.judged at h

pub controlled-answers : Answers controlled
controlled-answers = record {
  first-mode = λ plant table t x h one q u us e.
      let c = chosen plant table t x h in
      let same : c.the ≡ one = cc c.only in
      let modes : c.first ∷ c.later ≡ u ∷ us = sym c.modes-are ∙ ap (λ (o : Tile (rules_of (form_of table) t.p)). o.modes) same ∙ e in
      let a : c.first ≡ u = cc in
      let b : c.later ≡ us = cc in
      let at : first_place (rules_of (form_of table) t.p) c.the ≡ first_place (rules_of (form_of table) t.p) one = ap (first_place (rules_of (form_of table) t.p)) same in
      c.answered ∙ rw (a, b, at) refl;
  next-mode = λ plant table t x h place m k.
      running-as plant table t x place m ∙ simp ((can-run plant t.p t.judged table place m).1 k, in-safe plant table t x true h) (rw (mode-there plant t.p t.judged table place m k) refl);
  outside-root = λ plant table t x h. idle-as plant table t x 0 ∙ simp (in-root plant table t x false h);
  outside-safe = λ plant table t x h place m k.
      running-as plant table t x place m ∙ simp ((can-run plant t.p t.judged table place m).1 k, in-safe plant table t x false h);
  no_place = λ plant table t x place. idle-as plant table t x (suc place) ∙ simp (eqb-suc-zero place);
  cannot-run = λ plant table t x place m k.
      running-as plant table t x place m
      ∙ simp (cannot (can_run t.p.k t.p.modes table place (suc m)) (λ e. k ((can-run plant t.p t.judged table place m).0 e)));
}

-- two controllers of which this is true answer alike on every accepted table, in every state, whatever the reading
pub one-call : (f g : Controller) → Answers f → Answers g → (plant table : List ℕ) → Tiled plant table → (st : State) (x : List ℤ) → f plant table st x ≡ g plant table st x
one-call f g F G plant table t st x = go st.place st.left
  where
    idle-alike : (b : Bool) → starts_in plant x ≡ b → f plant table idle x ≡ g plant table idle x
    idle-alike false h = F.outside-root plant table t x h ∙ sym (G.outside-root plant table t x h)
    idle-alike true h =
        let c = chosen plant table t x h in
        F.first-mode plant table t x h c.the c.only c.first c.later c.modes-are
        ∙ sym (G.first-mode plant table t x h c.the c.only c.first c.later c.modes-are)

    safe-alike : (place m : ℕ) → CanRun t.p table place (suc m) → (b : Bool) → safe_in plant x ≡ b → f plant table (state_of place (suc m)) x ≡ g plant table (state_of place (suc m)) x
    safe-alike place m k false h = F.outside-safe plant table t x h place m k ∙ sym (G.outside-safe plant table t x h place m k)
    safe-alike place m k true h = F.next-mode plant table t x h place m k ∙ sym (G.next-mode plant table t x h place m k)

    run-alike : (place m : ℕ) (b : Bool) → can_run t.p.k t.p.modes table place (suc m) ≡ b → f plant table (state_of place (suc m)) x ≡ g plant table (state_of place (suc m)) x
    run-alike place m true e = safe-alike place m ((can-run plant t.p t.judged table place m).0 e) (safe_in plant x) refl
    run-alike place m false e =
        let k : CanRun t.p table place (suc m) → ⊥ = λ h. never (sym e ∙ (can-run plant t.p t.judged table place m).1 h) in
        F.cannot-run plant table t x place m k ∙ sym (G.cannot-run plant table t x place m k)

    go : (place left : ℕ) → f plant table (state_of place left) x ≡ g plant table (state_of place left) x
    go zero zero = idle-alike (starts_in plant x) refl
    go (suc place) zero = F.no_place plant table t x place ∙ sym (G.no_place plant table t x place)
    go place (suc m) = run-alike place m (can_run t.p.k t.p.modes table place (suc m)) refl
