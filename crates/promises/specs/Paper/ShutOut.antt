-- "Try these and see them shut out" (document 01, "How tight the statements are"): each wrong program meets the demand that the paper names for it by a worked
-- line, and the two together are absurd. The demands are those of page AsStated, of any checker, maker or controller, so it is the demand that shuts the program
-- out, not only the contract's equation; plants and tables are those of page Starred, and the prover computes what is said of them.
-- That the demands themselves can be met is page AsStated.
use Rattle.std.specs.Prelude.{ℕ, ◌≤◌, ◌≡◌, true, List, [], ◌∷◌, length, take, get_or, ℤ, pos, Ok, Err}
use Rattle.std.proofs.Math.Path.{refl}
use Rattle.std.proofs.Common.{sym, ap, ◌∙◌}
use native.Mathlib.Omega.{arith}
use Rattle.laws.specs.Every as E
use Rattle.laws.specs.Tests.{never}
use Rattle.meaning.specs.declared.Refusal.{Refusal}
use Rattle.meaning.specs.declared.State.{State}
use Rattle.meaning.specs.Computing.{computing}
use Rattle.meaning.specs.Control.{idle}
use Rattle.meaning.specs.Files.{good}
use Rattle.meaning.specs.Plants.{Plant, plant_of, plant_judged, root_of}
use Rattle.meaning.specs.Refusals.{leaves, no_table}
use Rattle.meaning.specs.Runs.{start, sample}
use Rattle.meaning.specs.Tables.{rules_of, checked, starts_in, TableRun}
use Rattle.meaning.specs.Trees as Y
use Rattle.meaning.specs.Trees.{tile}
use Rattle.promises.specs.Paper.AsStated.{Checker, Maker, Controller, Laid, AcceptsWorking, Tells, DefinedTable, Makes, Answers}
use Rattle.promises.specs.Tables.Checked.{Tiled, checked-exactly}
use Rattle.promises.specs.Tables.Made.{made-exactly}
use Rattle.promises.specs.Tables.Patterns as S
use Rattle.promises.specs.Tables.Promise.{Promised}
use Rattle.promises.specs.Paper.Starred.{values_with, P, P', table₁, table₄, table₅, lent}

-- ---- the lines' plants and tables

abbrev plant_p : Plant
plant_p = plant_of (values_with 190 230 1)

abbrev plant_p' : Plant
plant_p' = plant_of (values_with 180 240 1)

judged : plant_judged P ≡ good plant_p
unfolding computing
judged = refl

judged' : plant_judged P' ≡ good plant_p'
unfolding computing
judged' = refl

accepted₁ : checked P table₁ ≡ Ok tt
unfolding computing
accepted₁ = refl

-- a reading of one count
abbrev pub just : ℕ → List ℤ
just x = pos x ∷ []

-- ---- a checker that refuses all tables: demand 3, last sentence, at line 1's table

pub refuses-all : (check : Checker) → ((plant table : List ℕ) → check plant table ≡ Ok tt → ⊥) → AcceptsWorking check → ⊥
refuses-all check none demand = none P table₁ (demand P table₁ ((checked-exactly P table₁).0 accepted₁))

-- ---- one that accepts all: demand 3, the run, at line 4's table, mode 1 everywhere

-- it keeps the file's rules, so the run alone is at fault
laid₄ : Laid P table₄
unfolding computing Y.Over Y.AllBelow
laid₄ = record {
  p = plant_p;
  judged = judged;
  tree = tile (1 ∷ []);
  shape = record { some = omega arith; few = omega arith; modes = (omega arith, tt) };
  is = refl;
}

-- From 225 mode 1 leads to 232, and the controller is idle again: 10·232 − (9·225 + 300) = −5.
pub run₄ : TableRun P table₄ idle (just 232)
unfolding computing
run₄ = sample {x = just 225} {u = 1} (start refl) refl refl

run₄' : TableRun P' table₄ idle (just 232)
unfolding computing
run₄' = sample {x = just 225} {u = 1} (start refl) refl refl

-- and which the S of P' holds, but not its R
pub misses-root : (most : ℕ) → Promised P' table₄ most → ⊥
unfolding computing
misses-root most h = let e : starts_in P' (just 232) ≡ true = h.in-root run₄' in never e

-- ---- a maker that always says 9, or writes nothing: demand 2, existence and bytes, at line 1

defined₁ : DefinedTable P 1 table₁
unfolding computing
defined₁ = let t = (made-exactly P plant_p judged 1 refl table₁).0 refl in record { p = plant_p; judged = judged; known = refl; tree = t.0; defined = t.1; is = t.2 }

defined₅ : DefinedTable P' 1 table₅
unfolding computing
defined₅ = let t = (made-exactly P' plant_p' judged' 1 refl table₅).0 refl in record { p = plant_p'; judged = judged'; known = refl; tree = t.0; defined = t.1; is = t.2 }

pub always-nine : (make : Maker) → ((plant : List ℕ) (form : ℕ) (buf : List ℕ) → (make plant form buf).answer ≡ Err (no_table 0)) → Makes make → ⊥
unfolding computing
always-nine make nine demand = let w = (demand.nine P 1 []).0 (nine P 1 []) in w.3 table₁ refl accepted₁

-- the buffer's first byte was not 1
pub writes_nothing : (make : Maker) → ((plant : List ℕ) (form : ℕ) (buf : List ℕ) → (make plant form buf).buffer ≡ buf) → Makes make → ⊥
writes_nothing make nothing demand =
    let w = demand.writes P 1 (lent 7) table₁ defined₁ (omega arith) in
    let e : get_or (make P 1 (lent 7)).buffer 0 0 ≡ 1 = rw w refl in
    omega (arith, sym e ∙ ap (λ (l : List ℕ). get_or l 0 0) (nothing P 1 (lent 7)))

-- ---- one fixed table: demand 2, at lines 1 and 5

pub one_table : (make : Maker) (table : List ℕ) → ((plant : List ℕ) (form : ℕ) (buf : List ℕ) (m : ℕ) → (make plant form buf).answer ≡ Ok m → take m (make plant form buf).buffer ≡ table)
    → Makes make → ⊥
one_table make table fixed demand =
    let a = demand.writes P 1 (lent 7) table₁ defined₁ (omega arith) in
    let b = demand.writes P' 1 (lent 5) table₅ defined₅ (omega arith) in
    let first : table₁ ≡ table = rw a at (fixed P 1 (lent 7) 7 (rw a refl)) in
    let other : table₅ ≡ table = rw b at (fixed P' 1 (lent 5) 5 (rw b refl)) in
    omega (arith, ap length (first ∙ sym other))

-- ---- one fixed mode, or the first again: demand 2, line 9

tiled₅ : Tiled P' table₅
unfolding computing Y.Over Y.AllBelow
tiled₅ = record {
  p = plant_p';
  judged = judged';
  tree = tile (0 ∷ 1 ∷ []);
  works = record { shape = record { some = omega arith; few = omega arith; modes = (omega arith, (omega arith, tt)) }; works = refl };
  is = refl;
}

abbrev then₉ : State
then₉ = record { place = 4; left = 1 }

-- line 9, of every controller of which the demand is true
module _ (control : Controller) (demand : Answers control) where
  line-9 : (control P' table₅ idle (just 200) ≡ Ok (0, then₉)) × (control P' table₅ then₉ (just 186) ≡ Ok (1, idle))
  unfolding computing tiled₅ Y.having
  line-9 = (
    demand.first-mode P' table₅ tiled₅ (just 200) refl (record { box = root_of plant_p'; modes = 0 ∷ 1 ∷ []; place = 2 }) refl 0 (1 ∷ []) refl,
    demand.next-mode P' table₅ tiled₅ (just 186) refl 4 0 (record { few = omega arith; behind-header = omega arith; mode = 1; later = []; all_left = refl; end = 5; stand = record { end = refl; bytes = refl }; are-modes = (omega arith, tt) }),
  )

pub one-mode : (control : Controller) (u : ℕ) → ((plant table : List ℕ) (st then : State) (x : List ℤ) (v : ℕ) → control plant table st x ≡ Ok (v, then) → v ≡ u)
    → Answers control → ⊥
one-mode control u fixed demand =
    let w = line-9 control demand in
    omega (arith, fixed P' table₅ idle then₉ (just 200) 0 w.0, fixed P' table₅ then₉ idle (just 186) 1 w.1)

-- while modes are left, the mode of the call before
pub first-again : (control : Controller)
    → ((plant table : List ℕ) (st then after : State) (x y : List ℤ) (u v : ℕ)
    → control plant table st x ≡ Ok (u, then) → 1 ≤ then.left → control plant table then y ≡ Ok (v, after) → v ≡ u)
    → Answers control → ⊥
first-again control again demand =
    let w = line-9 control demand in
    omega (arith, again P' table₅ idle then₉ idle (just 200) (just 186) 0 1 w.0 (omega arith) w.1)

-- ---- a step or place made up: the table of refusals, line 4

-- line 4, of every checker of which the demand is true
line-4 : (check : Checker) → Tells check → check P table₄ ≡ Err (leaves 2 1)
unfolding computing laid₄ S.images E.Every
line-4 check demand =
    demand.leaving P table₄ laid₄ (record { box = root_of plant_p; modes = 1 ∷ []; place = 2 }) (record { front = []; back = []; are = refl; work = tt })
    1 (record { before = []; it = (rules_of 1 plant_p).image 1 (root_of plant_p); behind = []; are = refl; inside = tt; outside = refl; step = refl })

-- another number, place or step
pub made_up : (check : Checker) (e : Refusal) → (e ≡ leaves 2 1 → ⊥) → check P table₄ ≡ Err e → Tells check → ⊥
made_up check e other told demand = let q : Err e ≡ Err (leaves 2 1) = sym told ∙ line-4 check demand in other (cc)
