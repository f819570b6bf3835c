-- Document 01's rules of a plant, and its three answers about tables over bytes: the checker's, the maker's, the controller's.
use Rattle.std.specs.Prelude.{ℕ, ◌*◌, ◌≡◌, Bool, false, ◌||◌, cond, List, eqb, ℤ, Some, None, Ok, Err}
use Rattle.std.proofs.Math.Option.{Option, none, some}
use Rattle.laws.specs.Guards.{guard}
use Rattle.laws.specs.Lists.{at, tab}
use Rattle.meaning.specs.Answers.{Number, Verdict, Answer}
use Rattle.meaning.specs.declared.Refusal.{Refusal}
use Rattle.meaning.specs.declared.State.{State}
use Rattle.meaning.specs.Refusals.{wrong_form, no_table}
use Rattle.meaning.specs.Numbers.{number_at}
use Rattle.meaning.specs.Boxes.{Side, fits, within, children, longest_halved}
use Rattle.meaning.specs.Images.{Step, image, follows}
use Rattle.meaning.specs.Files.{Judged, good, bad}
use Rattle.meaning.specs.Plants.{Plant, plant_judged, root_of, safe_of, step_of}
use Rattle.meaning.specs.Rules.{Rules, holds}
use Rattle.meaning.specs.Trees.{Tree, tells, table_of}
use Rattle.meaning.specs.Verdicts.{verdict}
use Rattle.meaning.specs.Defined.{defined_tree}
use Rattle.meaning.specs.Control.{idle, call}
use Rattle.meaning.specs.Runs.{Run, Samples}
use Rattle.meaning.specs.Buffers.{Left, left}

-- a reading is the first n of four numbers; those beyond n are ignored
abbrev pub reading_of : ℕ → List ℤ → List ℤ
reading_of n x = tab (at x) n 0

-- ---- the forms of tables: 1, all long sides at once; 2 (request 2026-01), the same with lengths; 3 (request 2026-06), the longest side alone

-- whether a form splits the longest side alone
abbrev pub one_side : ℕ → Bool
one_side form = eqb form 3

abbrev pub known_form : ℕ → Bool
known_form form = eqb form 1 || tells form || one_side form

abbrev pub children_by : ℕ → List Side → List (List Side)
children_by form b = cond (one_side form) (longest_halved b) (children b)

-- halvings are counted where sides are split one by one, n·D of them at the most
abbrev pub depth_by : ℕ → ℕ → ℕ → ℕ
depth_by form n D = cond (one_side form) (n * D) D

-- the form that a table's header says, by which it is judged and run; of one that is not known or broken the header tells, whatever the form
abbrev pub form_told : Number → ℕ
form_told None = 1
form_told (Some (form, next)) = cond (known_form form) form 1

abbrev pub form_of : List ℕ → ℕ
form_of s = form_told (number_at s 0)

-- Document 01's rules: the form; n, N, K, the depth; the box that is tiled, the box that patterns end in, the box that nothing may leave; and what each mode does.
abbrev pub rules_from : (form n N K D : ℕ) (root goal safe : List Side) (step : ℕ → Step) → Rules
rules_from form n N K D root goal safe step = record {
  Box = List Side;
  Reading = List ℤ;
  Kept = List Side;
  fits = λ b x. fits b (reading_of n x);
  children = children_by form;
  within = within;
  begin = λ b. b;
  image = λ u b. image (step u) b;
  kept = λ b. b;
  root = root;
  goal = goal;
  safe = safe;
  form = form;
  n = n;
  D = depth_by form n D;
  K = K;
  N = N;
  follows = λ u x y. follows (step u) (reading_of n x) (reading_of n y);
}

-- those of a plant's table over a box, into a goal; and of its own table: R is tiled, and patterns end in R
abbrev pub table_rules : ℕ → Plant → List Side → List Side → Rules
table_rules form p root goal = rules_from form p.n p.modes p.k p.d root goal (safe_of p) (step_of p)

abbrev pub rules_of : ℕ → Plant → Rules
rules_of form p = table_rules form p (root_of p) (root_of p)

abbrev pub on_plant : {A : Type 0} → Judged Plant → (Refusal → A) → (Plant → A) → A
on_plant (bad e) refuse rest = refuse e
on_plant (good p) refuse rest = rest p

-- Checker: plant, then the table in order
unfoldable pub checked : List ℕ → List ℕ → Verdict
checked plant table = on_plant (plant_judged plant) Err λ p. verdict (rules_of (form_of table) p) table

-- Maker: plant, 2, 9, 10. A box is told by its index: R's is 0.
abbrev pub table_bytes : ℕ → Rules → Option Tree → Judged (List ℕ)
table_bytes i r none = bad (no_table i)
table_bytes i r (some t) = good (table_of r t)

-- the defined table of box i
abbrev pub defined_table : ℕ → Rules → Judged (List ℕ)
defined_table i r = table_bytes i r (defined_tree r)

-- It is told a form: one that it does not know is 2, before 9.
unfoldable pub made : List ℕ → ℕ → Judged (List ℕ)
made plant form =
    on_plant (plant_judged plant) bad λ p.
    guard (known_form form) (bad wrong_form) λ _.
    defined_table 0 (rules_of form p)

unfoldable pub maker_left : List ℕ → ℕ → List ℕ → Left
maker_left plant form buf = left (made plant form) buf

-- Controller: plant, then the call
unfoldable pub controlled : List ℕ → List ℕ → State → List ℤ → Answer
controlled plant table st x = on_plant (plant_judged plant) Err λ p. call (rules_of (form_of table) p) table st x

-- ---- the runs of a table on a plant, by the controller's own answers: none where the plant is refused

-- whether a reading lies in R, in which a run starts, and in S
abbrev pub starts_in : List ℕ → List ℤ → Bool
starts_in plant x = on_plant (plant_judged plant) (λ _. false) λ p. holds (rules_of 1 p) (root_of p) x

abbrev pub safe_in : List ℕ → List ℤ → Bool
safe_in plant x = on_plant (plant_judged plant) (λ _. false) λ p. holds (rules_of 1 p) (safe_of p) x

abbrev pub may_follow : List ℕ → ℕ → List ℤ → List ℤ → Bool
may_follow plant u x y = on_plant (plant_judged plant) (λ _. false) λ p. (rules_of 1 p).follows u x y

-- a call gives a mode and the next state
abbrev pub CallGives : List ℕ → List ℕ → State → List ℤ → ℕ → State → Type 0
CallGives plant table st x u then = controlled plant table st x ≡ Ok (u, then)

abbrev pub TableRun : List ℕ → List ℕ → State → List ℤ → Type 0
TableRun plant table = Run idle (CallGives plant table) (starts_in plant) (may_follow plant)

-- so many samples of a run lead from one state and reading to another
abbrev pub TableSamples : List ℕ → List ℕ → ℕ → State → List ℤ → State → List ℤ → Type 0
TableSamples plant table = Samples idle (CallGives plant table) (starts_in plant) (may_follow plant)
