-- A start file from an idle call on a reading in R on (document 02, request 2026-03, "demand 3 holds from that call on, with R0's table"): its calls, the
-- states and the readings of its runs are those of R's own table, and demand 3 holds with it. Relies on pages Calls and Journeys for which table is called,
-- and on Promise for demand 3. That a run from Ri comes there is page Arrival.
use Rattle.std.specs.Prelude.{ℕ, ◌≡◌, refl, Bool, true, false, cond, List, ℤ}
use Rattle.std.proofs.Common.{sym, ◌∙◌, arith}
use Rattle.meaning.specs.declared.State.{State}
use Rattle.meaning.specs.declared.StartState.{StartState}
use Rattle.meaning.specs.Control.{idle, call}
use Rattle.meaning.specs.Runs as U
use Rattle.meaning.specs.Starts.{is_idle, start_idle, state_in, answer_in, start_controlled, StartCallGives, StartRun, StartSamples}
use Rattle.meaning.specs.Tables.{form_of, rules_of, controlled, starts_in, CallGives, TableRun, TableSamples}
use Rattle.meaning.specs.Trees.{longest}
use Rattle.promises.specs.Tables.Demand.{tree-demand}
use Rattle.promises.specs.Tables.PlantMotion.{splits, motion, returns}
use Rattle.promises.specs.Tables.PlantRules.{sizes, controlled-as}
use Rattle.promises.specs.Tables.Promise.{Promised, promised}
use Rattle.promises.specs.Tables.TableForms.{form-known}
use Rattle.promises.specs.Starts.Calls.{rules_at, table_at, first_at, holds_at, running, Chose}
use Rattle.promises.specs.Starts.Journeys.{box-held, starts_is, nearest}
use Rattle.promises.specs.Starts.Passes.{runs_on}
use Rattle.promises.specs.Starts.Reaching.{idle-is, answer-was}
use Rattle.promises.specs.Starts.Started.{Started}
use Rattle.promises.specs.Starts.Trees.{sound, Trees}

-- From an idle call on a reading in R on, R's own table standing at a place of the file and its longest pattern having so many modes.
pub record Home (plant start table : List ℕ) (place most : ℕ) : Type 0 where
  -- the calls are those of that table
  pub calls : {st : State} {x : List ℤ} → TableRun plant table st x
      → start_controlled plant start (state_in 0 st) x ≡ answer_in 0 place (controlled plant table st x)
  -- so are the states and readings that a run from R meets
  pub runs : {s : StartState} {x : List ℤ} → StartRun plant start 0 s x → (st : State) × (s ≡ state_in 0 st) × TableRun plant table st x
  -- and those that a run from any box meets from such a call on, sample by sample
  pub from-there : (i : ℕ) {k : ℕ} {z : List ℤ} {s v : StartState} {y : List ℤ} → s ≡ start_idle → starts_in plant z ≡ true → StartSamples plant start i k s z v y
      → (st : State) × (v ≡ state_in 0 st) × TableSamples plant table k idle z st y × TableRun plant table st y
  -- and demand 3 holds with it
  pub promised : Promised plant table most

module _ {plant start : List ℕ} (w : Started plant start) (t : Trees w) where
  abbrev table : List ℕ
  table = table_at w 0

  demanded : Promised plant table (longest (t.tree 0))
  demanded =
      let p = w.p in
      let s = sound w in
      let f = form_of table in
      promised plant table p w.judged (longest (t.tree 0)) s
      (tree-demand (rules_of f p) (sizes f (form-known table) p s) (splits f p) (motion f p s) (returns f p) table (t.tree 0) (t.works 0 (omega arith)) (t.is 0 (omega arith)))

  -- of a reading in R the chosen box is R
  chose-root : (x : List ℤ) → holds_at w 0 x ≡ true → Chose w 0 x
  chose-root x h = let n = nearest w 0 x (omega arith) h in let e : n.c ≡ 0 = omega (arith, n.near) in rw e at n.chosen_is

  same-calls : {st : State} {x : List ℤ} → TableRun plant table st x → start_controlled plant start (state_in 0 st) x ≡ answer_in 0 (first_at w 0) (controlled plant table st x)
  same-calls {st} {x} run = rw (controlled-as plant w.p w.judged table st x) (go (is_idle st) refl)
    where
      go : (b : Bool) → is_idle st ≡ b → start_controlled plant start (cond b start_idle (record { index = 0; state = st })) x ≡ answer_in 0 (first_at w 0) (call (rules_at w 0) table st x)
      go true e =
          let q : st ≡ idle = idle-is st e in
          let in-root = demanded.in-root (rw q at run) in
          rw q (chose-root x (sym (starts_is w x) ∙ in-root)).answers
      go false e = running w 0 (omega arith) st e x

  -- a call of the file is one of the table
  step : {st : State} {x : List ℤ} {u : ℕ} {s : StartState} → TableRun plant table st x → StartCallGives plant start (state_in 0 st) x u s
      → (then : State) × CallGives plant table st x u then × (s ≡ state_in 0 then)
  step {st} {x} run g = answer-was 0 (first_at w 0) (controlled plant table st x) (sym (same-calls run) ∙ g)

  same_runs : {s : StartState} {x : List ℤ} → StartRun plant start 0 s x → (st : State) × (s ≡ state_in 0 st) × TableRun plant table st x
  same_runs (U.start {x = x} h) = (idle, refl, U.start (starts_is w x ∙ box-held w 0 x h))
  same_runs (U.sample run g f) =
      let r = same_runs run in
      let k = step r.2 (rw r.1 at g) in
      (k.0, k.2, U.sample r.2 k.1 f)

  same-samples : (i : ℕ) {k : ℕ} {s v : StartState} {z y : List ℤ} (st : State) → TableRun plant table st z → s ≡ state_in 0 st → StartSamples plant start i k s z v y
      → (then : State) × (v ≡ state_in 0 then) × TableSamples plant table k st z then y
  same-samples i st run e U.none = (st, e, U.none)
  same-samples i st run e (U.next g f rest) =
      let k = step run (rw e at g) in
      let m = same-samples i k.0 (U.sample run k.1 f) k.2 rest in
      (m.0, m.1, U.next k.1 f m.2)

  pub home : Home plant start table (first_at w 0) (longest (t.tree 0))
  home = record {
    calls = same-calls;
    runs = same_runs;
    from-there = λ i e h k.
        let run : TableRun plant table idle _ = U.start h in
        let m = same-samples i idle run e k in
        (m.0, m.1, m.2, runs_on run m.2);
    promised = demanded;
  }
